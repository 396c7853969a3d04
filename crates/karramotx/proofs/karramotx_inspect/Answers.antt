-- `karramotx::karramotx_inspect` meets its contract: what was read is inspected. Assumes nothing.
use Rattle.prelude.proofs.Basics.{ap, ◌∙◌}
use Rattle.message.specs.Padded.{padded_of}
use Rattle.session.specs.Words.{session_of}
use Rattle.rules.specs.Step.{look_at}
use Rattle.keeper.proofs.PaddedLaws.{flag_says}
use Rattle.karramotx.specs.private.Inspected.{inspected}
use Rattle.karramotx.proofs.karramotx_inspect.Goals as goal

pub returns : goal.returns
unfolding look_at
returns c =
    let s = session_of c.args.session.now in
    c.inspect.ensures ∙ ap (inspected s c.read_frame-read.result)
    (flag_says c.args.frame.now _ _ c.read_frame-read.ensures.answer c.read_frame-read.ensures.told)
    ∙ ap (λ x. inspected s x (padded_of c.args.frame.now)) c.read_frame-read.ensures.answer
