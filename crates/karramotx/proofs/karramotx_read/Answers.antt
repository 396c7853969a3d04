-- `karramotx::karramotx_read` meets its contract: what was read is told. Assumes nothing.
use Rattle.prelude.proofs.Basics.{Bool, ap, ◌∙◌}
use Rattle.message.specs.Padded.{padded_of}
use Rattle.rules.specs.Step.{said}
use Rattle.keeper.proofs.PaddedLaws.{flag_says}
use Rattle.karramotx.specs.Message.{message_of, message_says}
use Rattle.karramotx.proofs.MessageLaws.{where_said}
use Rattle.karramotx.proofs.karramotx_read.Goals as goal

pub returns : goal.returns
returns c =
    let says =
    c.said.ensures ∙ ap (λ y. said y.reason c.read_frame.new.padded) c.from-m.ensures
    ∙ where_said c.read_frame.result c.read_frame.new.padded
    ∙ flag_says c.args.frame.now _ _ c.read_frame.ensures.answer c.read_frame.ensures.told in
    ap (λ (b : Bool). message_says b c.from-m.result) says
    ∙ ap (message_says (padded_of c.args.frame.now)) (c.from-m.ensures ∙ ap message_of c.read_frame.ensures.answer)
