-- The two tests are goodPrepare's: the type, then the body.
use Rattle.prelude.proofs.Basics.{false, sym, ap, ◌∙◌, yes, no as without}
use Rattle.writer.proofs.Names.{Arguments, good_body}
use Rattle.writer.proofs.judge.is_prepare.Goals as goal

pub returns-then-not-is_type : goal.returns-then-not-is_type
returns-then-not-is_type c = without (good_body c.args.operation c.args.body.now) false
    (sym c.is_type.ensures ∙ c.if-not-is_type.true)

pub returns : goal.returns
returns c =
    ap (λ (x : Arguments). x.good) c.long_body-b.ensures
    ∙ yes (good_body c.args.operation c.args.body.now) false
    (sym c.is_type.ensures ∙ c.if-not-is_type.false)
