-- `varint::mark` meets its contract: it is called with what is or is not so. Assumes nothing.
use Rattle.prelude.proofs.Basics.{Bool, ◌||◌, sym, ap, ◌∙◌, or_false, or_true}
use Rattle.varint.proofs.mark.Goals as goal

pub returns-then-on : goal.returns-then-on
returns-then-on c =
    or_true c.args.padded.now ∙ ap (λ (b : Bool). c.args.padded.now || b) (sym c.if-on.true)

pub returns-else-on : goal.returns-else-on
returns-else-on c =
    or_false c.args.padded.now ∙ ap (λ (b : Bool). c.args.padded.now || b) (sym c.if-on.false)
