-- By cases on the last byte. Assumes nothing.
use Rattle.prelude.proofs.Basics.{eq-eqb, ne_eqb, yes, no}
use Rattle.image.proofs.numbers.number_of.Goals as goal
use Rattle.std.specs.Prelude.{None}
use Rattle.varint.specs.Number.{some_number}

pub returns-then-last-eq0 : goal.returns-then-last-eq0
returns-then-last-eq0 c = yes None (some_number c.args.value c.args.next) (eq-eqb _ _ c.if-last-eq0.true)

pub returns : goal.returns
returns c = no None (some_number c.args.value c.args.next) (ne_eqb _ _ c.if-last-eq0.false)
