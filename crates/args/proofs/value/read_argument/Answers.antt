-- By the laws on one field and on two, a short way answers what the rows do; the rest goes the long way.
use Rattle.prelude.proofs.Basics.{sym, ap, ◌∙◌}
use Rattle.std.specs.Prelude.{Some}
use Rattle.args.proofs.ScalarLaws.{object_read, array_read, scalar_read}
use Rattle.args.proofs.value.read_argument.Goals as goal

pub returns-in-Some-eq2 : goal.returns-in-Some-eq2
returns-in-Some-eq2 c = object_read c.args.s.now c.args.at c.args.n
    (ap Some (sym c.in-Some-eq2.field-0-test) ∙ sym c.in-Some-eq2.is ∙ c.read_lone.ensures)

pub returns-in-Some-eq3 : goal.returns-in-Some-eq3
returns-in-Some-eq3 c = array_read c.args.s.now c.args.at c.args.n
    (ap Some (sym c.in-Some-eq3.field-0-test) ∙ sym c.in-Some-eq3.is ∙ c.read_lone.ensures)

pub returns-then-key-eq-SCALAR_KEY : goal.returns-then-key-eq-SCALAR_KEY
returns-then-key-eq-SCALAR_KEY c = c.read_scalar.ensures ∙ scalar_read (record {
  is =
      sym c.read_pair.ensures.answer ∙ c.in-Some.is;
})
    c.if-key-eq-SCALAR_KEY.true
