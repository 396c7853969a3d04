-- What is left from the place on answers for the whole stretch.
use Rattle.prelude.proofs.Basics.{arith, not, sym, ap, ◌∙◌}
use Rattle.writer.proofs.Names.{any_type_of}
use Rattle.args.proofs.ArgumentsLaws.{typed, untyped}
use Rattle.writer.proofs.JudgeLaws.{starts, ends, no_field, advances, other_number, other_wire}
use Rattle.writer.proofs.JudgeLaws.{bad_argument, goes_on_lem}
use Rattle.writer.proofs.judge.is_stretch.Goals as goal

pub loop-p-init : goal.loop-p-init
loop-p-init c = starts c.args.s.now

pub returns-in_default : goal.returns-in_default
returns-in_default c = no_field c.loop-p.invariant
    c.loop-p-test.true
    (sym c.long_field.ensures.answer ∙ c.in_default.is)

pub returns-then-field-ne-ARGS : goal.returns-then-field-ne-ARGS
returns-then-field-ne-ARGS c = other_number c.loop-p.invariant
    c.loop-p-test.true
    (sym c.long_field.ensures.answer ∙ c.in-Some.is)
    c.if-field-ne-ARGS.true

pub returns-then-field-ne-LEN : goal.returns-then-field-ne-LEN
returns-then-field-ne-LEN c = other_wire c.loop-p.invariant
    c.loop-p-test.true
    (sym c.long_field.ensures.answer
    ∙ c.in-Some.is) c.if-field-ne-ARGS.false c.if-field-ne-LEN.true

pub returns-then-is_none : goal.returns-then-is_none
returns-then-is_none c = bad_argument
    c.loop-p.invariant
    c.loop-p-test.true
    (sym c.long_field.ensures.answer
    ∙ c.in-Some.is)
    c.if-field-ne-ARGS.false c.if-field-ne-LEN.false
    (ap any_type_of (sym c.long_argument-a.ensures.answer) ∙ sym c.any_type.ensures
    ∙ untyped c.any_type.result (c.is_none.ensures ∙ ap not c.if-is_none.true))

pub loop-p-smaller : goal.loop-p-smaller
loop-p-smaller c = omega (
  arith,
  advances
      c.loop-p.invariant
      c.loop-p-test.true
      (sym c.long_field.ensures.answer
      ∙ c.in-Some.is),
)

pub loop-p-preserved : goal.loop-p-preserved
loop-p-preserved c = goes_on_lem
    c.loop-p.invariant
    c.loop-p-test.true
    (sym c.long_field.ensures.answer
    ∙ c.in-Some.is)
    c.if-field-ne-ARGS.false c.if-field-ne-LEN.false
    (λ z.
    omega (
      arith,
      typed c.any_type.result (c.is_none.ensures ∙ ap not c.if-is_none.false),
      c.any_type.ensures,
      ap any_type_of c.long_argument-a.ensures.answer,
      z,
    ))

pub returns : goal.returns
returns c = ends c.loop-p.invariant c.loop-p-test.false
