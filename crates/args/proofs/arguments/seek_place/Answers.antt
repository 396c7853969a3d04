-- `args::arguments::seek_place` meets its contract: each turn of the loop is one law on `Seeking`. Assumes nothing.
use Rattle.prelude.proofs.Basics.{arith, sym, ◌∙◌}
use Rattle.args.proofs.PlaceLaws.{starts, ends, no_field, advances, found, other_wire, other_number}
use Rattle.args.proofs.arguments.seek_place.Goals as goal

pub loop-p-init : goal.loop-p-init
loop-p-init c = starts c.args.s.now c.args.at

pub returns-in_default : goal.returns-in_default
returns-in_default c = no_field c.loop-p.invariant
    c.loop-p-test.true
    (sym c.long_field.ensures.answer
    ∙ c.in_default.is)

pub returns-then-field-eq-ARGS_WIRE : goal.returns-then-field-eq-ARGS_WIRE
returns-then-field-eq-ARGS_WIRE c = found c.loop-p.invariant
    c.loop-p-test.true
    (sym c.long_field.ensures.answer
    ∙ c.in-Some.is) c.if-field-eq-ARGS.true c.if-field-eq-ARGS_WIRE.true

pub loop-p-smaller-else-field-eq-ARGS_WIRE : goal.loop-p-smaller-else-field-eq-ARGS_WIRE
loop-p-smaller-else-field-eq-ARGS_WIRE c = omega (
  arith,
  c.loop-p-test.true,
  advances
      c.loop-p.invariant
      c.loop-p-test.true
      (sym c.long_field.ensures.answer
      ∙ c.in-Some.is),
)

pub loop-p-preserved-else-field-eq-ARGS_WIRE : goal.loop-p-preserved-else-field-eq-ARGS_WIRE
loop-p-preserved-else-field-eq-ARGS_WIRE c = other_wire c.loop-p.invariant
    c.loop-p-test.true
    (sym c.long_field.ensures.answer
    ∙ c.in-Some.is) c.if-field-eq-ARGS.true c.if-field-eq-ARGS_WIRE.false

pub loop-p-smaller : goal.loop-p-smaller
loop-p-smaller c = omega (
  arith,
  c.loop-p-test.true,
  advances
      c.loop-p.invariant
      c.loop-p-test.true
      (sym c.long_field.ensures.answer ∙ c.in-Some.is),
)

pub loop-p-preserved : goal.loop-p-preserved
loop-p-preserved c = other_number c.loop-p.invariant
    c.loop-p-test.true
    (sym c.long_field.ensures.answer ∙ c.in-Some.is)
    c.if-field-eq-ARGS.false

pub returns : goal.returns
returns c = ends c.loop-p.invariant c.loop-p-test.false
