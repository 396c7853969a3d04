-- `layout::merge::next_part` meets its contract: the parts from each place on are those from the first. Assumes
-- nothing.
use Rattle.prelude.proofs.Basics.{arith, refl, sym, ◌∙◌, length}
use Rattle.layout.proofs.PaddedLaws.{field_ahead}
use Rattle.layout.proofs.PartsLaws.{parts_end}
use Rattle.layout.proofs.MergeLaws.{no_more, passes_by, first_here}
use Rattle.layout.proofs.merge.next_part.Goals as goal

pub loop-p-init : goal.loop-p-init
loop-p-init c = (refl, omega arith)

pub returns-in_err-field : goal.returns-in_err-field
returns-in_err-field c =
    rw c.from_residual.ensures
    (sym c.loop-p.invariant.0
    ∙ no_more c.args.k c.args.s.now c.loop-p.p c.loop-p-test.true
    (sym c.long_field.ensures.answer ∙ c.in_err-field.was))

pub returns-then-is_part : goal.returns-then-is_part
returns-then-is_part c =
    first_here c.args.k c.args.s.now c.loop-p.p c.loop-p-test.true
    (sym c.long_field.ensures.answer ∙ c.in_ok-field.was)
    c.loop-p.invariant.0 c.loop-p.invariant.1 (sym c.is_part.ensures ∙ c.if-is_part.true)

pub loop-p-smaller : goal.loop-p-smaller
loop-p-smaller c = omega (
  arith,
  (field_ahead c.args.s.now c.loop-p.p ((sym c.long_field.ensures.answer
      ∙ c.in_ok-field.was))),
  c.loop-p-test.true,
)

pub loop-p-preserved : goal.loop-p-preserved
loop-p-preserved c = (
  passes_by c.args.k c.args.s.now c.loop-p.p c.loop-p-test.true ((sym c.long_field.ensures.answer ∙ c.in_ok-field.was))
      (sym c.is_part.ensures ∙ c.if-is_part.false)
      ∙ c.loop-p.invariant.0,
  omega (
    arith,
    (field_ahead c.args.s.now c.loop-p.p ((sym c.long_field.ensures.answer
        ∙ c.in_ok-field.was))),
    c.loop-p.invariant.1,
  ),
)

pub returns : goal.returns
returns c =
    sym c.loop-p.invariant.0
    ∙ parts_end c.args.k c.args.s.now (length c.args.s.now) c.loop-p.p c.loop-p-test.false
