-- Low and high four bytes by `little-add`; where one of them is not there, the eight are not.
use Rattle.prelude.proofs.Basics.{arith, sym, ◌∙◌}
use Rattle.scalar.proofs.FixedLaws.{Pair, low_and_high}
use Rattle.scalar.proofs.fixed.read_fixed64.Goals as goal

pair : (c : goal.After-struct_known-2-1) → Pair c.args.s.now c.args.at c.in_ok-low.low c.in_ok-high.high
pair c =
    low_and_high c.args.s.now c.args.at c.in_ok-low.low c.in_ok-high.high (λ i. omega (arith, c.type_inv.s i))
    (sym c.in_ok-low.was ∙ c.read_fixed32.ensures) (sym c.in_ok-high.was ∙ c.read_fixed32-2.ensures)

pub overflow_mul-result : goal.overflow_mul-result
overflow_mul-result c =
    let both =
    low_and_high c.args.s.now c.args.at c.in_ok-low.low c.in_ok-high.high (λ i. omega (arith, c.type_inv.s i))
    (sym c.in_ok-low.was ∙ c.read_fixed32.ensures) (sym c.in_ok-high.was ∙ c.read_fixed32-2.ensures) in
    omega (arith, both.high)

pub overflow_add-result : goal.overflow_add-result
overflow_add-result c = omega (arith, (pair c).low, (pair c).high)

pub returns : goal.returns
returns c = (pair c).whole
