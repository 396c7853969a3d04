-- `layout::row::is_listed` meets its contract: a value is listed by its bit. Assumes nothing.
use Rattle.prelude.proofs.Basics.{ℕ, ◌/◌, ◌%◌, ◌^◌, ap, ◌∙◌, eqb}
use Rattle.layout.proofs.RowLaws.{listed_any, listed_high, listed_bit}
use Rattle.layout.proofs.row.is_listed.Goals as goal

pub returns-then-values-eq0 : goal.returns-then-values-eq0
returns-then-values-eq0 c = listed_any c.args.values c.args.value c.if-values-eq0.true

pub returns-then-v-ge-LISTED_BITS : goal.returns-then-v-ge-LISTED_BITS
returns-then-v-ge-LISTED_BITS c = listed_high _ _ c.if-values-eq0.false c.if-v-ge-LISTED_BITS.true

pub returns : goal.returns
returns c = ap (λ (m : ℕ). eqb (m / 2 ^ (c.args.value % 2 ^ 32) % 2) 1)
    c.from.ensures ∙ listed_bit c.args.values c.args.value c.if-values-eq0.false c.if-v-ge-LISTED_BITS.false
