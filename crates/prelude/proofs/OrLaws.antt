-- One thing or another: what tests come to where one is known. Assumes nothing.
use mathlib.Core.Path.{◌≡◌, refl, sym, ap, ◌∙◌}
use mathlib.Core.Bool.{Bool, true, false, ◌||◌}

pub or_true : (a : Bool) → true ≡ (a || true)
or_true true = refl
or_true false = refl

pub or_false : (a : Bool) → a ≡ (a || false)
or_false true = refl
or_false false = refl

pub or_assoc : (a b c : Bool) → ((a || b) || c) ≡ (a || (b || c))
or_assoc true b c = refl
or_assoc false b c = refl

-- what is not so adds nothing
pub or_none : (a : Bool) {x : Bool} → x ≡ false → a ≡ (a || x)
or_none a e = or_false a ∙ ap (λ (b : Bool). a || b) (sym e)

pub or_same : (a : Bool) {x y : Bool} → x ≡ y → (a || x) ≡ (a || y)
or_same a e = ap (λ (b : Bool). a || b) e

-- two in turn
pub or_then : (a x y : Bool) {m r z : Bool} → m ≡ (a || x) → r ≡ (m || y) → (x || y) ≡ z → r ≡ (a || z)
or_then a x y p q e = q ∙ ap (λ (b : Bool). b || y) p ∙ or_assoc a x y ∙ or_same a e

-- what the other says too
pub or_within : (a b : Bool) → (a ≡ true → b ≡ true) → (a || b) ≡ b
or_within true b f = sym (f refl)
or_within false b f = refl
