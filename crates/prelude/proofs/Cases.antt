-- Case by case: tests that are known, numbers in order. Assumes nothing.
use Prim.Native.Nat.{ℕ, suc, ◌-◌, ◌≤◌, ◌<◌}
use native.Mathlib.Omega.{arith}
use mathlib.Core.Bool.{Bool, true, false, cond}
use mathlib.Core.Path.{◌≡◌, refl, sym, ap}
use lib.Dec.{ltb}
use borrow.Author.Tests.{ltb-true, ltb-false}

-- a property of both arms of a test holds of the chosen one
pub both : {A : Type 0} (P : A → Type 0) (b : Bool) (x y : A) → (b ≡ true → P x) → (b ≡ false → P y) → P (cond b x y)
both P true x y t f = t refl
both P false x y t f = f refl

-- a test that is known
pub yes : {A : Type 0} (x y : A) {b : Bool} → b ≡ true → x ≡ cond b x y
yes x y e = ap (λ (t : Bool). cond t x y) (sym e)

pub no : {A : Type 0} (x y : A) {b : Bool} → b ≡ false → y ≡ cond b x y
no x y e = ap (λ (t : Bool). cond t x y) (sym e)

-- one number is less than the other, or is not
pub less_or_not : {A : Type 0} (a b : ℕ) → (a < b → A) → (b ≤ a → A) → A
less_or_not {A} a b f g = go (ltb a b) refl
  where
    go : (t : Bool) → ltb a b ≡ t → A
    go true e = f (ltb-true a b e)
    go false e = g (ltb-false a b e)

-- the number before the next one
pub before_suc : (m : ℕ) → m ≡ suc m - 1
before_suc m = omega arith
