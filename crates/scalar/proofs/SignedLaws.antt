-- Bits in two's complement and the signed number that they are: -1 - y, by which code goes from one to the other.
use Rattle.prelude.proofs.Basics.{ℕ, zero, suc, ◌-◌, ◌^◌, ◌≤◌, ◌<◌, arith, true, false, ◌≡◌, refl, sym, ap, ◌∙◌, T}
use Rattle.prelude.proofs.Basics.{le-ltb, leb-false}
use Rattle.std.proofs.Common.{ℤ, pos, negsuc, ◌-ℤ◌, nat_abs, w64, Fits, SFits, to_z, of_z}
use lib.Signed.{le_z, non_neg}
use mir.ValLaws.{to_z_pos, to_z-neg, of_z_fits, of_z-to_z}

flip_pos : (k : ℕ) → negsuc 0 -ℤ pos k ≡ negsuc k
flip_pos zero = refl
flip_pos (suc k) = ap negsuc (omega arith)

flip_neg : (k : ℕ) → negsuc 0 -ℤ negsuc k ≡ pos k
flip_neg k = simp (le-ltb (suc k) 1 (omega arith)) (ap pos (omega arith))

-- the machine hands a number on by its bits
pub same_bits : (z : ℤ) → SFits w64 z → of_z w64 (to_z w64 (of_z w64 z)) ≡ of_z w64 z
same_bits z f = of_z-to_z w64 (of_z w64 z) (of_z_fits w64 z f)

-- bits from 2 ^ 63 on are a negative number's
pub high_bits : (x : ℕ) → 2 ^ 63 ≤ x → x < 2 ^ 64 → negsuc 0 -ℤ to_z w64 (2 ^ 64 - 1 - x) ≡ to_z w64 x
high_bits x h l =
    let k = 2 ^ 64 - 1 - x in
    let e : 2 ^ 64 - suc k ≡ x = omega arith in
    ap (λ (z : ℤ). negsuc 0 -ℤ z) (to_z_pos w64 k (omega arith)) ∙ flip_pos k ∙ sym (to_z-neg w64 k (omega arith))
    ∙ ap (to_z w64) e

-- a number from 0 on is its own bits
pub plain : (y : ℤ) → SFits w64 y → le_z (pos 0) y ≡ true → T (non_neg y) × Fits w64 (nat_abs y) × (nat_abs y ≡ of_z w64 y)
plain (pos k) f t = (tt, record { fits = omega arith }, refl)
plain (negsuc k) f t = absurd (let z : ◌≡◌ {A = ℕ} 0 1 = cc in omega arith)

-- of a number below 0: -1 - y is a number k from 0 on, also as the machine has it, and the bits are k's complement
pub record Flipped (y : ℤ) : Type 0 where
  pub k : ℕ
  pub small : k < 2 ^ 63
  pub is : negsuc 0 -ℤ y ≡ pos k
  pub held : to_z w64 (of_z w64 (negsuc 0 -ℤ y)) ≡ pos k
  pub complement : 2 ^ 64 - 1 - k ≡ of_z w64 y

pub flipped : (y : ℤ) → SFits w64 y → le_z (pos 0) y ≡ false → Flipped y
flipped (pos k) f t = absurd (omega (arith, leb-false 0 k t))
flipped (negsuc k) f t =
    record {
      k = k;
      small = omega arith;
      is = flip_neg k;
      held = ap (λ (z : ℤ). to_z w64 (of_z w64 z)) (flip_neg k) ∙ to_z_pos w64 k (omega arith);
      complement = omega arith;
    }
