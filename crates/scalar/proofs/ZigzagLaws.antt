-- Zigzag loses nothing, either way; and how wrapping sums on bits in two's complement compute it.
use Rattle.prelude.proofs.Basics.{ℕ, suc, ◌+◌, ◌-◌, ◌*◌, ◌/◌, ◌%◌, ◌^◌, ◌≤◌, ◌<◌, arith, ◌≡◌, refl, sym, ap, ◌∙◌, ◌⊎◌}
use Rattle.prelude.proofs.Basics.{inl, inr, eq-eqb, ne_eqb}
use Rattle.std.proofs.Common.{ℤ, pos, negsuc, eq-zero-or-pos, w64, SFits, to_z, of_z}
use mir.ValLaws.{to_z_pos, to_z-neg}
use Rattle.scalar.specs.Zigzag.{zigzag, unzigzag}
use Rattle.scalar.specs.ScalarRules.{ZigzagBothWays}

unzigzag_even : (n k : ℕ) → n ≡ 2 * k → unzigzag n ≡ pos k
unzigzag_even n k e = simp (eq-eqb (n % 2) 0 (omega arith)) (ap pos (omega arith))

unzigzag_odd : (n k : ℕ) → n ≡ 2 * k + 1 → unzigzag n ≡ negsuc k
unzigzag_odd n k e = simp (ne_eqb (n % 2) 0 (λ z. omega arith)) (ap negsuc (omega arith))

pub unzigzag_zigzag : (z : ℤ) → unzigzag (zigzag z) ≡ z
unzigzag_zigzag (pos k) = unzigzag_even (2 * k) k refl
unzigzag_zigzag (negsuc k) = unzigzag_odd (2 * k + 1) k refl

zigzag_unzigzag : (n : ℕ) → zigzag (unzigzag n) ≡ n
zigzag_unzigzag n = go (eq-zero-or-pos (n % 2))
  where
    go : (n % 2 ≡ 0) ⊎ (0 < n % 2) → zigzag (unzigzag n) ≡ n
    go (inl e) = ap zigzag (unzigzag_even n (n / 2) (omega arith)) ∙ omega arith
    go (inr h) = ap zigzag (unzigzag_odd n (n / 2) (omega arith)) ∙ omega arith

pub zigzag_both_ways : ZigzagBothWays
zigzag_both_ways = record { back = unzigzag_zigzag; forth = zigzag_unzigzag; samples = refl }

-- decoding: the bits b are n / 2, minus n where n is odd
pub decode_even : (n b : ℕ) → n < 2 ^ 64 → b < 2 ^ 64 → (n % 2 ≡ 1 → ⊥) → (b + 0) % 2 ^ 64 ≡ n / 2 →
    to_z w64 b ≡ unzigzag n
decode_even n b h l t e = to_z_pos w64 b (omega arith) ∙ sym (unzigzag_even n b (omega arith))

pub decode_odd : (n b : ℕ) → n < 2 ^ 64 → b < 2 ^ 64 → n % 2 ≡ 1 → (b + n) % 2 ^ 64 ≡ n / 2 → to_z w64 b ≡ unzigzag n
decode_odd n b h l t e =
    let d : b ≡ 2 ^ 64 - suc (n / 2) = omega arith in
    ap (to_z w64) d ∙ to_z-neg w64 (n / 2) (omega arith) ∙ sym (unzigzag_odd n (n / 2) (omega arith))

-- encoding: t is twice z's bits b, and where z is below 0 the answer r is -1 minus that
module _ (b t : ℕ) (twice : t ≡ (b + b) % 2 ^ 64) where
  pub encode_low : (z : ℤ) → SFits w64 z → b ≡ of_z w64 z → b < 2 ^ 63 → t ≡ zigzag z
  encode_low (pos k) f e h = omega arith
  encode_low (negsuc k) f e h = omega arith

  pub encode_high : (z : ℤ) (r : ℕ) → SFits w64 z → b ≡ of_z w64 z → 2 ^ 63 ≤ b → r < 2 ^ 64 →
      (r + t) % 2 ^ 64 ≡ 2 ^ 64 - 1 → r ≡ zigzag z
  encode_high (pos k) r f e h l s = omega arith
  encode_high (negsuc k) r f e h l s = omega arith
