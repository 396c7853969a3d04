-- What a host is told of an argument: each bit of a double and a float.
use Rattle.prelude.proofs.Basics.{ℕ, ◌*◌, ◌/◌, ◌%◌, ◌^◌, ◌<◌, arith, Bool, true, false, cond, ◌≡◌, sym, ap}
use Rattle.prelude.proofs.Basics.{◌∙◌, eqb, both}
use lib.IntN.{pos, negsuc}
use mir.Syntax.{w64}
use mir.Val.{SFits}
use mir.Facts.{to_z-of_z}
use lib.Ieee.{Float, Format, of_bits, to_bits, nan_bits, is_nan, top}
use lib.Ieee.Bits.{to_bits-of_bits, nan_bits_is}
use Rattle.scalar.specs.Zigzag.{unzigzag}
use Rattle.scalar.specs.Argument.{carried}
use Rattle.scalar.specs.declared.argument.Argument.{Argument}
use Rattle.karramotx.specs.Value.{numbered, refused_by, value_of}
use Rattle.karramotx.specs.ValueRules.{SignedTold}

module _ (f : Format) (raw : ℕ → Argument) (number : Float → Argument) (kind : ℕ) where
  -- both cases are told as bits: those of the argument are the ones that came
  pub kept : ((n : ℕ) → value_of (raw n) ≡ numbered kind n)
      → ((d : Float) → value_of (number d) ≡ cond (is_nan d) (refused_by 6) (numbered kind (to_bits f d)))
      → (n : ℕ) → n < 2 * top f → value_of (carried f raw number n) ≡ numbered kind n
  kept a b n h = go (nan_bits f n) (sym (nan_bits_is f n))
    where
      go : (t : Bool) → is_nan (of_bits f n) ≡ t → value_of (cond t (raw n) (number (of_bits f n))) ≡ numbered kind n
      go true e = a n
      go false e = b (of_bits f n) ∙ rw e (ap (numbered kind) (to_bits-of_bits f n h (rw e tt)))

-- a sint that is read fits 64 bits
pub signed_fits : (n : ℕ) → n < 2 ^ 64 → SFits w64 (unzigzag n)
signed_fits n h = both (SFits w64) (eqb (n % 2) 0) (pos (n / 2)) (negsuc (n / 2))
    (λ _. record { sfits = omega arith }) (λ _. record { sfits = omega arith })

pub signed_told : SignedTold
signed_told n h = to_z-of_z (signed_fits n h)
