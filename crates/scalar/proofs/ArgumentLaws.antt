-- Doubles and floats are carried with every bit kept, NaNs too (W6): one law over the format, and its two cases.
use Rattle.prelude.proofs.Basics.{ℕ, ◌*◌, ◌%◌, ◌≤◌, ◌<◌, Bool, true, false, not, cond, ◌≡◌, refl, sym, ap, ◌∙◌, [], ◌∷◌}
use Rattle.prelude.proofs.Basics.{T, le-ltb, lt-ltb}
use lib.Ieee.{Float, Format, binary32, binary64, of_bits, to_bits, nan_bits, is_nan, top, ones, hid}
use lib.Ieee.Bits.{to_bits-of_bits, nan_bits_is, nan_bits_above}
use Rattle.scalar.specs.declared.argument.Argument.{Argument}
use Rattle.scalar.specs.declared.argument.Argument.TheVariants as Va
use Rattle.scalar.specs.Argument.{carried, type_of, values_of}
use Rattle.scalar.specs.ScalarRules.{BitsKept, FloatsTyped}
use Rattle.scalar.proofs.ZigzagLaws.{zigzag_both_ways}

module _ (f : Format) (n : ℕ) where
  -- with the sign taken off, a NaN's bits are above the infinity's, and no other's
  pub is_nan_lem : ones f * hid f < n % top f → nan_bits f n ≡ true
  is_nan_lem h = nan_bits_above f n ∙ lt-ltb (ones f * hid f) (n % top f) h

  pub no_nan : n % top f ≤ ones f * hid f → nan_bits f n ≡ false
  no_nan h = nan_bits_above f n ∙ le-ltb (ones f * hid f) (n % top f) h

  -- `f64::from_bits` and `f32::from_bits` ask it so
  pub asked : nan_bits f n ≡ false → T (not (nan_bits f n))
  asked e = rw e tt

module _ (f : Format) (raw : ℕ → Argument) (number : Float → Argument) where
  -- both cases have a type number: the argument has it
  typed : (k : ℕ) → ((n : ℕ) → type_of (raw n) ≡ k) → ((d : Float) → type_of (number d) ≡ k) → (n : ℕ) →
      type_of (carried f raw number n) ≡ k
  typed k a b n = go (nan_bits f n)
    where
      go : (t : Bool) → type_of (cond t (raw n) (number (of_bits f n))) ≡ k
      go true = a n
      go false = b (of_bits f n)

  -- both cases hold bits: those of the argument are the ones that came
  kept : ((n : ℕ) → values_of (raw n) ≡ n ∷ []) → ((d : Float) → values_of (number d) ≡ to_bits f d ∷ []) →
      (n : ℕ) → n < 2 * top f → values_of (carried f raw number n) ≡ n ∷ []
  kept a b n h = go (nan_bits f n) (sym (nan_bits_is f n))
    where
      go : (t : Bool) → is_nan (of_bits f n) ≡ t → values_of (cond t (raw n) (number (of_bits f n))) ≡ n ∷ []
      go true e = a n
      go false e = b (of_bits f n) ∙ ap (λ (m : ℕ). m ∷ []) (to_bits-of_bits f n h (rw e tt))

pub floats_typed : FloatsTyped
floats_typed =
    record {
      double = typed binary64 Va.DoubleNan Va.Double 5 (λ n. refl) (λ d. refl);
      float = typed binary32 Va.FloatNan Va.Float 6 (λ n. refl) (λ d. refl);
    }

pub bits_kept : BitsKept
bits_kept =
    record {
      sint = λ n. ap (λ (m : ℕ). m ∷ []) (zigzag_both_ways.forth n);
      double = kept binary64 Va.DoubleNan Va.Double (λ n. refl) (λ d. refl);
      float = kept binary32 Va.FloatNan Va.Float (λ n. refl) (λ d. refl);
    }
