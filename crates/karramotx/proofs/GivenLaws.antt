-- Facts on scalars that a host gives: each is told as it was given.
use Rattle.prelude.proofs.Basics.{ℕ, ◌^◌, Bool, true, false, not, cond, ◌≡◌, refl, sym, ap, subst, eqb, ltb}
use Rattle.prelude.proofs.Basics.{eqb-true, ltb-true}
use lib.Ieee.{binary32, binary64}
use mir.Syntax.{w64}
use mir.ValLaws.{of_z-to_z}
use Rattle.scalar.specs.Argument.{float_of}
use Rattle.scalar.specs.declared.argument.Argument.TheVariants as Va
use Rattle.karramotx.specs.Given.{float_of_bits, of_kind}
use Rattle.karramotx.specs.Value.{numbered, refused_by, value_of}
use Rattle.karramotx.specs.ValueRules.{given, GivenIsTold}
use Rattle.karramotx.proofs.ValueLaws.{kept}

-- by the kind: in a case it is a numeral, so that what depends on it computes
either : (P : ℕ → Type 0) (kind k : ℕ) → P k → (eqb kind k ≡ false → P kind) → P kind
either P kind k h g = go (eqb kind k) refl
  where
    go : (b : Bool) → eqb kind k ≡ b → P kind
    go true e = subst P (sym (eqb-true kind k e)) h
    go false e = g e

-- a float is told with all of its 32 bits, if it has no more
float_told : (value : ℕ) → value_of (float_of_bits value) ≡ cond (ltb value (2 ^ 32)) (numbered 6 value) (refused_by 6)
float_told value = go (ltb value (2 ^ 32)) refl
  where
    go : (b : Bool) → ltb value (2 ^ 32) ≡ b
        → value_of (cond b (float_of value) (Va.Refused 6)) ≡ cond b (numbered 6 value) (refused_by 6)
    go true e = kept binary32 Va.FloatNan Va.Float 6 (λ n. refl) (λ d. refl) value (ltb-true value (2 ^ 32) e)
    go false e = refl

-- a bool is told as 0 or 1
bool_told : (zero : Bool) → numbered 7 (cond (not zero) 1 0) ≡ numbered 7 (cond zero 0 1)
bool_told true = refl
bool_told false = refl

pub given_told : GivenIsTold
unfolding of_kind given
given_told s n h =
    either Told kind 1 (ap (numbered 1) (of_z-to_z w64 value (record { fits = h })))
    (λ a. either Told kind 2 refl
    (λ b. either Told kind 3 refl
    (λ c. either Told kind 4 refl
    (λ d. either Told kind 5 (kept binary64 Va.DoubleNan Va.Double 5 (λ n. refl) (λ d. refl) value h)
    (λ e. either Told kind 6 (float_told value)
    (λ f. either Told kind 7 (bool_told (eqb value 0))
    (λ g. either Told kind 8 refl
    (λ i. simp (a, b, c, d, e, f, g, i)))))))))
  where
    kind : ℕ
    kind = s.kind

    value : ℕ
    value = s.value

    Told : ℕ → Type 0
    Told k = value_of (of_kind k value n) ≡ given (record { kind = k; value = value }) n
