-- The bytes of an argument lie within those of its Any. Assumes nothing.
use Rattle.prelude.proofs.Basics.{ℕ, ◌+◌, ◌≤◌, arith, Bool, true, false, not, subst, List, length, take, length-take-le}
use Rattle.prelude.proofs.Basics.{eqb, both, less_or_not}
use lib.Ieee.{binary32, binary64, nan_bits}
use Rattle.scalar.specs.declared.argument.Argument.TheVariants as Va
use Rattle.layout.proofs.MergedPlaceLaws.{merged_within}
use Rattle.args.proofs.Names.{signed_of, double_of, float_of, Argument, any, scalar, bytes, rows_of, embedded}
use Rattle.args.proofs.Names.{count_of}
use Rattle.args.proofs.Names.{value_of, low32, parts_in, merged, Part, Slots, bad, present, bytes_in, of_type}
use Rattle.args.proofs.Names.{scalar_of, scalar_in, of_any_type, any_of, scalar_parts, argument_in, EndsBy}
use Rattle.args.proofs.CutLaws.{argument_cut, argument_past}

pub ends_later : (n m : ℕ) → n ≤ m → (a : Argument) → EndsBy n a → EndsBy m a
ends_later n m h (Va.Octets start len) e = omega arith
ends_later n m h (Va.String start len) e = omega arith
ends_later n m h (Va.Signed z) e = tt
ends_later n m h (Va.Unsigned v) e = tt
ends_later n m h Va.Null e = tt
ends_later n m h (Va.Double d) e = tt
ends_later n m h (Va.DoubleNan v) e = tt
ends_later n m h (Va.Float d) e = tt
ends_later n m h (Va.FloatNan v) e = tt
ends_later n m h (Va.Bool b) e = tt
ends_later n m h Va.Object e = tt
ends_later n m h Va.Array e = tt
ends_later n m h (Va.Refused reason) e = tt

module _ (m : ℕ) where
  present-ends : (count : ℕ) (a : Argument) → EndsBy m a → EndsBy m (present count a)
  present-ends count a h = both (EndsBy m) (eqb count 0) bad a (λ _. tt) (λ _. h)

  bytes-ends : (octets : Bool) (s : List ℕ) (ps : List Part) → length s ≤ m → EndsBy m (bytes_in octets s ps)
  bytes-ends octets s ps h =
      both (EndsBy m) (merged (rows_of bytes) s ps).good _ bad
      (λ _.
      both (EndsBy m) octets _ _ (λ _. omega (arith, merged_within (rows_of bytes) s ps 1))
      (λ _. omega (arith, merged_within (rows_of bytes) s ps 1)))
      (λ _. tt)

  module _ (s : List ℕ) (few : length s ≤ m) (ps : List Part) (x : Slots) where
    type-ends : (t : ℕ) → EndsBy m (of_type s ps x t)
    unfolding of_type
    type-ends t =
        both (EndsBy m) (eqb t 1) _ _ (λ _. present-ends (count_of x 2) (signed_of (value_of x 2)) tt)
        (λ _.
        both (EndsBy m) (eqb t 2) _ _ (λ _. present-ends (count_of x 3) (Va.Unsigned (value_of x 3)) tt)
        (λ _.
        both (EndsBy m) (eqb t 3) _ _ (λ _. tt)
        (λ _.
        both (EndsBy m) (eqb t 4) _ _
        (λ _.
        present-ends (count_of x 5) (bytes_in true s (parts_in 5 s ps)) (bytes-ends true s (parts_in 5 s ps) few))
        (λ _.
        both (EndsBy m) (eqb t 5) _ _
        (λ _.
        present-ends (count_of x 6) (double_of (value_of x 6))
        (both (EndsBy m) (nan_bits binary64 (value_of x 6)) _ _ (λ _. tt) (λ _. tt)))
        (λ _.
        both (EndsBy m) (eqb t 6) _ _
        (λ _.
        present-ends (count_of x 7) (float_of (low32 (value_of x 7)))
        (both (EndsBy m) (nan_bits binary32 (low32 (value_of x 7))) _ _ (λ _. tt) (λ _. tt)))
        (λ _.
        both (EndsBy m) (eqb t 7) _ _ (λ _. present-ends (count_of x 8) (Va.Bool (not (eqb (value_of x 8) 0))) tt)
        (λ _.
        both (EndsBy m) (eqb t 8) _ _
        (λ _.
        present-ends (count_of x 9) (bytes_in false s (parts_in 9 s ps)) (bytes-ends false s (parts_in 9 s ps) few))
        (λ _. tt))))))))

    scalar-ends : EndsBy m (scalar_of s ps x)
    unfolding scalar_of
    scalar-ends = both (EndsBy m) x.good _ bad (λ _. type-ends (low32 (value_of x 1))) (λ _. tt)

    any-type-ends : (t : ℕ) → EndsBy m (scalar_in s ps) → EndsBy m (of_any_type s ps x t)
    unfolding of_any_type
    any-type-ends t inside =
        both (EndsBy m) (eqb t 1) _ _ (λ _. present-ends (count_of x 2) (scalar_in s ps) inside)
        (λ _. both (EndsBy m) (eqb t 2) _ _ (λ _. tt) (λ _. both (EndsBy m) (eqb t 3) _ _ (λ _. tt) (λ _. tt)))

  any-ends : (s : List ℕ) → length s ≤ m → (ps : List Part) (x : Slots) → EndsBy m (any_of s ps x)
  unfolding any_of
  any-ends s few ps x =
      both (EndsBy m) x.good _ bad
      (λ _.
      any-type-ends s few ps x (low32 (value_of x 1)) (scalar-ends s few ps (merged (rows_of scalar) s ps))) (λ _. tt)

pub argument_ends : (s : List ℕ) (at n : ℕ) → EndsBy (at + n) (argument_in s at n)
argument_ends s at n =
    less_or_not (length s) (at + n) (λ h. subst (EndsBy (at + n)) (argument_past s at n h) tt)
    (λ h.
    let t = take (at + n) s in
    subst (EndsBy (at + n)) (argument_cut s at n h)
    (any-ends (at + n) t (omega (arith, length-take-le (at + n) s h)) (scalar_parts t at n)
    (embedded (rows_of any) t at n)))
