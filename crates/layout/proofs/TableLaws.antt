-- The layout table, row by row: computed tests over it. Assumes nothing.
use Rattle.prelude.proofs.Basics.{ℕ, zero, suc, ◌/◌, ◌%◌, ◌^◌, ◌≤◌, ◌<◌, arith, Bool, true, false, not, ◌&&◌, cond, ◌≡◌}
use Rattle.prelude.proofs.Basics.{refl, sym, List, [], ◌∷◌, eqb, ltb, eqb-false, eqb-true, ltb-false, ltb-true, ne_eqb}
use Rattle.layout.proofs.Names.{rows_of, row_for}
use Rattle.layout.specs.Table.{listing, stmt_types, open_types, any_types, scalar_types}
use Rattle.layout.specs.TableRules.{RowsApart, RepeatedAreArgs, among, TypesListed}

pub rows_apart : RowsApart
rows_apart = refl

pub repeated_are_args : RepeatedAreArgs
repeated_are_args = record { no_other = refl; of_execute = refl; of_stmt_execute = refl }

-- ---- listed values, a bit for each

abbrev same : Bool → Bool → Bool
same a b = cond a b (not b)

same_is : (a b : Bool) → same a b ≡ true → a ≡ b
same_is true true e = refl
same_is true false e = sym e
same_is false true e = e
same_is false false e = refl

both_true : (a b : Bool) → (a && b) ≡ true → (a ≡ true) × (b ≡ true)
both_true true b e = (refl, e)
both_true false b e = (e, absurd (let z : ◌≡◌ {A = ℕ} 0 1 = cc in omega arith))

-- the bits below n say what is among the values, and none of these is n or more
abbrev bits_say : ℕ → ℕ → List ℕ → Bool
bits_say zero bits vs = true
bits_say (suc n) bits vs = same (eqb (bits / 2 ^ n % 2) 1) (among n vs) && bits_say n bits vs

abbrev below : ℕ → List ℕ → Bool
below n [] = true
below n (v ∷ vs) = ltb v n && below n vs

bit_says : (n bits : ℕ) (vs : List ℕ) (w : ℕ) → bits_say n bits vs ≡ true → w < n →
    eqb (bits / 2 ^ w % 2) 1 ≡ among w vs
bit_says zero bits vs w e h = absurd (omega arith)
bit_says (suc n) bits vs w e h =
    let parts = both_true (same (eqb (bits / 2 ^ n % 2) 1) (among n vs)) (bits_say n bits vs) e in
    go (same_is (eqb (bits / 2 ^ n % 2) 1) (among n vs) parts.0) (bit_says n bits vs w parts.1) (eqb w n) refl
  where
    go : eqb (bits / 2 ^ n % 2) 1 ≡ among n vs → (w < n → eqb (bits / 2 ^ w % 2) 1 ≡ among w vs) → (b : Bool) →
        eqb w n ≡ b → eqb (bits / 2 ^ w % 2) 1 ≡ among w vs
    go here less true f = rw (eqb-true w n f) here
    go here less false f = less (omega (arith, eqb-false w n f))

none_above : (n : ℕ) (vs : List ℕ) (w : ℕ) → below n vs ≡ true → n ≤ w → among w vs ≡ false
none_above n [] w e h = refl
none_above n (v ∷ vs) w e h =
    let parts = both_true (ltb v n) (below n vs) e in
    rw (ne_eqb v w (λ z. omega (arith, ltb-true v n parts.0))) (none_above n vs w parts.1 h)

listed_among : (vs : List ℕ) → bits_say 16 (listing vs) vs ≡ true → below 16 vs ≡ true → (w : ℕ) →
    cond (ltb w 16) (eqb (listing vs / 2 ^ w % 2) 1) false ≡ among w vs
listed_among vs e f w = go (ltb w 16) refl
  where
    go : (b : Bool) → ltb w 16 ≡ b → cond b (eqb (listing vs / 2 ^ w % 2) 1) false ≡ among w vs
    go true h = bit_says 16 (listing vs) vs w e (ltb-true w 16 h)
    go false h = sym (none_above 16 vs w f (ltb-false w 16 h))

pub types_listed : TypesListed
unfolding rows_of row_for
types_listed =
    record {
      of_stmt = λ value. listed_among stmt_types refl refl (value % 2 ^ 32);
      of_open = λ value. listed_among open_types refl refl (value % 2 ^ 32);
      of_any = λ value. listed_among any_types refl refl (value % 2 ^ 32);
      of_scalar = λ value. listed_among scalar_types refl refl (value % 2 ^ 32);
    }
