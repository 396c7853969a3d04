-- The short way for field 1 with bytes alone: its steps, and what a message's rows make of the field. Assumes nothing.
use Rattle.prelude.proofs.Basics.{ℕ, ◌+◌, ◌≤◌, ◌<◌, arith, Bool, cond, ◌≡◌, refl, sym, ap, subst, ◌∙◌, List, length}
use Rattle.prelude.proofs.Basics.{get_or, take}
use Rattle.prelude.proofs.Basics.{length-take-le, eqb, leb, ltb, eq-eqb, eqb-true, le-leb, le-ltb, leb-true, lt-leb}
use Rattle.prelude.proofs.Basics.{lt-ltb, ltb-true, ne_eqb, both, yes, no}
use Rattle.std.specs.Prelude.{Option, Some, None}
use Rattle.args.proofs.Names.{Part, as_length, of_value, field_at, Value, quick_wire, LongField, field_long}
use Rattle.args.proofs.Names.{no_slots, use_of, noted, checked, embedded, Use, starts, ends, goes_on_lem, part_within}
use Rattle.scalar.specs.declared.argument.Argument.TheVariants as Va
use Rattle.args.proofs.Names.{bytes, rows_of, row_for, has_required, one_part, one_part_lem, bytes_of, bytes_in}
use Rattle.args.proofs.Names.{no_arguments}
use Rattle.args.proofs.Names.{arguments_in}
use Rattle.args.specs.private.Pair.{text_of, text_at, text_in}
use Rattle.args.proofs.PlaceLaws as Place
use Rattle.args.proofs.ArgumentsLaws.{none_left}
use Rattle.args.proofs.ArgumentsLaws as Walk
use Rattle.wire.specs.Field.{some_field}

-- ---- the steps

module _ (s : List ℕ) (at : ℕ) where
  pub text_none : length s ≤ at → None ≡ text_at s at
  unfolding text_at
  text_none h = no _ None (le-ltb at (length s) h)

  module _ (inside : at < length s) where
    pub text_other : (get_or s at 0 ≡ 10 → ⊥) → None ≡ text_at s at
    unfolding text_at
    text_other o = no _ None (ne_eqb (get_or s at 0) 10 o) ∙ yes _ None (lt-ltb at (length s) inside)

    pub text_read : get_or s at 0 ≡ 10 → (read : Option Value) → read ≡ as_length s (at + 1) →
        text_of (length s) read ≡ text_at s at
    unfolding text_at
    text_read o read e =
        ap (text_of (length s)) e
        ∙ yes _ None (eq-eqb (get_or s at 0) 10 o)
        ∙ yes _ None (lt-ltb at (length s) inside)

module _ (s : List ℕ) (at n : ℕ) where
  pub text_past : length s < at + n → None ≡ text_in s at n
  unfolding text_in
  text_past h = no _ None (lt-leb (at + n) (length s) h)

  pub text_cut : at + n ≤ length s → text_at (take (at + n) s) at ≡ text_in s at n
  unfolding text_in
  text_cut h = yes _ None (le-leb (at + n) (length s) h)

-- ---- what it says of the bytes

-- the field that fills them
pub record Filled (s : List ℕ) (at start len : ℕ) : Type 0 where
  pub inside : at < length s
  pub tag : get_or s at 0 ≡ 10
  pub field : field_at s at ≡ some_field 1 2 len start len (length s)

abbrev Says : List ℕ → ℕ → Option Part → Type 0
Says s at (Some p) = Filled s at p.start p.len
Says s at None = Unit {0}

at_says : (s : List ℕ) (at : ℕ) → Says s at (text_at s at)
unfolding text_at
at_says s at =
    both (Says s at) (ltb at (length s)) _ _
    (λ i. both (Says s at) (eqb (get_or s at 0) 10) _ _
    (λ o. go (as_length s (at + 1)) refl (ltb-true at (length s) i) (eqb-true (get_or s at 0) 10 o)) (λ _. tt))
    (λ _. tt)
  where
    go : (v : Option Value) → as_length s (at + 1) ≡ v → at < length s → get_or s at 0 ≡ 10 → Says s at (text_of (length s) v)
    go (Some r) e i o =
        both (Says s at) (eqb r.next (length s)) _ None
        (λ q.
        record {
          inside = i;
          tag = o;
          field =
              read
              ∙ ap (λ (v : ℕ). some_field 1 2 v r.start r.len r.next) (long (field_long s at) refl)
              ∙ ap (some_field 1 2 r.len r.start r.len) (eqb-true r.next (length s) q);
        })
        (λ _. tt)
      where
        read : field_at s at ≡ some_field 1 2 r.number r.start r.len r.next
        read = sym (quick_wire s at 10 i (sym o) (omega arith) 2 (omega arith) refl (omega arith)) ∙ ap
            (of_value 1 2) e

        long : LongField (field_at s at) → ◌≡◌ {A = ℕ} 2 2 → r.number ≡ r.len
        long = rw read (λ f. f)
    go None e i o = tt

abbrev SaysIn : List ℕ → ℕ → ℕ → Option Part → Type 0
SaysIn s at n (Some p) = (at + n ≤ length s) × Filled (take (at + n) s) at p.start p.len
SaysIn s at n None = Unit {0}

in_says : (s : List ℕ) (at n : ℕ) → SaysIn s at n (text_in s at n)
unfolding text_in
in_says s at n =
    both (SaysIn s at n) (leb (at + n) (length s)) _ _
    (λ h. go (text_at (take (at + n) s) at) (leb-true (at + n) (length s) h) (at_says (take (at + n) s) at)) (λ _. tt)
  where
    go : (r : Option Part) → at + n ≤ length s → Says (take (at + n) s) at r → SaysIn s at n r
    go (Some p) h f = (h, f)
    go None h f = tt

-- ---- what rows that keep it make of it

kept_bytes : (value : ℕ) → Use.Kept ≡ use_of (rows_of bytes) 1 2 value
unfolding rows_of row_for
kept_bytes value = refl

bytes_there : (octets : Bool) (start len : ℕ) →
    cond octets (Va.Octets start len) (Va.String start len)
    ≡ bytes_of octets (checked (rows_of bytes) (noted Use.Kept no_slots 1 len start len))
unfolding rows_of has_required
bytes_there octets start len = refl

module _ (s : List ℕ) (at n : ℕ) {p : Part} (e : text_in s at n ≡ Some p) where
  pub told : SaysIn s at n (Some p)
  told = subst (SaysIn s at n) e (in_says s at n)

  pub text_kept : (rows : List (List ℕ)) → Use.Kept ≡ use_of rows 1 2 p.len →
      checked rows (noted Use.Kept no_slots 1 p.len p.start p.len) ≡ embedded rows s at n
  text_kept rows kept =
      ap (checked rows)
      (ends (goes_on_lem (starts rows (take (at + n) s) at) told.1.inside told.1.field Use.Kept kept)
      (omega arith))
      ∙ part_within rows s at n told.0

  -- octets or a string
  pub text_bytes : (octets : Bool) → cond octets (Va.Octets p.start p.len) (Va.String p.start p.len) ≡ bytes_in octets s
      (one_part at n)
  text_bytes octets =
      bytes_there octets p.start p.len
      ∙ ap (bytes_of octets)
      (text_kept (rows_of bytes) (kept_bytes p.len) ∙ sym (one_part_lem (rows_of bytes) s (record { start = at; len = n })))

  -- a message of that field alone has no arguments
  pub text_arguments : no_arguments at (at + n) ≡ arguments_in (take (at + n) s) at
  text_arguments =
      let cut = take (at + n) s in
      let f = told.1 in
      let past = Place.other_number (Place.starts cut at) f.inside f.field (λ h. omega arith) in
      ap (no_arguments at) (sym (length-take-le (at + n) s told.0))
      ∙ none_left (Walk.starts cut at) (sym (Place.next_placed cut at _ (Place.ends past (omega arith))))
