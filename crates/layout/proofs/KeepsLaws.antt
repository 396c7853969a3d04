-- How often a field with bytes occurs is how many parts it has, and the last is the one that is kept. Assumes nothing.
use Rattle.prelude.proofs.Basics.{ℕ, zero, suc, ◌+◌, ◌<◌, arith, Bool, true, false, not, ◌&&◌, cond, ◌≡◌, refl, sym, ap}
use Rattle.prelude.proofs.Basics.{subst, ◌∙◌, List, [], ◌∷◌, ◌++◌, length, get_or, take, length-append, length-set}
use Rattle.prelude.proofs.Basics.{get_or-set_other, get_or-set_same, eqb, leb, ltb, eq-eqb, eqb-true, ltb-true, ne_eqb}
use Rattle.prelude.proofs.Basics.{not-true}
use Rattle.layout.proofs.Names.{field_at, Field, len, rows_of, number_of, wire_of, is_repeated, listed_of, row_for}
use Rattle.layout.proofs.Names.{listed, slot_count, takes, no_slots, bad_slots, use_of, noted, on_field, fields_from}
use Rattle.layout.proofs.Names.{fields_onto, has_required, checked, start_of, end_of, is_part, part_by, parts_from}
use Rattle.layout.proofs.Names.{parts_of, parts_in, part_onto, parts_onto, Use, Part, Slots}
use Rattle.layout.specs.Part.{count_of, len_of}
use Rattle.layout.specs.MergedRules.{holds_bytes, RowsHold, last_start, last_len, Keeps, PartsKept}
use Rattle.layout.proofs.JointLaws.{not_both, and_first, and_second}
use Rattle.layout.proofs.KeptLaws.{zeros, same_or_not}
use Rattle.std.specs.Prelude.{Option, Some, None}

-- there is a place for each slot
record Slotted (x : Slots) : Type 0 where
  counts : length x.count ≡ slot_count
  starts : length x.start ≡ slot_count
  lens : length x.len ≡ slot_count

-- what x holds of a field behind what y held, and some parts
record Grows (y : Slots) (k : ℕ) (ps : List Part) (x : Slots) : Type 0 where
  slots : Slotted x
  count : count_of x k ≡ count_of y k + length ps
  start : start_of x k ≡ last_start (start_of y k) ps
  size : len_of x k ≡ last_len (len_of y k) ps

none_grows : {x : Slots} (k : ℕ) → Slotted x → Grows x k [] x
none_grows k a = record { slots = a; count = omega arith; start = refl; size = refl }

start_then : (n : ℕ) (ps qs : List Part) → last_start (last_start n ps) qs ≡ last_start n (ps ++ qs)
start_then n [] qs = refl
start_then n (p ∷ ps) qs = start_then p.start ps qs

len_then : (n : ℕ) (ps qs : List Part) → last_len (last_len n ps) qs ≡ last_len n (ps ++ qs)
len_then n [] qs = refl
len_then n (p ∷ ps) qs = len_then p.len ps qs

-- some parts, and more behind them
grows_then : {y z x : Slots} (k : ℕ) (ps qs : List Part) → Grows y k ps z → Grows z k qs x → Grows y k (ps ++ qs) x
grows_then {y} k ps qs a b =
    record {
      slots = b.slots;
      count = omega (arith, a.count, b.count, length-append ps qs);
      start = b.start ∙ ap (λ (n : ℕ). last_start n qs) a.start ∙ start_then (start_of y k) ps qs;
      size = b.size ∙ ap (λ (n : ℕ). last_len n qs) a.size ∙ len_then (len_of y k) ps qs;
    }

-- ---- one field

noted_slotted : (u : Use) {x : Slots} (number v st ln : ℕ) → Slotted x → Slotted (noted u x number v st ln)
noted_slotted Use.Unknown number v st ln a = a
noted_slotted Use.Counted {x} number v st ln a =
    record {
      counts = length-set x.count number (get_or x.count number 0 + 1) ∙ a.counts;
      starts = a.starts;
      lens = a.lens;
    }
noted_slotted Use.Kept {x} number v st ln a =
    record {
      counts = length-set x.count number (get_or x.count number 0 + 1) ∙ a.counts;
      starts = length-set x.start number st ∙ a.starts;
      lens = length-set x.len number ln ∙ a.lens;
    }

module _ {x : Slots} (a : Slotted x) (k : ℕ) where
  -- a field of another number leaves what is held of k
  noted_other : (u : Use) (number v st ln : ℕ) → (k ≡ number → ⊥) → Grows x k [] (noted u x number v st ln)
  noted_other Use.Unknown number v st ln h = none_grows k a
  noted_other Use.Counted number v st ln h =
      record {
        slots = noted_slotted Use.Counted number v st ln a;
        count = omega (arith, get_or-set_other x.count number k (get_or x.count number 0 + 1) 0 h);
        start = refl;
        size = refl;
      }
  noted_other Use.Kept number v st ln h =
      record {
        slots = noted_slotted Use.Kept number v st ln a;
        count = omega (arith, get_or-set_other x.count number k (get_or x.count number 0 + 1) 0 h);
        start = get_or-set_other x.start number k st 0 h;
        size = get_or-set_other x.len number k ln 0 h;
      }

  noted_kept : (v st ln : ℕ) → k < slot_count →
      Grows x k (record { start = st; len = ln } ∷ []) (noted Use.Kept x k v st ln)
  noted_kept v st ln h =
      record {
        slots = noted_slotted Use.Kept k v st ln a;
        count = get_or-set_same x.count k (get_or x.count k 0 + 1) 0 (omega (arith, a.counts));
        start = get_or-set_same x.start k st 0 (omega (arith, a.starts));
        size = get_or-set_same x.len k ln 0 (omega (arith, a.lens));
      }

-- ---- what a message makes of it

takes_by : (a b c d : Bool) → cond a (cond b (cond c d false) false) false ≡ true →
    (a ≡ true) × (b ≡ true) × (c ≡ true)
takes_by true true true d e = (refl, refl, refl)
takes_by true true false d e = not_both e refl
takes_by true false c d e = not_both e refl
takes_by false b c d e = not_both e refl

module _ (rows : List (List ℕ)) (k : ℕ) (h : holds_bytes rows k ≡ true) where
  abbrev r : List ℕ
  r = row_for rows k

  taken : (ltb k slot_count ≡ true) × (eqb (number_of r) k ≡ true) × (eqb (wire_of r) len ≡ true)
  taken =
      takes_by (ltb k slot_count) (eqb (number_of r) k) (eqb (wire_of r) len) (listed (listed_of r) 0)
      (and_first (takes r k len 0) (not (is_repeated r) && eqb (listed_of r) 0) h)

  single : (not (is_repeated r) && eqb (listed_of r) 0) ≡ true
  single = and_second (takes r k len 0) (not (is_repeated r) && eqb (listed_of r) 0) h

  slot : k < slot_count
  slot = ltb-true k slot_count taken.0

  use-part : (v : ℕ) → use_of rows k len v ≡ Use.Kept
  use-part v =
      rw (
        taken.0,
        taken.1,
        taken.2,
        not-true (is_repeated r) (and_first (not (is_repeated r)) (eqb (listed_of r) 0) single),
        and_second (not (is_repeated r)) (eqb (listed_of r) 0) single,
      )

  use-other : (wire v : ℕ) → (wire ≡ len → ⊥) → use_of rows k wire v ≡ Use.Unknown
  use-other wire v g =
      rw (
        taken.0,
        taken.1,
        ne_eqb (wire_of r) wire (λ e. g (sym e ∙ eqb-true (wire_of r) len taken.2)),
      )

  -- one field: a part, or nothing of k
  module _ {x : Slots} (a : Slotted x) (v st ln : ℕ) where
    abbrev One : ℕ → ℕ → Type 0
    One number wire =
        Grows x k (cond (is_part k number wire) (record { start = st; len = ln } ∷ []) [])
        (noted (use_of rows number wire v) x number v st ln)

    part : One k len
    part = rw (eq-eqb k k refl, use-part v) (noted_kept a k v st ln slot)

    no_part : (wire : ℕ) → (wire ≡ len → ⊥) → One k wire
    no_part wire g =
        rw (eq-eqb k k refl, ne_eqb wire len g, use-other wire v g)
        (none_grows k a)

    by_number : (number wire : ℕ) → One number wire
    by_number number wire =
        same_or_not number k
        (λ e.
        subst (λ (n : ℕ). One n wire) (sym e)
        (same_or_not wire len (λ g. subst (One k) (sym g) part) (λ g. no_part wire g)))
        (λ e.
        rw (ne_eqb number k e) (noted_other a k (use_of rows number wire v) number v st ln (λ z. e (sym z))))

  -- behind a field, the parts further on
  with-more : (b : Bool) {y z x : Slots} (p : Part) → Grows y k (cond b (p ∷ []) []) z → (ps : List Part) →
      Grows z k ps x → Grows y k (cond b (p ∷ ps) ps) x
  with-more true p a ps c = grows_then k (p ∷ []) ps a c
  with-more false p a ps c = grows_then k [] ps a c

  field-grows : (s : List ℕ) {x : Slots} → Slotted x → (f : ℕ → Slots → Slots) (g : ℕ → List Part) →
      ((q : ℕ) (y : Slots) → Slotted y → (f q y).good ≡ true → Grows y k (g q) (f q y)) → (z : Option Field) →
      (on_field rows x f z).good ≡ true → Grows x k (part_by k g z) (on_field rows x f z)
  field-grows s {x} a f g on (Some r) good =
      let u = use_of rows r.number r.wire r.value in
      with-more (is_part k r.number r.wire) (record { start = r.start; len = r.len }) (by_number a r.value r.start r.len r.number r.wire) (g r.next)
      (on r.next (noted u x r.number r.value r.start r.len) (noted_slotted (use_of rows r.number r.wire r.value) r.number r.value r.start r.len a) good)
  field-grows s a f g on None good = not_both good refl

  from_grows : (s : List ℕ) (most at : ℕ) (x : Slots) → Slotted x → (fields_from most rows s at x).good ≡ true →
      Grows x k (parts_from most k s at) (fields_from most rows s at x)
  unfolding fields_from parts_from
  from_grows s zero at x a good = none_grows k a
  from_grows s (suc most) at x a good =
      go (ltb at (length s)) _ _
      (field-grows s a (λ next y. fields_from most rows s next y) (λ next. parts_from most k s next)
      (λ q y b fine. from_grows s most q y b fine) (field_at s at))
      good
    where
      go : (b : Bool) (y : Slots) (ps : List Part) → (y.good ≡ true → Grows x k ps y) → (cond b y x).good ≡ true →
          Grows x k (cond b ps []) (cond b y x)
      go true y ps on fine = on fine
      go false y ps on fine = none_grows k a

  -- all parts of a message
  parts-grow : (s : List ℕ) (ps : List Part) (x : Slots) → Slotted x → (parts_onto rows s ps x).good ≡ true →
      Grows x k (parts_in k s ps) (parts_onto rows s ps x)
  unfolding parts_onto parts_in
  parts-grow s [] x a good = none_grows k a
  parts-grow s (p ∷ ps) x a good =
      go (part_onto rows s p x).good refl (λ b fine. parts-grow s ps (part_onto rows s p x) b fine) good
    where
      part-grows : (b : Bool) → (cond b (fields_onto rows (take (end_of p) s) p.start x) bad_slots).good ≡ true →
          Grows x k (parts_of k (take (end_of p) s) p.start)
          (cond b (fields_onto rows (take (end_of p) s) p.start x) bad_slots)
      part-grows true fine = from_grows (take (end_of p) s) (length (take (end_of p) s)) p.start x a fine
      part-grows false fine = not_both fine refl

      go : (b : Bool) → (part_onto rows s p x).good ≡ b →
          (Slotted (part_onto rows s p x) → (parts_onto rows s ps (part_onto rows s p x)).good ≡ true →
          Grows (part_onto rows s p x) k (parts_in k s ps) (parts_onto rows s ps (part_onto rows s p x))) →
          (cond b (parts_onto rows s ps (part_onto rows s p x)) bad_slots).good ≡ true →
          Grows x k (parts_of k (take (end_of p) s) p.start ++ parts_in k s ps)
          (cond b (parts_onto rows s ps (part_onto rows s p x)) bad_slots)
      go true e on fine =
          let this = part-grows (leb (end_of p) (length s)) e in
          grows_then k (parts_of k (take (end_of p) s) p.start) (parts_in k s ps) this (on this.slots fine)
      go false e on fine = not_both fine refl

-- ---- a whole message

none_slotted : Slotted no_slots
none_slotted = record { counts = refl; starts = refl; lens = refl }

from_none : {x : Slots} (k : ℕ) (ps : List Part) → Grows no_slots k ps x → Keeps x k ps
from_none k ps g =
    record {
      count = omega (arith, g.count, zeros slot_count k);
      start = g.start ∙ ap (λ (n : ℕ). last_start n ps) (zeros slot_count k);
      size = g.size ∙ ap (λ (n : ℕ). last_len n ps) (zeros slot_count k);
    }

checked_keeps : (rows : List (List ℕ)) (x : Slots) (k : ℕ) (ps : List Part) → (x.good ≡ true → Keeps x k ps) →
    (checked rows x).good ≡ true → Keeps (checked rows x) k ps
checked_keeps rows x k ps f = go (has_required rows x.count)
  where
    go : (b : Bool) → (cond b x bad_slots).good ≡ true → Keeps (cond b x bad_slots) k ps
    go true good = f good
    go false good = not_both good refl

pub parts_kept : PartsKept
parts_kept =
    record {
      whole = λ rows k s from h.
          checked_keeps rows (fields_onto rows s from no_slots) k (parts_of k s from)
          (λ good. from_none k (parts_of k s from) (from_grows rows k h s (length s) from no_slots none_slotted good));
      inner = λ rows k s ps h.
          checked_keeps rows (parts_onto rows s ps no_slots) k (parts_in k s ps)
          (λ good. from_none k (parts_in k s ps) (parts-grow rows k h s ps no_slots none_slotted good));
    }

pub rows_hold : RowsHold
unfolding rows_of row_for
rows_hold = refl

-- a field that occurs once has one part, which is kept
pub one_only : (x : Slots) (k : ℕ) (ps : List Part) → Keeps x k ps → count_of x k ≡ 1 →
    ps ≡ record { start = start_of x k; len = len_of x k } ∷ []
one_only x k [] h e = absurd (omega (arith, h.count))
one_only x k (p ∷ []) h e = rw (h.start, h.size)
one_only x k (p ∷ (q ∷ ps)) h e = absurd (omega (arith, h.count))
