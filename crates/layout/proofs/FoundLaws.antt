-- What a reader does not note can be told from the rest: whether a field occurs, and of a field with bytes the length,
-- which is its value. Assumes nothing.
use Rattle.prelude.proofs.Basics.{ℕ, zero, suc, arith, Bool, true, false, cond, ◌≡◌, refl, sym, ap, subst, ◌∙◌, List}
use Rattle.prelude.proofs.Basics.{[], ◌∷◌, length, get_or, set, take, length-set, get_or-set_other, take-length, eqb}
use Rattle.prelude.proofs.Basics.{leb, ltb, eq-eqb, eqb-false, eqb-true, le-leb, ne_eqb, both}
use Rattle.wire.proofs.LongLaws.{LongField, field_long}
use Rattle.layout.proofs.Names.{field_at, Field, number_of, wire_of, is_repeated, row_for, slot_count, no_slots}
use Rattle.layout.proofs.Names.{bad_slots, use_of, noted, on_field, fields_from, field_list, has_required, fields_at}
use Rattle.layout.proofs.Names.{fields_to, Use, Slots}
use Rattle.layout.specs.Part.{absent}
use Rattle.layout.specs.private.Found.{up_to_two, slot_at, Holds}
use Rattle.layout.specs.declared.found.Found.{Found}
use Rattle.layout.proofs.FieldsLaws.{get_d_times, up_to_none, times_at, value_at, start_at}
use Rattle.std.specs.Prelude.{Option, Some, None}

-- a message that ends where s does
pub fields_whole : (rows : List (List ℕ)) (s : List ℕ) (from : ℕ) →
    fields_to rows s from (length s) ≡ fields_at rows s from
fields_whole rows s from =
    simp (le-leb (length s) (length s) (omega arith)) (ap (λ (l : List ℕ). fields_at rows l from) (take-length s))

pub holds_whole : (rows : List (List ℕ)) (s : List ℕ) (from : ℕ) {g : Bool} {found : Found} →
    Holds (fields_to rows s from (length s)) g found → Holds (fields_at rows s from) g found
holds_whole rows s from {g} {found} h = subst (λ (y : Slots). Holds y g found) (fields_whole rows s from) h

-- ---- what is found, by field number

module _ {x : Slots} {g : Bool} {found : Found} (h : Holds x g found) where
  pub held_good : {b : Bool} → g ≡ b → x.good ≡ b
  held_good e = sym h.answer ∙ e

  module _ (k : ℕ) where
    pub held_value : (slot_at found k).value ≡ get_or x.value k 0
    held_value = sym (value_at found k) ∙ ap (λ (l : List ℕ). get_or l k 0) h.held.value_is

    pub held_start : (slot_at found k).start ≡ get_or x.start k 0
    held_start = sym (start_at found k) ∙ ap (λ (l : List ℕ). get_or l k 0) h.held.start_is

    pub held_times : (slot_at found k).times ≡ up_to_two (get_or x.count k 0)
    held_times =
        sym (times_at found k) ∙ ap (λ (l : List ℕ). get_or l k 0) h.held.times_are ∙ get_d_times x.count k

    -- none or some, by what is noted
    pub held_none : eqb (slot_at found k).times 0 ≡ absent x k
    held_none = ap (λ (n : ℕ). eqb n 0) held_times ∙ up_to_none (get_or x.count k 0)

    pub held_absent : (slot_at found k).times ≡ 0 → absent x k ≡ true
    held_absent e = sym held_none ∙ eq-eqb (slot_at found k).times 0 e

    pub held_present : ((slot_at found k).times ≡ 0 → ⊥) → absent x k ≡ false
    held_present e = sym held_none ∙ ne_eqb (slot_at found k).times 0 e

-- ---- value and length

-- two lists that are alike at a place stay so where both are set to one value
set_alike : (l m : List ℕ) (i v k : ℕ) → length l ≡ length m → get_or l k 0 ≡ get_or m k 0 →
    get_or (set l i v) k 0 ≡ get_or (set m i v) k 0
set_alike [] [] i v k h e = e
set_alike [] (y ∷ m) i v k h e = absurd (omega arith)
set_alike (x ∷ l) [] i v k h e = absurd (omega arith)
set_alike (x ∷ l) (y ∷ m) zero v zero h e = refl
set_alike (x ∷ l) (y ∷ m) zero v (suc k) h e = e
set_alike (x ∷ l) (y ∷ m) (suc i) v zero h e = e
set_alike (x ∷ l) (y ∷ m) (suc i) v (suc k) h e = set_alike l m i v k (omega arith) e

-- of the number k the value is the length
pub record SameSize (k : ℕ) (x : Slots) : Type 0 where
  pub lengths : length x.len ≡ length x.value
  pub alike : get_or x.len k 0 ≡ get_or x.value k 0

pub none_sized : (k : ℕ) → SameSize k no_slots
none_sized k = record { lengths = refl; alike = refl }

pub bad_sized : (k : ℕ) → SameSize k bad_slots
bad_sized k = record { lengths = refl; alike = refl }

module _ (rows : List (List ℕ)) (k : ℕ) (long : wire_of (row_for rows k) ≡ 2) where
  -- a field that is kept has its row's wire type
  kept_wire : (number wire v : ℕ) → use_of rows number wire v ≡ Use.Kept → number ≡ k → wire ≡ 2
  kept_wire number wire v e n = go (eqb (wire_of (row_for rows number)) wire) refl
    where
      go : (b : Bool) → eqb (wire_of (row_for rows number)) wire ≡ b → wire ≡ 2
      go true t = sym (eqb-true (wire_of (row_for rows number)) wire t) ∙ ap (λ (j : ℕ). wire_of (row_for rows j)) n ∙ long
      go false t = absurd (never (ltb number slot_count) (eqb (number_of (row_for rows number)) number) (rw t at e))
        where
          never : (a b : Bool) →
              cond (cond a (cond b false false) false) (cond (is_repeated (row_for rows number)) Use.Counted Use.Kept)
              Use.Unknown ≡ Use.Kept → ⊥
          never true true h = let z : ◌≡◌ {A = ℕ} 0 1 = cc in omega arith
          never true false h = let z : ◌≡◌ {A = ℕ} 0 1 = cc in omega arith
          never false true h = let z : ◌≡◌ {A = ℕ} 0 1 = cc in omega arith
          never false false h = let z : ◌≡◌ {A = ℕ} 0 1 = cc in omega arith

  noted-sized : (u : Use) (x : Slots) (number wire v start len : ℕ) → use_of rows number wire v ≡ u →
      (wire ≡ 2 → v ≡ len) → SameSize k x →
      SameSize k (noted u x number v start len)
  noted-sized Use.Unknown x number wire v start len e f a = a
  noted-sized Use.Counted x number wire v start len e f a = record { lengths = a.lengths; alike = a.alike }
  noted-sized Use.Kept x number wire v start len e f a =
      record {
        lengths = length-set x.len number len ∙ a.lengths ∙ sym (length-set x.value number v);
        alike = go (eqb number k) refl;
      }
    where
      go : (b : Bool) → eqb number k ≡ b → get_or (set x.len number len) k 0 ≡ get_or (set x.value number v) k 0
      go true t =
          ap (λ (m : ℕ). get_or (set x.len number m) k 0) (sym (f (kept_wire number wire v e (eqb-true number k t))))
          ∙ set_alike x.len x.value number v k a.lengths a.alike
      go false t =
          let ne : k ≡ number → ⊥ = λ h. eqb-false number k t (sym h) in
          get_or-set_other x.len number k len 0 ne ∙ a.alike ∙ sym (get_or-set_other x.value number k v 0 ne)

  field-sized : (x : Slots) (more : ℕ → Slots → Slots) → ((p : ℕ) (y : Slots) → SameSize k y → SameSize k (more p y)) →
      (f : Option Field) → LongField f →
      SameSize k x → SameSize k (on_field rows x more f)
  field-sized x more m (Some r) h a =
      m r.next (noted (use_of rows r.number r.wire r.value) x r.number r.value r.start r.len)
      (noted-sized (use_of rows r.number r.wire r.value) x r.number r.wire r.value r.start r.len refl h a)
  field-sized x more m None h a = bad_sized k

  pub from_sized : (most : ℕ) (s : List ℕ) (at : ℕ) (x : Slots) → SameSize k x →
      SameSize k (fields_from most rows s at x)
  unfolding fields_from
  from_sized zero s at x a = a
  from_sized (suc most) s at x a =
      both (SameSize k) (ltb at (length s)) (on_field rows x (λ next y. fields_from most rows s next y) (field_at s at)) x
      (λ _. field-sized x (λ next y. fields_from most rows s next y) (from_sized most s) (field_at s at)
      (field_long s at) a) (λ _. a)

  pub bytes_long : (s : List ℕ) (from : ℕ) → get_or (fields_at rows s from).len k 0 ≡ get_or (fields_at rows s from).value
      k 0
  bytes_long s from =
      both (λ (x : Slots). get_or x.len k 0 ≡ get_or x.value k 0) (has_required rows (field_list rows s from).count)
      (field_list rows s from) bad_slots
      (λ _. (from_sized (length s) s from no_slots (none_sized k)).alike) (λ _. refl)

  pub bytes_long_to : (s : List ℕ) (from end : ℕ) →
      get_or (fields_to rows s from end).len k 0 ≡ get_or (fields_to rows s from end).value k 0
  bytes_long_to s from end =
      both (λ (x : Slots). get_or x.len k 0 ≡ get_or x.value k 0) (leb end (length s))
      (fields_at rows (take end s) from) bad_slots
      (λ _. bytes_long (take end s) from) (λ _. refl)
