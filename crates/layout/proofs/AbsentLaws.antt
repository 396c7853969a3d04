-- A field that does not occur in a list has no bytes there. Assumes nothing.
use Rattle.prelude.proofs.Basics.{ℕ, zero, suc, ◌+◌, arith, ◌≡◌, refl, sym, ap, ◌∙◌, List, length, get_or, set}
use Rattle.prelude.proofs.Basics.{length-set, get_or-set_other, get_or-set_same, ltb, both}
use Rattle.layout.proofs.Names.{field_at, Field, slot_count, no_slots, bad_slots, use_of, noted, on_field, fields_from}
use Rattle.layout.proofs.Names.{field_list, has_required, fields_at, Use, Slots}
use Rattle.layout.proofs.FieldsLaws.{counted_slot, kept_slot}
use Rattle.layout.proofs.KeptLaws.{zeros, same_or_not}
use Rattle.std.specs.Prelude.{Option, Some, None}

-- there is a count for each slot, and where it is 0 there are no length and no value
pub record Absent (x : Slots) : Type 0 where
  pub counts : length x.count ≡ slot_count
  pub empty : (k : ℕ) → get_or x.count k 0 ≡ 0 → (get_or x.len k 0 ≡ 0) × (get_or x.value k 0 ≡ 0)

none_absent : Absent no_slots
none_absent = record { counts = refl; empty = λ k _. (zeros slot_count k, zeros slot_count k) }

pub bad_absent : Absent bad_slots
bad_absent = record { counts = refl; empty = λ k _. (zeros slot_count k, zeros slot_count k) }

module _ (rows : List (List ℕ)) where
  noted-absent : {x : Slots} → Absent x → (number wire v start len : ℕ) (u : Use) → u ≡ use_of rows number wire v →
      Absent (noted u x number v start len)
  noted-absent a number wire v start len Use.Unknown e = a
  noted-absent {x} a number wire v start len Use.Counted e =
      record {
        counts = length-set x.count number (get_or x.count number 0 + 1) ∙ a.counts;
        empty = λ k h.
            same_or_not k number
            (λ z.
            absurd
            (omega (
              arith,
              h,
              ap (λ (m : ℕ). get_or (set x.count number (get_or x.count number 0 + 1)) m 0) z,
              get_or-set_same x.count number (get_or x.count number 0 + 1) 0
                  (omega (arith, counted_slot rows number wire v e, a.counts)),
            )))
            (λ z. a.empty k (sym (get_or-set_other x.count number k (get_or x.count number 0 + 1) 0 z) ∙ h));
      }
  noted-absent {x} a number wire v start len Use.Kept e =
      record {
        counts = length-set x.count number (get_or x.count number 0 + 1) ∙ a.counts;
        empty = λ k h.
            same_or_not k number
            (λ z.
            absurd
            (omega (
              arith,
              h,
              ap (λ (m : ℕ). get_or (set x.count number (get_or x.count number 0 + 1)) m 0) z,
              get_or-set_same x.count number (get_or x.count number 0 + 1) 0
                  (omega (arith, kept_slot rows number wire v e, a.counts)),
            )))
            (λ z.
            let none = a.empty k (sym (get_or-set_other x.count number k (get_or x.count number 0 + 1) 0 z) ∙ h) in
            (get_or-set_other x.len number k len 0 z ∙ none.0, get_or-set_other x.value number k v 0 z ∙ none.1));
      }

  module _ (s : List ℕ) where
    field-absent : {x : Slots} → Absent x → (more : ℕ → Slots → Slots) →
        ((q : ℕ) (y : Slots) → Absent y → Absent (more q y)) → (z : Option Field) → Absent (on_field rows x more z)
    field-absent {x} a more m (Some r) =
        m r.next (noted (use_of rows r.number r.wire r.value) x r.number r.value r.start r.len)
        (noted-absent a r.number r.wire r.value r.start r.len (use_of rows r.number r.wire r.value) refl)
    field-absent a more m None = bad_absent

    from-absent : (most at : ℕ) {x : Slots} → Absent x → Absent (fields_from most rows s at x)
    unfolding fields_from
    from-absent zero at a = a
    from-absent (suc most) at a =
        both Absent (ltb at (length s)) _ _
        (λ _. field-absent a (λ next y. fields_from most rows s next y) (λ q y b. from-absent most q b) (field_at s at))
        (λ _. a)

    pub fields_absent : (from : ℕ) → Absent (fields_at rows s from)
    fields_absent from =
        both Absent (has_required rows (field_list rows s from).count) _ _
        (λ _. from-absent (length s) from none_absent) (λ _. bad_absent)
