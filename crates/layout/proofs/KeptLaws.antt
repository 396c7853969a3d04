-- The fields that a list keeps lie within its bytes. Assumes nothing.
use Rattle.prelude.proofs.Basics.{ℕ, zero, suc, ◌+◌, ◌≤◌, arith, Bool, true, false, ◌≡◌, refl, ap, ◌∙◌, List, length}
use Rattle.prelude.proofs.Basics.{get_or, set, replicate, length-set, get_or-set_other, get_or-set_same, eqb, ltb, eqb-false}
use Rattle.prelude.proofs.Basics.{eqb-true, both}
use Rattle.layout.proofs.Names.{field_at, PastField, Field, field_past, slot_count, no_slots, bad_slots, use_of}
use Rattle.layout.proofs.Names.{noted, on_field, fields_from, field_list, has_required, Use, Slots}
use Rattle.layout.specs.FieldsRules.{KeptWithin}
use Rattle.layout.proofs.FieldsLaws.{kept_slot}
use Rattle.std.specs.Prelude.{Option, Some, None}

pub zeros : (n k : ℕ) → ◌≡◌ {A = ℕ} (get_or (replicate n 0) k 0) 0
zeros zero k = refl
zeros (suc n) zero = refl
zeros (suc n) (suc k) = zeros n k

-- an index is the one that was set, or another
pub same_or_not : {A : Type 0} (k i : ℕ) → (k ≡ i → A) → ((k ≡ i → ⊥) → A) → A
same_or_not {A} k i f g = go (eqb k i) refl
  where
    go : (b : Bool) → eqb k i ≡ b → A
    go true e = f (eqb-true k i e)
    go false e = g (eqb-false k i e)

-- there is a place for each slot, and what is noted ends within n bytes
pub record Kept (n : ℕ) (x : Slots) : Type 0 where
  pub starts : length x.start ≡ slot_count
  pub lens : length x.len ≡ slot_count
  pub inside : (k : ℕ) → get_or x.start k 0 + get_or x.len k 0 ≤ n

pub none_kept : (n : ℕ) → Kept n no_slots
none_kept n = record { starts = refl; lens = refl; inside = λ k. omega (arith, zeros slot_count k) }

pub bad_kept : (n : ℕ) → Kept n bad_slots
bad_kept n = record { starts = refl; lens = refl; inside = λ k. omega (arith, zeros slot_count k) }

module _ (rows : List (List ℕ)) (n : ℕ) where
  pub noted_kept : {x : Slots} → Kept n x → (number wire v start len : ℕ) → start + len ≤ n → (u : Use) →
      u ≡ use_of rows number wire v → Kept n (noted u x number v start len)
  noted_kept a number wire v start len h Use.Unknown e = a
  noted_kept a number wire v start len h Use.Counted e =
      record { starts = a.starts; lens = a.lens; inside = a.inside }
  noted_kept {x} a number wire v start len h Use.Kept e =
      let slot = kept_slot rows number wire v e in
      record {
        starts = length-set x.start number start ∙ a.starts;
        lens = length-set x.len number len ∙ a.lens;
        inside = λ k.
            same_or_not k number
            (λ z.
            omega (
              arith,
              ap (λ (m : ℕ). get_or (set x.start number start) m 0) z,
              ap (λ (m : ℕ). get_or (set x.len number len) m 0) z,
              get_or-set_same x.start number start 0 (omega (arith, a.starts)),
              get_or-set_same x.len number len 0 (omega (arith, a.lens)),
            ))
            (λ z.
            omega (
              arith,
              get_or-set_other x.start number k start 0 z,
              get_or-set_other x.len number k len 0 z,
              a.inside k,
            ));
      }

module _ (rows : List (List ℕ)) (s : List ℕ) (n : ℕ) (few : length s ≤ n) where
  field_kept : (at : ℕ) {x : Slots} → Kept n x → (more : ℕ → Slots → Slots) →
      ((q : ℕ) (y : Slots) → Kept n y → Kept n (more q y)) → (z : Option Field) → PastField at (length s) z →
      Kept n (on_field rows x more z)
  field_kept at {x} a more m (Some r) h =
      m r.next (noted (use_of rows r.number r.wire r.value) x r.number r.value r.start r.len)
      (noted_kept rows n a r.number r.wire r.value r.start r.len (omega arith) (use_of rows r.number r.wire r.value) refl)
  field_kept at a more m None h = bad_kept n

  pub from_kept_by : (most at : ℕ) {x : Slots} → Kept n x → Kept n (fields_from most rows s at x)
  unfolding fields_from
  from_kept_by zero at a = a
  from_kept_by (suc most) at a =
      both (Kept n) (ltb at (length s)) _ _
      (λ _.
      field_kept at a (λ next y. fields_from most rows s next y) (λ q y b. from_kept_by most q b) (field_at s at)
      (field_past s at))
      (λ _. a)

pub from_kept : (rows : List (List ℕ)) (s : List ℕ) (most at : ℕ) {x : Slots} → Kept (length s) x →
    Kept (length s) (fields_from most rows s at x)
from_kept rows s most at a = from_kept_by rows s (length s) (omega arith) most at a

pub kept_within : KeptWithin
kept_within rows s from =
    (both (Kept (length s)) (has_required rows (field_list rows s from).count) _ _
    (λ _. from_kept rows s (length s) from (none_kept (length s))) (λ _. bad_kept (length s))
    ).inside
