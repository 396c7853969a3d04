-- Fuel that is enough for the bytes left makes no difference to a field list. Assumes nothing.
use Rattle.prelude.proofs.Basics.{ℕ, zero, suc, ◌+◌, ◌≤◌, ◌<◌, arith, cond, ◌≡◌, refl, sym, ap, List, length, ltb}
use Rattle.layout.proofs.Names.{field_at, PastField, Field, field_past, no_slots, use_of, noted, on_field}
use Rattle.layout.proofs.Names.{fields_from, Slots}
use Rattle.layout.specs.FieldsRules.{EnoughFields}
use Rattle.layout.proofs.FieldsLaws.{from_end}
use Rattle.std.specs.Prelude.{Option, Some, None}

module _ (rows : List (List ℕ)) (s : List ℕ) where
  -- ways on that agree from here on
  pub field_same : (at : ℕ) (x : Slots) (z : Option Field) → PastField at (length s) z → (f g : ℕ → Slots → Slots) →
      ((q : ℕ) (y : Slots) → at < q → f q y ≡ g q y) → on_field rows x f z ≡ on_field rows x g z
  field_same at x (Some r) h f g e =
      e r.next (noted (use_of rows r.number r.wire r.value) x r.number r.value r.start r.len) h.2
  field_same at x None h f g e = refl

  pub fields_same : (m n at : ℕ) (x : Slots) → length s ≤ at + m → length s ≤ at + n →
      fields_from m rows s at x ≡ fields_from n rows s at x
  unfolding fields_from
  fields_same zero n at x h i = sym (from_end n rows s at x (omega arith))
  fields_same (suc m) zero at x h i = from_end (suc m) rows s at x (omega arith)
  fields_same (suc m) (suc n) at x h i =
      ap (λ (y : Slots). cond (ltb at (length s)) y x)
      (field_same at x (field_at s at) (field_past s at) (λ next y. fields_from m rows s next y)
      (λ next y. fields_from n rows s next y) (λ q y j. fields_same m n q y (omega arith) (omega arith)))

pub enough_fields : EnoughFields
enough_fields most rows s from h = fields_same rows s most (length s) from no_slots h (omega arith)
