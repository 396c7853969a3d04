-- Fuel that is enough for the bytes left makes no difference to args fields and arguments. Assumes nothing.
use Rattle.prelude.proofs.Basics.{ℕ, zero, suc, ◌+◌, ◌≤◌, ◌<◌, arith, Bool, true, false, cond, ◌≡◌, refl, sym, ap, ◌∙◌}
use Rattle.prelude.proofs.Basics.{List, ◌∷◌, length, eqb, ltb, eqb-false, eqb-true}
use Rattle.std.specs.Prelude.{Option, Some, None, Ok}
use Rattle.args.proofs.Names.{Argument, field_at, PastField, Field, field_past, is_args, of_field, place_from}
use Rattle.args.proofs.Names.{of_place, next_argument, and_more, arguments_from, GoesOn, Sought, placed_at, NextArgument}
use Rattle.args.specs.ArgumentsRules.{EnoughFields, EnoughArguments}
use Rattle.args.proofs.PlaceLaws.{Seeking, starts, other_wire, other_number, place_end, next_goes_on, next_end}
use Rattle.args.proofs.ArgumentsLaws.{from_none}
use Rattle.std.specs.Prelude.{Option, Some, None}
use Rattle.wire.specs.Field.{some_field}

module _ (s : List ℕ) where
  -- ways on that agree from here on
  field_same : (at : ℕ) (z : Option Field) → PastField at (length s) z → (f g : ℕ → Sought) →
      ((q : ℕ) → at < q → f q ≡ g q) → of_field f z ≡ of_field g z
  field_same at (Some r) h f g e =
      ap (λ (x : Sought). cond (is_args r.number r.wire r.value) (placed_at r.start r.len r.next) x) (e r.next h.2)
  field_same at None h f g e = refl

  places_same : (m n at : ℕ) → length s ≤ at + m → length s ≤ at + n → place_from m s at ≡ place_from n s at
  unfolding place_from
  places_same zero n at h i = sym (place_end n s at (omega arith))
  places_same (suc m) zero at h i = place_end (suc m) s at (omega arith)
  places_same (suc m) (suc n) at h i =
      ap (λ (x : Sought). cond (ltb at (length s)) x (Ok None))
      (field_same at (field_at s at) (field_past s at) (λ next. place_from m s next) (λ next. place_from n s next)
      (λ q j. places_same m n q (omega arith) (omega arith)))

  more_same : (at : ℕ) (z : Option NextArgument) → GoesOn at (length s) z → (f g : ℕ → List Argument) →
      ((q : ℕ) → at < q → f q ≡ g q) → and_more f z ≡ and_more g z
  more_same at (Some found) h f g e = ap (λ (l : List Argument). found.value ∷ l) (e found.next h.0)
  more_same at None h f g e = refl

  arguments-same : (m n at : ℕ) → length s ≤ at + m → length s ≤ at + n → arguments_from m s at ≡ arguments_from n s at
  unfolding arguments_from
  arguments-same zero n at h i = sym (from_none n s at (next_end s at (omega arith)))
  arguments-same (suc m) zero at h i = from_none (suc m) s at (next_end s at (omega arith))
  arguments-same (suc m) (suc n) at h i =
      more_same at (next_argument s at) (next_goes_on s at) (λ next. arguments_from m s next)
      (λ next. arguments_from n s next)
      (λ q j. arguments-same m n q (omega arith) (omega arith))

pub enough_fields : EnoughFields
enough_fields most s at h = places_same s most (length s) at h (omega arith)

pub enough_arguments : EnoughArguments
enough_arguments most s from h = arguments-same s most (length s) from h (omega arith)

-- a field that is no args field is passed over
module _ (s : List ℕ) (p : ℕ) (inside : p < length s) {number wire v start len next : ℕ}
    (e : field_at s p ≡ some_field number wire v start len next) (other : number ≡ 2 → wire ≡ 2 → ⊥) where
  behind : Seeking s p next
  behind = go (eqb number 2) refl
    where
      go : (b : Bool) → eqb number 2 ≡ b → Seeking s p next
      go true h = other_wire (starts s p) inside e (eqb-true number 2 h) (other (eqb-true number 2 h))
      go false h = other_number (starts s p) inside e (eqb-false number 2 h)

  pub next_skips : next_argument s p ≡ next_argument s next
  unfolding next_argument
  next_skips =
      ap (of_place s) (sym behind.whole ∙ enough_fields behind.most s next behind.enough)
