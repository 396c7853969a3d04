-- How often a field occurs: along a good field list no count falls, and what is counted is there. Assumes nothing.
use Rattle.prelude.proofs.Basics.{ℕ, zero, suc, ◌+◌, ◌≤◌, ◌<◌, arith, true, ◌≡◌, refl, List, [], ◌∷◌, length, get_or, set}
use Rattle.prelude.proofs.Basics.{take, length-set, get_or-set_same, leb, ltb, leb-true, both}
use Rattle.layout.proofs.Names.{field_at, Field, bad_slots, use_of, noted, on_field, fields_from, field_list}
use Rattle.layout.proofs.Names.{has_required, fields_at, fields_to, Use, Slots}
use Rattle.std.specs.Prelude.{Option, Some, None}

-- one more at a place takes nothing away at any
set_grows : (l : List ℕ) (i k : ℕ) → get_or l k 0 ≤ get_or (set l i (get_or l i 0 + 1)) k 0
set_grows [] i k = omega arith
set_grows (x ∷ l) zero zero = omega arith
set_grows (x ∷ l) zero (suc k) = omega arith
set_grows (x ∷ l) (suc i) zero = omega arith
set_grows (x ∷ l) (suc i) (suc k) = set_grows l i k

module _ (x : Slots) (number v start len : ℕ) where
  pub noted_length : (u : Use) → length (noted u x number v start len).count ≡ length x.count
  noted_length Use.Unknown = refl
  noted_length Use.Counted = length-set x.count number (get_or x.count number 0 + 1)
  noted_length Use.Kept = length-set x.count number (get_or x.count number 0 + 1)

  noted-grows : (k : ℕ) (u : Use) → get_or x.count k 0 ≤ get_or (noted u x number v start len).count k 0
  noted-grows k Use.Unknown = omega arith
  noted-grows k Use.Counted = set_grows x.count number k
  noted-grows k Use.Kept = set_grows x.count number k

  pub noted_counted : (u : Use) → u ≡ Use.Counted → number < length x.count →
      0 < get_or (noted u x number v start len).count number 0
  noted_counted u e h = rw e (omega (arith, get_or-set_same x.count number (get_or x.count number 0 + 1) 0 h))

module _ (rows : List (List ℕ)) (k : ℕ) where
  -- good slots have no lower count of k than x
  abbrev Above : Slots → Slots → Type 0
  Above x y = y.good ≡ true → get_or x.count k 0 ≤ get_or y.count k 0

  field-grows : (x : Slots) (more : ℕ → Slots → Slots) → ((p : ℕ) (y : Slots) → Above y (more p y)) → (f : Option Field) →
      Above x (on_field rows x more f)
  field-grows x more m (Some r) g =
      let u = use_of rows r.number r.wire r.value in
      omega (arith, noted-grows x r.number r.value r.start r.len k u, m r.next (noted u x r.number r.value r.start r.len) g)
  field-grows x more m None g = absurd (let z : ◌≡◌ {A = ℕ} 0 1 = cc in omega arith)

  pub from_grows : (most : ℕ) (s : List ℕ) (at : ℕ) (x : Slots) → Above x (fields_from most rows s at x)
  unfolding fields_from
  from_grows zero s at x = λ _. omega arith
  from_grows (suc most) s at x =
      both (Above x) (ltb at (length s)) (on_field rows x (λ next y. fields_from most rows s next y) (field_at s at)) x
      (λ _. field-grows x (λ next y. fields_from most rows s next y) (from_grows most s) (field_at s at))
      (λ _ _. omega arith)

-- a good message ends within s, and is its field list
pub good_list : (rows : List (List ℕ)) (s : List ℕ) (from end : ℕ) → (fields_to rows s from end).good ≡ true →
    (end ≤ length s) × (fields_to rows s from end ≡ field_list rows (take end s) from)
good_list rows s from end =
    both P (leb end (length s)) (fields_at rows (take end s) from) bad_slots
    (λ e. both P (has_required rows list.count) list bad_slots (λ _ _. (leb-true end (length s) e, refl)) (λ _. no))
    (λ _. no)
  where
    list : Slots
    list = field_list rows (take end s) from

    P : Slots → Type 0
    P y = y.good ≡ true → (end ≤ length s) × (y ≡ list)

    no : P bad_slots
    no g = absurd (let z : ◌≡◌ {A = ℕ} 0 1 = cc in omega arith)
