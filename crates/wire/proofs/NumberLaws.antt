-- The number of a field is 1 or more. Assumes nothing.
use Rattle.prelude.proofs.Basics.{ℕ, ◌%◌, ◌^◌, ◌<◌, arith, ◌≡◌, List, eqb, ltb, ltb-false, both}
use Rattle.wire.proofs.Names.{varint_at, Number, tag_of, tag_at, value_at, group_end, max_depth, of_value, of_group}
use Rattle.wire.proofs.Names.{of_tag, field_at, Field, Tag, Value}
use Rattle.std.specs.Prelude.{Option, Some, None}
use Rattle.wire.specs.Field.{some_field}

abbrev TagNumber : Option Tag → Type 0
TagNumber (Some r) = 0 < r.number
TagNumber None = Unit {0}

abbrev IsNumbered : Option Field → Type 0
IsNumbered (Some r) = 0 < r.number
IsNumbered None = Unit {0}

tag_number : (x : Option Number) → TagNumber (tag_of x)
tag_number (Some r) =
    both TagNumber (ltb r.value (2 ^ 32)) _ _
    (λ _.
    both TagNumber (ltb r.value 8) _ _ (λ _. tt)
    (λ e. both TagNumber (ltb (r.value % 8) 6) _ _ (λ _. let h = ltb-false r.value 8 e in omega arith) (λ _. tt)))
    (λ _. tt)
tag_number None = tt

value_number : (n w : ℕ) → 0 < n → (v : Option Value) → IsNumbered (of_value n w v)
value_number n w h (Some r) = h
value_number n w h None = tt

group_number : (n at : ℕ) → 0 < n → (x : Option ℕ) → IsNumbered (of_group n at x)
group_number n at h (Some next) = h
group_number n at h None = tt

of_tag_lem : (s : List ℕ) (t : Option Tag) → TagNumber t → IsNumbered (of_tag s t)
of_tag_lem s (Some r) h =
    both IsNumbered (eqb r.wire 3) _ _ (λ _. group_number r.number r.next h (group_end max_depth s r.next r.number))
    (λ _. value_number r.number r.wire h (value_at s r.wire r.next))
of_tag_lem s None h = tt

field_is : (s : List ℕ) (at : ℕ) → IsNumbered (field_at s at)
unfolding field_at
field_is s at = of_tag_lem s (tag_at s at) (tag_number (varint_at s at))

pub field_number : (s : List ℕ) (at : ℕ) {n w v start len next : ℕ} → field_at s at ≡ some_field n w v start len next
    → 0 < n
field_number s at {n} e = go (field_is s at)
  where
    go : IsNumbered (field_at s at) → 0 < n
    go = rw e (λ h. h)
