-- The value of a field with bytes is their length. Assumes nothing.
use Rattle.prelude.proofs.Basics.{ℕ, ◌-◌, arith, ◌≡◌, refl, List, length, eqb, ltb, both}
use Rattle.wire.proofs.Names.{varint_at, Number, tag_at, of_length, value_at, group_end, max_depth, of_value, of_group}
use Rattle.wire.proofs.Names.{of_tag, field_at, Field, Tag, Value}
use Rattle.std.specs.Prelude.{Option, Some, None}

abbrev Long : Option Value → Type 0
Long (Some r) = r.number ≡ r.len
Long None = Unit {0}

-- of wire type 2
abbrev pub LongField : Option Field → Type 0
LongField (Some r) = r.wire ≡ 2 → r.value ≡ r.len
LongField None = Unit {0}

of_length_long : (s : List ℕ) (x : Option Number) → Long (of_length s x)
of_length_long s (Some r) = both Long (ltb (length s - r.next) r.value) _ _ (λ _. tt) (λ _. refl)
of_length_long s None = tt

of_value_long : (number wire : ℕ) (v : Option Value) → (wire ≡ 2 → Long v) → LongField (of_value number wire v)
of_value_long number wire (Some r) h = h
of_value_long number wire None h = tt

of_group_long : (number at : ℕ) (x : Option ℕ) → LongField (of_group number at x)
of_group_long number at (Some next) = λ e. absurd (omega arith)
of_group_long number at None = tt

value_long : (s : List ℕ) (wire at : ℕ) → wire ≡ 2 → Long (value_at s wire at)
value_long s wire at h = rw h (of_length_long s (varint_at s at))

of_tag_long : (s : List ℕ) (t : Option Tag) → LongField (of_tag s t)
of_tag_long s (Some r) =
    both LongField (eqb r.wire 3) _ _ (λ _. of_group_long r.number r.next (group_end max_depth s r.next r.number))
    (λ _. of_value_long r.number r.wire (value_at s r.wire r.next) (value_long s r.wire r.next))
of_tag_long s None = tt

pub field_long : (s : List ℕ) (at : ℕ) → LongField (field_at s at)
unfolding field_at
field_long s at = of_tag_long s (tag_at s at)
