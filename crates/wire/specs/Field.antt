-- One field of a message: its number, wire type, value, the place and length of the value's bytes, and the place behind
-- it.
use Rattle.std.specs.Prelude.{ℕ, ◌-◌, cond, List, eqb}
use Rattle.protocol.specs.WireType as WireType
use Rattle.wire.specs.Tag.{tag_at}
use Rattle.wire.specs.Value.{value_at}
use Rattle.wire.specs.Group.{group_end}
use Rattle.wire.specs.declared.tag.Tag.{Tag}
use Rattle.wire.specs.declared.value.Value.{Value}
use Rattle.wire.specs.declared.field.Field.{Field}
use Rattle.std.specs.Prelude.{Option, Some, None}

-- a field, and the place behind it
abbrev pub some_field : ℕ → ℕ → ℕ → ℕ → ℕ → ℕ → Option Field
some_field number wire value start len next =
    Some (record { number = number; wire = wire; value = value; start = start; len = len; next = next })

-- groups may nest to depth 32 (W12)
abbrev pub max_depth : ℕ
max_depth = 32

abbrev pub of_value : ℕ → ℕ → Option Value → Option Field
of_value number wire (Some r) = some_field number wire r.number r.start r.len r.next
of_value number wire None = None

-- a group has no value of its own
abbrev pub of_group : ℕ → ℕ → Option ℕ → Option Field
of_group number at (Some next) = some_field number WireType.group_start 0 at (next - at) next
of_group number at None = None

-- the field with this number and wire type whose tag ends at `at`; a lone end of a group has no value, so it is bad
abbrev pub field_of : List ℕ → ℕ → ℕ → ℕ → Option Field
field_of s number wire at =
    cond (eqb wire WireType.group_start) (of_group number at (group_end max_depth s at number))
    (of_value number wire (value_at s wire at))

abbrev pub of_tag : List ℕ → Option Tag → Option Field
of_tag s (Some r) = field_of s r.number r.wire r.next
of_tag s None = None

-- the field at the place `at` of s
unfoldable pub field_at : List ℕ → ℕ → Option Field
field_at s at = of_tag s (tag_at s at)
