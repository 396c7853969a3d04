-- Padded fields (W19): the varints that are a field's own are its tag and, by its wire type, its number or its length.
-- Of a group only the start tag counts.
use Rattle.std.specs.Prelude.{ℕ, Bool, false, cond, ◌||◌, List, eqb}
use Rattle.protocol.specs.WireType as WireType
use Rattle.varint.specs.Padded.{padded_at}
use Rattle.wire.specs.Tag.{tag_at}
use Rattle.wire.specs.declared.tag.Tag.{Tag}
use Rattle.std.specs.Prelude.{Option, Some, None}

-- the number or the length at the place `at`; a value of another wire type has no varint of its own
abbrev pub value_padded : List ℕ → ℕ → ℕ → Bool
value_padded s wire at =
    cond (eqb wire WireType.varint) (padded_at s at) (cond (eqb wire WireType.len) (padded_at s at) false)

abbrev pub behind_tag : List ℕ → Option Tag → Bool
behind_tag s (Some r) = value_padded s r.wire r.next
behind_tag s None = false

-- of the field at the place `at` of s
unfoldable pub field_padded : List ℕ → ℕ → Bool
field_padded s at = padded_at s at || behind_tag s (tag_at s at)
