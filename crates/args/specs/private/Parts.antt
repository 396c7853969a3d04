-- Scalars, octets and strings in parts, as the functions of this crate tell each other of them. For contracts inside
-- the library; what is promised does not cite it.
use Rattle.std.specs.Prelude.{ℕ, ◌-◌, Bool, true, false, cond, List, length}
use Rattle.protocol.specs.Anys as Anys
use Rattle.protocol.specs.Scalars as Scalars
use Rattle.scalar.specs.declared.argument.Argument.{Argument}
use Rattle.scalar.specs.declared.argument.Argument.TheVariants as Va
use Rattle.layout.specs.declared.part.Part.{Part}
use Rattle.args.specs.declared.value.Bytes.{Bytes}
use Rattle.args.specs.declared.value.Standing.{Standing}
use Rattle.layout.specs.Merged.{one_part, parts_of}

abbrev pub is_whole : Standing → Bool
is_whole Standing.Whole = true
is_whole Standing.InParts = false

-- the parts of a Scalar: the whole, from the place `at` to the end of s, or the scalars of an Any that goes so far
abbrev pub scalar_by : Bool → List ℕ → ℕ → List Part
scalar_by true s at = one_part at (length s - at)
scalar_by false s at = parts_of Anys.scalar_field s at

-- the kinds of bytes, and the field of a Scalar that holds each
abbrev pub is_octets : Bytes → Bool
is_octets Bytes.Octets = true
is_octets Bytes.String = false

abbrev pub bytes_field : Bytes → ℕ
bytes_field Bytes.Octets = Scalars.octets_field
bytes_field Bytes.String = Scalars.string_field

-- the bytes of a good octets or string message
abbrev pub placed_bytes : Bool → ℕ → ℕ → Argument
placed_bytes octets start len = cond octets (Va.Octets start len) (Va.String start len)
