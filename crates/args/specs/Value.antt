-- The value of one argument (L7, L8, L9, L10): an Any of type 1 must have its scalar; Scalar types 1 to 8 are sint,
-- uint, null, octets, double, float, bool, string; the named value must be present, null has none; octets and string
-- hold required bytes in field 1. A scalar, octets and string may come in parts, which are merged (W15). What a type
-- does not choose is skipped unread, in every part.
use Rattle.std.specs.Prelude.{ℕ, ◌+◌, Bool, true, false, not, cond, List, take, eqb}
use Rattle.protocol.specs.Anys as Anys
use Rattle.protocol.specs.Fields as Fields
use Rattle.protocol.specs.Reason as Reason
use Rattle.protocol.specs.Scalars as Scalars
use Rattle.scalar.specs.Argument.{signed_of, double_of, float_of}
use Rattle.scalar.specs.declared.argument.Argument.{Argument}
use Rattle.scalar.specs.declared.argument.Argument.TheVariants as Va
use Rattle.layout.specs.Table.{rows_of, any, scalar, bytes}
use Rattle.layout.specs.declared.part.Part.{Part}
use Rattle.layout.specs.declared.slots.Slots.{Slots}
use Rattle.layout.specs.Part.{embedded, count_of, value_of, start_of, len_of, low32}
use Rattle.layout.specs.Merged.{parts_of, parts_in, merged}

-- a bad payload
abbrev pub bad : Argument
bad = Va.Refused Reason.bad_payload

-- the value named must be present
abbrev pub present : ℕ → Argument → Argument
present count a = cond (eqb count 0) bad a

-- the bytes of an octets or string message
abbrev pub bytes_of : Bool → Slots → Argument
bytes_of octets x =
    cond x.good
    (cond octets (Va.Octets (start_of x Fields.bytes) (len_of x Fields.bytes))
    (Va.String (start_of x Fields.bytes) (len_of x Fields.bytes)))
    bad

-- such a message in these parts
abbrev pub bytes_in : Bool → List ℕ → List Part → Argument
bytes_in octets s ps = bytes_of octets (merged (rows_of bytes) s ps)

-- the message of the octets or the string, in a field of each part of the Scalar
abbrev pub bytes_by : Bool → List ℕ → List Part → Slots → ℕ → Argument
bytes_by octets s ps x field = present (count_of x field) (bytes_in octets s (parts_in field s ps))

-- by the type of the Scalar in these parts
unfoldable pub of_type : List ℕ → List Part → Slots → ℕ → Argument
of_type s ps x t =
    cond (eqb t Scalars.sint) (present (count_of x Scalars.sint_field) (signed_of (value_of x Scalars.sint_field)))
    (cond (eqb t Scalars.uint) (present (count_of x Scalars.uint_field) (Va.Unsigned (value_of x Scalars.uint_field)))
    (cond (eqb t Scalars.null) Va.Null
    (cond (eqb t Scalars.octets) (bytes_by true s ps x Scalars.octets_field)
    (cond (eqb t Scalars.double) (present (count_of x Scalars.double_field) (double_of (value_of x Scalars.double_field)))
    (cond (eqb t Scalars.float)
    (present (count_of x Scalars.float_field) (float_of (low32 (value_of x Scalars.float_field))))
    (cond (eqb t Scalars.bool)
    (present (count_of x Scalars.bool_field) (Va.Bool (not (eqb (value_of x Scalars.bool_field) 0))))
    (cond (eqb t Scalars.string) (bytes_by false s ps x Scalars.string_field) bad)))))))

unfoldable pub scalar_of : List ℕ → List Part → Slots → Argument
scalar_of s ps x = cond x.good (of_type s ps x (low32 (value_of x Fields.type))) bad

-- the Scalar in these parts of s
abbrev pub scalar_in : List ℕ → List Part → Argument
scalar_in s ps = scalar_of s ps (merged (rows_of scalar) s ps)

-- by the Any's type: 1 scalar, which stands in these parts, 2 object, 3 array (L7)
unfoldable pub of_any_type : List ℕ → List Part → Slots → ℕ → Argument
of_any_type s ps x t =
    cond (eqb t Anys.scalar) (present (count_of x Anys.scalar_field) (scalar_in s ps))
    (cond (eqb t Anys.object) Va.Object (cond (eqb t Anys.array) Va.Array bad))

unfoldable pub any_of : List ℕ → List Part → Slots → Argument
any_of s ps x = cond x.good (of_any_type s ps x (low32 (value_of x Fields.type))) bad

-- the parts of the scalar of the Any in n bytes of s from the place `at` on
abbrev pub scalar_parts : List ℕ → ℕ → ℕ → List Part
scalar_parts s at n = parts_of Anys.scalar_field (take (at + n) s) at

-- the argument that this Any is
abbrev pub argument_in : List ℕ → ℕ → ℕ → Argument
argument_in s at n = any_of s (scalar_parts s at n) (embedded (rows_of any) s at n)
