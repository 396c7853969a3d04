-- One scalar as an args field (C11, L1): known fields in number order, shortest varints.
use Rattle.std.specs.Prelude.{ℕ, ◌+◌, Bool, true, false, not, cond, List, [], ◌++◌, length, take, drop, leb}
use Rattle.std.specs.Float.{binary32, binary64}
use Rattle.std.specs.Float.Ieee.{to_bits, nan_bits, is_nan}
use Rattle.scalar.specs.Zigzag.{zigzag}
use Rattle.scalar.specs.Argument.{type_of}
use Rattle.scalar.specs.declared.argument.Argument.{Argument}
use Rattle.scalar.specs.declared.argument.Argument.TheVariants as Va
use Rattle.protocol.specs.Anys as Anys
use Rattle.protocol.specs.Fields as Fields
use Rattle.protocol.specs.Scalars as Scalars
use Rattle.encode.specs.Field.{number_field, bytes_field}
use Rattle.encode.specs.Field.{fixed_field}

-- the bytes of s that an octets or string scalar names by place and length; others name none
abbrev pub bytes_of : Argument → List ℕ → List ℕ
bytes_of (Va.Octets start len) s = take len (drop start s)
bytes_of (Va.String start len) s = take len (drop start s)
bytes_of (Va.Signed z) s = []
bytes_of (Va.Unsigned n) s = []
bytes_of Va.Null s = []
bytes_of (Va.Double d) s = []
bytes_of (Va.DoubleNan n) s = []
bytes_of (Va.Float d) s = []
bytes_of (Va.FloatNan n) s = []
bytes_of (Va.Bool b) s = []
bytes_of Va.Object s = []
bytes_of Va.Array s = []
bytes_of (Va.Refused n) s = []

-- a scalar that can be written: one whose bytes, if it has any, stand in src, and that the reader gives. The reader
-- keeps a NaN as its bits, so that a double or float that is a NaN itself, and bits that are no NaN's, would not read
-- back as they are
abbrev pub writable : Argument → List ℕ → Bool
writable (Va.Octets start len) src = leb (start + len) (length src)
writable (Va.String start len) src = leb (start + len) (length src)
writable (Va.Signed z) src = true
writable (Va.Unsigned n) src = true
writable Va.Null src = true
writable (Va.Double d) src = not (is_nan d)
writable (Va.DoubleNan n) src = nan_bits binary64 n
writable (Va.Float d) src = not (is_nan d)
writable (Va.FloatNan n) src = nan_bits binary32 n
writable (Va.Bool b) src = true
writable Va.Object src = false
writable Va.Array src = false
writable (Va.Refused n) src = false

-- the field of a Scalar with the value. Octets and string are messages that hold the bytes in field 1; null has no
-- value (L8, L9)
abbrev pub value_field : Argument → List ℕ → List ℕ
value_field (Va.Signed z) src = number_field Scalars.sint_field (zigzag z)
value_field (Va.Unsigned n) src = number_field Scalars.uint_field n
value_field Va.Null src = []
value_field (Va.Octets start len) src =
    bytes_field Scalars.octets_field (bytes_field Fields.bytes (take len (drop start src)))
value_field (Va.Double d) src = fixed_field Scalars.double_field 1 8 (to_bits binary64 d)
value_field (Va.DoubleNan n) src = fixed_field Scalars.double_field 1 8 n
value_field (Va.Float d) src = fixed_field Scalars.float_field 5 4 (to_bits binary32 d)
value_field (Va.FloatNan n) src = fixed_field Scalars.float_field 5 4 n
value_field (Va.Bool b) src = number_field Scalars.bool_field (cond b 1 0)
value_field (Va.String start len) src =
    bytes_field Scalars.string_field (bytes_field Fields.bytes (take len (drop start src)))
value_field Va.Object src = []
value_field Va.Array src = []
value_field (Va.Refused n) src = []

-- a Scalar of type t with the field of its value, in an Any of type 1, in an args field
unfoldable pub scalar_bytes : ℕ → List ℕ → List ℕ
scalar_bytes t value = number_field Fields.type t ++ value

unfoldable pub any_bytes : ℕ → List ℕ → List ℕ
any_bytes t value = number_field Fields.type Anys.scalar ++ bytes_field Anys.scalar_field (scalar_bytes t value)

abbrev pub arg_bytes : ℕ → List ℕ → List ℕ
arg_bytes t value = bytes_field Fields.args (any_bytes t value)

-- the args field of a scalar, whose bytes are those of src
abbrev pub arg_field : Argument → List ℕ → List ℕ
arg_field a src = arg_bytes (type_of a) (value_field a src)
