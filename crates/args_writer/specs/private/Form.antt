-- What the code makes of an argument before it writes it: the type of its Scalar, and the field with its value. These
-- are of the private functions' contracts; what is promised does not cite them.
use Rattle.std.specs.Prelude.{ℕ, ◌+◌, ◌≡◌, true, false, Option, Some, None, List, [], length, take, drop, leb}
use Rattle.protocol.specs.Fields as Fields
use Rattle.protocol.specs.Scalars as Scalars
use Rattle.protocol.specs.WireType as WireType
use Rattle.scalar.specs.Argument.{type_of}
use Rattle.scalar.specs.declared.argument.Argument.{Argument}
use Rattle.encode.specs.Field.{number_field, bytes_field, fixed_field}
use Rattle.args_writer.specs.Scalar.{writable, value_field}
use Rattle.args_writer.specs.declared.form.Form.{Form}
use Rattle.args_writer.specs.declared.form.Value.{Value}

-- the field of a value; bytes stand in the one field of a message
abbrev pub value_in : Value → List ℕ
value_in Value.Absent = []
value_in (Value.Number num value) = number_field num value
value_in (Value.Double bits) = fixed_field Scalars.double_field WireType.i64 8 bits
value_in (Value.Float bits) = fixed_field Scalars.float_field WireType.i32 4 bits
value_in (Value.Bytes num bytes) = bytes_field num (bytes_field Fields.bytes bytes.now)

-- a form of this type, and with this field
abbrev pub Holds : ℕ → List ℕ → Form → Type 0
Holds kind field form = (form.kind ≡ kind) × (value_in form.value ≡ field)

-- what can be written has a form, with its type and the field of its value; nothing else has one
abbrev pub Forms : Argument → List ℕ → Option Form → Type 0
Forms a src None = writable a src ≡ false
Forms a src (Some form) = (writable a src ≡ true) × Holds (type_of a) (value_field a src) form

-- the same of bytes by their place and length
abbrev pub FormsBytes : ℕ → ℕ → List ℕ → ℕ → ℕ → Option Form → Type 0
FormsBytes kind num src start len None = leb (start + len) (length src) ≡ false
FormsBytes kind num src start len (Some form) =
    (leb (start + len) (length src) ≡ true)
    × Holds kind (bytes_field num (bytes_field Fields.bytes (take len (drop start src)))) form
