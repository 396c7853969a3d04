-- An argument's number and values (A4, L8, W6, H9).
use Rattle.std.specs.Prelude.{ℕ, cond, List, [], ◌∷◌, from_bits, to_bits, Float}
use Rattle.std.specs.Float.{Format, binary32, binary64}
use Rattle.std.specs.Float.Ieee.{nan_bits}
use Rattle.protocol.specs.Reason as Reason
use Rattle.protocol.specs.Scalars as Scalars
use Rattle.scalar.specs.declared.argument.Argument.{Argument}
use Rattle.scalar.specs.declared.argument.Argument.TheVariants as Va
use Rattle.scalar.specs.Zigzag.{zigzag, unzigzag}

-- the sint64 of a zigzag number
abbrev pub signed_of : ℕ → Argument
signed_of n = Va.Signed (unzigzag n)

-- bits in a format: a number, or a NaN, which stays bits
abbrev pub carried : Format → (ℕ → Argument) → (Float → Argument) → ℕ → Argument
carried f raw number n = cond (nan_bits f n) (raw n) (number (from_bits f n))

-- the double of 64 bits
abbrev pub double_of : ℕ → Argument
double_of n = carried binary64 Va.DoubleNan Va.Double n

-- the float of 32 bits
abbrev pub float_of : ℕ → Argument
float_of n = carried binary32 Va.FloatNan Va.Float n

-- the reason by which an argument is refused, or 0: an object and an array are refused 8
abbrev pub reason_of : Argument → ℕ
reason_of (Va.Signed z) = Reason.accepted
reason_of (Va.Unsigned n) = Reason.accepted
reason_of Va.Null = Reason.accepted
reason_of (Va.Octets start len) = Reason.accepted
reason_of (Va.Double d) = Reason.accepted
reason_of (Va.DoubleNan n) = Reason.accepted
reason_of (Va.Float d) = Reason.accepted
reason_of (Va.FloatNan n) = Reason.accepted
reason_of (Va.Bool b) = Reason.accepted
reason_of (Va.String start len) = Reason.accepted
reason_of Va.Object = Reason.not_scalar
reason_of Va.Array = Reason.not_scalar
reason_of (Va.Refused n) = n

-- the Scalar type, or 0 where there is no scalar
abbrev pub type_of : Argument → ℕ
type_of (Va.Signed z) = Scalars.sint
type_of (Va.Unsigned n) = Scalars.uint
type_of Va.Null = Scalars.null
type_of (Va.Octets start len) = Scalars.octets
type_of (Va.Double d) = Scalars.double
type_of (Va.DoubleNan n) = Scalars.double
type_of (Va.Float d) = Scalars.float
type_of (Va.FloatNan n) = Scalars.float
type_of (Va.Bool b) = Scalars.bool
type_of (Va.String start len) = Scalars.string
type_of Va.Object = 0
type_of Va.Array = 0
type_of (Va.Refused n) = 0

-- the values as a frame carries them: a sint as its zigzag, a double and a float as bits, bytes as place and length
abbrev pub values_of : Argument → List ℕ
values_of (Va.Signed z) = zigzag z ∷ []
values_of (Va.Unsigned n) = n ∷ []
values_of Va.Null = []
values_of (Va.Octets start len) = start ∷ len ∷ []
values_of (Va.Double d) = to_bits binary64 d ∷ []
values_of (Va.DoubleNan n) = n ∷ []
values_of (Va.Float d) = to_bits binary32 d ∷ []
values_of (Va.FloatNan n) = n ∷ []
values_of (Va.Bool b) = cond b 1 0 ∷ []
values_of (Va.String start len) = start ∷ len ∷ []
values_of Va.Object = []
values_of Va.Array = []
values_of (Va.Refused n) = []
