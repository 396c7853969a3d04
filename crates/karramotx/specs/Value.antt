-- An argument as numbers (A4, L8, W6).
use Rattle.std.specs.Prelude.{ℕ, cond, Option, Some, None, Float}
use Rattle.std.specs.Int.{w64}
use Rattle.std.proofs.Common.{of_z}
use Rattle.std.specs.Float.{binary32, binary64}
use Rattle.std.specs.Float.Ieee.{to_bits, is_nan}
use Rattle.protocol.specs.Reason as Reason
use Rattle.protocol.specs.Scalars as Scalars
use Rattle.scalar.specs.declared.argument.Argument.{Argument}
use Rattle.scalar.specs.declared.argument.Argument.TheVariants as Va
use Rattle.args.specs.declared.arguments.NextArgument.{NextArgument}
use Rattle.karramotx.specs.declared.value.Value.{Value}

-- a scalar that is a number, of a Scalar type
abbrev pub numbered : ℕ → ℕ → Value
numbered kind value = record { reason = Reason.accepted; kind = kind; value = value; start = 0; len = 0; next = 0 }

-- a scalar that is bytes of the frame, by their place and length
abbrev pub placed : ℕ → ℕ → ℕ → Value
placed kind start len = record { reason = Reason.accepted; kind = kind; value = 0; start = start; len = len; next = 0 }

abbrev pub refused_by : ℕ → Value
refused_by reason = record { reason = reason; kind = 0; value = 0; start = 0; len = 0; next = 0 }

-- a double as its 64 bits, a float as its 32; a NaN has no bits here (no argument that is read is one: `DoubleNan` has
-- its bits)
abbrev pub double_value : Float → Value
double_value d = cond (is_nan d) (refused_by Reason.bad_payload) (numbered Scalars.double (to_bits binary64 d))

abbrev pub float_value : Float → Value
float_value d = cond (is_nan d) (refused_by Reason.bad_payload) (numbered Scalars.float (to_bits binary32 d))

-- a sint in two's complement, a bool as 0 or 1
abbrev pub value_of : Argument → Value
value_of (Va.Signed z) = numbered Scalars.sint (of_z w64 z)
value_of (Va.Unsigned n) = numbered Scalars.uint n
value_of Va.Null = numbered Scalars.null 0
value_of (Va.Octets start len) = placed Scalars.octets start len
value_of (Va.Double d) = double_value d
value_of (Va.DoubleNan n) = numbered Scalars.double n
value_of (Va.Float d) = float_value d
value_of (Va.FloatNan n) = numbered Scalars.float n
value_of (Va.Bool b) = numbered Scalars.bool (cond b 1 0)
value_of (Va.String start len) = placed Scalars.string start len
value_of Va.Object = refused_by Reason.not_scalar
value_of Va.Array = refused_by Reason.not_scalar
value_of (Va.Refused n) = refused_by n

abbrev pub with_next : Value → ℕ → Value
with_next v next =
    record { reason = v.reason; kind = v.kind; value = v.value; start = v.start; len = v.len; next = next }

-- the next argument: refused or not, the place behind it is told; 9 where there is none
abbrev pub next_value_of : Option NextArgument → Value
next_value_of (Some found) = with_next (value_of found.value) found.next
next_value_of None = refused_by Reason.few_arguments
