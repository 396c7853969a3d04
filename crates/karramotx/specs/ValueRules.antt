-- What a host is told of an argument is what the frame carries, and what a host gave.
use Rattle.std.specs.Prelude.{ℕ, ◌^◌, ◌<◌, ◌≡◌, Bool, not, cond, ◌&&◌, ◌||◌, List, Option, Some, None, ltb, eqb}
use Rattle.std.specs.Int.{w64}
use Rattle.std.proofs.Common.{to_z}
use Rattle.protocol.specs.Reason as Reason
use Rattle.protocol.specs.Scalars as Scalars
use Rattle.scalar.specs.Zigzag.{unzigzag}
use Rattle.scalar.specs.Argument.{reason_of, signed_of, double_of, float_of, type_of}
use Rattle.scalar.specs.declared.argument.Argument.{Argument}
use Rattle.scalar.specs.declared.argument.Argument.TheVariants as Va
use Rattle.args.specs.Arguments.{next_argument, next_reason, handed_out}
use Rattle.args.specs.declared.arguments.NextArgument.{NextArgument}
use Rattle.message.specs.Frame.{argument_of}
use Rattle.karramotx.specs.Given.{float_limit, given_argument}
use Rattle.karramotx.specs.Value.{next_value_of, numbered, placed, refused_by, value_of}
use Rattle.karramotx.specs.declared.given.Scalar.{Scalar}
use Rattle.karramotx.specs.declared.value.Value.{Value}

-- a scalar of this type
abbrev pub is : ℕ → Scalar → Bool
is kind s = eqb s.kind kind

-- what a host is told of a scalar that it gave, with n bytes beside it
unfoldable pub given : Scalar → ℕ → Value
given s n =
    -- a sint, a uint, the bits of a double, and those of a float if they are 32: the number given
    cond
    (is Scalars.sint s || is Scalars.uint s || is Scalars.double s || (is Scalars.float s && ltb s.value float_limit))
    (numbered s.kind s.value)
    -- null has no number
    (cond (is Scalars.null s) (numbered Scalars.null 0)
    -- a bool is 0, or 1 for any other number
    (cond (is Scalars.bool s) (numbered Scalars.bool (cond (eqb s.value 0) 0 1))
    -- octets and a string are the bytes: place 0, length n
    (cond (is Scalars.octets s || is Scalars.string s) (placed s.kind 0 n)
    -- all else is refused
    (refused_by Reason.bad_payload))))

-- What a host gives is what a host is told. Of doubles and floats every bit is kept, NaNs too (W6), and of those in
-- frames as well: both are `double_of` and `float_of` of the bits.
abbrev pub GivenIsTold : Type 0
GivenIsTold = (s : Scalar) (n : ℕ) → s.value < 2 ^ 64 → value_of (given_argument s n) ≡ given s n

-- a sint is told in two's complement: as an int64_t it is the number
abbrev pub SignedTold : Type 0
SignedTold = (n : ℕ) → n < 2 ^ 64 → to_z w64 (value_of (signed_of n)).value ≡ unzigzag n

-- the number by which the argument is refused, and its Scalar type (H9, A5, A6, L8)
abbrev pub Told : Argument → Type 0
Told a = ((value_of a).reason ≡ reason_of a) × ((value_of a).kind ≡ type_of a)

-- of every argument of every frame, by its index
abbrev pub ToldByIndex : Type 0
ToldByIndex = (frame : List ℕ) (index : ℕ) → Told (argument_of frame index)

-- and in one pass; no argument has no type
abbrev pub next_type : Option NextArgument → ℕ
next_type (Some found) = type_of found.value
next_type None = 0

abbrev pub ToldNext : Option NextArgument → Type 0
ToldNext n = ((next_value_of n).reason ≡ next_reason n) × ((next_value_of n).kind ≡ next_type n)

abbrev pub ToldInPass : Type 0
ToldInPass = (s : List ℕ) (at : ℕ) → ToldNext (next_argument s at)

-- ---- the value

-- the argument that a told value stands for, by its Scalar type: a sint of two's complement, a double and a float of
-- their bits (W6), octets and a string at their place; what is refused has its number alone
unfoldable pub told_argument : Value → Argument
told_argument v =
    cond (eqb v.kind Scalars.sint) (Va.Signed (to_z w64 v.value))
    (cond (eqb v.kind Scalars.uint) (Va.Unsigned v.value)
    (cond (eqb v.kind Scalars.null) Va.Null
    (cond (eqb v.kind Scalars.octets) (Va.Octets v.start v.len)
    (cond (eqb v.kind Scalars.double) (double_of v.value)
    (cond (eqb v.kind Scalars.float) (float_of v.value)
    (cond (eqb v.kind Scalars.bool) (Va.Bool (not (eqb v.value 0)))
    (cond (eqb v.kind Scalars.string) (Va.String v.start v.len) (Va.Refused v.reason))))))))

-- what a host is told of an argument is the argument, to the last bit: by its index (A4)
abbrev pub ValueByIndex : Type 0
ValueByIndex = (frame : List ℕ) (index : ℕ) → told_argument (value_of (argument_of frame index)) ≡ argument_of frame index

-- and in one pass, where an object or an array is refused 8, and the place behind it is told (A7)
abbrev pub ValueNext : Option NextArgument → Type 0
ValueNext (Some found) =
    (told_argument (next_value_of (Some found)) ≡ handed_out found.value)
    × ((next_value_of (Some found)).next ≡ found.next)
ValueNext None = Unit {0}

abbrev pub ValueInPass : Type 0
ValueInPass = (s : List ℕ) (at : ℕ) → ValueNext (next_argument s at)
