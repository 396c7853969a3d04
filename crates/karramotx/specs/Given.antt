-- A scalar that a host gives as numbers (L8, W4, W6, C12): a sint in two's complement, the bits of a double or a float,
-- a bool that is true for any number but 0. Octets and strings are all of the bytes handed in beside it.
use Rattle.std.specs.Prelude.{ℕ, ◌^◌, not, cond, ltb, eqb}
use Rattle.std.specs.Int.{w64}
use Rattle.std.proofs.Common.{to_z}
use Rattle.protocol.specs.Reason as Reason
use Rattle.protocol.specs.Scalars as Scalars
use Rattle.scalar.specs.Argument.{double_of, float_of}
use Rattle.scalar.specs.declared.argument.Argument.{Argument}
use Rattle.scalar.specs.declared.argument.Argument.TheVariants as Va
use Rattle.karramotx.specs.declared.given.Scalar.{Scalar}

-- a sint of its two's complement bits
abbrev pub signed_of_bits : ℕ → Argument
signed_of_bits bits = Va.Signed (to_z w64 bits)

-- a float has 32 bits; a larger number is none
abbrev pub float_limit : ℕ
float_limit = 2 ^ 32

abbrev pub float_of_bits : ℕ → Argument
float_of_bits bits = cond (ltb bits float_limit) (float_of bits) (Va.Refused Reason.bad_payload)

-- by the Scalar type; a number that is none is refused
unfoldable pub of_kind : ℕ → ℕ → ℕ → Argument
of_kind kind value n =
    cond (eqb kind Scalars.sint) (signed_of_bits value)
    (cond (eqb kind Scalars.uint) (Va.Unsigned value)
    (cond (eqb kind Scalars.null) Va.Null
    (cond (eqb kind Scalars.octets) (Va.Octets 0 n)
    (cond (eqb kind Scalars.double) (double_of value)
    (cond (eqb kind Scalars.float) (float_of_bits value)
    (cond (eqb kind Scalars.bool) (Va.Bool (not (eqb value 0)))
    (cond (eqb kind Scalars.string) (Va.String 0 n) (Va.Refused Reason.bad_payload))))))))

abbrev pub given_argument : Scalar → ℕ → Argument
given_argument s n = of_kind s.kind s.value n
