-- Twice the bits, and for a negative number the complement of that, are its zigzag.
use Rattle.prelude.proofs.Basics.{◌+◌, ◌-◌, ◌%◌, ◌^◌, arith, ◌∙◌, refl}
use Rattle.scalar.proofs.SignedLaws.{same_bits}
use Rattle.scalar.proofs.ZigzagLaws.{encode_low, encode_high}
use Rattle.scalar.proofs.zigzag.zigzag_encode.Goals as goal

pub returns-then-bits-lt9223372036854775808 : goal.returns-then-bits-lt9223372036854775808
returns-then-bits-lt9223372036854775808 c =
    let b = c.to_bits-bits.result in
    encode_low b ((b + b) % 2 ^ 64) refl c.args.v c.ranges.v
    (c.to_bits-bits.ensures ∙ same_bits c.args.v c.ranges.v) c.if-bits-lt9223372036854775808.true

pub returns-else-bits-lt9223372036854775808 : goal.returns-else-bits-lt9223372036854775808
returns-else-bits-lt9223372036854775808 c =
    let b = c.to_bits-bits.result in
    encode_high b ((b + b) % 2 ^ 64) refl c.args.v ((2 ^ 64 - 1 + (2 ^ 64 - (b + b) % 2 ^ 64)) % 2 ^ 64) c.ranges.v
    (c.to_bits-bits.ensures ∙ same_bits c.args.v c.ranges.v) c.if-bits-lt9223372036854775808.false
    (omega arith) (omega arith)
