-- The test is the one by which `nan_bits` holds.
use Rattle.prelude.proofs.Basics.{arith}
use lib.Ieee.{binary64}
use Rattle.scalar.proofs.ArgumentLaws.{is_nan_lem, no_nan, asked}
use Rattle.scalar.proofs.argument.double_argument.Goals as goal

pub float_from_bits-result : goal.float_from_bits-result
float_from_bits-result c = asked binary64 c.args.bits ((no_nan binary64 c.args.bits (omega arith)))

pub returns-then-unsigned-gt9218868437227405312 : goal.returns-then-unsigned-gt9218868437227405312
returns-then-unsigned-gt9218868437227405312 c = simp (is_nan_lem binary64 c.args.bits (omega arith))

pub returns-else-unsigned-gt9218868437227405312 : goal.returns-else-unsigned-gt9218868437227405312
returns-else-unsigned-gt9218868437227405312 c = simp ((no_nan binary64 c.args.bits (omega arith)))
