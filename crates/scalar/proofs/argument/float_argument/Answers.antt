-- The test is the one by which `nan_bits` holds.
use Rattle.prelude.proofs.Basics.{arith}
use lib.Ieee.{binary32}
use Rattle.scalar.proofs.ArgumentLaws.{is_nan_lem, no_nan, asked}
use Rattle.scalar.proofs.argument.float_argument.Goals as goal

pub float_from_bits-result : goal.float_from_bits-result
float_from_bits-result c = asked binary32 c.args.bits ((no_nan binary32 c.args.bits (omega arith)))

pub returns-then-unsigned-gt2139095040 : goal.returns-then-unsigned-gt2139095040
returns-then-unsigned-gt2139095040 c = simp (is_nan_lem binary32 c.args.bits (omega arith))

pub returns-else-unsigned-gt2139095040 : goal.returns-else-unsigned-gt2139095040
returns-else-unsigned-gt2139095040 c = simp ((no_nan binary32 c.args.bits (omega arith)))
