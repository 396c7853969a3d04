-- `encode::number::varint_len` meets its contract: zero takes one byte, and of any other number the leading zeros
-- tell. Assumes nothing.
use Rattle.prelude.proofs.Basics.{arith, sym, ap, length}
use lib.Count.{leading_le}
use Rattle.varint.proofs.ShortestLaws.{shortest_last, length_by_zeros}
use Rattle.encode.proofs.number.varint_len.Goals as goal

pub returns-then-v-eq0 : goal.returns-then-v-eq0
returns-then-v-eq0 c = sym (ap length (shortest_last 9 c.args.v (omega arith)))

pub overflow_sub-result : goal.overflow_sub-result
overflow_sub-result c = omega (arith, leading_le 64 c.args.v)

pub returns : goal.returns
returns c = omega (arith, length_by_zeros c.args.v (omega arith) c.ranges.v.fits)
