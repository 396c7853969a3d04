-- `wire::value::number_value` meets its contract: each arm is one clause of of_varint. Assumes nothing.
use Rattle.prelude.proofs.Basics.{arith, sym, ap, ◌∙◌}
use Rattle.wire.proofs.Names.{of_varint}
use Rattle.wire.proofs.ValueLaws.{varint_ends}
use Rattle.wire.proofs.value.number_value.Goals as goal

pub overflow_sub-result : goal.overflow_sub-result
overflow_sub-result c = omega (
  arith,
  varint_ends c.args.s.now c.args.at (sym c.in_ok-read.was ∙ c.read_varint.ensures.answer),
)

pub returns : goal.returns
returns c = record {
  answer = ap (of_varint c.args.at)
      (sym c.in_ok-read.was ∙ c.read_varint.ensures.answer);
  told = c.read_varint.ensures.told;
}
