-- `wire::value::length_value` meets its contract: each arm is one clause of of_length. Assumes nothing.
use Rattle.prelude.proofs.Basics.{arith, sym, ap, ◌∙◌}
use Rattle.wire.proofs.Names.{of_length}
use Rattle.wire.proofs.ValueLaws.{varint_ends, length_long, length_good}
use Rattle.wire.proofs.value.length_value.Goals as goal

pub overflow_sub-s : goal.overflow_sub-s
overflow_sub-s c = omega (
  arith,
  varint_ends c.args.s.now c.args.at (sym c.in_ok-length.was ∙ c.read_varint.ensures.answer),
)

pub returns-then-s-length : goal.returns-then-s-length
returns-then-s-length c = let s = c.args.s.now in record {
  answer = length_long s _ _ c.if-s-length.true ∙ ap (of_length s)
      (sym c.in_ok-length.was ∙ c.read_varint.ensures.answer);
  told = c.read_varint.ensures.told;
}

pub returns : goal.returns
returns c = let s = c.args.s.now in record {
  answer = length_good s _ _ c.if-s-length.false ∙ ap (of_length s)
      (sym c.in_ok-length.was ∙ c.read_varint.ensures.answer);
  told = c.read_varint.ensures.told;
}
