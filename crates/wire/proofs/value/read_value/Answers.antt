-- `wire::value::read_value` meets its contract: each wire type has its reader, one law for each. Assumes nothing.
use Rattle.prelude.proofs.Basics.{arith, ap, ◌∙◌, or_none, or_same}
use Rattle.wire.proofs.Names.{of_fixed}
use Rattle.wire.proofs.ValueLaws.{value_number, value_eight, value_length, value_four, value_none}
use Rattle.wire.proofs.PaddedLaws.{number_flag, length_flag, no_flag}
use Rattle.wire.proofs.value.read_value.Goals as goal

pub returns-then-wire-eq-VARINT : goal.returns-then-wire-eq-VARINT
returns-then-wire-eq-VARINT c = record {
  answer = c.number_value.ensures.answer ∙ value_number _ _ _ c.if-wire-eq-VARINT.true;
  told = c.number_value.ensures.told ∙ or_same c.args.padded.now
      (number_flag c.args.s.now c.args.wire c.args.at c.if-wire-eq-VARINT.true);
}

pub returns-then-wire-eq-I64 : goal.returns-then-wire-eq-I64
returns-then-wire-eq-I64 c = record {
  answer = c.fixed_value.ensures
      ∙ ap (of_fixed 8 c.args.at) c.read_fixed64.ensures
      ∙ value_eight _ _ _ c.if-wire-eq-VARINT.false c.if-wire-eq-I64.true;
  told = or_none c.args.padded.now
      (no_flag c.args.s.now c.args.wire c.args.at c.if-wire-eq-VARINT.false (λ z. absurd (omega (
        arith,
        c.if-wire-eq-I64.true,
      ))));
}

pub returns-then-wire-eq-LEN : goal.returns-then-wire-eq-LEN
returns-then-wire-eq-LEN c = record {
  answer = c.length_value.ensures.answer
      ∙ value_length _ _ _ c.if-wire-eq-VARINT.false c.if-wire-eq-I64.false c.if-wire-eq-LEN.true;
  told = c.length_value.ensures.told ∙ or_same c.args.padded.now
      (length_flag c.args.s.now c.args.wire c.args.at c.if-wire-eq-LEN.true);
}

pub returns-then-wire-eq-I32 : goal.returns-then-wire-eq-I32
returns-then-wire-eq-I32 c =
    let zero = c.if-wire-eq-VARINT.false in record {
      answer = c.fixed_value-then-wire-eq-I32.ensures
          ∙ ap (of_fixed 4 c.args.at) c.read_fixed32.ensures
          ∙ value_four _ _ _ zero c.if-wire-eq-I64.false c.if-wire-eq-LEN.false c.if-wire-eq-I32.true;
      told = or_none c.args.padded.now (no_flag c.args.s.now c.args.wire c.args.at zero c.if-wire-eq-LEN.false);
    }

pub returns : goal.returns
returns c =
    let zero = c.if-wire-eq-VARINT.false in record {
      answer =
          value_none _ _ _ zero c.if-wire-eq-I64.false c.if-wire-eq-LEN.false c.if-wire-eq-I32.false;
      told =
          or_none c.args.padded.now (no_flag c.args.s.now c.args.wire c.args.at zero c.if-wire-eq-LEN.false);
    }
