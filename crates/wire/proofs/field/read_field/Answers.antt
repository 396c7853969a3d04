-- `wire::field::read_field` meets its contract: a tag of one byte is judged by that byte; the rest goes the long way.
-- Assumes nothing.
use Rattle.prelude.proofs.Basics.{ℕ, arith, sym, ap, ◌∙◌, List, length}
use Rattle.prelude.proofs.Basics.{take-length, or_none, or_same}
use Rattle.wire.proofs.Names.{of_value, field_at, field_padded}
use Rattle.wire.proofs.FieldLaws.{quick_none, quick_low, quick_wire}
use Rattle.wire.proofs.PaddedLaws.{quick_flag_none, quick_flag_low, quick_flag}
use Rattle.wire.proofs.field.read_field.Goals as goal

pub returns-then-n-at : goal.returns-then-n-at
returns-then-n-at c = record {
  answer = quick_none c.args.s.now c.args.at c.if-n-at.true;
  told =
      or_none c.args.padded.now (quick_flag_none c.args.s.now c.args.at c.if-n-at.true);
}

pub returns-then-tag-lt8 : goal.returns-then-tag-lt8
returns-then-tag-lt8 c =
    let inside = c.if-n-at.false in record {
      answer = quick_low c.args.s.now c.args.at c.from-tag.result inside c.from-tag.ensures
          (omega arith) c.if-tag-lt8.true;
      told = or_none c.args.padded.now
          (quick_flag_low c.args.s.now c.args.at c.from-tag.result inside c.from-tag.ensures
          (omega arith) c.if-tag-lt8.true);
    }

pub returns-then-wire-eq-VARINT : goal.returns-then-wire-eq-VARINT
returns-then-wire-eq-VARINT c = let inside = c.if-n-at.false in record {
  answer = (c.valued.ensures ∙ ap (of_value _ 0) c.number_value.ensures.answer)
      ∙ quick_wire c.args.s.now c.args.at c.from-tag.result inside c.from-tag.ensures c.if-tag-lt128.true 0
      c.if-tag-lt8.false c.if-wire-eq-VARINT.true
      (omega arith);
  told = c.number_value.ensures.told ∙ or_same c.args.padded.now
      (quick_flag c.args.s.now c.args.at c.from-tag.result inside c.from-tag.ensures c.if-tag-lt128.true 0
      c.if-tag-lt8.false c.if-wire-eq-VARINT.true
      (omega arith));
}

pub returns-then-wire-eq-LEN : goal.returns-then-wire-eq-LEN
returns-then-wire-eq-LEN c = let inside = c.if-n-at.false in record {
  answer = (c.valued-then-wire-eq-LEN.ensures ∙ ap (of_value _ 2) c.length_value.ensures.answer)
      ∙ quick_wire c.args.s.now c.args.at c.from-tag.result inside c.from-tag.ensures c.if-tag-lt128.true 2
      c.if-tag-lt8.false c.if-wire-eq-LEN.true
      (omega arith);
  told = c.length_value.ensures.told ∙ or_same c.args.padded.now
      (quick_flag c.args.s.now c.args.at c.from-tag.result inside c.from-tag.ensures c.if-tag-lt128.true 2
      c.if-tag-lt8.false c.if-wire-eq-LEN.true
      (omega arith));
}

pub slice_bounds-long_field-end : goal.slice_bounds-long_field-end
slice_bounds-long_field-end c = sym (ap length (take-length c.args.s.now))

pub returns : goal.returns
returns c =
    let whole = take-length c.args.s.now in record {
      answer =
          c.long_field.ensures.answer ∙ ap (λ (l : List ℕ). field_at l c.args.at) whole;
      told =
          c.long_field.ensures.told ∙ or_same c.args.padded.now (ap (λ (l : List ℕ). field_padded l c.args.at) whole);
    }
