-- `wire::field::tagged` meets its contract: wire type 3 skips a group, any other is a value behind the tag.
-- Assumes nothing.
use Rattle.prelude.proofs.Basics.{ℕ, sym, ap, ◌∙◌, or_none, or_same}
use Rattle.wire.proofs.Names.{value_at, max_depth, of_value, of_group}
use Rattle.wire.proofs.FieldLaws.{field_group, field_value, group_ends}
use Rattle.wire.proofs.PaddedLaws.{number_flag, group_flag}
use Rattle.wire.proofs.ValueLaws.{value_number}
use Rattle.wire.proofs.field.tagged.Goals as goal

pub overflow_sub-result : goal.overflow_sub-result
overflow_sub-result c = group_ends max_depth
    c.args.s.now c.args.at c.args.n (sym c.skip_group.ensures ∙ c.in_ok-next.was)

pub returns-then-wire-eq-GROUP_START : goal.returns-then-wire-eq-GROUP_START
returns-then-wire-eq-GROUP_START c = record {
  answer = ap (of_group c.args.n c.args.at) (sym c.in_ok-next.was ∙ c.skip_group.ensures)
      ∙ field_group c.args.s.now c.args.n c.args.wire c.args.at c.if-wire-eq-GROUP_START.true;
  told = or_none c.args.padded.now (group_flag c.args.s.now c.args.wire c.args.at c.if-wire-eq-GROUP_START.true);
}

pub returns-then-wire-eq-VARINT : goal.returns-then-wire-eq-VARINT
returns-then-wire-eq-VARINT c =
    let w = c.if-wire-eq-VARINT.true in record {
      answer = c.valued.ensures
          ∙ ap (of_value c.args.n 0) (c.number_value.ensures.answer
          ∙ value_number c.args.s.now c.args.wire c.args.at w)
          ∙ ap (λ (k : ℕ). of_value c.args.n k (value_at c.args.s.now c.args.wire c.args.at)) (sym w)
          ∙ field_value c.args.s.now c.args.n c.args.wire c.args.at c.if-wire-eq-GROUP_START.false;
      told = c.number_value.ensures.told
          ∙ or_same c.args.padded.now (number_flag c.args.s.now c.args.wire c.args.at w);
    }

pub returns : goal.returns
returns c = record {
  answer = c.valued-2.ensures
      ∙ ap (of_value c.args.n c.args.wire) c.read_value.ensures.answer
      ∙ field_value c.args.s.now c.args.n c.args.wire c.args.at c.if-wire-eq-GROUP_START.false;
  told = c.read_value.ensures.told;
}
