-- `layout::found::Found::fill_fields` meets its contract: the fields are listed, and each required one is among them.
-- Assumes nothing.
use Rattle.layout.specs.Row.{columns_of}
use Rattle.prelude.proofs.Basics.{arith, refl, ◌∙◌, length-take, or_none, or_same}
use Rattle.layout.proofs.Names.{no_slots}
use Rattle.layout.proofs.FieldsLaws.{holds_none, holds_outside, holds_inside}
use Rattle.layout.proofs.PaddedLaws.{padded_outside, padded_inside}
use Rattle.layout.proofs.found.Found.fill_fields.Goals as goal

pub returns-then-s-end : goal.returns-then-s-end
returns-then-s-end c = record {
  holds =
      holds_outside (columns_of c.args.rows.now) c.args.s.now c.args.from c.args.end c.if-s-end.true c.clear.ensures;
  told =
      or_none c.args.padded.now (padded_outside c.args.s.now c.args.from c.args.end c.if-s-end.true);
}

pub slice_bounds-list_fields-end : goal.slice_bounds-list_fields-end
slice_bounds-list_fields-end c = omega
    (arith, length-take c.args.end c.args.s.now, c.if-s-end.false)

pub returns : goal.returns
returns c = record {
  holds = holds_inside (columns_of c.args.rows.now) c.args.s.now c.args.from c.args.end c.if-s-end.false
      (c.settle.ensures.message _ ((c.list_fields-good.ensures.listed.onto no_slots refl
      (holds_none c.clear.ensures))));
  told = (
      c.list_fields-good.ensures.told
      ∙ or_same c.args.padded.now (padded_inside c.args.s.now c.args.from c.args.end c.if-s-end.false));
}
