-- `layout::found::Found::list_fields` meets its contract: each turn reads the field at the place and notes it by its
-- row. Assumes nothing.
use Rattle.layout.specs.Row.{columns_of}
use Rattle.prelude.proofs.Basics.{◌<◌, arith, refl, sym, ◌∙◌, length, or_false}
use Rattle.wire.proofs.NumberLaws.{field_number}
use Rattle.layout.proofs.Names.{nothing_inside}
use Rattle.layout.proofs.FieldsLaws.{filling, filled, spoiled, fills_unknown, fills_counted, fills_kept}
use Rattle.layout.proofs.FieldsLaws.{counted_slot, kept_slot}
use Rattle.layout.proofs.PaddedLaws.{marks, marked, marks_bad, marks_on, field_ahead}
use Rattle.layout.proofs.found.Found.list_fields.Goals as goal

pub loop-p-init : goal.loop-p-init
loop-p-init g c = (
  λ x h n. filling (columns_of c.args.rows.now) c.args.s.now c.args.from x h n,
  marks nothing_inside c.args.s.now c.args.from c.args.padded.now,
)

pub returns-in_default : goal.returns-in_default
returns-in_default g c = let bad = (sym c.read.ensures.answer ∙ c.in_default.is) in record {
  listed =
      record { onto = λ x h n. spoiled (c.loop-p.invariant.0 x h n) c.loop-p-test.true bad };
  told =
      marks_bad c.loop-p.invariant.1 c.loop-p-test.true bad refl c.read.ensures.told;
}

pub use_of-requires : goal.use_of-requires
use_of-requires g c = field_number c.args.s.now _
    ((sym c.read.ensures.answer ∙ c.in-Some.is))

pub count-requires : goal.count-requires
count-requires g c = (counted_slot (columns_of c.args.rows.now) c.in-Some.field.number c.in-Some.field.wire c.in-Some.field.value
    (sym c.in-Counted.is ∙ c.use_of.ensures))

pub keep-requires : goal.keep-requires
keep-requires g c = (kept_slot (columns_of c.args.rows.now) c.in-Some.field.number c.in-Some.field.wire c.in-Some.field.value
    (sym c.in-Kept.is ∙ c.use_of.ensures))

pub loop-p-smaller-in-Unknown : goal.loop-p-smaller-in-Unknown
loop-p-smaller-in-Unknown g c = let w : (c.loop-p.p < c.in-Some.field.next)
    × (c.loop-p.p < length c.args.s.now) = (
      field_ahead c.args.s.now c.loop-p.p ((sym c.read.ensures.answer ∙ c.in-Some.is)),
      c.loop-p-test.true,
    ) in omega (arith, w.0, w.1)

pub loop-p-preserved-in-Unknown : goal.loop-p-preserved-in-Unknown
loop-p-preserved-in-Unknown g c = (
  λ x h n. fills_unknown (c.loop-p.invariant.0 x h n) c.loop-p-test.true
      ((sym c.read.ensures.answer ∙ c.in-Some.is))
      (sym c.in-Unknown.is ∙ c.use_of.ensures),
  (marks_on c.loop-p.invariant.1 c.loop-p-test.true ((sym c.read.ensures.answer ∙ c.in-Some.is))
      c.read.ensures.told (or_false c.read.new.padded)),
)

pub loop-p-smaller-in-Counted : goal.loop-p-smaller-in-Counted
loop-p-smaller-in-Counted g c = let w : (c.loop-p.p < c.in-Some.field.next)
    × (c.loop-p.p < length c.args.s.now) = (
      field_ahead c.args.s.now c.loop-p.p ((sym c.read.ensures.answer ∙ c.in-Some.is)),
      c.loop-p-test.true,
    ) in omega (arith, w.0, w.1)

pub loop-p-preserved-in-Counted : goal.loop-p-preserved-in-Counted
loop-p-preserved-in-Counted g c = (
  λ x h n. fills_counted (c.loop-p.invariant.0 x h n) c.loop-p-test.true
      ((sym c.read.ensures.answer ∙ c.in-Some.is)) (sym c.in-Counted.is ∙ c.use_of.ensures)
      (c.count.ensures c.in-Some.field.value c.in-Some.field.start),
  (marks_on c.loop-p.invariant.1 c.loop-p-test.true ((sym c.read.ensures.answer ∙ c.in-Some.is))
      c.read.ensures.told (or_false c.read.new.padded)),
)

pub loop-p-smaller : goal.loop-p-smaller
loop-p-smaller g c = let w : (c.loop-p.p < c.in-Some.field.next)
    × (c.loop-p.p < length c.args.s.now) = (
      field_ahead c.args.s.now c.loop-p.p ((sym c.read.ensures.answer ∙ c.in-Some.is)),
      c.loop-p-test.true,
    ) in omega (arith, w.0, w.1)

pub loop-p-preserved : goal.loop-p-preserved
loop-p-preserved g c = (
  λ x h n. fills_kept (c.loop-p.invariant.0 x h n) c.loop-p-test.true
      ((sym c.read.ensures.answer ∙ c.in-Some.is)) (sym c.in-Kept.is ∙ c.use_of.ensures) c.keep.ensures,
  (marks_on c.loop-p.invariant.1 c.loop-p-test.true ((sym c.read.ensures.answer ∙ c.in-Some.is))
      c.read.ensures.told (or_false c.read.new.padded)),
)

pub returns : goal.returns
returns g c = record {
  listed = record {
    onto =
        λ x h n. filled (c.loop-p.invariant.0 x h n) c.loop-p-test.false;
  };
  told =
      marked c.loop-p.invariant.1 c.loop-p-test.false;
}
