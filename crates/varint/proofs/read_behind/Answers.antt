-- `varint::read_behind` meets its contract: what was read, and what is left to read, is the whole. Assumes nothing.
use Rattle.prelude.proofs.Basics.{◌%◌, arith, ◌||◌, refl, ap₂, ◌∙◌, or_none}
use Rattle.varint.proofs.GroupLaws.{starts, whole_end, room, light, whole_last, goes_on_lem, below_top}
use Rattle.varint.proofs.GroupLaws.{whole_tenth, flag_end, flag_last, flag_tenth}
use Rattle.varint.proofs.read_behind.Goals as goal

pub loop-init : goal.loop-init
loop-init c = (
  rw c.from-value.ensures (starts c.args.first c.args.s.now
      c.args.at (omega arith)),
  refl,
)

pub returns-then-s-i : goal.returns-then-s-i
returns-then-s-i c = let l = c.loop in
    let more = c.loop-test.true in record {
      answer = whole_end l.invariant.0 more c.if-s-i.true;
      told =
          λ m. l.invariant.1 ∙ or_none _ (flag_end l.invariant.0 more c.if-s-i.true);
    }

pub overflow_mul-v : goal.overflow_mul-v
overflow_mul-v c = omega (
  arith,
  room c.loop.invariant.0
      c.loop-test.true c.from-b.result c.if-b-lt128.true,
)

pub overflow_add-v : goal.overflow_add-v
overflow_add-v c = omega (
  arith,
  room c.loop.invariant.0
      c.loop-test.true c.from-b.result c.if-b-lt128.true,
)

pub returns-then-b-lt128 : goal.returns-then-b-lt128
returns-then-b-lt128 c = let l = c.loop in
    let more = c.loop-test.true in
    let inside = c.if-s-i.false in
    let low = rw c.from-b.ensures at c.if-b-lt128.true in record {
      answer = rw c.from-b.ensures (whole_last l.invariant.0 more inside low);
      told = λ m.
          c.mark.ensures
          ∙ ap₂ ◌||◌ l.invariant.1 (rw c.from-b.ensures (flag_last l.invariant.0 more m inside low));
    }

pub overflow_mul-value : goal.overflow_mul-value
overflow_mul-value c = omega (
  arith,
  room c.loop.invariant.0
      c.loop-test.true (c.from-b.result % 128) (omega arith),
)

pub overflow_add-value : goal.overflow_add-value
overflow_add-value c = omega (
  arith,
  room c.loop.invariant.0
      c.loop-test.true (c.from-b.result % 128) (omega arith),
)

pub overflow_mul-weight : goal.overflow_mul-weight
overflow_mul-weight c = omega (
  arith,
  light c.loop.invariant.0
      c.loop-test.true,
)

pub loop-preserved : goal.loop-preserved
loop-preserved c = let l = c.loop in (
  rw c.from-b.ensures
      (goes_on_lem l.invariant.0 c.loop-test.true c.if-s-i.false
      (rw c.from-b.ensures at c.if-b-lt128.false) (omega (arith, c.type_inv.s c.loop.i))),
  l.invariant.1,
)

pub last_group-requires : goal.last_group-requires
last_group-requires c = below_top c.loop.invariant.0 c.loop-test.false

pub returns : goal.returns
returns c = let l = c.loop in
    let nine = c.loop-test.false in record {
      answer =
          c.last_group.ensures.answer ∙ whole_tenth l.invariant.0 nine;
      told =
          λ m. c.last_group.ensures.told ∙ ap₂ ◌||◌ l.invariant.1 (flag_tenth l.invariant.0 nine m);
    }
