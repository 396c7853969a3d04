-- `layout::found::Found::list_parts` meets its contract: the fields of each part are listed in turn. Assumes nothing.
use Rattle.layout.specs.Row.{columns_of}
use Rattle.prelude.proofs.Basics.{◌+◌, arith, sym, ◌∙◌, length-take-le, or_same}
use Rattle.layout.specs.private.Parts.{left}
use Rattle.layout.proofs.CutLaws.{left_within}
use Rattle.layout.proofs.MergeLaws.{passing, passed, passed_flag, part_within, passes, spoils, own_adds, own_flag}
use Rattle.layout.proofs.found.Found.list_parts.Goals as goal

pub loop-part-init : goal.loop-part-init
loop-part-init c = (
  tt,
  tt,
  rw c.into_iter-part-iterator.ensures.into_iter_gives
      (passing (columns_of c.args.rows.now) c.args.parts.s.now (left c.args.parts) c.args.self.now c.args.padded.now
      (left_within c.args.parts)),
)

pub overflow_add-end : goal.overflow_add-end
overflow_add-end c = omega (arith, part_within c.loop-part.invariant.2 c.in-Some.ensures.steps)

pub slice_bounds-list_fields-end : goal.slice_bounds-list_fields-end
slice_bounds-list_fields-end c =
    sym
    (length-take-le (c.in-Some.part.start + c.in-Some.part.len) c.args.parts.s.now
    (part_within c.loop-part.invariant.2 c.in-Some.ensures.steps))

pub returns-then-not-list_fields-clause-listed : goal.returns-then-not-list_fields-clause-listed
returns-then-not-list_fields-clause-listed c =
    let l = c.loop-part.invariant.2 in
    let first = c.in-Some.ensures.steps in
    spoils l first
    (own_adds (columns_of c.args.rows.now) c.args.parts.s.now c.in-Some.part (part_within l first)
    (rw c.if-not-list_fields.true at c.list_fields.ensures.listed))

pub loop-part-preserved : goal.loop-part-preserved
loop-part-preserved c =
    let l = c.loop-part.invariant.2 in
    let first = c.in-Some.ensures.steps in
    let within = part_within l first in (
      tt,
      tt,
      passes l first
          (own_adds (columns_of c.args.rows.now) c.args.parts.s.now c.in-Some.part within
          (rw c.if-not-list_fields.false at c.list_fields.ensures.listed))
          (c.list_fields.ensures.told
          ∙ or_same c.loop-part.padded (own_flag c.args.parts.s.now c.in-Some.part within)),
    )

pub returns-clause-listed : goal.returns-clause-listed
returns-clause-listed c = passed c.loop-part.invariant.2 c.in-None.ensures.steps.0

pub returns-clause-told : goal.returns-clause-told
returns-clause-told c = λ _. passed_flag c.loop-part.invariant.2 c.in-None.ensures.steps.0
