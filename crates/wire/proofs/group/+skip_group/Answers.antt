-- `wire::group::skip_group` meets its contract: each turn of the loop is one law on `Skipping`. Assumes nothing.
use Rattle.prelude.proofs.Basics.{ℕ, ◌<◌, arith, ◌≡◌, sym, ap, ◌∙◌, List, length, take-length}
use native.Mathlib.Nat.{pos_of_ne-zero}
use Rattle.wire.specs.Tag.{tag_at}
use Rattle.wire.proofs.Names.{group_end, Tag}
use Rattle.wire.proofs.GroupLaws.{Skipping, Turn, shut, starts, unended, no_tag, ended, misended}
use Rattle.wire.proofs.GroupLaws.{group_lent, value_lent, stops, advances, goes_on_lem}
use Rattle.wire.proofs.group.+skip_group.Goals as goal
use Rattle.std.specs.Prelude.{Option}

-- where a tag is read, it is that of a turn
turn : {depth : ℕ} {s : List ℕ} {at number p : ℕ} {r t : Option Tag} → Skipping depth s at number p → p < length s →
    r ≡ tag_at s p → r ≡ t → Turn depth s at number p t
turn state inside answer is = record { state = state; inside = inside; tag = sym answer ∙ is }

pub returns-then-depth-eq0 : goal.returns-then-depth-eq0
returns-then-depth-eq0 t c =
    sym (shut c.args.s.now c.args.at c.args.number)
    ∙ ap (λ (d : ℕ). group_end d c.args.s.now c.args.at c.args.number) (sym c.if-depth-eq0.true)

pub loop-p-init : goal.loop-p-init
loop-p-init t c = starts _ _ _ _ (pos_of_ne-zero c.if-depth-eq0.false)

pub returns-then-tag-number : goal.returns-then-tag-number
returns-then-tag-number t c =
    ended (turn c.loop-p.invariant c.loop-p-test.true c.read_tag.ensures.answer c.in_ok-tag.was)
    c.if-tag-eq-GROUP_END.true c.if-tag-number.true

pub returns-then-tag-eq-GROUP_END : goal.returns-then-tag-eq-GROUP_END
returns-then-tag-eq-GROUP_END t c =
    misended (turn c.loop-p.invariant c.loop-p-test.true c.read_tag.ensures.answer c.in_ok-tag.was)
    c.if-tag-eq-GROUP_END.true c.if-tag-number.false

pub slice_bounds-skip_group-end : goal.slice_bounds-skip_group-end
slice_bounds-skip_group-end t c = sym (ap length (take-length c.args.s.now))

pub overflow_sub-depth : goal.overflow_sub-depth
overflow_sub-depth t c = c.loop-p.invariant.deep

pub loop-p-smaller-then-tag-eq-GROUP_START : goal.loop-p-smaller-then-tag-eq-GROUP_START
loop-p-smaller-then-tag-eq-GROUP_START t c =
    let r = turn c.loop-p.invariant c.loop-p-test.true c.read_tag.ensures.answer c.in_ok-tag.was in
    let k = group_lent r c.if-tag-eq-GROUP_END.false c.if-tag-eq-GROUP_START.true c.skip_group.ensures in
    omega (arith, c.loop-p-test.true, advances r k c.in_ok-p.was)

pub loop-p-preserved-then-tag-eq-GROUP_START : goal.loop-p-preserved-then-tag-eq-GROUP_START
loop-p-preserved-then-tag-eq-GROUP_START t c =
    let r = turn c.loop-p.invariant c.loop-p-test.true c.read_tag.ensures.answer c.in_ok-tag.was in
    goes_on_lem _ (group_lent r c.if-tag-eq-GROUP_END.false c.if-tag-eq-GROUP_START.true c.skip_group.ensures) c.in_ok-p.was

pub slice_bounds-skip_value-end : goal.slice_bounds-skip_value-end
slice_bounds-skip_value-end t c = sym (ap length (take-length c.args.s.now))

pub loop-p-smaller : goal.loop-p-smaller
loop-p-smaller t c =
    let r = turn c.loop-p.invariant c.loop-p-test.true c.read_tag.ensures.answer c.in_ok-tag.was in
    let k = value_lent r c.if-tag-eq-GROUP_END.false c.if-tag-eq-GROUP_START.false c.skip_value.ensures in
    omega (arith, c.loop-p-test.true, advances r k c.in_ok-p-2.was)

pub loop-p-preserved : goal.loop-p-preserved
loop-p-preserved t c =
    let r = turn c.loop-p.invariant c.loop-p-test.true c.read_tag.ensures.answer c.in_ok-tag.was in
    goes_on_lem _ (value_lent r c.if-tag-eq-GROUP_END.false c.if-tag-eq-GROUP_START.false c.skip_value.ensures)
    c.in_ok-p-2.was

pub returns : goal.returns
returns t c = unended c.loop-p.invariant c.loop-p-test.false

pub returns-in_err-tag : goal.returns-in_err-tag
returns-in_err-tag t c =
    c.from_residual.ensures
    ∙ no_tag (turn c.loop-p.invariant c.loop-p-test.true c.read_tag.ensures.answer c.in_err-tag.was)

pub returns-in_err-p : goal.returns-in_err-p
returns-in_err-p t c =
    let r = turn c.loop-p.invariant c.loop-p-test.true c.read_tag.ensures.answer c.in_ok-tag.was in
    c.from_residual-in_err-p.ensures
    ∙ stops _ (group_lent r c.if-tag-eq-GROUP_END.false c.if-tag-eq-GROUP_START.true c.skip_group.ensures)
    c.in_err-p.was

pub returns-in_err-p-2 : goal.returns-in_err-p-2
returns-in_err-p-2 t c =
    let r = turn c.loop-p.invariant c.loop-p-test.true c.read_tag.ensures.answer c.in_ok-tag.was in
    c.from_residual-in_err-p-2.ensures
    ∙ stops _ (value_lent r c.if-tag-eq-GROUP_END.false c.if-tag-eq-GROUP_START.false c.skip_value.ensures)
    c.in_err-p-2.was
