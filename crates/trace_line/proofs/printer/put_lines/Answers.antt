-- `trace_line::printer::put_lines` meets its contract. The loop's invariant is `Walking`; the measure is what is left
-- of the bytes. Assumes nothing.
use Rattle.prelude.proofs.Basics.{◌+◌, ◌^◌, ◌≤◌, ◌<◌, arith, length}
use Rattle.trace_line.proofs.Names.{session_of}
use Rattle.trace_line.proofs.WalkLaws.{walk_starts, walk_ends, walk_full, walk_stops, walk_on}
use Rattle.trace_line.proofs.WalkLaws.{place_within, to_end}
use Rattle.trace_line.proofs.printer.put_lines.Goals as goal

pub loop-at-init : goal.loop-at-init
loop-at-init c = walk_starts (session_of c.args.words.now) c.args.first c.args.s.now
    c.args.out.now

pub returns-then-out-to-lt-MAX_LINE : goal.returns-then-out-to-lt-MAX_LINE
returns-then-out-to-lt-MAX_LINE c = walk_full c.loop-at.invariant c.if-out-to-lt-MAX_LINE.true

pub overflow_add-at : goal.overflow_add-at
overflow_add-at c =
    let within : (0 < c.in-Ok.traced.next)
    × (c.loop-at.at
    + c.in-Ok.traced.next
    ≤ length c.args.s.now) = place_within c.loop-at.invariant c.loop-at-test.true c.if-out-to-lt-MAX_LINE.false
    (to_end c.args.s.now c.loop-at.at) c.in-Ok.is (
      c.trace_record.ensures.answer,
      (c.trace_record.ensures.session, c.trace_record.ensures.out),
    ) in
    let g : c.loop-at.at + c.in-Ok.traced.next < 2 ^ 64 = omega (arith, within.1, c.well_formed, c.ranges) in
    record { fits = g }

pub loop-at-smaller : goal.loop-at-smaller
loop-at-smaller c = let w : (0 < c.in-Ok.traced.next)
    × (c.loop-at.at
    + c.in-Ok.traced.next
    ≤ length c.args.s.now) = place_within c.loop-at.invariant c.loop-at-test.true c.if-out-to-lt-MAX_LINE.false
    (to_end c.args.s.now c.loop-at.at) c.in-Ok.is (
      c.trace_record.ensures.answer,
      (c.trace_record.ensures.session, c.trace_record.ensures.out),
    ) in omega (arith, w.0, w.1)

pub loop-at-preserved : goal.loop-at-preserved
loop-at-preserved c = rw (c.wrapping_add_u64-n.ensures.value, c.unwrap_or-to.ensures)
    (walk_on c.loop-at.invariant c.loop-at-test.true c.if-out-to-lt-MAX_LINE.false
    (to_end c.args.s.now c.loop-at.at) c.in-Ok.is (
      c.trace_record.ensures.answer,
      (c.trace_record.ensures.session, c.trace_record.ensures.out),
    ))

pub returns-in-Err : goal.returns-in-Err
returns-in-Err c = walk_stops
    c.loop-at.invariant c.loop-at-test.true c.if-out-to-lt-MAX_LINE.false
    (to_end c.args.s.now c.loop-at.at) c.in-Err.is (
      c.trace_record.ensures.answer,
      (c.trace_record.ensures.session, c.trace_record.ensures.out),
    )

pub returns : goal.returns
returns c = walk_ends c.loop-at.invariant c.loop-at-test.false
