-- The cursors before the place that pass have ended; the others are as they were. Assumes nothing.
use Rattle.prelude.proofs.Basics.{sym, ◌∙◌}
use Rattle.session.proofs.Names.{passes}
use Rattle.session.proofs.ChangeLaws.{begins, all_ended, ends_it, leaves_it}
use Rattle.session.proofs.change.end.Goals as goal
use Rattle.session.proofs.change.end.Goals.{then-passes, else-passes}

pub loop-i-init : goal.loop-i-init
loop-i-init c = begins (passes c.args.which) c.args.words.now

pub loop-i-preserved : goal.loop-i-preserved
loop-i-preserved c = let state = c.loop-i.invariant in
    let inside = c.loop-i-test.true in
    let passing = sym c.passes.ensures in
    elim c.if-passes.branch [
      | then-passes w ↦ rw w.words-is (ends_it state inside _ (passing ∙ w.if-passes.true) w.put_cursor.ensures)
      | else-passes w ↦ rw w.words-is (leaves_it state inside (passing ∙ w.if-passes.false))
    ]

pub returns : goal.returns
returns c = all_ended c.loop-i.invariant c.loop-i-test.false
