-- `layout::found::Found::has_required` meets its contract: each row in turn is met. Assumes nothing.
use Rattle.prelude.proofs.Basics.{sym, ◌∙◌}
use Rattle.layout.specs.private.Found.{found_times}
use Rattle.layout.proofs.FieldsLaws.{need_end, need_met, need_missing}
use Rattle.layout.proofs.found.Found.has_required.Goals as goal

pub returns-then-not-row_met : goal.returns-then-not-row_met
returns-then-not-row_met c = let l = c.loop-row in
    need_missing c.args.rows.now (found_times c.args.self.now) l.row-index c.loop-row-test.true
    (sym c.row_met.ensures ∙ c.if-not-row_met.true)
    ∙ l.invariant

pub loop-row-preserved : goal.loop-row-preserved
loop-row-preserved c = let l = c.loop-row in
    need_met c.args.rows.now (found_times c.args.self.now) l.row-index c.loop-row-test.true
    (sym c.row_met.ensures ∙ c.if-not-row_met.false)
    ∙ l.invariant

pub returns : goal.returns
returns c =
    need_end c.args.rows.now (found_times c.args.self.now) c.loop-row.row-index c.loop-row-test.false
    ∙ c.loop-row.invariant
