-- `layout::found::Found::has_required` meets its contract: each row in turn is met. Assumes nothing.
use Rattle.layout.specs.Row.{columns_of}
use Rattle.prelude.proofs.Basics.{◌≡◌, drop}
use Rattle.layout.specs.private.Found.{found_times}
use Rattle.layout.proofs.Names.{has_required}
use Rattle.layout.proofs.found.Found.has_required.Given as goal

abbrev pub invariant-loop-row : goal.invariant-loop-row
invariant-loop-row l =
    has_required (columns_of (drop l.row-index l.rows)) (found_times l.self)
    ≡ has_required (columns_of l.rows) (found_times l.self)
