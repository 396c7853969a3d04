-- The row that is found decides; a number that no row has is unknown.
use Rattle.prelude.proofs.Basics.{◌≡◌, drop}
use Rattle.layout.specs.Row.{columns_of}
use Rattle.layout.proofs.Names.{row_for}
use Rattle.layout.proofs.fields.use_of.Given as goal

abbrev pub invariant-loop-row : goal.invariant-loop-row
invariant-loop-row l = row_for (columns_of (drop l.row-index l.rows)) l.number ≡ row_for (columns_of l.rows) l.number
