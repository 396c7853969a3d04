-- `layout::rows::scalar_rows` meets its contract: the constant is the table of its message. Assumes nothing.
use Rattle.prelude.proofs.Basics.{refl}
use Rattle.layout.proofs.Names.{rows_of}
use Rattle.layout.proofs.rows.scalar_rows.Goals as goal

pub returns : goal.returns
unfolding rows_of
returns c = refl
