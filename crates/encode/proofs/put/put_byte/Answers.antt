-- `encode::put::put_byte` meets its contract: past the end nothing is stored. Assumes nothing.
use Rattle.prelude.proofs.Basics.{[], ◌∷◌}
use Rattle.encode.proofs.PutsLaws.{past_end}
use Rattle.encode.proofs.put.put_byte.Goals as goal

pub returns-then-buf-at : goal.returns-then-buf-at
returns-then-buf-at c = past_end c.args.buf.now c.args.at (c.args.b ∷ []) c.if-buf-at.true
