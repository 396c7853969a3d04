-- `encode::put::copy_over` meets its contract: what is left, stored from here on, gives the bytes. Assumes nothing.
use Rattle.encode.proofs.PutsLaws.{Copying}
use Rattle.encode.proofs.put.copy_over.Given as goal

abbrev pub invariant-loop-i : goal.invariant-loop-i
invariant-loop-i l = Copying l.from l.to l.i
