-- What was read, and what is left to read, is the whole.
use Rattle.prelude.proofs.Basics.{length}
use Rattle.image.proofs.NumberLaws.{Fetching}
use Rattle.image.proofs.numbers.read_numbers.Given as goal

abbrev pub invariant-loop-i : goal.invariant-loop-i
invariant-loop-i l = Fetching l.k l.image l.at (length l.initial.numbers) l.numbers l.p l.i
