-- `varint::read_behind` meets its contract: what was read, and what is left to read, is the whole. Assumes nothing.
use Rattle.prelude.proofs.Basics.{◌-◌, ◌≡◌}
use Rattle.varint.proofs.GroupLaws.{Reading}
use Rattle.varint.proofs.read_behind.Given as goal

-- the flag is as it was until the last group
abbrev pub invariant-loop : goal.invariant-loop
invariant-loop l = Reading l.first l.s l.at l.value l.weight l.i l.counter × (l.padded ≡ l.initial.padded)

abbrev pub decreases-loop : goal.decreases-loop
decreases-loop l = 9 - l.counter
