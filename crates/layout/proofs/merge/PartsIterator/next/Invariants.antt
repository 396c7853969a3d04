-- The parts that are left stay the same until one is found.
use Rattle.prelude.proofs.Basics.{◌-◌, ◌≡◌, length}
use Rattle.layout.specs.private.Parts.{left}
use Rattle.layout.proofs.merge.PartsIterator.next.Given as goal

abbrev pub invariant-loop-found : goal.invariant-loop-found
invariant-loop-found l = left l.self ≡ left l.initial.self

abbrev pub decreases-loop-found : goal.decreases-loop-found
decreases-loop-found l = length l.self.s.now - l.self.next
