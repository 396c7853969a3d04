-- `layout::merge::next_part` meets its contract: the parts from each place on are those from the first. Assumes
-- nothing.
use Rattle.prelude.proofs.Basics.{◌-◌, ◌≤◌, ◌≡◌, length}
use Rattle.layout.proofs.Names.{parts_of}
use Rattle.layout.proofs.merge.next_part.Given as goal

abbrev pub invariant-loop-p : goal.invariant-loop-p
invariant-loop-p l = (parts_of l.k l.s l.p ≡ parts_of l.k l.s l.at) × (l.at ≤ l.p)

abbrev pub decreases-loop-p : goal.decreases-loop-p
decreases-loop-p l = length l.s - l.p
