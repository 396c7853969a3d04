use Rattle.std.proofs.Common.{length, ◌-◌}
use Rattle.wire.proofs.GroupLaws.{Skipping}
use Rattle.wire.proofs.group.+skip_group.Given as goal

abbrev pub decreases-skip_group : goal.decreases-skip_group
decreases-skip_group l = l.depth

abbrev pub invariant-loop-p : goal.invariant-loop-p
invariant-loop-p l = Skipping l.depth l.s l.at l.number l.p

abbrev pub decreases-loop-p : goal.decreases-loop-p
decreases-loop-p l = length l.s - l.p
