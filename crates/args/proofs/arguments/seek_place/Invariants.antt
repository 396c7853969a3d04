-- `args::arguments::seek_place` meets its contract: each turn of the loop is one law on `Seeking`. Assumes nothing.
use Rattle.prelude.proofs.Basics.{◌-◌, length}
use Rattle.args.proofs.PlaceLaws.{Seeking}
use Rattle.args.proofs.arguments.seek_place.Given as goal

abbrev pub invariant-loop-p : goal.invariant-loop-p
invariant-loop-p l = Seeking l.s l.at l.p

abbrev pub decreases-loop-p : goal.decreases-loop-p
decreases-loop-p l = length l.s - l.p
