-- Each turn of the loop is one law on `Binding` and one on `Marking`.
use Rattle.prelude.proofs.Basics.{◌-◌, length}
use Rattle.args.specs.private.Bound.{is_text}
use Rattle.args.proofs.Names.{Marking, inside_args}
use Rattle.args.proofs.BoundLaws.{Binding}
use Rattle.args.proofs.bound.bound_at.Given as goal

abbrev pub invariant-loop-p : goal.invariant-loop-p
invariant-loop-p l = Binding (is_text l.fn.message) l.s l.from l.p l.x l.k × Marking
    (inside_args l.s) l.s l.from l.p l.initial.padded l.padded

abbrev pub decreases-loop-p : goal.decreases-loop-p
decreases-loop-p l = length l.s - l.p
