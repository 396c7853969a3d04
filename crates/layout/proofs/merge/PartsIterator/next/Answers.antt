-- The next part of the part that is being looked through, or else of the one behind it.
use Rattle.prelude.proofs.Basics.{◌∙◌, sym}
use Rattle.layout.proofs.MergeLaws.{left_none, left_inside}
use Rattle.layout.proofs.merge.PartsIterator.next.Goals as goal

pub returns-in_err-found-clause-steps : goal.returns-in_err-found-clause-steps
returns-in_err-found-clause-steps c =
    let none = left_none c.loop-found.self c.in_default.ensures c.in_err-found.ensures in
    rw c.from_residual.ensures (sym c.loop-found.invariant ∙ none, none)

pub loop-found-preserved : goal.loop-found-preserved
loop-found-preserved c =
    left_inside c.loop-found.self c.in_default.ensures c.in_ok-found.ensures ∙ c.loop-found.invariant
