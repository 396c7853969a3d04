-- Each turn judges the next part.
use Rattle.layout.specs.private.Parts.{left}
use Rattle.message.proofs.Names.{parts_of, parts_in, payload}
use Rattle.message.proofs.TwiceLaws.{Judging}
use Rattle.message.proofs.twice.good_arguments.Given as goal

abbrev pub invariant-loop-part : goal.invariant-loop-part
invariant-loop-part l =
    (goal.iterator-loop-part).can_next l.part-iterator
    × (goal.iterator-loop-part).is_finite l.part-iterator
    × Judging l.s (parts_in l.k l.s (parts_of l.stmt l.s payload)) l.initial.padded (left l.part-iterator) l.padded
