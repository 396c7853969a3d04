-- `layout::found::Found::list_parts` meets its contract: the fields of each part are listed in turn. Assumes nothing.
use Rattle.layout.specs.Row.{columns_of}
use Rattle.layout.specs.private.Parts.{left}
use Rattle.layout.proofs.MergeLaws.{Passing}
use Rattle.layout.proofs.found.Found.list_parts.Given as goal

abbrev pub invariant-loop-part : goal.invariant-loop-part
invariant-loop-part l =
    (goal.iterator-loop-part).can_next l.part-iterator
    × (goal.iterator-loop-part).is_finite l.part-iterator
    × Passing (columns_of l.rows) l.s (left l.fn.parts) l.initial.self l.initial.padded (left l.part-iterator) l.self
    l.padded
