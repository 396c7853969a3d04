-- `layout::found::Found::list_fields` meets its contract: each turn reads the field at the place and notes it by its
-- row. Assumes nothing.
use Rattle.layout.specs.Row.{columns_of}
use Rattle.prelude.proofs.Basics.{◌-◌, true, ◌≡◌, length}
use Rattle.layout.proofs.Names.{fields_onto, nothing_inside, Slots}
use Rattle.layout.specs.private.Found.{Noted}
use Rattle.layout.proofs.FieldsLaws.{Filling}
use Rattle.layout.proofs.PaddedLaws.{Marking}
use Rattle.layout.proofs.found.Found.list_fields.Given as goal

-- whatever good slots were found before
abbrev pub invariant-loop-p : goal.invariant-loop-p
invariant-loop-p g l = ((x : Slots) →
    x.good ≡ true →
    Noted x l.initial.self → Filling (columns_of l.rows) l.s
    (fields_onto (columns_of l.rows) l.s l.from x) l.p l.self)
    × Marking nothing_inside l.s l.from l.p l.initial.padded l.padded

abbrev pub decreases-loop-p : goal.decreases-loop-p
decreases-loop-p g l = length l.s - l.p
