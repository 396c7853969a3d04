-- Messages in parts. A field that holds a message may occur more than once: each occurrence then is a part of one
-- message, and the fields of all parts count, in order, as if they stood in one list.
use Rattle.std.specs.Prelude.{ℕ, zero, suc, ◌+◌, Bool, cond, ◌&&◌, List, [], ◌∷◌, ◌++◌, length, take, ltb, leb, eqb}
use Rattle.wire.specs.Field.{field_at}
use Rattle.wire.specs.declared.field.Field.{Field}
use Rattle.layout.specs.Slots.{no_slots, bad_slots}
use Rattle.layout.specs.Table.{len}
use Rattle.layout.specs.Fields.{fields_onto, checked}
use Rattle.layout.specs.declared.part.Part.{Part}
use Rattle.layout.specs.declared.slots.Slots.{Slots}
use Rattle.std.specs.Prelude.{Option, Some, None}

-- a message in one part
abbrev pub one_part : ℕ → ℕ → List Part
one_part start len = record { start = start; len = len } ∷ []

-- the place behind a part
abbrev pub end_of : Part → ℕ
end_of p = p.start + p.len

-- ---- where the parts stand

-- a field of number k with bytes is one
abbrev pub is_part : ℕ → ℕ → ℕ → Bool
is_part k number wire = eqb number k && eqb wire len

-- one field, and `more` of the place behind it
abbrev pub part_by : ℕ → (ℕ → List Part) → Option Field → List Part
part_by k more (Some r) =
    cond (is_part k r.number r.wire) (record { start = r.start; len = r.len } ∷ more r.next) (more r.next)
part_by k more None = []

-- the parts in field k among at most `most` fields from the place `at` on
unfoldable pub parts_from : ℕ → ℕ → List ℕ → ℕ → List Part
parts_from zero k s at = []
parts_from (suc most) k s at =
    let more = part_by k (λ next. parts_from most k s next) (field_at s at) in
    cond (ltb at (length s)) more []

-- those of the message whose bytes go from the place `from` to the end of s
abbrev pub parts_of : ℕ → List ℕ → ℕ → List Part
parts_of k s from = parts_from (length s) k s from

-- those of a message that is itself in parts
unfoldable pub parts_in : ℕ → List ℕ → List Part → List Part
parts_in k s [] = []
parts_in k s (p ∷ ps) = parts_of k (take (end_of p) s) p.start ++ parts_in k s ps

-- ---- reading them as one message

-- the fields of one part more, behind what x holds
abbrev pub part_onto : List (List ℕ) → List ℕ → Part → Slots → Slots
part_onto rows s p x = cond (leb (end_of p) (length s)) (fields_onto rows (take (end_of p) s) p.start x) bad_slots

-- those of all parts; each must be a good field list by itself
unfoldable pub parts_onto : List (List ℕ) → List ℕ → List Part → Slots → Slots
parts_onto rows s [] x = x
parts_onto rows s (p ∷ ps) x =
    let y = part_onto rows s p x in
    let more = parts_onto rows s ps y in
    cond y.good more bad_slots

-- the message with these rows; what is required is asked of the whole
abbrev pub merged : List (List ℕ) → List ℕ → List Part → Slots
merged rows s ps = checked rows (parts_onto rows s ps no_slots)
