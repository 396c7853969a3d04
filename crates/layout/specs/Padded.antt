-- Padded field lists (W20): whether any varint that is a field's own is padded, or what `inside` says of any field. The
-- rows do not matter: unknown fields count as known ones do.
use Rattle.std.specs.Prelude.{ℕ, zero, suc, ◌+◌, Bool, false, cond, ◌||◌, List, [], ◌∷◌, length, take, ltb, leb}
use Rattle.wire.specs.Field.{field_at}
use Rattle.wire.specs.Padded.{field_padded}
use Rattle.wire.specs.declared.field.Field.{Field}
use Rattle.layout.specs.declared.part.Part.{Part}
use Rattle.std.specs.Prelude.{Option, Some, None}

-- what is said of the fields behind a good one
abbrev pub onward : (ℕ → Bool) → Option Field → Bool
onward more (Some r) = more r.next
onward more None = false

-- at most `most` fields from the place `at` on, up to the end of s or to a bad one
unfoldable pub padded_from : (Option Field → Bool) → ℕ → List ℕ → ℕ → Bool
padded_from inside zero s at = false
padded_from inside (suc most) s at =
    let more = onward (λ next. padded_from inside most s next) (field_at s at) in
    cond (ltb at (length s)) (field_padded s at || (inside (field_at s at) || more)) false

-- a field has a byte at least, so there are no more fields than bytes
abbrev pub padded_list : (Option Field → Bool) → List ℕ → ℕ → Bool
padded_list inside s from = padded_from inside (length s) s from

-- a message's own fields, and nothing inside them
abbrev pub nothing_inside : Option Field → Bool
nothing_inside field = false

abbrev pub list_padded : List ℕ → ℕ → Bool
list_padded s from = padded_list nothing_inside s from

-- the same up to the place `end`, where the message ends inside s
abbrev pub padded_to : List ℕ → ℕ → ℕ → Bool
padded_to s from end = cond (leb end (length s)) (list_padded (take end s) from) false

-- the own fields of a message in `len` bytes of s from the place `start` on
abbrev pub part_padded : List ℕ → ℕ → ℕ → Bool
part_padded s start len = padded_to s start (start + len)

-- all parts of a message
unfoldable pub parts_padded : List ℕ → List Part → Bool
parts_padded s [] = false
parts_padded s (p ∷ ps) = part_padded s p.start p.len || parts_padded s ps
