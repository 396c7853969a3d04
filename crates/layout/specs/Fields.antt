-- A message's field list, read by its rows (W9, W11, W15, W16): unknown fields are skipped; of a field that is not
-- repeated the last occurrence counts; what is required must occur.
use Rattle.std.specs.Prelude.{ℕ, zero, suc, ◌+◌, Bool, true, false, cond, not, List, [], ◌∷◌, length, get_or, set, take, ltb, leb, eqb}
use Rattle.wire.specs.Field.{field_at}
use Rattle.wire.specs.declared.field.Field.{Field}
use Rattle.layout.specs.Row.{number_of, is_required, is_repeated, row_for, takes}
use Rattle.layout.specs.Slots.{no_slots, bad_slots}
use Rattle.layout.specs.declared.slots.Slots.{Slots}
use Rattle.layout.specs.declared.fields.Use.{Use}
use Rattle.std.specs.Prelude.{Option, Some, None}

-- a field that no row takes is unknown; a repeated one is counted, any other kept
abbrev pub use_by : List ℕ → ℕ → ℕ → ℕ → Use
use_by row number wire value =
    cond (takes row number wire value) (cond (is_repeated row) Use.Counted Use.Kept) Use.Unknown

abbrev pub use_of : List (List ℕ) → ℕ → ℕ → ℕ → Use
use_of rows number wire value = use_by (row_for rows number) number wire value

-- the field is a repeated one of the message
abbrev pub is_counted : Use → Bool
is_counted Use.Unknown = false
is_counted Use.Counted = true
is_counted Use.Kept = false

-- one occurrence more of the number k, with its value, place and length where it is kept
abbrev pub noted : Use → Slots → ℕ → ℕ → ℕ → ℕ → Slots
noted Use.Unknown x k v start len = x
noted Use.Counted x k v start len =
    record {
      good = x.good;
      count = set x.count k (get_or x.count k 0 + 1);
      value = x.value;
      start = x.start;
      len = x.len;
    }
noted Use.Kept x k v start len =
    record {
      good = x.good;
      count = set x.count k (get_or x.count k 0 + 1);
      value = set x.value k v;
      start = set x.start k start;
      len = set x.len k len;
    }

-- one field, and `more` of the place behind it
abbrev pub on_field : List (List ℕ) → Slots → (ℕ → Slots → Slots) → Option Field → Slots
on_field rows x more (Some r) =
    more r.next (noted (use_of rows r.number r.wire r.value) x r.number r.value r.start r.len)
on_field rows x more None = bad_slots

-- at most `most` fields from the place `at` on, up to the end of s
unfoldable pub fields_from : ℕ → List (List ℕ) → List ℕ → ℕ → Slots → Slots
fields_from zero rows s at x = x
fields_from (suc most) rows s at x =
    let more = on_field rows x (λ next y. fields_from most rows s next y) (field_at s at) in
    cond (ltb at (length s)) more x

-- the fields from the place `from` to the end of s, behind what x holds; a field has a byte at least, so there are no
-- more fields than bytes
abbrev pub fields_onto : List (List ℕ) → List ℕ → ℕ → Slots → Slots
fields_onto rows s from x = fields_from (length s) rows s from x

abbrev pub field_list : List (List ℕ) → List ℕ → ℕ → Slots
field_list rows s from = fields_onto rows s from no_slots

-- a row's field occurs, if it is required
abbrev pub met : List ℕ → List ℕ → Bool
met row count = cond (is_required row) (not (eqb (get_or count (number_of row) 0) 0)) true

-- each required field occurs
unfoldable pub has_required : List (List ℕ) → List ℕ → Bool
has_required [] count = true
has_required (r ∷ rs) count = let more = has_required rs count in cond (met r count) more false

abbrev pub checked : List (List ℕ) → Slots → Slots
checked rows x = cond (has_required rows x.count) x bad_slots

-- the message with these rows whose bytes go from the place `from` to the end of s
abbrev pub fields_at : List (List ℕ) → List ℕ → ℕ → Slots
fields_at rows s from = checked rows (field_list rows s from)

-- the same up to the place `end`, where the message ends inside s
abbrev pub fields_to : List (List ℕ) → List ℕ → ℕ → ℕ → Slots
fields_to rows s from end = cond (leb end (length s)) (fields_at rows (take end s) from) bad_slots
