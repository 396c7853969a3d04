-- What holds of every field list beside its definition.
use Rattle.std.specs.Prelude.{ℕ, ◌+◌, ◌≤◌, true, false, ◌⊎◌, ◌≡◌, List, length, get_or}
use Rattle.wire.specs.Field.{field_at}
use Rattle.layout.specs.SameBut.{SameBut}
use Rattle.layout.specs.Reaches.{Reaches}
use Rattle.layout.specs.Row.{wire_of, is_repeated, row_for}
use Rattle.layout.specs.Table.{len}
use Rattle.layout.specs.Slots.{no_slots}
use Rattle.layout.specs.Fields.{fields_from, field_list, fields_at}
use Rattle.layout.specs.Part.{start_of, end_in}
use Rattle.wire.specs.Field.{some_field}

-- the number of fields is no limit: any that is enough for the bytes left gives the same (W9)
abbrev pub EnoughFields : Type 0
EnoughFields =
    (most : ℕ) (rows : List (List ℕ)) (s : List ℕ) (from : ℕ) →
    length s ≤ from + most → fields_from most rows s from no_slots ≡ field_list rows s from

-- the bytes of each field that is kept lie within those of the list (W8)
abbrev pub KeptWithin : Type 0
KeptWithin = (rows : List (List ℕ)) (s : List ℕ) (from k : ℕ) → end_in (fields_at rows s from) k ≤ length s

-- those of one field lie before those of another, or behind them
abbrev pub KeptApart : Type 0
KeptApart =
    (rows : List (List ℕ)) (s : List ℕ) (from i k : ℕ) →
    (i ≡ k → ⊥) →
    (end_in (fields_at rows s from) i ≤ start_of (fields_at rows s from) k)
    ⊎ (end_in (fields_at rows s from) k ≤ start_of (fields_at rows s from) i)

-- a list does not read the bytes of a field that has bytes: with any others of the same length it is the same (L10)
abbrev pub BytesUnread : Type 0
BytesUnread =
    (rows : List (List ℕ)) (s t : List ℕ) (from k : ℕ) →
    wire_of (row_for rows k) ≡ len →
    is_repeated (row_for rows k) ≡ false →
    (fields_at rows s from).good ≡ true →
    (get_or (fields_at rows s from).count k 0 ≡ 0 → ⊥) →
    SameBut s t (start_of (fields_at rows s from) k) (end_in (fields_at rows s from) k) →
    fields_at rows t from ≡ fields_at rows s from

-- the same of any field with bytes on the way, be it counted, skipped or one of several
abbrev pub FieldUnread : Type 0
FieldUnread =
    (rows : List (List ℕ)) (s t : List ℕ) (from p number value start n next : ℕ) →
    Reaches s from p →
    field_at s p ≡ some_field number len value start n next →
    SameBut s t start (start + n) → fields_at rows t from ≡ fields_at rows s from
