-- A row of the layout table: its columns, and which fields it takes.
use Rattle.std.specs.Prelude.{ℕ, ◌/◌, ◌%◌, ◌^◌, Bool, true, false, cond, List, [], ◌∷◌, map, get_or, ltb, eqb}
use Rattle.layout.specs.declared.row.Row.{Row}

abbrev pub message_of : List ℕ → ℕ
message_of row = get_or row 0 0

abbrev pub number_of : List ℕ → ℕ
number_of row = get_or row 1 0

abbrev pub wire_of : List ℕ → ℕ
wire_of row = get_or row 2 0

abbrev pub is_required : List ℕ → Bool
is_required row = eqb (get_or row 3 0) 1

abbrev pub is_repeated : List ℕ → Bool
is_repeated row = eqb (get_or row 4 0) 1

abbrev pub listed_of : List ℕ → ℕ
listed_of row = get_or row 5 0

-- the columns of a row of the code, and of some
abbrev pub columns : Row → List ℕ
columns row =
    row.message ∷ row.number ∷ row.wire ∷ row.required ∷ row.repeated ∷ row.listed ∷ []

abbrev pub columns_of : List Row → List (List ℕ)
columns_of rows = map columns rows

-- the row that no field number has
abbrev pub no_row : List ℕ
no_row = 0 ∷ 0 ∷ 0 ∷ 0 ∷ 0 ∷ 0 ∷ []

-- the row of a field number among a message's rows
unfoldable pub row_for : List (List ℕ) → ℕ → List ℕ
row_for [] number = no_row
row_for (r ∷ rs) number = cond (eqb (number_of r) number) r (row_for rs number)

-- "an enum value not listed counts as an unknown field"; an enum keeps the low 32 bits. The values v stand in the row
-- as the sum of 2 ^ v; a row with none is of no enum (W14, W3)
abbrev pub listed : ℕ → ℕ → Bool
listed values value =
    cond (eqb values 0) true
    (cond (ltb (value % 2 ^ 32) 16) (eqb (values / 2 ^ (value % 2 ^ 32) % 2) 1) false)

-- the known field numbers of every message are below this
abbrev pub slot_count : ℕ
slot_count = 10

-- "a known number with another wire type is unknown" (W10)
abbrev pub takes : List ℕ → ℕ → ℕ → ℕ → Bool
takes row number wire value =
    cond (ltb number slot_count)
    (cond (eqb (number_of row) number) (cond (eqb (wire_of row) wire) (listed (listed_of row) value) false) false)
    false
