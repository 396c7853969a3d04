-- What holds of the layout table, row by row (L1, W14).
use Rattle.std.specs.Prelude.{ℕ, ◌+◌, ◌%◌, ◌^◌, Bool, true, false, not, cond, ◌&&◌, ◌||◌, ◌≡◌, List, [], ◌∷◌, ltb, eqb}
use Rattle.protocol.specs.Client.{execute}
use Rattle.layout.specs.Row.{message_of, number_of, is_repeated, slot_count, row_for, takes}
use Rattle.layout.specs.Table.{layout, rows_of, num, prepare_stmt, stmt_execute, open_stmt, any, scalar}
use Rattle.layout.specs.Table.{stmt_types, open_types, any_types, scalar_types}

-- how many rows pass a test, and whether all do
abbrev pub how_many : (List ℕ → Bool) → List (List ℕ) → ℕ
how_many p [] = 0
how_many p (r ∷ rs) = cond (p r) 1 0 + how_many p rs

abbrev pub all : (List ℕ → Bool) → List (List ℕ) → Bool
all p [] = true
all p (r ∷ rs) = p r && all p rs

-- a field number is 1 or more (W7), and has a slot
abbrev pub has_slot : List ℕ → Bool
has_slot row = ltb 0 (number_of row) && ltb (number_of row) slot_count

-- of the same message and number
abbrev pub same_field : List ℕ → List ℕ → Bool
same_field row other = eqb (message_of row) (message_of other) && eqb (number_of row) (number_of other)

-- every row has a slot, and no other row has its message and number
abbrev pub RowsApart : Type 0
RowsApart = all (λ row. has_slot row && eqb (how_many (same_field row) layout) 1) layout ≡ true

-- an Execute and a StmtExecute have one repeated field each, their args, and no other message has any
abbrev pub has_args : List ℕ → Bool
has_args row = eqb (message_of row) execute || eqb (message_of row) stmt_execute

abbrev pub repeats : ℕ → List ℕ → Bool
repeats message row = eqb (message_of row) message && is_repeated row

pub record RepeatedAreArgs : Type 0 where
  pub no_other : all (λ row. not (is_repeated row) || has_args row) layout ≡ true
  pub of_execute : how_many (repeats execute) layout ≡ 1
  pub of_stmt_execute : how_many (repeats stmt_execute) layout ≡ 1

-- whether a number is one of the values
abbrev pub among : ℕ → List ℕ → Bool
among v [] = false
among v (x ∷ xs) = eqb x v || among v xs

-- the type of a message, its field 1, is taken exactly where its low 32 bits are one of the listed values (W14, W3)
abbrev pub TypeListed : ℕ → List ℕ → Type 0
TypeListed message values =
    (value : ℕ) → takes (row_for (rows_of message) 1) 1 num value ≡ among (value % 2 ^ 32) values

pub record TypesListed : Type 0 where
  pub of_stmt : TypeListed prepare_stmt stmt_types
  pub of_open : TypeListed open_stmt open_types
  pub of_any : TypeListed any any_types
  pub of_scalar : TypeListed scalar scalar_types
