-- The types of a Prepare's statement, each of which chooses a field of it as the body. There is no 3.
use Rattle.std.specs.Prelude.{ℕ, cond, eqb}

abbrev pub find : ℕ
find = 0

abbrev pub insert : ℕ
insert = 1

abbrev pub update : ℕ
update = 2

abbrev pub delete : ℕ
delete = 4

abbrev pub stmt_execute : ℕ
stmt_execute = 5

-- the field that a type chooses; the layout lists no type but these
abbrev pub field_of : ℕ → ℕ
field_of t = cond (eqb t find) 2 (cond (eqb t insert) 3 (cond (eqb t update) 4 (cond (eqb t delete) 5 6)))
