-- The layout table (L1): a row for each message and field number.
use Rattle.std.specs.Prelude.{ℕ, ◌+◌, ◌^◌, cond, List, [], ◌∷◌, eqb}
use Rattle.protocol.specs.Client.{prepare, execute, deallocate, open', close, fetch}
use Rattle.layout.specs.Row.{message_of}

-- the messages: client messages by their type, embedded ones by numbers of our own that no type byte has
abbrev pub prepare_stmt : ℕ
prepare_stmt = 256

abbrev pub stmt_execute : ℕ
stmt_execute = 257

abbrev pub open_stmt : ℕ
open_stmt = 258

abbrev pub any : ℕ
any = 259

abbrev pub scalar : ℕ
scalar = 260

abbrev pub bytes : ℕ
bytes = 261

-- wire types
abbrev pub num : ℕ
num = 0

abbrev pub f64 : ℕ
f64 = 1

abbrev pub len : ℕ
len = 2

abbrev pub f32 : ℕ
f32 = 5

-- required or not, repeated or not
abbrev pub must : ℕ
must = 1

abbrev pub may : ℕ
may = 0

abbrev pub many : ℕ
many = 1

abbrev pub once : ℕ
once = 0

-- the listed values of an enum; none for a field of another type
abbrev pub listing : List ℕ → ℕ
listing [] = 0
listing (v ∷ vs) = 2 ^ v + listing vs

-- the types of a prepared statement, of an Open's statement, of an Any and of a Scalar
abbrev pub stmt_types : List ℕ
stmt_types = 0 ∷ 1 ∷ 2 ∷ 4 ∷ 5 ∷ []

abbrev pub open_types : List ℕ
open_types = 0 ∷ []

abbrev pub any_types : List ℕ
any_types = 1 ∷ 2 ∷ 3 ∷ []

abbrev pub scalar_types : List ℕ
scalar_types = 1 ∷ 2 ∷ 3 ∷ 4 ∷ 5 ∷ 6 ∷ 7 ∷ 8 ∷ []

abbrev pub row : ℕ → ℕ → ℕ → ℕ → ℕ → List ℕ → List ℕ
row message number wire required repeated values =
    message ∷ number ∷ wire ∷ required ∷ repeated ∷ listing values ∷ []

abbrev pub layout : List (List ℕ)
layout =
    row prepare 1 num must once []  -- stmt_id uint32
    ∷ row prepare 2 len must once []  -- stmt
    ∷ row prepare_stmt 1 num must once stmt_types  -- type
    ∷ row prepare_stmt 2 len may once []  -- find
    ∷ row prepare_stmt 3 len may once []  -- insert
    ∷ row prepare_stmt 4 len may once []  -- update
    ∷ row prepare_stmt 5 len may once []  -- delete
    ∷ row prepare_stmt 6 len may once []  -- stmt_execute
    ∷ row stmt_execute 1 len must once []  -- stmt bytes
    ∷ row stmt_execute 2 len may many []  -- args Any
    ∷ row stmt_execute 3 len may once []  -- namespace
    ∷ row stmt_execute 4 num may once []  -- compact_metadata bool
    ∷ row execute 1 num must once []  -- stmt_id uint32
    ∷ row execute 2 len may many []  -- args Any
    ∷ row execute 3 num may once []  -- compact_metadata bool
    ∷ row deallocate 1 num must once []  -- stmt_id uint32
    ∷ row open' 1 num must once []  -- cursor_id uint32
    ∷ row open' 4 len must once []  -- stmt
    ∷ row open' 5 num may once []  -- fetch_rows uint64
    ∷ row open_stmt 1 num must once open_types  -- type
    ∷ row open_stmt 2 len may once []  -- Execute
    ∷ row fetch 1 num must once []  -- cursor_id uint32
    ∷ row fetch 2 num may once []  -- fetch_rows uint64
    ∷ row close 1 num must once []  -- cursor_id uint32
    ∷ row any 1 num must once any_types  -- type
    ∷ row any 2 len may once []  -- scalar
    ∷ row scalar 1 num must once scalar_types  -- type
    ∷ row scalar 2 num may once []  -- sint64
    ∷ row scalar 3 num may once []  -- uint64
    ∷ row scalar 5 len may once []  -- octets
    ∷ row scalar 6 f64 may once []  -- double
    ∷ row scalar 7 f32 may once []  -- float
    ∷ row scalar 8 num may once []  -- bool
    ∷ row scalar 9 len may once []  -- string
    ∷ row bytes 1 len must once []  -- the bytes of octets and of string
    ∷ []

-- the rows of one message, in the table's order; Reset and Session close have none (L2)
abbrev pub rows_in : List (List ℕ) → ℕ → List (List ℕ)
rows_in [] message = []
rows_in (r ∷ rs) message = cond (eqb (message_of r) message) (r ∷ rows_in rs message) (rows_in rs message)

unfoldable pub rows_of : ℕ → List (List ℕ)
rows_of message = rows_in layout message
