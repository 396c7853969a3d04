-- A statement in two parts, as a client sends it that writes type and body apart: one part has the type, the other the
-- body. What is required is asked of the whole, in either order, and each part is a good field list by itself.
use Rattle.std.specs.Prelude.{ℕ, true, false, ◌≡◌, List, [], ◌∷◌}
use Rattle.layout.specs.Table.{rows_of, prepare_stmt}
use Rattle.layout.specs.Part.{count_of, value_of}
use Rattle.layout.specs.Merged.{merged}
use Rattle.layout.specs.declared.part.Part.{Part}
use Rattle.layout.specs.declared.slots.Slots.{Slots}

-- field 1, the type, is 5; field 6, the body that it chooses, has no bytes
abbrev pub bytes_apart : List ℕ
bytes_apart = 8 ∷ 5 ∷ 50 ∷ 0 ∷ []

abbrev pub part_at : ℕ → ℕ → Part
part_at start len = record { start = start; len = len }

abbrev pub stmt_in : List Part → Slots
stmt_in ps = merged (rows_of prepare_stmt) bytes_apart ps

abbrev pub type_part : Part
type_part = part_at 0 2

abbrev pub body_part : Part
body_part = part_at 2 2

pub record TypeAndBodyApart : Type 0 where
  pub good : (stmt_in (type_part ∷ body_part ∷ [])).good ≡ true
  pub type : value_of (stmt_in (type_part ∷ body_part ∷ [])) 1 ≡ 5
  pub body : count_of (stmt_in (type_part ∷ body_part ∷ [])) 6 ≡ 1
  pub body_first : (stmt_in (body_part ∷ type_part ∷ [])).good ≡ true
  pub body_alone : (stmt_in (body_part ∷ [])).good ≡ false
  -- the byte 5 by itself is no field
  pub bad_part : (stmt_in (part_at 1 1 ∷ type_part ∷ body_part ∷ [])).good ≡ false
  -- the type's field divided among two parts: joined it would be one
  pub field_divided : (stmt_in (part_at 0 1 ∷ part_at 1 1 ∷ body_part ∷ [])).good ≡ false
