-- What the short way for an Open's own fields says of a frame, where it answers: the rows hold the same (L1, L11).
use Rattle.std.specs.Prelude.{ℕ, true, ◌≡◌, List, Option, Some, None}
use Rattle.protocol.specs.Client as Client
use Rattle.layout.specs.Table.{rows_of}
use Rattle.layout.specs.Fields.{fields_at}
use Rattle.layout.specs.declared.slots.Slots.{Slots}
use Rattle.layout.specs.Part.{value_of}
use Rattle.layout.specs.Merged.{one_part}
use Rattle.message.specs.Payload.{payload, optional_of}
use Rattle.message.specs.Execute.{open_parts}
use Rattle.message.specs.declared.outer.Outer.{Outer}

-- the slots of an Open with this cursor id and fetch_rows
pub record Opens (x : Slots) (id : ℕ) (rows : Option ℕ) : Type 0 where
  pub good : true ≡ x.good
  pub id_is : id ≡ value_of x 1
  pub rows_is : rows ≡ optional_of x 5

abbrev pub Says : List ℕ → Option Outer → Type 0
Says s (Some outer) =
    Opens (fields_at (rows_of Client.open') s payload) outer.id outer.rows
    × (open_parts s ≡ one_part outer.part.start outer.part.len)
Says s None = Unit {0}
