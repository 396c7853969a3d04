-- What the readers of a message say of padded varints, where they answer: of a message that is bad nothing is said. For
-- contracts inside the library; what is promised does not cite it.
use Rattle.std.specs.Prelude.{ℕ, ◌+◌, Bool, true, ◌||◌, ◌≡◌, List, [], ◌∷◌, Option, Some, None}
use Rattle.protocol.specs.Fields as Fields
use Rattle.varint.specs.Padded.{padded_at}
use Rattle.layout.specs.Table.{rows_of, prepare_stmt, open_stmt}
use Rattle.layout.specs.Merged.{parts_in, merged}
use Rattle.layout.specs.Padded.{parts_padded}
use Rattle.layout.specs.declared.part.Part.{Part}
use Rattle.message.specs.Payload.{payload}
use Rattle.message.specs.Padded.{own_padded}
use Rattle.message.specs.declared.first.First.{First}
use Rattle.message.specs.declared.outer.Outer.{Outer}
use Rattle.message.specs.declared.prepare.Stmt.{Stmt}
use Rattle.message.specs.declared.prepare.Chosen.{Chosen}
use Rattle.message.specs.declared.execute.Opening.{Opening}
use Rattle.message.specs.declared.execute.Inner.{Inner}
use Rattle.message.specs.declared.request.Frame.{Frame}
use Rattle.message.specs.declared.request.Frame.TheVariants.{NotAllThere, BadLength, UnknownType, BadPayload}
use Rattle.message.specs.declared.request.Frame.TheVariants.{BodyTwice, Good}

-- the flag of a frame that holds a request, or a body twice
abbrev pub Tells : Frame → Bool → Bool → Type 0
Tells NotAllThere flag padded = Unit {0}
Tells BadLength flag padded = Unit {0}
Tells (UnknownType used) flag padded = Unit {0}
Tells (BadPayload used kind) flag padded = Unit {0}
Tells (BodyTwice used kind) flag padded = flag ≡ padded
Tells (Good used q) flag padded = flag ≡ padded

-- the id that stands first, and an Open's own fields, by the short ways
abbrev pub TellsFirst : List ℕ → Option First → Bool → Bool → Type 0
TellsFirst s (Some first) before flag = flag ≡ (before || padded_at s (payload + 1))
TellsFirst s None before flag = Unit {0}

abbrev pub TellsOuter : List ℕ → Option Outer → Bool → Bool → Type 0
TellsOuter s (Some outer) before flag = flag ≡ (before || own_padded s)
TellsOuter s None before flag = Unit {0}

-- where a statement stands
abbrev pub TellsStmt : List ℕ → Option Stmt → Bool → Type 0
TellsStmt s (Some stmt) flag = flag ≡ own_padded s
TellsStmt s None flag = Unit {0}

abbrev pub TellsOpening : List ℕ → Option Opening → Bool → Type 0
TellsOpening s (Some opening) flag = flag ≡ own_padded s
TellsOpening s None flag = Unit {0}

-- inside a statement in these parts of s, which then is good
abbrev pub Reads : List (List ℕ) → List ℕ → List Part → Bool → Bool → Type 0
Reads rows s ps before flag = (flag ≡ (before || parts_padded s ps)) × ((merged rows s ps).good ≡ true)

abbrev pub TellsChosen : List ℕ → List Part → Option Chosen → Bool → Bool → Type 0
TellsChosen s ps (Some chosen) before flag = Reads (rows_of prepare_stmt) s ps before flag
TellsChosen s ps None before flag = Unit {0}

-- of an Open's also where its Execute stands
abbrev pub TellsInner : List ℕ → List Part → Option Inner → Bool → Bool → Type 0
TellsInner s ps (Some (Inner.Once body)) before flag =
    Reads (rows_of open_stmt) s ps before flag × (parts_in Fields.open_execute s ps ≡ body ∷ [])
TellsInner s ps (Some Inner.Twice) before flag = Reads (rows_of open_stmt) s ps before flag
TellsInner s ps None before flag = Unit {0}
