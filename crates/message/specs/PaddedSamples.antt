-- Frames whose padding is worked out: a message that pads is found, and one that does not is not (W20).
use Rattle.std.specs.Prelude.{ℕ, true, false, ◌≡◌, List, [], ◌∷◌}
use Rattle.protocol.specs.Client as Client
use Rattle.message.specs.Padded.{padded_of}

-- a frame of this type whose payload is field 1, an id, in one byte or in five
abbrev pub short : ℕ → List ℕ
short kind = 3 ∷ 0 ∷ 0 ∷ 0 ∷ kind ∷ 8 ∷ 1 ∷ []

abbrev pub long : ℕ → List ℕ
long kind = 7 ∷ 0 ∷ 0 ∷ 0 ∷ kind ∷ 8 ∷ 129 ∷ 128 ∷ 128 ∷ 128 ∷ 0 ∷ []

-- one of a kind, the user's own case: ids in five bytes
abbrev pub TellsApart : ℕ → Type 0
TellsApart kind = (padded_of (short kind) ≡ false) × (padded_of (long kind) ≡ true)

abbrev pub IdsTellApart : Type 0
IdsTellApart =
    TellsApart Client.execute × (TellsApart Client.deallocate × (TellsApart Client.close × TellsApart Client.fetch))
