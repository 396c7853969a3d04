-- Frames in parts, by the reason they are told (L6, L10, R17). Prepares of a find: type and body apart, a body twice, and
-- what comes before 17 or does not count. Opens: type and Execute apart, and no Execute at all.
use Rattle.std.specs.Prelude.{ℕ, ◌≡◌, List, [], ◌∷◌}
use Rattle.protocol.specs.Reason as Reason
use Rattle.message.specs.Frame.{frame_of, reason_of}

-- the type in one part, an empty find in the next
abbrev pub apart : List ℕ
apart = 11 ∷ 0 ∷ 0 ∷ 0 ∷ 40 ∷ 8 ∷ 1 ∷ 18 ∷ 2 ∷ 8 ∷ 0 ∷ 18 ∷ 2 ∷ 18 ∷ 0 ∷ []

-- the find a second time, in a part of its own
abbrev pub doubled : List ℕ
doubled = 15 ∷ 0 ∷ 0 ∷ 0 ∷ 40 ∷ 8 ∷ 1 ∷ 18 ∷ 4 ∷ 8 ∷ 0 ∷ 18 ∷ 0 ∷ 18 ∷ 0 ∷ 18 ∷ 2 ∷ 18 ∷ 0 ∷ []

-- the first of two finds is no list of fields
abbrev pub doubled_bad : List ℕ
doubled_bad = 14 ∷ 0 ∷ 0 ∷ 0 ∷ 40 ∷ 8 ∷ 1 ∷ 18 ∷ 5 ∷ 8 ∷ 0 ∷ 18 ∷ 1 ∷ 255 ∷ 18 ∷ 2 ∷ 18 ∷ 0 ∷ []

-- an insert, which is not chosen, twice and no list of fields
abbrev pub unchosen : List ℕ
unchosen =
    17 ∷ 0 ∷ 0 ∷ 0 ∷ 40 ∷ 8 ∷ 1 ∷ 18 ∷ 5 ∷ 8 ∷ 0 ∷ 26 ∷ 1 ∷ 255 ∷ 18 ∷ 5 ∷ 18 ∷ 0 ∷ 26 ∷ 1 ∷ 255 ∷ []

abbrev pub TwiceShown : Type 0
TwiceShown =
    (reason_of (frame_of apart) ≡ Reason.accepted) × ((reason_of (frame_of doubled) ≡ Reason.body_twice)
    × ((reason_of (frame_of doubled_bad) ≡ Reason.bad_payload) × (reason_of (frame_of unchosen) ≡ Reason.accepted)))

-- cursor 1, the type in one part, an Execute of statement 1 in the next
abbrev pub open_apart : List ℕ
open_apart = 13 ∷ 0 ∷ 0 ∷ 0 ∷ 43 ∷ 8 ∷ 1 ∷ 34 ∷ 2 ∷ 8 ∷ 0 ∷ 34 ∷ 4 ∷ 18 ∷ 2 ∷ 8 ∷ 1 ∷ []

-- the type and nothing else
abbrev pub open_bare : List ℕ
open_bare = 7 ∷ 0 ∷ 0 ∷ 0 ∷ 43 ∷ 8 ∷ 1 ∷ 34 ∷ 2 ∷ 8 ∷ 0 ∷ []

abbrev pub OpenShown : Type 0
OpenShown =
    (reason_of (frame_of open_apart) ≡ Reason.accepted) × (reason_of (frame_of open_bare) ≡ Reason.bad_payload)
