-- The frames that stand one behind the other in a byte string, found by their lengths (F1, T9).
use Rattle.std.specs.Prelude.{ℕ, zero, suc, ◌+◌, ◌*◌, Bool, false, cond, ◌&&◌, ◌||◌, List, [], ◌∷◌, length, get_or, drop, ltb, leb, eqb}
use Rattle.protocol.specs.Server as Server

-- the length that the first four bytes state, least first
abbrev pub size_of : List ℕ → ℕ
size_of s = get_or s 0 0 + get_or s 1 0 * 256 + get_or s 2 0 * 65536 + get_or s 3 0 * 16777216

-- a frame stands first: its length is 1 or more, and as many bytes stand behind the four
abbrev pub frame_first : List ℕ → Bool
frame_first s = ltb 0 (size_of s) && leb (4 + size_of s) (length s)

-- the types of the frames, at most n, up to where no frame stands
unfoldable pub types_in : ℕ → List ℕ → List ℕ
types_in zero s = []
types_in (suc n) s = let more = types_in n (drop (4 + size_of s) s) in cond (frame_first s) (get_or s 4 0 ∷ more) []

abbrev pub frame_types : List ℕ → List ℕ
frame_types s = types_in (length s) s

-- one of them is t
unfoldable pub among : ℕ → List ℕ → Bool
among t [] = false
among t (x ∷ xs) = eqb x t || among t xs

-- FetchDone is one of the frames
abbrev pub holds_done : List ℕ → Bool
holds_done s = among Server.fetch_done (frame_types s)
