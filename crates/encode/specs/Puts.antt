-- What a function that puts bytes into a lent buffer comes to.
use Rattle.std.specs.Prelude.{ℕ, ◌+◌, min, max, ◌≡◌, Option, List, length}
use Rattle.std.proofs.lemmas.List.Edits.{sets}
use Rattle.encode.specs.Put.{put_at, written}

-- the bytes stored from a place on, as far as the buffer goes
pub record Puts (before : List ℕ) (at : ℕ) (bytes : List ℕ) (next : ℕ) (after : List ℕ) : Type 0 where
  -- it answers the place behind them: at most the buffer's end, or `at` where that is past the end itself
  pub behind : next ≡ max at (min (at + length bytes) (length before))
  -- each byte stands at its place, those past the end are left out, and every other byte is as it was
  pub stored : after ≡ sets before at bytes

-- all of them where there is room, and nothing where there is none
pub record PutsIfRoom (before : List ℕ) (at : ℕ) (bytes : List ℕ) (answer : Option ℕ) (after : List ℕ) : Type 0 where
  pub answered : answer ≡ put_at before at bytes
  pub left : after ≡ written before at bytes
