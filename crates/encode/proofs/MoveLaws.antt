-- Bytes moved to the front of their own buffer. Assumes nothing.
use Rattle.prelude.proofs.Basics.{ℕ, ◌+◌, ◌≤◌, ◌≡◌, List, length, take, drop, le-leb}
use Rattle.encode.specs.Put.{written, moved_front}

-- where the buffer has them they are moved
pub moved_front_lem : (b : List ℕ) (start len : ℕ) → start + len ≤ length b →
    moved_front b start len ≡ written b 0 (take len (drop start b))
moved_front_lem b start len h = rw (le-leb (start + len) (length b) h)
