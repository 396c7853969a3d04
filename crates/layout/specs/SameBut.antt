-- Byte strings that differ in some of their bytes only. What reads the others alone reads both alike.
use Rattle.std.specs.Prelude.{ℕ, ◌≤◌, ◌<◌, ◌⊎◌, ◌≡◌, List, length, get_or}

-- of one length, and the same but for the bytes from the place `from` to before the place `to`
pub record SameBut (s t : List ℕ) (from to : ℕ) : Type 0 where
  pub size : length t ≡ length s
  pub same : (i : ℕ) → (i < from) ⊎ (to ≤ i) → get_or t i 0 ≡ get_or s i 0
