-- A number in a fixed count of bytes (W6), as it is written.
use Rattle.std.specs.Prelude.{ℕ, zero, suc, ◌/◌, ◌%◌, List, [], ◌∷◌}

-- in k bytes, least first
unfoldable pub fixed_bytes : ℕ → ℕ → List ℕ
fixed_bytes zero v = []
fixed_bytes (suc k) v = v % 256 ∷ fixed_bytes k (v / 256)
