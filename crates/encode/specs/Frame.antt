-- A frame as it is written (F1).
use Rattle.std.specs.Prelude.{ℕ, ◌+◌, ◌/◌, ◌%◌, List, [], ◌∷◌, ◌++◌, length}

-- a number in four bytes, least first
abbrev pub four_bytes : ℕ → List ℕ
four_bytes n = n % 256 ∷ n / 256 % 256 ∷ n / 65536 % 256 ∷ n / 16777216 % 256 ∷ []

-- four bytes of length, the type byte, the payload; the length counts the type byte
abbrev pub frame : ℕ → List ℕ → List ℕ
frame kind payload = four_bytes (length payload + 1) ++ (kind ∷ payload)
