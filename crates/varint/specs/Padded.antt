-- Padded varints (W18): whether a varint has the bytes that are written for its number. The bytes count and not how
-- many they are: nine bytes 255 and one 127 are padded, though the number has no shorter form.
use Rattle.std.specs.Prelude.{ℕ, ◌-◌, Bool, true, false, not, ◌&&◌, List, [], ◌∷◌, take, drop, eqb}
use Rattle.varint.specs.Varint.{varint_at}
use Rattle.varint.specs.Shortest.{varint_bytes}
use Rattle.varint.specs.declared.Number.{Number}
use Rattle.std.specs.Prelude.{Option, Some, None}

-- two byte strings are the same
unfoldable pub same_bytes : List ℕ → List ℕ → Bool
same_bytes [] [] = true
same_bytes [] (y ∷ ys) = false
same_bytes (x ∷ xs) [] = false
same_bytes (x ∷ xs) (y ∷ ys) = eqb x y && same_bytes xs ys

-- bytes that read as v are padded if others are written for v
abbrev pub is_padded : List ℕ → ℕ → Bool
is_padded bytes v = not (same_bytes bytes (varint_bytes v))

abbrev pub padded_by : List ℕ → ℕ → Option Number → Bool
padded_by s at (Some r) = is_padded (take (r.next - at) (drop at s)) r.value
padded_by s at None = false

-- the varint at the place `at` of s is padded; where there is none, nothing is
unfoldable pub padded_at : List ℕ → ℕ → Bool
padded_at s at = padded_by s at (varint_at s at)
