-- A varint from its second byte on, and from its tenth. For contracts inside the library; what is promised does not
-- cite it.
use Rattle.std.specs.Prelude.{ℕ, ◌-◌, ◌%◌, Bool, false, not, cond, List, ◌∷◌, length, get_or, take, drop, ltb, eqb}
use Rattle.varint.specs.Varint.{groups, onto, low64}
use Rattle.varint.specs.Padded.{is_padded}
use Rattle.varint.specs.declared.Number.{Number}
use Rattle.std.specs.Prelude.{Option, Some, None}

-- the varint whose first byte has others behind it, which stand from the place `at` of s on
abbrev pub behind_first : ℕ → List ℕ → ℕ → Option Number
behind_first first s at = low64 (onto (first % 128) 128 (groups 9 s at))

abbrev pub padded_first : ℕ → List ℕ → ℕ → Option Number → Bool
padded_first first s at (Some r) = is_padded (first ∷ take (r.next - at) (drop at s)) r.value
padded_first first s at None = false

-- whether it is padded
unfoldable pub padded_behind : ℕ → List ℕ → ℕ → Bool
padded_behind first s at = padded_first first s at (behind_first first s at)

-- a tenth byte of a varint holds its highest bit, so that is all that is written there
abbrev pub padded_tenth : List ℕ → ℕ → Bool
padded_tenth s at = cond (ltb at (length s)) (cond (ltb (get_or s at 0) 128) (not (eqb (get_or s at 0) 1)) false) false
