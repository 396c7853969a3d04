-- A number in text (P7).
use Rattle.std.specs.Prelude.{ℕ, zero, suc, ◌+◌, ◌/◌, ◌%◌, cond, List, [], ◌∷◌, ◌++◌, ltb}

-- n in at most k digits, most significant first, with no leading zero; the digits 0 to 9 are the bytes 48 to 57
unfoldable pub digits : ℕ → ℕ → List ℕ
digits zero n = []
digits (suc k) n = let higher = digits k (n / 10) in cond (ltb n 10) ((48 + n) ∷ []) (higher ++ ((48 + n % 10) ∷ []))

-- the decimal of a number below 2 ^ 64
abbrev pub decimal : ℕ → List ℕ
decimal n = digits 20 n
