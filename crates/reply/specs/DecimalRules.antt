-- What the decimal of a number is, by properties that do not depend on how its digits are worked out.
use Rattle.std.specs.Prelude.{ℕ, suc, ◌+◌, ◌-◌, ◌*◌, ◌^◌, ◌≤◌, ◌<◌, ◌≡◌, List, [], ◌∷◌, length, get_or}
use Rattle.reply.specs.Decimal.{decimal}

-- the number that digits denote, read from the left; `read` is the number of those already read
unfoldable pub denoted : ℕ → List ℕ → ℕ
denoted read [] = read
denoted read (d ∷ ds) = denoted (read * 10 + (d - 48)) ds

-- a decimal denotes its number
abbrev pub Denotes : Type 0
Denotes = (n : ℕ) → n < 10 ^ 20 → denoted 0 (decimal n) ≡ n

-- each of its bytes is a digit
abbrev pub EachDigit : Type 0
EachDigit = (n i : ℕ) → i < length (decimal n) → (48 ≤ get_or (decimal n) i 0) × (get_or (decimal n) i 0 ≤ 57)

-- the first is 0 for the number 0 alone
abbrev pub NoLeadingZero : Type 0
NoLeadingZero = (n : ℕ) → 0 < n → n < 10 ^ 20 → 48 < get_or (decimal n) 0 0

-- there is at least one digit, and a number below 10 ^ k has at most k of them (k is 1 or more, here suc k)
abbrev pub Short : Type 0
Short = (n k : ℕ) → n < 10 ^ suc k → (0 < length (decimal n)) × (length (decimal n) ≤ suc k)
