-- sint64 is zigzag (W5): 0, -1, 1 are 0, 1, 2, and -2^63 is 2^64 - 1.
use Rattle.std.specs.Prelude.{ℕ, ◌+◌, ◌*◌, ◌/◌, ◌%◌, cond, ℤ, pos, negsuc, ◌==◌}

-- the unsigned number of a signed one; negsuc k is -(k + 1)
abbrev pub zigzag : ℤ → ℕ
zigzag (pos k) = 2 * k
zigzag (negsuc k) = 2 * k + 1

-- the signed number of an unsigned one
abbrev pub unzigzag : ℕ → ℤ
unzigzag n = cond (n % 2 == 0) (pos (n / 2)) (negsuc (n / 2))
