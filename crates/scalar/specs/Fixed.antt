-- Fixed values (F1, W6, W7): bytes least first.
use Rattle.std.specs.Prelude.{ℕ, zero, suc, ◌+◌, ◌*◌, cond, List, length, nat_le, slice_index}
use Rattle.varint.specs.declared.Number.{Number}
use Rattle.std.specs.Prelude.{Option, None}
use Rattle.varint.specs.Number.{some_number}

-- the number of the k bytes from the place `at` on, least first
unfoldable pub little : ℕ → List ℕ → ℕ → ℕ
little zero s at = 0
little (suc k) s at = slice_index s at + 256 * little k s (at + 1)

-- a fixed value of k bytes at a place; one that passes the end is bad
abbrev pub fixed_at : ℕ → List ℕ → ℕ → Option Number
fixed_at k s at = cond (nat_le (at + k) (length s)) (some_number (little k s at) (at + k)) None
