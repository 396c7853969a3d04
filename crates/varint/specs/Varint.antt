-- Reading a varint (W1, W2): 1 to 10 bytes, seven bits each, least group first; bits past 64 are dropped.
use Rattle.std.specs.Prelude.{ℕ, zero, suc, ◌+◌, ◌*◌, ◌%◌, ◌^◌, cond, List, length, get_or, ltb}
use Rattle.varint.specs.declared.Number.{Number}
use Rattle.std.specs.Prelude.{Option, Some, None}
use Rattle.varint.specs.Number.{some_number}

-- the number low + weight * v, of the low bits and the number v of the groups behind them
abbrev pub onto : ℕ → ℕ → Option Number → Option Number
onto low weight (Some r) = some_number (low + weight * r.value) r.next
onto low weight None = None

-- at most n groups from the place `at` on: a byte below 128 is the last, and any other has one behind it
unfoldable pub groups : ℕ → List ℕ → ℕ → Option Number
groups zero s at = None
groups (suc n) s at =
    let more = groups n s (at + 1) in
    cond (ltb at (length s))
    (cond (ltb (get_or s at 0) 128) (some_number (get_or s at 0) (at + 1)) (onto (get_or s at 0 % 128) 128 more))
    None

-- bits past 64 are dropped (W2)
abbrev pub low64 : Option Number → Option Number
low64 (Some r) = some_number (r.value % 2 ^ 64) r.next
low64 None = None

-- the varint at the place `at` of s
abbrev pub varint_at : List ℕ → ℕ → Option Number
varint_at s at = low64 (groups 10 s at)
