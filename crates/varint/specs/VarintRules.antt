-- What reading and writing a varint come to together.
use Rattle.std.specs.Prelude.{ℕ, ◌+◌, ◌-◌, ◌^◌, ◌≤◌, ◌<◌, ◌≡◌, false, List, ◌++◌, length, take, drop}
use Rattle.varint.specs.Varint.{varint_at}
use Rattle.varint.specs.Shortest.{shortest, varint_bytes}
use Rattle.varint.specs.Padded.{padded_at}
use Rattle.varint.specs.Number.{some_number}

-- what is written reads back, whatever stands before it and behind it
abbrev pub ReadsBack : Type 0
ReadsBack =
    (v : ℕ) (p q : List ℕ) →
    v < 2 ^ 64 → varint_at (p ++ varint_bytes v ++ q) (length p) ≡ some_number v (length p + length (varint_bytes v))

-- no varint that reads as v is shorter than the one written for v
abbrev pub NoneShorter : Type 0
NoneShorter = (s : List ℕ) (at v next : ℕ) → varint_at s at ≡ some_number v next → at + length (varint_bytes v) ≤ next

-- what is written is not padded (W18)
abbrev pub WrittenPlain : Type 0
WrittenPlain = (v : ℕ) (p q : List ℕ) → v < 2 ^ 64 → padded_at (p ++ varint_bytes v ++ q) (length p) ≡ false

-- and of the bytes that read as a number only those are not padded
abbrev pub OnlyWritten : Type 0
OnlyWritten =
    (s : List ℕ) (at v next : ℕ) →
    varint_at s at ≡ some_number v next → padded_at s at ≡ false → take (next - at) (drop at s) ≡ varint_bytes v

-- ten bytes are no limit: more of them change no number below 2 ^ 64 (C2)
abbrev pub TenEnough : Type 0
TenEnough = (n v : ℕ) → 10 ≤ n → v < 2 ^ 64 → shortest n v ≡ varint_bytes v
