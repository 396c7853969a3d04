-- A varint ends past its first byte and within the bytes. Assumes nothing.
use Rattle.prelude.proofs.Basics.{ℕ, zero, suc, ◌+◌, ◌%◌, arith, List, length, get_or, ltb, ltb-true, both}
use Rattle.varint.specs.Varint.{onto, groups, low64, varint_at}
use Rattle.varint.specs.Past.{Past}
use Rattle.varint.specs.declared.Number.{Number}
use Rattle.std.specs.Prelude.{Option, Some, None}

onto_past : (low w at end : ℕ) (x : Option Number) → Past (at + 1) end x → Past at end (onto low w x)
onto_past low w at end (Some r) h = (omega arith, omega arith)
onto_past low w at end None h = tt

pub groups_past : (n : ℕ) (s : List ℕ) (at : ℕ) → Past at (length s) (groups n s at)
unfolding groups
groups_past zero s at = tt
groups_past (suc n) s at =
    both (Past at (length s)) (ltb at (length s)) _ _
    (λ e.
    both (Past at (length s)) (ltb (get_or s at 0) 128) _ _
    (λ _. (omega arith, omega (arith, ltb-true at (length s) e)))
    (λ _. onto_past (get_or s at 0 % 128) 128 at (length s) (groups n s (at + 1)) (groups_past n s (at + 1))))
    (λ _. tt)

low64_past : (at end : ℕ) (x : Option Number) → Past at end x → Past at end (low64 x)
low64_past at end (Some r) h = h
low64_past at end None h = tt

pub varint_past : (s : List ℕ) (at : ℕ) → Past at (length s) (varint_at s at)
varint_past s at = low64_past at (length s) (groups 10 s at) (groups_past 10 s at)
