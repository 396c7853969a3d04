-- Numbers as bytes: the shortest varint of each, one behind the other (I1). An image is nothing else. No number of an
-- acceptable image is 2^32 or more, nor is one of a session of 32-bit words.
use Rattle.std.specs.Prelude.{ℕ, zero, suc, cond, List, [], ◌∷◌, ◌++◌, leb}
use Rattle.varint.specs.declared.Number.{Number}
use Rattle.varint.specs.Varint.{varint_at}
use Rattle.varint.specs.Shortest.{varint_bytes}
use Rattle.varint.specs.Padded.{padded_at}
use Rattle.session.specs.Sound.{max_number}
use Rattle.std.specs.Prelude.{Option, Some, None}

unfoldable pub bytes_of : List ℕ → List ℕ
bytes_of [] = []
bytes_of (n ∷ ns) = varint_bytes n ++ bytes_of ns

-- what is read from a place on: some numbers and the place behind them, or bytes that are no such numbers
pub data Front : Type 0 where
  numbers : List ℕ → ℕ → Front
  broken : Front

-- a number, and behind it what is read from there on
abbrev pub ahead : ℕ → Front → Front
ahead n (Front.numbers ns next) = Front.numbers (n ∷ ns) next
ahead n Front.broken = Front.broken

abbrev pub on_varint : Option Number → (ℕ → ℕ → Front) → Front
on_varint (Some r) f = f r.value r.next
on_varint None f = Front.broken

-- k numbers below 2^32 from the place `at` on, each in its shortest form
unfoldable pub front_at : ℕ → List ℕ → ℕ → Front
front_at zero s at = Front.numbers [] at
front_at (suc k) s at =
    let here = on_varint (varint_at s at) (λ n next. cond (leb n max_number) (ahead n (front_at k s next)) Front.broken) in
    cond (padded_at s at) Front.broken here
