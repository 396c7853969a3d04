-- Writing a varint (C2, C9).
use Rattle.std.specs.Prelude.{ℕ, zero, suc, ◌+◌, ◌/◌, ◌%◌, cond, List, [], ◌∷◌, ltb}

-- v in at most n bytes: seven bits each, least group first, 128 added to each byte but the last (W1, C2)
unfoldable pub shortest : ℕ → ℕ → List ℕ
shortest zero v = []
shortest (suc n) v = let rest = shortest n (v / 128) in cond (ltb v 128) (v ∷ []) ((128 + v % 128) ∷ rest)

-- the bytes of a number below 2 ^ 64
abbrev pub varint_bytes : ℕ → List ℕ
varint_bytes v = shortest 10 v
