-- What holds of every group beside its definition.
use Rattle.std.specs.Prelude.{ℕ, suc, ◌+◌, ◌≤◌, ◌≡◌, List, length}
use Rattle.wire.specs.Group.{group_fields, group_end}

-- the number of fields is no limit: any that is enough for the bytes left gives the same (W12, W13)
abbrev pub EnoughFields : Type 0
EnoughFields =
    (depth most : ℕ) (s : List ℕ) (at number : ℕ) →
    length s ≤ at + most →
    group_fields (λ n p. group_end depth s p n) most s at number ≡ group_end (suc depth) s at number
