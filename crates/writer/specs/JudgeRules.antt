-- What holds of every stretch of arguments beside its definition.
use Rattle.std.specs.Prelude.{ℕ, ◌≤◌, ◌≡◌, List, length}
use Rattle.writer.specs.Judge.{args_from, good_stretch}

-- the number of fields is no limit: any that is enough for the bytes gives the same (C3)
abbrev pub EnoughFields : Type 0
EnoughFields = (most : ℕ) (s : List ℕ) → length s ≤ most → args_from most s 0 ≡ good_stretch s
