-- What every reader of this library keeps to: it goes forward, and not past the end.
use Rattle.std.specs.Prelude.{ℕ, ◌≤◌, ◌<◌}
use Rattle.varint.specs.declared.Number.{Number}
use Rattle.std.specs.Prelude.{Option, Some, None}

-- the place behind a varint lies past its first byte and within the bytes
abbrev pub Past : ℕ → ℕ → Option Number → Type 0
Past at end (Some r) = (at < r.next) × (r.next ≤ end)
Past at end None = Unit {0}
