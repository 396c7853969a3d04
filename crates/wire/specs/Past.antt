-- What every reader here keeps to: it goes forward, and not past the end.
use Rattle.std.specs.Prelude.{ℕ, ◌+◌, ◌≤◌, ◌<◌}
use Rattle.wire.specs.declared.tag.Tag.{Tag}
use Rattle.wire.specs.declared.value.Value.{Value}
use Rattle.wire.specs.declared.field.Field.{Field}
use Rattle.std.specs.Prelude.{Option, Some, None}

abbrev pub PastTag : ℕ → ℕ → Option Tag → Type 0
PastTag at end (Some r) = (at < r.next) × (r.next ≤ end)
PastTag at end None = Unit {0}

-- the value's bytes lie within what was read
abbrev pub PastValue : ℕ → ℕ → Option Value → Type 0
PastValue at end (Some r) = (at ≤ r.start) × (r.start + r.len ≤ r.next) × (at ≤ r.next) × (r.next ≤ end)
PastValue at end None = Unit {0}

abbrev pub PastSkip : ℕ → ℕ → Option ℕ → Type 0
PastSkip at end (Some next) = (at ≤ next) × (next ≤ end)
PastSkip at end None = Unit {0}

abbrev pub PastField : ℕ → ℕ → Option Field → Type 0
PastField at end (Some r) = (at < r.start) × (r.start + r.len ≤ r.next) × (at < r.next) × (r.next ≤ end)
PastField at end None = Unit {0}
