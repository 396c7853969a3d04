-- Each Scalar type gives its own case: the number of what is read is the type that the message names (L8, H9).
use Rattle.std.specs.Prelude.{ℕ, ◌≡◌, List}
use Rattle.scalar.specs.Argument.{reason_of, type_of}
use Rattle.layout.specs.declared.part.Part.{Part}
use Rattle.layout.specs.declared.slots.Slots.{Slots}
use Rattle.layout.specs.Part.{value_of, low32}
use Rattle.args.specs.Value.{scalar_of}

abbrev pub ReadAsTyped : Type 0
ReadAsTyped =
    (s : List ℕ) (ps : List Part) (x : Slots) → reason_of (scalar_of s ps x) ≡ 0 →
    type_of (scalar_of s ps x) ≡ low32 (value_of x 1)
