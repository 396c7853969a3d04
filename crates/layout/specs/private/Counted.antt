-- How many parts there are, as what is found of their field tells it. For contracts inside the library; what is
-- promised does not cite it.
use Rattle.std.specs.Prelude.{◌≡◌, List, length}
use Rattle.layout.specs.Merged.{one_part}
use Rattle.layout.specs.declared.part.Part.{Part}
use Rattle.layout.specs.declared.found.Slot.{Slot}
use Rattle.layout.specs.private.Found.{up_to_two}

-- none, one, or more (2); one stands here
pub record Counted (ps : List Part) (slot : Slot) : Type 0 where
  pub many : slot.times ≡ up_to_two (length ps)
  pub one : length ps ≡ 1 → ps ≡ one_part slot.start slot.value
