-- The parts that are still to come, as one function tells them to another. For contracts inside the library; what is
-- promised does not cite it.
use Rattle.std.specs.Prelude.{ℕ, ◌≤◌, ◌<◌, ◌≡◌, List, [], ◌∷◌, ◌++◌, Option, Some, None, length, take}
use Rattle.layout.specs.Merged.{end_of, parts_of, parts_in}
use Rattle.layout.specs.declared.part.Part.{Part}
use Rattle.layout.specs.declared.merge.NextPart.{NextPart}
use Rattle.layout.specs.declared.parts.Parts.{Parts}

-- of the parts in field k from the place `at` on, this one is the first
pub record First (k : ℕ) (s : List ℕ) (at : ℕ) (found : NextPart) : Type 0 where
  pub parts : parts_of k s at ≡ found.part ∷ parts_of k s found.next
  pub inside : end_of found.part ≤ length s
  pub onward : at < found.next
  pub within : found.next ≤ length s

abbrev pub Tells : ℕ → List ℕ → ℕ → Option NextPart → Type 0
Tells k s at (Some found) = First k s at found
Tells k s at None = parts_of k s at ≡ []

-- those of the part that is being looked through, and of the parts behind it
abbrev pub left : Parts → List Part
left p = parts_of p.number (take p.end p.s.now) p.at ++ parts_in p.number p.s.now (parts_of p.outer p.s.now p.next)
