-- Embedded messages, case by case. Assumes nothing.
use Rattle.prelude.proofs.Basics.{ℕ, ◌+◌, ◌≤◌, ◌<◌, false, ◌≡◌, refl, subst, List, length, take, le-leb, lt-leb}
use Rattle.layout.proofs.Names.{bad_slots, fields_at, embedded, Slots}
use Rattle.layout.specs.private.Found.{Noted, Holds}
use Rattle.layout.specs.declared.found.Found.{Found}

module _ (rows : List (List ℕ)) (s : List ℕ) (start len : ℕ) where
  part-past : length s < start + len → bad_slots ≡ embedded rows s start len
  part-past h = simp (lt-leb (start + len) (length s) h)

  pub part_within : start + len ≤ length s → fields_at rows (take (start + len) s) start ≡ embedded rows s start len
  part_within h = simp (le-leb (start + len) (length s) h)

  pub holds_past : {found : Found} → length s < start + len →
      Noted bad_slots found →
      Holds (embedded rows s start len) false found
  holds_past {found} h n =
      subst (λ (y : Slots). Holds y false found) (part-past h) (record { answer = refl; held = n })
