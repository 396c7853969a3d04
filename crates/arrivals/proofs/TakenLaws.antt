-- How much of an arrival is taken. Assumes nothing.
use Rattle.prelude.proofs.Basics.{ℕ, ◌-◌, min, false, ◌≡◌, ◌∙◌, List, length, no}
use Rattle.streams.specs.Reader.{bad_first, part, taken_count}
use Rattle.streams.specs.declared.Reader.{Reader}

-- where no bad length stands first: what there is room for beside the bytes held
pub taken_room : (store : List ℕ) (r : Reader) (arrival : List ℕ) {n : ℕ} → bad_first (part store r) ≡ false →
    n ≡ min (length arrival) (length store - length (part store r)) →
    n ≡ taken_count (length store) (part store r) arrival
taken_room store r arrival e g = g ∙ no 0 (min (length arrival) (length store - length (part store r))) e
