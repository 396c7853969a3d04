-- What a `?` hands on. Assumes nothing.
use Rattle.prelude.proofs.Basics.{◌≡◌, ap}
use Rattle.std.specs.Prelude.{Result, Ok, Err, IsErr, IsErrAnd}

pub handed_on : {A E : Type 0} (r : Result A E) (e : E) → IsErr r × IsErrAnd r (λ x. x ≡ e) → r ≡ Err e
handed_on (Ok x) e h = absurd h.1
handed_on (Err x) e h = ap Err h.1
