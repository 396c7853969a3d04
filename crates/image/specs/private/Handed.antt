-- What handing over the bytes of an image answers.
use Rattle.std.specs.Prelude.{ℕ, cond, List, length}
use Rattle.protocol.specs.Reason as Reason
use Rattle.encode.specs.Put.{fits_at}
use Rattle.image_rules.specs.declared.Written.{Written}
use Rattle.image_rules.specs.Image.{answer}

abbrev pub handed : List ℕ → List ℕ → Written
handed image buf = cond (fits_at buf 0 image) (answer Reason.accepted (length image)) (answer Reason.no_room 0)
