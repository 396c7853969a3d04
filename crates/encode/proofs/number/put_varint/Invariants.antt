-- `encode::number::put_varint` meets its contract: seven bits a turn, and the number of the others is left. Assumes
-- nothing.
use Rattle.prelude.proofs.Basics.{ℕ, suc, ◌^◌, ◌<◌}
use Rattle.varint.specs.Shortest.{shortest, varint_bytes}
use Rattle.encode.proofs.PutsLaws.{Putting}
use Rattle.encode.proofs.number.put_varint.Given as goal

abbrev pub invariant-loop-x : goal.invariant-loop-x
invariant-loop-x l = (m : ℕ) × (l.x < 128 ^ suc m) × Putting l.initial.buf l.at (varint_bytes l.v) l.buf l.p
    (shortest (suc m) l.x)

abbrev pub decreases-loop-x : goal.decreases-loop-x
decreases-loop-x l = l.x
