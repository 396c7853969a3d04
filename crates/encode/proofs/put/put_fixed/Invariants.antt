-- `encode::put::put_fixed` meets its contract: one byte a turn, and the number of the others is left. Assumes nothing.
use Rattle.prelude.proofs.Basics.{◌-◌}
use Rattle.encode.specs.Fixed.{fixed_bytes}
use Rattle.encode.proofs.PutsLaws.{Putting}
use Rattle.encode.proofs.put.put_fixed.Given as goal

abbrev pub invariant-loop : goal.invariant-loop
invariant-loop l = Putting l.initial.buf l.at (fixed_bytes l.k l.v) l.buf l.p (fixed_bytes (l.k - l.counter) l.x)
