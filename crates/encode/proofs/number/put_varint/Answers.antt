-- `encode::number::put_varint` meets its contract: seven bits a turn, and the number of the others is left. Assumes
-- nothing.
use Rattle.prelude.proofs.Basics.{ℕ, arith, mod-eq_of_lt, ap, [], ◌∷◌}
use Prim.Native.Nat.{pred}
use Rattle.varint.specs.Shortest.{varint_bytes}
use Rattle.varint.proofs.ShortestLaws.{shortest_turn, shortest_last}
use Rattle.encode.proofs.PutsLaws.{puts_length, putting_starts, putting_goes_on, putting_ends, puts_as}
use Rattle.encode.proofs.number.put_varint.Goals as goal

pub loop-x-init : goal.loop-x-init
loop-x-init c = (9, omega arith, putting_starts c.args.buf.now c.args.at (varint_bytes c.args.v))

pub loop-x-smaller : goal.loop-x-smaller
loop-x-smaller c = omega arith

pub loop-x-preserved : goal.loop-x-preserved
loop-x-preserved c = let l = c.loop-x in
    let t = shortest_turn l.invariant.0 l.x c.loop-x-test.true l.invariant.1 in
    (pred l.invariant.0, t.0, putting_goes_on l.invariant.2 t.1 c.put_byte-p.ensures)

-- below 128 the number is the last byte
pub returns : goal.returns
returns c = let l = c.loop-x in
    putting_ends l.invariant.2 (shortest_last l.invariant.0 l.x c.loop-x-test.false)
    (puts_as (ap (λ (b : ℕ). b ∷ []) (mod-eq_of_lt c.loop-x-test.false)) c.put_byte.ensures)

pub shape_of-buf : goal.shape_of-buf
shape_of-buf c = puts_length (returns c)
