-- `encode::put::put_fixed` meets its contract: one byte a turn, and the number of the others is left. Assumes nothing.
use Rattle.prelude.proofs.Basics.{◌+◌, ◌-◌, arith}
use Rattle.encode.proofs.PutsLaws.{putting_goes_on, putting_ended}
use Rattle.encode.proofs.FieldLaws.{fixed_more, fixed_none}
use Rattle.encode.proofs.put.put_fixed.Goals as goal

pub loop-preserved : goal.loop-preserved
loop-preserved c = let l = c.loop in
    let k = c.args.k in
    putting_goes_on l.invariant (fixed_more (k - l.counter) (k - (l.counter + 1)) l.x (omega arith)) c.put_byte-p.ensures

pub returns : goal.returns
returns c = let l = c.loop in
    putting_ended l.invariant (fixed_none (c.args.k - l.counter) l.x (omega arith))
