-- `encode::put::copy_over` meets its contract: what is left, stored from here on, gives the bytes. Assumes nothing.
use Rattle.encode.proofs.PutsLaws.{copy_starts, copy_goes_on, copy_ends}
use Rattle.encode.proofs.put.copy_over.Goals as goal

pub loop-i-init : goal.loop-i-init
loop-i-init c = copy_starts c.args.from.now c.args.to.now c.requires

pub loop-i-preserved : goal.loop-i-preserved
loop-i-preserved c = copy_goes_on c.loop-i.invariant c.loop-i-test.true

pub returns : goal.returns
returns c = copy_ends c.loop-i.invariant c.loop-i-test.false
