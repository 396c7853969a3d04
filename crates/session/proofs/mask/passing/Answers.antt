-- The bits of the places from here on; a turn puts the one before in front. A table of 64 places fits a
-- number of 64 bits. Assumes nothing.
use Rattle.prelude.proofs.Basics.{arith, cond, ap, ◌∙◌}
use Rattle.session.proofs.EntryLaws.{bit_of, bit_small}
use Rattle.session.proofs.LoopLaws.{masks, masks_on, masked, mask_room}
use Rattle.session.proofs.mask.passing.Goals as goal

pub loop-i-init : goal.loop-i-init
loop-i-init c = masks

pub overflow_mul-mask : goal.overflow_mul-mask
overflow_mul-mask c = omega (arith, mask_room c.loop-i.invariant (omega arith) c.loop-i-test.true)

pub overflow_add-mask : goal.overflow_add-mask
overflow_add-mask c =
    omega (arith, c.from.ensures, bit_small c.passes.result, mask_room c.loop-i.invariant (omega arith) c.loop-i-test.true)

pub loop-i-preserved : goal.loop-i-preserved
loop-i-preserved c =
    masks_on c.loop-i.invariant c.from.result c.loop-i-test.true
    (c.from.ensures ∙ bit_of c.passes.result ∙ ap (λ b. cond b 1 0) c.passes.ensures)

pub returns : goal.returns
returns c = masked c.loop-i.invariant c.loop-i-test.false
