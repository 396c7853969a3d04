-- Four bytes by place are `little 4`; sums of bytes stay below 2 ^ 32.
use Rattle.prelude.proofs.Basics.{arith}
use Rattle.scalar.proofs.FixedLaws.{little_four}
use Rattle.scalar.proofs.fixed.four.Goals as goal

pub returns : goal.returns
returns c = omega
    (arith, little_four c.args.s.now c.args.at)
