-- `layout::merge::is_part` meets its contract: the number is tested, then the wire type. Assumes nothing.
use Rattle.layout.proofs.MergeLaws.{other_number, this_number}
use Rattle.layout.proofs.merge.is_part.Goals as goal

pub returns-then-number-k : goal.returns-then-number-k
returns-then-number-k c = other_number c.args.k c.args.number c.args.wire c.if-number-k.true

pub returns : goal.returns
returns c = this_number c.args.k c.args.number c.args.wire c.if-number-k.false
