-- `wire::field::valued` meets its contract: each arm is one clause of of_value. Assumes nothing.
use Rattle.prelude.proofs.Basics.{sym, ap}
use Rattle.wire.proofs.Names.{of_value}
use Rattle.wire.proofs.field.valued.Goals as goal

pub returns : goal.returns
returns c = ap (of_value c.args.n c.args.wire) (sym c.in_ok-value.was)
