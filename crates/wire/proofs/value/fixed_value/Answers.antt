-- `wire::value::fixed_value` meets its contract: each arm is one clause of of_fixed. Assumes nothing.
use Rattle.prelude.proofs.Basics.{sym, ap}
use Rattle.wire.proofs.Names.{of_fixed}
use Rattle.wire.proofs.value.fixed_value.Goals as goal

pub returns : goal.returns
returns c = ap (of_fixed c.args.width c.args.at) (sym c.in_ok-fixed.was)
