-- `args::arguments::next_argument` meets its contract: each arm is what the next place makes of the argument. Assumes
-- nothing.
use Rattle.prelude.proofs.Basics.{sym, ap, ◌∙◌}
use Rattle.std.specs.Prelude.{Ok, Some, None}
use Rattle.args.proofs.Names.{found_argument}
use Rattle.args.proofs.PlaceLaws.{next_placed}
use Rattle.args.proofs.arguments.next_argument.Goals as goal

pub returns-in-Ok-Some : goal.returns-in-Ok-Some
returns-in-Ok-Some c =
    ap (λ x. found_argument x c.in-Ok-Some.field-0-0.next) c.read_argument.ensures
    ∙ next_placed c.args.s.now c.args.at (Ok (Some c.in-Ok-Some.field-0-0))
    (ap Ok (sym c.in-Ok-Some.field-0-is) ∙ sym c.in-Ok-Some.is ∙ c.next_place.ensures)

pub returns-in-Ok-None : goal.returns-in-Ok-None
returns-in-Ok-None c = next_placed c.args.s.now c.args.at (Ok None)
    (ap Ok (sym c.in-Ok-None.field-0-is) ∙ sym c.in-Ok-None.is ∙ c.next_place.ensures)

pub returns-in-Err : goal.returns-in-Err
returns-in-Err c = next_placed c.args.s.now c.args.at _
    (sym c.in-Err.is ∙ c.next_place.ensures)
