-- `args::arguments::next_place` meets its contract: an args field is known by its tag; the rest is looked for. Assumes
-- nothing.
use Rattle.prelude.proofs.Basics.{ap, ◌∙◌}
use Rattle.args.proofs.Names.{place_of}
use Rattle.args.proofs.PlaceLaws.{place_none, place_here}
use Rattle.args.proofs.arguments.next_place.Goals as goal

pub returns-then-n-at : goal.returns-then-n-at
returns-then-n-at c = place_none c.args.s.now c.args.at c.if-n-at.true

pub returns-then-s-at-eq-ARGS_TAG : goal.returns-then-s-at-eq-ARGS_TAG
returns-then-s-at-eq-ARGS_TAG c =
    c.place_of.ensures
    ∙ ap place_of c.length_value.ensures.answer
    ∙ place_here c.args.s.now c.args.at c.if-n-at.false c.if-s-at-eq-ARGS_TAG.true
