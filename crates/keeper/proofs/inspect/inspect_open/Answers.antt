-- Statement and place are looked up once. Assumes nothing.
use Rattle.prelude.proofs.Basics.{◌∙◌}
use Rattle.keeper.proofs.Names.{Request, session_of}
use Rattle.keeper.proofs.LookLaws.{closed_or_look, open_wants}
use Rattle.keeper.proofs.InspectLaws.{open_touches}
use Rattle.keeper.proofs.inspect.inspect_open.Goals as goal

pub open-outcome-requires : goal.open-outcome-requires
open-outcome-requires c = c.cursor_place-place.ensures

pub returns : goal.returns
returns c =
    let s = session_of c.args.words.now in record {
      look = c.told.ensures.look ∙ closed_or_look s (Request.Open c.args.o) _ c.open-outcome.ensures _
          (open_wants s c.args.o);
      touches = c.told.ensures.touches ∙ c.touches.ensures ∙ open_touches s c.args.o
          c.find_stmt-stmt.ensures
          c.cursor_place-place.ensures
          c.passing-ends.ensures;
    }
