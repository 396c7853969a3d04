-- The cursor looked up decides. Assumes nothing.
use Rattle.prelude.proofs.Basics.{◌∙◌, ap}
use Rattle.protocol.specs.Reason.{outcome_number}
use Rattle.keeper.proofs.Names.{session_of}
use Rattle.keeper.proofs.RequestLaws.{cursor_found}
use Rattle.keeper.proofs.LookLaws.{closed_and, fetch_look}
use Rattle.keeper.proofs.InspectLaws.{fetch_touches}
use Rattle.keeper.proofs.inspect.inspect_fetch.Goals as goal

pub returns : goal.returns
returns c =
    let s = session_of c.args.words.now in record {
      look = c.found_rows.ensures ∙ fetch_look s c.args.f _
          (cursor_found s c.args.f.cursor c.find_cursor-place.ensures c.cursor_at-cursor.ensures)
          c.fetch.ensures
          (ap outcome_number c.and-outcome.ensures ∙ closed_and s c.unclosed.result c.fetch.result c.unclosed.ensures);
      touches = c.touches.ensures ∙ fetch_touches s c.args.f c.find_cursor-place.ensures;
    }
