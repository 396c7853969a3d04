-- No entry is looked up. Assumes nothing.
use Rattle.prelude.proofs.Basics.{◌∙◌}
use Rattle.keeper.proofs.Names.{Request, session_of}
use Rattle.keeper.proofs.RequestLaws.{reset_looks}
use Rattle.keeper.proofs.LookLaws.{closed_or_look, reset_wants}
use Rattle.keeper.proofs.InspectLaws.{reset_touches}
use Rattle.keeper.proofs.inspect.all_end.Goals as goal

pub returns : goal.returns
returns c = let s = session_of c.args.words.now in record {
  look =
      c.told.ensures.look ∙ closed_or_look s Request.Reset _ (reset_looks s) _ (reset_wants s);
  touches =
      c.told.ensures.touches ∙ c.touches-all.ensures ∙ reset_touches s c.passing.ensures;
}
