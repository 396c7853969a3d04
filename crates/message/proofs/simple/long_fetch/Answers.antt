-- What was found are the message's fields.
use Rattle.prelude.proofs.Basics.{ap, ◌∙◌, length}
use Rattle.layout.specs.private.Found.{slot_at}
use Rattle.message.proofs.Names.{fetch_frame}
use Rattle.message.specs.private.Parts.{fetch_of}
use Rattle.message.proofs.FoundLaws.{fetch_spoiled, fetch_held}
use Rattle.message.proofs.simple.long_fetch.Goals as goal

pub returns-then-not-fill_payload : goal.returns-then-not-fill_payload
unfolding fetch_frame
returns-then-not-fill_payload c = let s = c.args.s.now in record {
  answer =
      fetch_spoiled s (rw c.fetch_rows-rows.ensures at c.fill_payload.ensures.holds) (c.if-not-fill_payload.true);
  told = tt;
}

pub returns : goal.returns
unfolding fetch_frame
returns c = let s = c.args.s.now in record {
  answer = c.fetch_of.ensures
      ∙ ap (fetch_of (length s) (slot_at c.fill_payload.new.found 1).value) c.optional.ensures
      ∙ fetch_held s (rw c.fetch_rows-rows.ensures at c.fill_payload.ensures.holds)
      (c.if-not-fill_payload.false);
  told = rw c.fetch_of.ensures c.fill_payload.ensures.told;
}
