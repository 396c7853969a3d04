-- The id that is found, or none, is the one of the definition.
use Rattle.prelude.proofs.Basics.{ℕ, List, sym, ◌∙◌}
use Rattle.protocol.specs.Client as Client
use Rattle.message.proofs.Names.{close_frame, fields_at, rows_of, payload, Request, Slots}
use Rattle.message.proofs.MessageLaws.{id_bad, id_good}
use Rattle.message.proofs.simple.read_close.Goals as goal

abbrev found : List ℕ → Slots
found s = fields_at (rows_of Client.close) s payload

pub returns-in-Some : goal.returns-in-Some
unfolding close_frame
returns-in-Some c = record {
  answer = id_good c.args.s.now Client.close Request.Close (found c.args.s.now)
      (sym c.in-Some.is ∙ rw c.close_rows.ensures at c.read_id.ensures.answer);
  told = c.read_id.ensures.told;
}

pub returns-in-None : goal.returns-in-None
unfolding close_frame
returns-in-None c = record {
  answer = id_bad c.args.s.now Client.close Request.Close (found c.args.s.now)
      (sym c.in-None.is ∙ rw c.close_rows.ensures at c.read_id.ensures.answer);
  told = tt;
}
