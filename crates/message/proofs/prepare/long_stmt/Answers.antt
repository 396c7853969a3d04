-- The message's fields are found; the statement stands in field 2.
use Rattle.prelude.proofs.Basics.{Bool, ◌||◌, ap, ◌∙◌}
use Rattle.message.proofs.Names.{own_padded}
use Rattle.message.proofs.FoundLaws.{prepare_refused, prepare_whole, prepare_once}
use Rattle.message.proofs.prepare.long_stmt.Goals as goal

pub returns-then-not-fill_payload : goal.returns-then-not-fill_payload
returns-then-not-fill_payload c = let s = c.args.s.now in record {
  answer = prepare_refused s (rw c.prepare_rows-rows.ensures at c.fill_payload.ensures.holds)
      (c.if-not-fill_payload.true);
  told = tt;
}

pub returns : goal.returns
returns c = let s = c.args.s.now in
    let good = c.if-not-fill_payload.false in
    let held = rw c.prepare_rows-rows.ensures at c.fill_payload.ensures.holds in record {
      answer =
          (prepare_whole s held good, rw c.once.ensures (prepare_once s held good));
      told =
          c.fill_payload.ensures.told ∙ ap (λ (b : Bool). b || own_padded s) c.requires;
    }
