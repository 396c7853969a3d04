-- The Execute of the whole payload.
use Rattle.prelude.proofs.Basics.{ℕ, ap, ◌∙◌}
use Rattle.message.proofs.Names.{execute_padded, payload, execute_in, execute_from, execute_frame}
use Rattle.message.proofs.PaddedLaws.{tells_as}
use Rattle.message.proofs.execute.read_execute.Goals as goal

pub returns : goal.returns
unfolding execute_frame
returns c = let s = c.args.s.now in record {
  answer = c.execute_from.ensures.answer ∙ ap (λ (k : ℕ). execute_from s (execute_in s payload k)) c.rest.ensures;
  told = tells_as c.execute_from.result c.execute_from.new.padded
      (ap (execute_padded s payload) c.rest.ensures)
      c.execute_from.ensures.told;
}
