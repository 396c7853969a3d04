-- `reply::write_refusal` meets its contract: the text stands at the front of the array, and what is lent of it is the
-- text. Assumes nothing.
use Rattle.prelude.proofs.Basics.{ℕ, ◌≤◌, arith, sym, ap, length, replicate, length-take-le}
use Rattle.encode.proofs.PutsLaws.{if_room_as, front, front_within}
use Rattle.reply.specs.declared.Refusal.{Refusal}
use Rattle.reply.specs.Reply.{message_of}
use Rattle.reply.specs.Frame.{error_frame}
use Rattle.reply.proofs.TextLaws.{text_within}
use Rattle.reply.proofs.write_refusal.Goals as goal

room : (r : Refusal) → length (message_of r) ≤ length (replicate {A = ℕ} 128 0)
room r = omega (arith, text_within r.reason r.number r.kind)

pub slice_bounds-write_error-end : goal.slice_bounds-write_error-end
slice_bounds-write_error-end c = let a = c.args.refusal in sym
    (length-take-le c.put_text-n.result _ (front_within (room a) c.put_text-n.ensures))

pub returns : goal.returns
returns c = let a = c.args.refusal in
    if_room_as (ap (error_frame a.code) (front (room a) c.put_text-n.ensures)) c.write_error.ensures
