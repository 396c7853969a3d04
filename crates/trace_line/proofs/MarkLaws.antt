-- The mark of a line tells the reply: its first frame has the type that the letter stands for. Assumes nothing.
use Rattle.prelude.proofs.Basics.{ℕ, ◌+◌, ◌≤◌, arith, ◌≡◌, refl, ap, ◌∙◌, List, ◌++◌, length, drop, le-leb, ne_eqb}
use Prim.Native.Char.{code}
use Rattle.reply.specs.declared.Reply.{Reply}
use Rattle.reply.specs.declared.Reply.TheVariants.{Nothing, Ok, Suspended, Done, Executed, Error}
use Rattle.reply.specs.Frame.{error_frame}
use Rattle.reply.specs.Reply.{message_of}
use Rattle.reply.specs.ReplyRules.{min_buffer}
use Rattle.rules.proofs.ReadLaws.{frames_are_read}
use Rattle.rules.proofs.BufferLaws.{decision_fits}
use Rattle.trace_line.proofs.Names.{frame_of, written, reply_bytes, decision_of, step_on, mark_of, reply_buffer}
use Rattle.trace_line.specs.LineRules.{letter_for, MarksTell}

-- the mark of a reply with any bytes behind it
module _ (rest : List ℕ) where
  error-marked : (wire : ℕ) (text : List ℕ) →
      mark_of (error_frame wire text ++ rest) (length (error_frame wire text)) ≡ code "E"
  unfolding mark_of
  error-marked wire text = rw (ne_eqb (length (error_frame wire text)) 0 (λ e. omega (arith, e)))

  reply-marked : (r : Reply) → mark_of (reply_bytes r ++ rest) (length (reply_bytes r)) ≡ letter_for r
  unfolding reply_bytes mark_of
  reply-marked Nothing = refl
  reply-marked Ok = refl
  reply-marked Suspended = refl
  reply-marked Done = refl
  reply-marked Executed = refl
  reply-marked (Error e) = error-marked e.code (message_of e)

-- bytes that fit stand at the front of the buffer
fitted : (bytes : List ℕ) → length bytes ≤ min_buffer →
    written reply_buffer 0 bytes ≡ bytes ++ drop (0 + length bytes) reply_buffer
fitted bytes h = rw (le-leb (0 + length bytes) (length reply_buffer) (omega arith))

pub marks_tell : MarksTell
unfolding step_on
marks_tell n session frame report =
    let x = frame_of frame in
    let d = decision_of session x report in
    let bytes = reply_bytes d.reply in
    ap (λ (b : List ℕ). mark_of b (length bytes))
    (fitted bytes (decision_fits session x report (frames_are_read frame)))
    ∙ reply-marked (drop (0 + length bytes) reply_buffer) d.reply
