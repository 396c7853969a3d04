-- Writing a draft into a lent buffer (C6, C8). It is refused, in this order, 6 for a bad stretch, a bad body or an
-- unlisted type (of the statement or of the message), 2 if the frame passes the limit, 3 exactly if the buffer is too
-- small, and then nothing is written. Bytes past a written frame stay as they were.
use Rattle.std.specs.Prelude.{ℕ, ◌+◌, cond, Result, Ok, Err, List, length, leb, eqb}
use Rattle.protocol.specs.Reason as Reason
use Rattle.protocol.specs.declared.reason.Reason.{Reason}
use Rattle.encode.specs.Put.{written}
use Rattle.encode.specs.Frame.{frame}
use Rattle.message.specs.Head.{max_length}
use Rattle.writer.specs.declared.Draft.{Draft}
use Rattle.writer.specs.declared.Sent.{Sent}
use Rattle.writer.specs.Judge.{accepted}
use Rattle.writer.specs.Payload.{payload_of}

-- the whole frame
abbrev pub frame_bytes : Draft → List ℕ → List ℕ → List ℕ
frame_bytes d body args = frame d.kind (payload_of d body args)

-- why a draft is refused, whatever the buffer; a frame's length counts the type byte and the payload
unfoldable pub draft_reason : Draft → List ℕ → List ℕ → ℕ
draft_reason d body args =
    cond (accepted d body args)
    (cond (leb (length (payload_of d body args) + 1) max_length) Reason.accepted Reason.bad_length)
    Reason.bad_payload

-- why it is refused for a buffer with this much room; 0 where it is written
abbrev pub write_reason : Draft → List ℕ → List ℕ → ℕ → ℕ
write_reason d body args room =
    cond (eqb (draft_reason d body args) Reason.accepted)
    (cond (leb (length (frame_bytes d body args)) room) Reason.accepted Reason.no_room)
    (draft_reason d body args)

abbrev pub sent : ℕ → ℕ → Sent
sent reason len = record { reason = reason; len = len }

-- the answer: the reason, and the length of the frame where it is written
abbrev pub sent_for : ℕ → ℕ → Sent
sent_for reason len = sent reason (cond (eqb reason Reason.accepted) len 0)

-- the answer to an outcome: the length, or the reason
abbrev pub sent_by : Result ℕ Reason → Sent
sent_by (Ok len) = sent Reason.accepted len
sent_by (Err reason) = sent (Reason.number_of reason) 0

unfoldable pub sent_of : Draft → List ℕ → List ℕ → ℕ → Sent
sent_of d body args room = sent_for (write_reason d body args room) (length (frame_bytes d body args))

-- the buffer afterwards
unfoldable pub left_of : Draft → List ℕ → List ℕ → List ℕ → List ℕ
left_of d body args buf =
    cond (eqb (write_reason d body args (length buf)) Reason.accepted) (written buf 0 (frame_bytes d body args)) buf
