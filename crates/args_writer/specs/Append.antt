-- Appending one argument to the stretch in the first bytes of a lent buffer. It is refused, in this order, 6 for no
-- scalar that can be written, 3 exactly if the buffer is too small, and then nothing is written. Every other byte stays
-- as it was (C12).
use Rattle.std.specs.Prelude.{ℕ, ◌+◌, cond, List, length, leb}
use Rattle.protocol.specs.Reason as Reason
use Rattle.encode.specs.Put.{written}
use Rattle.scalar.specs.declared.argument.Argument.{Argument}
use Rattle.writer.specs.declared.Sent.{Sent}
use Rattle.writer.specs.Write.{sent_for}
use Rattle.args_writer.specs.Scalar.{writable, arg_field}

-- why the argument is refused behind the first `at` bytes of a buffer of `room` bytes; 0 where it is written
unfoldable pub append_reason : Argument → List ℕ → ℕ → ℕ → ℕ
append_reason a src room at =
    cond (writable a src) (cond (leb (at + length (arg_field a src)) room) Reason.accepted Reason.no_room)
    Reason.bad_payload

-- the answer: the reason, and the length of the stretch then, where it is written
unfoldable pub appended_of : Argument → List ℕ → ℕ → ℕ → Sent
appended_of a src room at = sent_for (append_reason a src room at) (at + length (arg_field a src))

-- the buffer afterwards; `written` leaves it as it was where the field does not fit
unfoldable pub left_by : Argument → List ℕ → List ℕ → ℕ → List ℕ
left_by a src buf at = cond (writable a src) (written buf at (arg_field a src)) buf
