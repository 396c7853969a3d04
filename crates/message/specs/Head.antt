-- A frame's head (F1, F2, F3, F4): four bytes of length, least first, then a type byte, then length - 1 payload bytes.
-- Refusals in this order: 1 for fewer than four bytes; 2 for a length of 0 or above 65,532; 1 for a frame that is not
-- all there. Bytes past the frame are not read.
use Rattle.std.specs.Prelude.{ℕ, ◌+◌, cond, List, length, get_or, leb, ltb, eqb, Result, Ok, Err}
use Rattle.protocol.specs.Reason.{accepted, number_of}
use Rattle.protocol.specs.declared.reason.Reason.{Reason}
use Rattle.scalar.specs.Fixed.{little}
use Rattle.message.specs.declared.head.Head.{Head}

abbrev pub length_bytes : ℕ
length_bytes = 4

abbrev pub max_length : ℕ
max_length = 65532

-- what the first four bytes say
abbrev pub length_of : List ℕ → ℕ
length_of s = little length_bytes s 0

-- a head, or why there is none
abbrev pub HeadResult : Type 0
HeadResult = Result Head Reason

-- a whole frame of this type, with the place behind its last byte
abbrev pub framed : ℕ → ℕ → HeadResult
framed kind end = Ok (record { kind = kind; end = end })

abbrev pub head_of : List ℕ → HeadResult
head_of s =
    cond (leb length_bytes (length s))
    (cond (eqb (length_of s) 0) (Err Reason.BadLength)
    (cond (ltb max_length (length_of s)) (Err Reason.BadLength)
    (cond (ltb (length s) (length_bytes + length_of s)) (Err Reason.NotAllThere)
    (framed (get_or s length_bytes 0) (length_bytes + length_of s)))))
    (Err Reason.NotAllThere)

-- its number: 0 for a whole frame, or the refusal
abbrev pub head_reason : HeadResult → ℕ
head_reason (Ok head) = accepted
head_reason (Err reason) = number_of reason
