-- What holds of a reply's bytes.
use Rattle.std.specs.Prelude.{ℕ, ◌^◌, ◌≤◌, ◌<◌, ◌≡◌, Bool, true, false, [], ◌∷◌, length}
use Rattle.protocol.specs.Reason as Reason
use Rattle.reply.specs.declared.Refusal.{Refusal}
use Rattle.reply.specs.declared.Reply.{Reply}
use Rattle.reply.specs.declared.Reply.TheVariants.{Nothing, Ok, Suspended, Done, Executed, Error}
use Rattle.reply.specs.Decimal.{decimal}
use Rattle.reply.specs.Text.{ascii, text}
use Rattle.reply.specs.Frame.{ok_frame, error_frame}
use Rattle.reply.specs.Frames.{frame_types, holds_done}
use Rattle.reply.specs.Reply.{code_of, types_of, reply_bytes}

-- the smallest reply buffer that a step takes
abbrev pub min_buffer : ℕ
min_buffer = 128

-- an Error about numbers of 32 bits
pub record Small (e : Refusal) : Type 0 where
  pub code : e.code < 2 ^ 32
  pub number : e.number < 2 ^ 32

abbrev pub AboutSmall : Reply → Type 0
AboutSmall Nothing = Unit {0}
AboutSmall Ok = Unit {0}
AboutSmall Suspended = Unit {0}
AboutSmall Done = Unit {0}
AboutSmall Executed = Unit {0}
AboutSmall (Error e) = Small e

-- a reply about numbers of 32 bits takes no more than the smallest reply buffer has
abbrev pub FitsSmallest : Type 0
FitsSmallest = (r : Reply) → AboutSmall r → length (reply_bytes r) ≤ min_buffer

-- the bytes of a reply hold its frames and no other
abbrev pub HoldsFrames : Type 0
HoldsFrames = (r : Reply) → frame_types (reply_bytes r) ≡ types_of r

-- a reply that says that all rows were sent
abbrev pub is_done : Reply → Bool
is_done Nothing = false
is_done Ok = false
is_done Suspended = false
is_done Done = true
is_done Executed = false
is_done (Error e) = false

-- so the bytes tell it
abbrev pub TellsDone : Type 0
TellsDone = (r : Reply) → holds_done (reply_bytes r) ≡ is_done r

-- examples (P7, P1, V15): the largest id in text; Ok; for statement id 12, not live, the lengths of the text and of the
-- Error frame
abbrev pub SampleReplies : Type 0
SampleReplies =
    (decimal 4294967295 ≡ ascii "4294967295")
    × (ok_frame ≡ 1 ∷ 0 ∷ 0 ∷ 0 ∷ 0 ∷ [])
    × (length (text Reason.no_stmt 12 0) ≡ 38)
    × (length (error_frame (code_of Reason.no_stmt) (text Reason.no_stmt 12 0)) ≡ 57)
