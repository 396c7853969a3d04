-- What is not read: the bytes behind a frame (F3), and the bodies that a Prepare's type does not choose (L10). Other
-- bytes there change nothing that a frame means.
use Rattle.std.specs.Prelude.{ℕ, ◌≡◌, List, ◌++◌, take}
use Rattle.protocol.specs.Client as Client
use Rattle.protocol.specs.Fields as Fields
use Rattle.protocol.specs.Reason as Reason
use Rattle.layout.specs.Table.{rows_of, prepare_stmt}
use Rattle.layout.specs.SameBut.{SameBut}
use Rattle.layout.specs.Unchosen.{InnerPart}
use Rattle.layout.specs.Merged.{end_of, merged}
use Rattle.layout.specs.declared.part.Part.{Part}
use Rattle.layout.specs.declared.slots.Slots.{Slots}
use Rattle.args.specs.UnreadRules.{type_in, OneField}
use Rattle.message.specs.Head.{framed, head_of}
use Rattle.message.specs.Operation as Operation
use Rattle.message.specs.Request.{args_of}
use Rattle.message.specs.Payload.{payload}
use Rattle.message.specs.Prepare.{stmt_parts}
use Rattle.message.specs.Frame.{frame_of, reason_of, body_of, argument_of}
use Rattle.message.specs.declared.request.Request.{Request}
use Rattle.message.specs.declared.request.Frame.{Frame}

-- t means what s means
pub record Reads (s t : List ℕ) : Type 0 where
  pub frame : frame_of t ≡ frame_of s
  pub body : body_of t ≡ body_of s
  pub argument : (index : ℕ) → argument_of t index ≡ argument_of s index

-- bytes behind a frame are not read
abbrev pub BehindUnread : Type 0
BehindUnread =
    (s behind : List ℕ) → (reason_of (frame_of s) ≡ Reason.not_all_there → ⊥) → Reads s (s ++ behind)

-- what the statement of the Prepare s holds, from all its parts
abbrev pub stmt_in : List ℕ → Slots
stmt_in s = merged (rows_of prepare_stmt) s (stmt_parts s)

-- a body that the statement's type does not choose is not read, nor any part of it, whichever part of the statement it
-- stands in; nor is any other field with bytes
abbrev pub UnchosenUnread : Type 0
UnchosenUnread =
    (s t : List ℕ) (end k : ℕ) (p q : Part) →
    head_of s ≡ framed Client.prepare end →
    (Operation.field_of (type_in (stmt_in (take end s))) ≡ k → ⊥) →
    InnerPart Fields.prepare_stmt k (take end s) payload p q →
    SameBut s t q.start (end_of q) → frame_of t ≡ frame_of s

-- what an argument does not choose is not read either: bytes in which one argument reads alike mean the same message
abbrev pub ArgumentUnread : Type 0
ArgumentUnread =
    (s t : List ℕ) (used : ℕ) (q : Request) →
    frame_of s ≡ Frame.Good used q →
    OneField s t (args_of q).start (args_of q).end → frame_of t ≡ frame_of s
