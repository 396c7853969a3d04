-- A frame whose chosen body, or whose Open's Execute, occurs more than once (R17): when it is refused so, and that its
-- body is then empty and every argument refused alike.
use Rattle.std.specs.Prelude.{ℕ, ◌≤◌, ◌≡◌, ◌⊎◌, List, [], length, take}
use Rattle.protocol.specs.Client as Client
use Rattle.protocol.specs.Reason as Reason
use Rattle.scalar.specs.declared.argument.Argument.TheVariants as Va
use Rattle.layout.specs.declared.part.Part.{Part}
use Rattle.args.specs.UnreadRules.{type_in}
use Rattle.message.specs.Head.{framed, head_of}
use Rattle.message.specs.Prepare.{body_parts}
use Rattle.message.specs.Execute.{execute_parts}
use Rattle.message.specs.Frame.{frame_of, reason_of, body_of, argument_of}
use Rattle.message.specs.UnreadRules.{stmt_in}
use Rattle.message.specs.declared.request.Frame.{Frame}

-- 17 is told of no frame but one where these occur more than once, and such a frame is told 17 or a bad payload
pub record Twice (ps : List Part) (x : Frame) : Type 0 where
  pub only : reason_of x ≡ Reason.body_twice → 2 ≤ length ps
  pub always : 2 ≤ length ps → (reason_of x ≡ Reason.body_twice) ⊎ (reason_of x ≡ Reason.bad_payload)

-- of a Prepare the bodies that the type of the whole statement chooses, of an Open the Executes, in all parts
pub record TwiceTold (s : List ℕ) : Type 0 where
  pub of_prepare : (end : ℕ) → head_of s ≡ framed Client.prepare end →
      Twice (body_parts (take end s) (type_in (stmt_in (take end s)))) (frame_of s)
  pub of_open : (end : ℕ) → head_of s ≡ framed Client.open' end → Twice (execute_parts (take end s)) (frame_of s)
  pub of_other : (kind end : ℕ) → head_of s ≡ framed kind end → (kind ≡ Client.prepare → ⊥) →
      (kind ≡ Client.open' → ⊥) → reason_of (frame_of s) ≡ Reason.body_twice → ⊥

abbrev pub TwiceWhen : Type 0
TwiceWhen = (s : List ℕ) → TwiceTold s

abbrev pub TwiceRefused : Type 0
TwiceRefused =
    (s : List ℕ) → reason_of (frame_of s) ≡ Reason.body_twice →
    (body_of s ≡ []) × ((index : ℕ) → argument_of s index ≡ Va.Refused Reason.body_twice)
