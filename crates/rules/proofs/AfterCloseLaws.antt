-- After Session close every frame that is there and of a good length is refused 4; before it a Reset is not. Assumes
-- nothing.
use Rattle.prelude.proofs.Basics.{ℕ, Bool, true, false, cond, ◌≡◌, refl, ap, ◌∙◌}
use Rattle.protocol.specs.Reason as Reason
use Rattle.message.specs.declared.request.Request.TheVariants.{Reset, SessionClose}
use Rattle.message.specs.declared.request.Frame.TheVariants.{NotAllThere, BadLength, UnknownType, BadPayload}
use Rattle.message.specs.declared.request.Frame.TheVariants.{BodyTwice, Good}
use Rattle.rules.proofs.Names.{frame_of, Frame, Request, Session, is_closed, first_of, request_tests, look_reason}
use Rattle.rules.proofs.Names.{look_of, look_at}
use Rattle.rules.specs.Decision.{look_by}
use Rattle.rules.specs.StepRules.{ClosedFirst, UnclosedAccepts}

-- what a look gives of a frame that is all there, by whether the session is closed
module _ (s : Session) (used : ℕ) where
  unknown-reason : look_reason s (UnknownType used) ≡ cond (is_closed s) Reason.closed Reason.unknown_type
  unfolding look_reason
  unknown-reason = refl

  bad-reason : (kind : ℕ) → look_reason s (BadPayload used kind) ≡ cond (is_closed s) Reason.closed Reason.bad_payload
  unfolding look_reason
  bad-reason kind = refl

  twice-reason : (kind : ℕ) → look_reason s (BodyTwice used kind) ≡ cond (is_closed s) Reason.closed Reason.body_twice
  unfolding look_reason
  twice-reason kind = refl

  good-reason : (q : Request) →
      look_reason s (Good used q) ≡ cond (is_closed s) Reason.closed (first_of (request_tests s q))
  unfolding look_reason
  good-reason q = refl

  reset-reason : look_reason s (Good used Reset) ≡ cond (is_closed s) Reason.closed Reason.accepted
  unfolding look_reason
  reset-reason = refl

  close-reason : look_reason s (Good used SessionClose) ≡ cond (is_closed s) Reason.closed Reason.accepted
  unfolding look_reason
  close-reason = refl

-- by a reason of these two
look_by_lem : (s : Session) (x : Frame) (n : ℕ) {b : Bool} → look_reason s x ≡ cond (is_closed s) Reason.closed n →
    is_closed s ≡ b → (look_of s x).reason ≡ (look_by s x (cond b Reason.closed n)).reason
unfolding look_of
look_by_lem s x n e f = ap (λ (m : ℕ). (look_by s x m).reason) (e ∙ ap (λ (c : Bool). cond c Reason.closed n) f)

closed_look : (s : Session) (x : Frame) → is_closed s ≡ true → ((look_of s x).reason ≡ Reason.not_all_there → ⊥) →
    ((look_of s x).reason ≡ Reason.bad_length → ⊥) →
    (look_of s x).reason ≡ Reason.closed
unfolding look_of look_reason
closed_look s NotAllThere e a b = absurd (a refl)
closed_look s BadLength e a b = absurd (b refl)
closed_look s (UnknownType used) e a b =
    look_by_lem s (UnknownType used) Reason.unknown_type (unknown-reason s used) e
closed_look s (BadPayload used kind) e a b =
    look_by_lem s (BadPayload used kind) Reason.bad_payload (bad-reason s used kind) e
closed_look s (BodyTwice used kind) e a b =
    look_by_lem s (BodyTwice used kind) Reason.body_twice (twice-reason s used kind) e
closed_look s (Good used q) e a b = look_by_lem s (Good used q) (first_of (request_tests s q)) (good-reason s used q) e

pub closed_first : ClosedFirst
unfolding look_at
closed_first s frame = closed_look s (frame_of frame)

reset_look : (s : Session) (used : ℕ) → is_closed s ≡ false → (look_of s (Good used Reset)).reason ≡ Reason.accepted
reset_look s used e = look_by_lem s (Good used Reset) Reason.accepted (reset-reason s used) e

close_look : (s : Session) (used : ℕ) → is_closed s ≡ false →
    (look_of s (Good used SessionClose)).reason ≡ Reason.accepted
close_look s used e = look_by_lem s (Good used SessionClose) Reason.accepted (close-reason s used) e

pub unclosed_accepts : UnclosedAccepts
unfolding look_at
unclosed_accepts s frame used c = (
  λ e. ap (λ x. (look_of s x).reason) e ∙ reset_look s used c,
  λ e. ap (λ x. (look_of s x).reason) e ∙ close_look s used c,
)
