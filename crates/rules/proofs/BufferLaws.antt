-- With the smallest buffer every reply fits, and its bytes stand at the front: what a host has of a step is then what
-- was decided, whatever the buffer. Assumes nothing.
use Rattle.prelude.proofs.Basics.{ℕ, ◌≤◌, le_trans, Bool, ◌≡◌, sym, ap, ◌∙◌, List, length, eqb, leb, le-ltb, both}
use Rattle.protocol.specs.Reason as Reason
use Rattle.message.specs.declared.request.Request.TheVariants.{Reset, SessionClose, Prepare, Execute, Deallocate, Open}
use Rattle.message.specs.declared.request.Request.TheVariants.{Close, Fetch}
use Rattle.message.specs.declared.request.Frame.TheVariants.{NotAllThere, BadLength, UnknownType, BadPayload}
use Rattle.message.specs.declared.request.Frame.TheVariants.{BodyTwice, Good}
use Rattle.rules.proofs.Names.{frame_of, padded_of, Frame, Request, Session, reply_bytes, min_buffer, Reply}
use Rattle.rules.proofs.Names.{fits_smallest, on_good, step_reason, sends_columns, reply_to, accepted, refusal_of}
use Rattle.rules.proofs.Names.{refused_reply, refused, decision_of, step_on, answer_says, ReadIn, Report}
use Rattle.rules.specs.Rows.{left_after}
use Rattle.rules.specs.Decision.{Decision, end_of}
use Rattle.rules.specs.Step.{answer_of}
use Rattle.rules.specs.StepRules.{Outcome, outcome, BufferMakesNoDifference}
use Rattle.rules.proofs.ReadLaws.{frames_are_read}
use Rattle.rules.proofs.StepLaws.{reply_front, error_fits}

abbrev Fits : Reply → Type 0
Fits x = length (reply_bytes x) ≤ min_buffer

end_fits : (left : ℕ) → Fits (end_of left)
end_fits left = both Fits (eqb left 0) Reply.Done Reply.Suspended (λ _. fits_smallest Reply.Done tt)
    (λ _. fits_smallest Reply.Suspended tt)

-- the reply to an accepted request
pub reply_fits : (s : Session) (q : Request) (r : Report) → Fits (reply_to s q r)
unfolding reply_to
reply_fits s Reset r = fits_smallest Reply.Ok tt
reply_fits s SessionClose r = fits_smallest Reply.Ok tt
reply_fits s (Prepare p) r = fits_smallest Reply.Ok tt
reply_fits s (Execute x) r =
    both Fits (sends_columns (Execute x) r) Reply.Done Reply.Executed (λ _. fits_smallest Reply.Done tt)
    (λ _. fits_smallest Reply.Executed tt)
reply_fits s (Deallocate stmt) r = fits_smallest Reply.Ok tt
reply_fits s (Open o) r = end_fits (left_after s (Open o) r)
reply_fits s (Close cursor) r = fits_smallest Reply.Ok tt
reply_fits s (Fetch f) r = end_fits (left_after s (Fetch f) r)

accepted_fits : (s : Session) (x : Frame) (r : Report) →
    Fits (on_good (refused s (step_reason s x r) Reply.Nothing) (accepted s r) x).reply
accepted_fits s NotAllThere r = fits_smallest Reply.Nothing tt
accepted_fits s BadLength r = fits_smallest Reply.Nothing tt
accepted_fits s (UnknownType used) r = fits_smallest Reply.Nothing tt
accepted_fits s (BadPayload used kind) r = fits_smallest Reply.Nothing tt
accepted_fits s (BodyTwice used kind) r = fits_smallest Reply.Nothing tt
accepted_fits s (Good used q) r = reply_fits s q r

pub refused_fits : (s : Session) (x : Frame) (r : Report) → ReadIn x → Fits (refused_reply x r (step_reason s x r))
unfolding refused_reply
refused_fits s x r read =
    let n = step_reason s x r in
    both Fits (leb n Reason.no_room) Reply.Nothing (Reply.Error (refusal_of x r n))
    (λ _. fits_smallest Reply.Nothing tt) (λ _. error_fits s x r read)

pub decision_fits : (s : Session) (x : Frame) (r : Report) → ReadIn x → Fits (decision_of s x r).reply
unfolding decision_of
decision_fits s x r read =
    let n = step_reason s x r in
    both (λ (d : Decision). Fits d.reply) (eqb n 0) _ (refused s n (refused_reply x r n)) (λ _. accepted_fits s x r)
    (λ _. refused_fits s x r read)

-- what was decided, with the reply's bytes
abbrev with_reply : Frame → Decision → List ℕ → Outcome
with_reply x d bytes = record { answer = answer_of x d; session = d.session; reply = bytes }

pub step_outcome : (s : Session) (x : Frame) (r : Report) (buffer : List ℕ) → ReadIn x → min_buffer ≤ length buffer →
    outcome (step_on s x r buffer) ≡ with_reply x (decision_of s x r) (reply_bytes (decision_of s x r).reply)
unfolding step_on
step_outcome s x r buffer read room =
    let d = decision_of s x r in
    rw (le-ltb (length buffer) min_buffer room)
    (ap (with_reply x d) (reply_front buffer (reply_bytes d.reply) (le_trans (decision_fits s x r read) room)))

-- what is said of padding is no part of the buffer
abbrev outcome_says : Bool → Outcome → Outcome
outcome_says padded o = record { answer = answer_says padded o.answer; session = o.session; reply = o.reply }

pub buffer_makes_no_difference : BufferMakesNoDifference
buffer_makes_no_difference s frame r buffer other h g =
    let x = frame_of frame in
    let read = frames_are_read frame in
    ap (outcome_says (padded_of frame)) (step_outcome s x r buffer read h ∙ sym (step_outcome s x r other read g))
