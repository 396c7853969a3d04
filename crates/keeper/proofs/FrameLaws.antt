-- A step on a frame that holds no request, or with too short a buffer; and the three clauses of a step's contract.
-- Assumes
-- nothing.
use Rattle.prelude.proofs.Basics.{ℕ, ◌≤◌, ◌<◌, arith, le_trans, Bool, true, false, cond, ◌≡◌, refl, sym, ap, subst, ◌∙◌}
use Rattle.prelude.proofs.Basics.{List, length, eqb, le-ltb, lt-leb, lt-ltb, ne_eqb}
use Rattle.protocol.specs.Reason as Reason
use Rattle.message.specs.Frame.{used_of}
use Rattle.message.specs.declared.request.Frame.TheVariants.{NotAllThere, BadLength, UnknownType, BadPayload}
use Rattle.message.specs.declared.request.Frame.TheVariants.{BodyTwice, Good}
use Rattle.rules.specs.Read.{ReadIn}
use Rattle.rules.specs.Step.{Step, step_says}
use Rattle.rules.proofs.ReadLaws.{frames_are_read}
use Rattle.rules.proofs.StepLaws.{written_none}
use Rattle.keeper.proofs.Names.{frame_of, Frame, Request, Session, is_closed, reply_bytes, min_buffer, Reply}
use Rattle.keeper.proofs.Names.{step_reason, look_reason, report_reason, refusal_of, refused, refused_reply}
use Rattle.keeper.proofs.Names.{decision_of, step_by, step_on, Answer, Report, error_fits}
use Rattle.keeper.specs.private.Reasons.{closed_or}
use Rattle.keeper.specs.private.Does.{Does, Readable, Answers, with_length, length_in, refusing, no_names, number_named}
use Rattle.keeper.specs.private.Does.{kind_named, error_of}
use Rattle.keeper.proofs.AnswerLaws.{put_behind}

-- ---- nothing is read

module _ (s : Session) (r : Report) (b : List ℕ) where
  pub short_step : (x : Frame) (padded : Bool) → length b < min_buffer →
      Does (step_says padded (step_on s x r b)) (refusing 0 Reason.no_room) s b
  unfolding step_on
  short_step x padded h = rw (lt-ltb (length b) min_buffer h) (record { answered = refl; kept = refl; replied = refl })

  pub cut_step : min_buffer ≤ length b → Does (step_on s NotAllThere r b) (refusing 0 Reason.not_all_there) s b
  unfolding step_on decision_of look_reason report_reason refused_reply reply_bytes
  cut_step h = rw (le-ltb (length b) min_buffer h) (record
      { answered = refl; kept = refl; replied = sym (written_none b) })

  pub length_step : min_buffer ≤ length b → Does (step_on s BadLength r b) (refusing 0 Reason.bad_length) s b
  unfolding step_on decision_of look_reason report_reason refused_reply reply_bytes
  length_step h = rw (le-ltb (length b) min_buffer h)
      (record { answered = refl; kept = refl; replied = sym (written_none b) })

-- ---- a frame that is refused by itself, 4 first

module _ (s : Session) (x : Frame) (m : ℕ) (r : Report) (b : List ℕ) (read : ReadIn x)
    (reasons : step_reason s x r ≡ closed_or (is_closed s) m) (late : Reason.closed ≤ closed_or (is_closed s) m)
    (nameless : Reply.Error (refusal_of x r (closed_or (is_closed s) m)) ≡ Reply.Error
    (error_of (closed_or (is_closed s) m) no_names r))
    (room : min_buffer ≤ length b) where
  abbrev n : ℕ
  n = closed_or (is_closed s) m

  own-long : length_in b (Reply.Error (error_of n no_names r)) ≡ length (reply_bytes (Reply.Error (error_of n no_names r)))
  own-long =
      put_behind b (Reply.Error (error_of n no_names r))
      (le_trans
      (subst (λ y. length (reply_bytes y) ≤ min_buffer) nameless
      (subst (λ (k : ℕ). length (reply_bytes (Reply.Error (refusal_of x r k))) ≤ min_buffer) reasons
      (error_fits s x r read)))
      room)

  own-decision : decision_of s x r ≡ refused s n (Reply.Error (error_of n no_names r))
  unfolding decision_of refused_reply
  own-decision =
      rw (reasons, ne_eqb n 0 (λ e. omega (arith, late)), lt-leb n Reason.no_room (omega (arith, late)))
      (ap (refused s n) nameless)

  own-step : step_on s x r b ≡ step_by x b (refused s n (Reply.Error (error_of n no_names r)))
  unfolding step_on
  own-step = rw (le-ltb (length b) min_buffer room) (ap (step_by x b) own-decision)

  own-refuses : {a : Answer} {after : List ℕ} → Answers (refusing (used_of x) n) (Reply.Error (error_of n no_names r)) b
      a after → Does (step_on s x r b) a s after
  own-refuses h =
      record {
        answered =
            h.answered
            ∙ ap (λ (k : ℕ). with_length k (refusing (used_of x) n)) own-long
            ∙ ap (λ y. y.answer) (sym own-step);
        kept = ap (λ y. y.session) (sym own-step);
        replied = h.stored ∙ ap (λ y. y.buffer) (sym own-step);
      }

module _ (s : Session) (used : ℕ) (r : Report) (b : List ℕ) (room : min_buffer ≤ length b) where
  by-closed : (c : Bool) (m : ℕ) → eqb m 0 ≡ false →
      cond (eqb (cond c Reason.closed m) 0) 0 (cond c Reason.closed m) ≡ closed_or c m
  by-closed true m e = refl
  by-closed false m e = rw e

  unknown-reason : step_reason s (UnknownType used) r ≡ closed_or (is_closed s) Reason.unknown_type
  unfolding look_reason report_reason
  unknown-reason = by-closed (is_closed s) Reason.unknown_type refl

  payload-reason : (kind : ℕ) → step_reason s (BadPayload used kind) r ≡ closed_or (is_closed s) Reason.bad_payload
  unfolding look_reason report_reason
  payload-reason kind = by-closed (is_closed s) Reason.bad_payload refl

  twice-reason : (kind : ℕ) → step_reason s (BodyTwice used kind) r ≡ closed_or (is_closed s) Reason.body_twice
  unfolding look_reason report_reason
  twice-reason kind = by-closed (is_closed s) Reason.body_twice refl

  late_by : (c : Bool) (m : ℕ) → Reason.closed ≤ m → Reason.closed ≤ closed_or c m
  late_by true m h = omega arith
  late_by false m h = h

  unknown-nameless : (c : Bool) →
      Reply.Error (refusal_of (UnknownType used) r (closed_or c Reason.unknown_type)) ≡ Reply.Error
      (error_of (closed_or c Reason.unknown_type) no_names r)
  unfolding number_named kind_named
  unknown-nameless true = refl
  unknown-nameless false = refl

  payload-nameless : (kind : ℕ) (c : Bool) →
      Reply.Error (refusal_of (BadPayload used kind) r (closed_or c Reason.bad_payload)) ≡ Reply.Error
      (error_of (closed_or c Reason.bad_payload) no_names r)
  unfolding number_named kind_named
  payload-nameless kind true = refl
  payload-nameless kind false = refl

  twice-nameless : (kind : ℕ) (c : Bool) →
      Reply.Error (refusal_of (BodyTwice used kind) r (closed_or c Reason.body_twice)) ≡ Reply.Error
      (error_of (closed_or c Reason.body_twice) no_names r)
  unfolding number_named kind_named
  twice-nameless kind true = refl
  twice-nameless kind false = refl

  pub unknown_refuses : {n : ℕ} {a : Answer} {after : List ℕ} → n ≡ closed_or (is_closed s) Reason.unknown_type →
      Answers (refusing used n) (Reply.Error (error_of n no_names r)) b a after →
      Does (step_on s (UnknownType used) r b) a s after
  unknown_refuses {n} {a} {after} e h =
      own-refuses s (UnknownType used) Reason.unknown_type r b tt unknown-reason
      (late_by (is_closed s) Reason.unknown_type (omega arith)) (unknown-nameless (is_closed s)) room
      (subst (λ (k : ℕ). Answers (refusing used k) (Reply.Error (error_of k no_names r)) b a after) e h)

  pub payload_refuses : (kind : ℕ) {n : ℕ} {a : Answer} {after : List ℕ} → n ≡ closed_or (is_closed s) Reason.bad_payload →
      Answers (refusing used n) (Reply.Error (error_of n no_names r)) b a after →
      Does (step_on s (BadPayload used kind) r b) a s after
  payload_refuses kind {n} {a} {after} e h =
      own-refuses s (BadPayload used kind) Reason.bad_payload r b tt (payload-reason kind)
      (late_by (is_closed s) Reason.bad_payload (omega arith)) (payload-nameless kind (is_closed s)) room
      (subst (λ (k : ℕ). Answers (refusing used k) (Reply.Error (error_of k no_names r)) b a after) e h)

  pub twice_refuses : (kind : ℕ) {n : ℕ} {a : Answer} {after : List ℕ} → n ≡ closed_or (is_closed s) Reason.body_twice →
      Answers (refusing used n) (Reply.Error (error_of n no_names r)) b a after →
      Does (step_on s (BodyTwice used kind) r b) a s after
  twice_refuses kind {n} {a} {after} e h =
      own-refuses s (BodyTwice used kind) Reason.body_twice r b tt (twice-reason kind)
      (late_by (is_closed s) Reason.body_twice (omega arith)) (twice-nameless kind (is_closed s)) room
      (subst (λ (k : ℕ). Answers (refusing used k) (Reply.Error (error_of k no_names r)) b a after) e h)

-- ---- what was read

pub readable : (frame b : List ℕ) {x : Frame} {used : ℕ} {q : Request} → x ≡ frame_of frame → x ≡ Good used q →
    min_buffer ≤ length b → Readable q b
readable frame b e f room = record { room = room; read = subst ReadIn (sym e ∙ f) (frames_are_read frame) }

-- an answer that was made so
pub sym_answer : {x : Step} {a a' : Answer} {s : Session} {after : List ℕ} → a ≡ a' → Does x a' s after →
    Does x a s after
sym_answer {x} {a} {a'} {s} {after} e h = record { answered = e ∙ h.answered; kept = h.kept; replied = h.replied }

-- the clauses of a step's contract
abbrev pub Clauses : Step → Answer → Session → List ℕ → Type 0
Clauses x a s after = (a ≡ x.answer) × ((s ≡ x.session) × (after ≡ x.buffer))

pub clauses : {x : Step} {a : Answer} {s : Session} {after : List ℕ} → Does x a s after → Clauses x a s after
clauses d = (d.answered, (d.kept, d.replied))
