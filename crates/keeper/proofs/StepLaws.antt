-- A step on a request that is ready: refused with its Error, or accepted with what it sends and the session after it.
-- Assumes nothing.
use Rattle.prelude.proofs.Basics.{ℕ, ◌≤◌, arith, le_trans, Bool, true, false, ◌≡◌, refl, sym, ap, subst, ◌∙◌}
use Rattle.prelude.proofs.Basics.{List, length, leb, eq-eqb, le-ltb, leb-false, leb-true, lt-leb, ne_eqb, no as without}
use Rattle.std.specs.Prelude.{Result, Err}
use Rattle.protocol.specs.Reason as Reasons
use Rattle.protocol.specs.Reason.{number_of}
use Rattle.protocol.specs.declared.reason.Reason.{Reason}
use Rattle.message.specs.declared.request.Frame.TheVariants.{Good}
use Rattle.rules.specs.Read.{Read}
use Rattle.rules.specs.Decision.{Decision, named, named_kind, accepted}
use Rattle.rules.proofs.RefusalLaws.{late_read}
use Rattle.rules.proofs.BufferLaws.{reply_fits}
use Rattle.keeper.proofs.Names.{Frame, Request, Session, is_closed, reply_bytes, min_buffer, Reply}
use Rattle.keeper.proofs.Names.{first_of, report_tests, step_reason, look_reason, report_reason, refusal_of, refused}
use Rattle.keeper.proofs.Names.{session_after, refused_reply, decision_of, step_by, step_on, Answer, Report}
use Rattle.keeper.proofs.Names.{error_fits, Names, Sends}
use Rattle.keeper.specs.private.Reasons.{request_reason, closed_or, or_else}
use Rattle.keeper.specs.private.Does.{Does, Answers, Readable, Accepts, Refuses, Decides, accepting, refusing, with_length, length_in}
use Rattle.keeper.specs.private.Does.{names_of, number_named, kind_named, error_of, sends_of}
use Rattle.keeper.proofs.AnswerLaws.{put_behind}
use Rattle.protocol.proofs.ReasonLaws.{some_reason}

-- ---- with room, whatever the session

module _ (s : Session) (used : ℕ) (q : Request) (r : Report) (b : List ℕ) (room : min_buffer ≤ length b)
    (read : Read q) where
  abbrev x : Frame
  x = Good used q

  abbrev reason : ℕ
  reason = step_reason s x r

  error-is : (n : ℕ) → Reply.Error (refusal_of x r n) ≡ Reply.Error (error_of n (names_of q) r)
  unfolding named named_kind number_named kind_named
  error-is n = refl

  late : (reason ≡ 0 → ⊥) → Reasons.closed ≤ reason
  late some = go (leb reason Reasons.no_room) refl
    where
      go : (t : Bool) → leb reason Reasons.no_room ≡ t → Reasons.closed ≤ reason
      go true e = absurd (some (late_read s x r refl (leb-true reason Reasons.no_room e)))
      go false e = leb-false reason Reasons.no_room e

  decided : (d : Decision) → decision_of s x r ≡ d → step_on s x r b ≡ step_by x b d
  unfolding step_on
  decided d e = rw (le-ltb (length b) min_buffer room) (ap (step_by x b) e)

  refusal : (reason ≡ 0 → ⊥) → decision_of s x r ≡ refused s reason (Reply.Error (error_of reason (names_of q) r))
  unfolding decision_of refused_reply
  refusal some =
      rw (ne_eqb reason 0 some, lt-leb reason Reasons.no_room (late some)) (ap (refused s reason) (error-is reason))

  step-refused : (reason ≡ 0 → ⊥) → step_on s x r b ≡ step_by x b
      (refused s reason (Reply.Error (error_of reason (names_of q) r)))
  step-refused some = decided (refused s reason (Reply.Error (error_of reason (names_of q) r))) (refusal some)

  acceptance : reason ≡ 0 → decision_of s x r ≡ accepted s r q
  unfolding decision_of
  acceptance e = rw (eq-eqb reason 0 e)

  step-accepted : reason ≡ 0 → step_on s x r b ≡ step_by x b (accepted s r q)
  step-accepted e = decided (accepted s r q) (acceptance e)

  -- the Error fits, and so does the reply of an accepted step
  error-long : length_in b (Reply.Error (error_of reason (names_of q) r))
      ≡ length (reply_bytes (Reply.Error (error_of reason (names_of q) r)))
  error-long =
      put_behind b (Reply.Error (error_of reason (names_of q) r))
      (le_trans (subst (λ y. length (reply_bytes y) ≤ min_buffer) (error-is reason) (error_fits s x r read)) room)

  reply-long : length_in b (sends_of s q r).reply ≡ length (reply_bytes (sends_of s q r).reply)
  reply-long = put_behind b (sends_of s q r).reply (le_trans (reply_fits s q r) room)

  refused-so : {n : ℕ} {names : Names} {a : Answer} {after : List ℕ} → n ≡ reason → (n ≡ 0 → ⊥) → names ≡ names_of q →
      Answers (refusing used n) (Reply.Error (error_of n names r)) b a after → Does (step_on s x r b) a s after
  refused-so {n} {names} {a} {after} e some f h =
      let none : reason ≡ 0 → ⊥ = λ z. some (e ∙ z) in
      let g = subst (λ (k : ℕ). Answers (refusing used k) (Reply.Error (error_of k (names_of q) r)) b a after) e
      (subst (λ y. Answers (refusing used n) (Reply.Error (error_of n y r)) b a after) f h) in
      let is = sym (step-refused none) in
      record {
        answered =
            g.answered ∙ ap (λ (k : ℕ). with_length k (refusing used reason)) error-long ∙ ap (λ y. y.answer) is;
        kept = ap (λ y. y.session) is;
        replied = g.stored ∙ ap (λ y. y.buffer) is;
      }

  accepted-so : {n : ℕ} {sends : Sends} {s' : Session} {a : Answer} {after : List ℕ} → n ≡ reason → n ≡ 0 →
      sends ≡ sends_of s q r →
      s' ≡ session_after s q r → Answers (accepting used sends) sends.reply b a after →
      Does (step_on s x r b) a s' after
  accepted-so {n} {sends} {s'} {a} {after} e z f k h =
      let g = subst (λ y. Answers (accepting used y) y.reply b a after) f h in
      let is = sym (step-accepted (sym e ∙ z)) in
      record {
        answered =
            g.answered
            ∙ ap (λ (k : ℕ). with_length k (accepting used (sends_of s q r))) reply-long
            ∙ ap (λ y. y.answer) is;
        kept = k ∙ ap (λ y. y.session) is;
        replied = g.stored ∙ ap (λ y. y.buffer) is;
      }

-- ---- what is decided

-- that a frame is longer decides nothing
any_length : (s : Session) (used : ℕ) (q : Request) (r : Report) →
    step_reason s (Good 0 q) r ≡ step_reason s (Good used q) r
unfolding look_reason report_reason
any_length s used q r = refl

module _ (s : Session) (used : ℕ) (q : Request) (r : Report) (b : List ℕ) (readable : Readable q b) where
  pub refuses : {reason : Reason} {names : Names} {s' : Session} {a : Answer} {after : List ℕ} →
      Refuses s q r reason s' → names ≡ names_of q →
      Answers (refusing used (number_of reason)) (Reply.Error (error_of (number_of reason) names r)) b a after →
      Does (step_on s (Good used q) r b) a s' after
  refuses {reason} {names} {s'} {a} {after} d f h =
      subst (λ x. Does (step_on s (Good used q) r b) a x after) (sym d.kept)
      (refused-so s used q r b readable.room readable.read (d.fails ∙ any_length s used q r) (some_reason reason) f h)

  pub accepts : {sends : Sends} {s' : Session} {a : Answer} {after : List ℕ} → Accepts s q r sends s' →
      Answers (accepting used sends) sends.reply b a after → Does (step_on s (Good used q) r b) a s' after
  accepts d h =
      accepted-so s used q r b readable.room readable.read (d.passes ∙ any_length s used q r) refl d.sent d.changed h

-- ---- the reason, in a closed session and in an open one

pub closed_refuses : (s : Session) (q : Request) (r : Report) {reason : Reason} →
    number_of reason ≡ closed_or (is_closed s) Reasons.accepted → Refuses s q r reason s
unfolding look_reason
closed_refuses s q r {reason} e = record { fails = go (is_closed s) refl e; kept = refl }
  where
    go : (b : Bool) → is_closed s ≡ b → number_of reason ≡ closed_or b Reasons.accepted →
        number_of reason ≡ step_reason s (Good 0 q) r
    go true h f = f ∙ sym (rw h)
    go false h f = absurd (some_reason reason f)

pub unclosed : (s : Session) → Reasons.accepted ≡ closed_or (is_closed s) Reasons.accepted → is_closed s ≡ false
unclosed s e = go (is_closed s) e
  where
    go : (b : Bool) → Reasons.accepted ≡ closed_or b Reasons.accepted → b ≡ false
    go true f = absurd (omega arith)
    go false f = refl

module _ (s : Session) (q : Request) (r : Report) (opened : is_closed s ≡ false) where
  by-both : step_reason s (Good 0 q) r ≡ or_else (request_reason s q) (first_of (report_tests q r))
  unfolding look_reason report_reason request_reason
  by-both = rw opened

  -- what is looked up refuses, or the report does
  pub look_refuses : {reason : Reason} → number_of reason ≡ request_reason s q → Refuses s q r reason s
  look_refuses {reason} e =
      record {
        fails =
            without (first_of (report_tests q r)) (number_of reason)
            (ne_eqb (number_of reason) 0 (some_reason reason))
            ∙ ap (λ (n : ℕ). or_else n (first_of (report_tests q r))) e
            ∙ sym by-both;
        kept = refl;
      }

  module _ (passes : Reasons.accepted ≡ request_reason s q) where
    pub reported : first_of (report_tests q r) ≡ step_reason s (Good 0 q) r
    reported = ap (λ (n : ℕ). or_else n (first_of (report_tests q r))) passes ∙ sym by-both

    pub report_refuses : {reason : Reason} → number_of reason ≡ first_of (report_tests q r) → Refuses s q r reason s
    report_refuses e = record { fails = e ∙ reported; kept = refl }

    pub decides : {sends : Sends} {s' : Session} → Reasons.accepted ≡ first_of (report_tests q r) →
        sends ≡ sends_of s q r → s' ≡ session_after s q r → Accepts s q r sends s'
    decides e f g = record { passes = e ∙ reported; sent = f; changed = g }

-- what a `?` hands on is what was refused
pub decides_err : {s : Session} {q : Request} {r : Report} {result : Result Sends Reason} {reason : Reason} {s' : Session}
    → result ≡ Err reason → Refuses s q r reason s' → Decides s q r result s'
decides_err {s} {q} {r} {s' = s'} e h = subst (λ x. Decides s q r x s') (sym e) h

-- of the request that was read
pub decides_as : (s : Session) (r : Report) (result : Result Sends Reason) (s' : Session) {q p : Request} → q ≡ p →
    Decides s p r result s' → Decides s q r result s'
decides_as s r result s' e h = subst (λ x. Decides s x r result s') (sym e) h
