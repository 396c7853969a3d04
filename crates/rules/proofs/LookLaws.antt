-- A look and a step agree. Assumes nothing.
use Rattle.prelude.proofs.Basics.{ℕ, ◌<◌, arith, Bool, true, false, cond, true≢false, ◌≡◌, refl, sym, ap, ◌∙◌}
use Rattle.prelude.proofs.Basics.{List, length, eqb, eqb-true, le-ltb, lt-ltb, ltb-true, ne_eqb}
use Rattle.protocol.specs.Reason as Reason
use Rattle.message.specs.declared.request.Request.TheVariants.{Reset, SessionClose, Prepare, Execute, Deallocate, Open}
use Rattle.message.specs.declared.request.Request.TheVariants.{Close, Fetch}
use Rattle.message.specs.declared.request.Frame.TheVariants.{NotAllThere, BadLength, UnknownType, BadPayload}
use Rattle.message.specs.declared.request.Frame.TheVariants.{BodyTwice, Good}
use Rattle.rules.proofs.Names.{frame_of, padded_of, Frame, Request, Session, among, min_buffer, Reply, on_good}
use Rattle.rules.proofs.Names.{no_work, work_of, look_reason, report_reason, step_reason, row_count, sends_columns}
use Rattle.rules.proofs.Names.{session_after, reply_to, accepted, wire_code, refused_reply, refused, decision_of}
use Rattle.rules.proofs.Names.{looked, look_of, short, too_short, step_by, step_on, step_says, look_at, Report}
use Rattle.rules.specs.Decision.{decided_by, look_refused}
use Rattle.rules.specs.StepRules.{RefusesAlike, RefusesFew, ShortFirst, ReportNotConsulted}
use Rattle.rules.proofs.RefusalLaws.{took_look, look_failed, not_three, idle, few, report_few}
use Rattle.rules.proofs.StepLaws.{step_has}

-- ---- a look, by cases

look_bad : (s : Session) (x : Frame) → eqb (look_reason s x) 0 ≡ false → look_of s x ≡ look_refused (look_reason s x)
unfolding look_of
look_bad s x e = rw e

pub look_good : (s : Session) (used : ℕ) (q : Request) → eqb (look_reason s (Good used q)) 0 ≡ true →
    look_of s (Good used q) ≡ looked s q
unfolding look_of
look_good s used q e = rw e

pub look_reason_lem : (s : Session) (x : Frame) → (look_of s x).reason ≡ look_reason s x
look_reason_lem s x = go (eqb (look_reason s x) 0) refl
  where
    go : (b : Bool) → eqb (look_reason s x) 0 ≡ b → (look_of s x).reason ≡ look_reason s x
    go true e =
        let z = eqb-true (look_reason s x) 0 e in
        let g = took_look s x z in
        ap (λ y. (look_of s y).reason) g.2
        ∙ ap (λ l. l.reason) (look_good s g.0 g.1 (ap (λ y. eqb (look_reason s y) 0) (sym g.2) ∙ e)) ∙ sym z
    go false e = ap (λ l. l.reason) (look_bad s x e)

-- with room for the reply, a step's reason is the deciding one
pub step_reason_lem : (s : Session) (x : Frame) (r : Report) (buffer : List ℕ) → short buffer ≡ false →
    (step_on s x r buffer).answer.reason ≡ step_reason s x r
unfolding step_on decision_of
step_reason_lem s x r buffer room = rw room (go (eqb (step_reason s x r) 0) refl x refl)
  where
    go : (b : Bool) → eqb (step_reason s x r) 0 ≡ b → (y : Frame) → x ≡ y →
        (cond b (on_good (refused s (step_reason s x r) Reply.Nothing) (accepted s r) y)
        (refused s (step_reason s x r) (refused_reply x r (step_reason s x r)))).reason
        ≡ step_reason s x r
    go true e NotAllThere g = refl
    go true e BadLength g = refl
    go true e (UnknownType used) g = refl
    go true e (BadPayload used kind) g = refl
    go true e (BodyTwice used kind) g = refl
    go true e (Good used q) g = sym (eqb-true (step_reason s x r) 0 e)
    go false e y g = refl

pub refuses_alike : RefusesAlike
unfolding look_at
refuses_alike s frame r buffer some room =
    let x = frame_of frame in
    let e = look_reason_lem s x in
    step_reason_lem s x r buffer (le-ltb (length buffer) min_buffer room)
    ∙ alike (eqb (look_reason s x) 0) (ne_eqb (look_reason s x) 0 (λ z. some (e ∙ z))) ∙ sym e
  where
    alike : (b : Bool) → b ≡ false → cond b (report_reason (frame_of frame) r) (look_reason s (frame_of frame)) ≡
        look_reason s (frame_of frame)
    alike b h = rw h

pub refuses_few : RefusesFew
unfolding look_at among
refuses_few s frame r buffer none =
    let x = frame_of frame in
    let e : look_reason s x ≡ 0 = sym (look_reason_lem s x) ∙ none in
    step_has (λ after. few after.answer.reason ≡ true) s x r buffer (λ _. refl) (λ _ _ _ _. refl)
    (λ _ _. rw e (report_few x r))

pub short_first : ShortFirst
short_first s frame r buffer =
    let x = frame_of frame in (
      λ h.
          step_has (λ after. short buffer ≡ true → after.answer.reason ≡ Reason.no_room) s x r buffer (λ _ _. refl)
          (λ _ _ f _ e. absurd (true≢false (sym e ∙ f))) (λ f _ e. absurd (true≢false (sym e ∙ f)))
          (lt-ltb (length buffer) min_buffer h),
      step_has (λ after. after.answer.reason ≡ Reason.no_room → length buffer < min_buffer) s x r buffer
          (λ e _. ltb-true (length buffer) min_buffer e) (λ _ _ _ _ e. absurd (omega arith))
          (λ _ _ e. absurd (not_three s x r e)),
    )

-- ---- the report that is not consulted

accepted_same : (s : Session) (r other : Report) (q : Request) → work_of q ≡ no_work → accepted s r q ≡ accepted s other q
unfolding session_after sends_columns row_count reply_to
accepted_same s r other Reset e = refl
accepted_same s r other SessionClose e = refl
accepted_same s r other (Prepare p) e = absurd (omega arith)
accepted_same s r other (Execute x) e = absurd (omega arith)
accepted_same s r other (Deallocate stmt) e = refl
accepted_same s r other (Open o) e = absurd (omega arith)
accepted_same s r other (Close cursor) e = refl
accepted_same s r other (Fetch f) e = absurd (omega arith)

refused_same : (x : Frame) (r other : Report) (n : ℕ) → (n ≡ Reason.engine_failed → ⊥) →
    refused_reply x r n ≡ refused_reply x other n
unfolding refused_reply wire_code
refused_same x r other n h = rw (ne_eqb n Reason.engine_failed h)

-- by the look alone
module _ (s : Session) (x : Frame) (r : Report) where
  decided : (n : ℕ) → step_reason s x r ≡ n → decision_of s x r ≡ decided_by s x r n
  unfolding decision_of
  decided n e = ap (decided_by s x r) e

  decided-refused : eqb (look_reason s x) 0 ≡ false →
      decision_of s x r ≡ refused s (look_reason s x) (refused_reply x r (look_reason s x))
  decided-refused e = decided (look_reason s x) (rw e) ∙ rw e

decided_idle : (s : Session) (used : ℕ) (q : Request) (r : Report) → eqb (look_reason s (Good used q)) 0 ≡ true →
    work_of q ≡ no_work →
    decision_of s (Good used q) r ≡ accepted s r q
decided_idle s used q r e w = decided s (Good used q) r 0 (rw e (idle used q r w))

pub look_work_lem : (s : Session) (used : ℕ) (q : Request) → eqb (look_reason s (Good used q)) 0 ≡ true →
    (look_of s (Good used q)).work ≡ work_of q
look_work_lem s used q e = ap (λ l. l.work) (look_good s used q e)

decided_same : (s : Session) (x : Frame) (r other : Report) (b : Bool) → eqb (look_reason s x) 0 ≡ b →
    (look_of s x).work ≡ no_work →
    decision_of s x r ≡ decision_of s x other
decided_same s x r other true e w = go x g.2 e w
  where
    g : (used : ℕ) × (q : Request) × (x ≡ Good used q)
    g = took_look s x (eqb-true (look_reason s x) 0 e)

    go : (y : Frame) → y ≡ Good g.0 g.1 → eqb (look_reason s y) 0 ≡ true → (look_of s y).work ≡ no_work →
        decision_of s y r ≡ decision_of s y other
    go y f h k =
        let h' = ap (λ z. eqb (look_reason s z) 0) (sym f) ∙ h in
        let idle' = sym (look_work_lem s g.0 g.1 h') ∙ ap (λ z. (look_of s z).work) (sym f) ∙ k in
        ap (λ z. decision_of s z r) f ∙ decided_idle s g.0 g.1 r h' idle' ∙ accepted_same s r other g.1 idle'
        ∙ sym (decided_idle s g.0 g.1 other h' idle') ∙ ap (λ z. decision_of s z other) (sym f)
decided_same s x r other false e w =
    decided-refused s x r e
    ∙ ap (refused s (look_reason s x)) (refused_same x r other (look_reason s x) (look_failed s x))
    ∙ sym (decided-refused s x other e)

pub report_not_consulted : ReportNotConsulted
unfolding step_on look_at
report_not_consulted s frame r other buffer none =
    let x = frame_of frame in
    ap (λ d. step_says (padded_of frame) (cond (short buffer) (too_short s buffer) (step_by x buffer d)))
    (decided_same s x r other (eqb (look_reason s x) 0) refl none)
