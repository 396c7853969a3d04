-- What the tests of a step come to: which reasons it gives, and what holds where it gives none. Assumes nothing.
use Rattle.prelude.proofs.Basics.{ℕ, ◌≤◌, arith, Bool, true, false, not, ◌&&◌, ◌||◌, cond, true≢false, false≢true, ◌≡◌}
use Rattle.prelude.proofs.Basics.{refl, sym, ap, ◌∙◌, List, [], ◌∷◌, eqb, leb, eq-eqb, eqb-false, eqb-true, leb-true}
use Rattle.prelude.proofs.Basics.{both}
use Rattle.protocol.specs.Reason as Reason
use Rattle.message.specs.declared.request.Request.TheVariants.{Reset, SessionClose, Prepare, Execute, Deallocate, Open}
use Rattle.message.specs.declared.request.Request.TheVariants.{Close, Fetch}
use Rattle.message.specs.declared.request.Frame.TheVariants.{NotAllThere, BadLength, UnknownType, BadPayload}
use Rattle.message.specs.declared.request.Frame.TheVariants.{BodyTwice, Good}
use Rattle.rules.proofs.Names.{used_of, Frame, Request, Session, is_closed, max_number, and_true, among, no_work}
use Rattle.rules.proofs.Names.{work_of, suits, Test, first_of, request_tests, look_reason, report_tests, report_reason}
use Rattle.rules.proofs.Names.{step_reason, on_good, Report}
use Rattle.rules.specs.Report.{failed, works, fails}
use Rattle.rules.specs.Refusal.{refusal, is_refused, stmt_not_live, unsupported, few_arguments, cursor_not_live}
use Rattle.rules.specs.Refusal.{all_sent, other_cursor, stmts_full, cursors_full, frame_tests, look_tests}
use Rattle.rules.proofs.TestLaws.{all_of, first_passes, all_append, accepted_none}

-- ---- the look

-- of a frame that holds a request: closed, then the tests on the request
abbrev pub good_tests : Session → Request → List Test
good_tests s q = refusal Reason.closed (is_closed s) ∷ request_tests s q

pub look_good : (s : Session) (used : ℕ) (q : Request) → look_reason s (Good used q) ≡ first_of (good_tests s q)
unfolding look_reason
look_good s used q = refl

-- what a look that does not refuse found
pub record Looked (s : Session) (q : Request) : Type 0 where
  pub unclosed : is_closed s ≡ false
  pub stmt_live : stmt_not_live s q ≡ false
  pub supported : unsupported q ≡ false
  pub enough : few_arguments s q ≡ false
  pub cursor_live : cursor_not_live s q ≡ false
  pub unsent : all_sent s q ≡ false
  pub sole : other_cursor s q ≡ false
  pub stmt_placed : stmts_full s q ≡ false
  pub cursor_placed : cursors_full s q ≡ false

pub looked_at : (s : Session) (used : ℕ) (q : Request) → look_reason s (Good used q) ≡ 0 → Looked s q
looked_at s used q e =
    let h = accepted_none (good_tests s q) refl (sym (look_good s used q) ∙ e) in
    let t = h.1 in
    record {
      unclosed = h.0;
      stmt_live = t.0;
      supported = t.1.0;
      enough = t.1.1.0;
      cursor_live = t.1.1.1.0;
      unsent = t.1.1.1.1.0;
      sole = t.1.1.1.1.1.0;
      stmt_placed = t.1.1.1.1.1.1.0;
      cursor_placed = t.1.1.1.1.1.1.1.0;
    }

-- ---- the report

report_same : (used : ℕ) (q : Request) (r : Report) → report_reason (Good used q) r ≡ first_of (report_tests q r)
unfolding report_reason
report_same used q r = refl

works_suits : (w a b : Bool) → (w && not (a || b)) ≡ false → (w && b) ≡ false → w ≡ true → a ≡ true
works_suits false a b x y g = absurd (false≢true g)
works_suits true true b x y g = refl
works_suits true false true x y g = absurd (true≢false y)
works_suits true false false x y g = absurd (true≢false x)

-- a request that wants no work takes any report
by_work : (q : Request) (r : Report) → (works q ≡ true → suits q r ≡ true) → suits q r ≡ true
by_work Reset r h = refl
by_work SessionClose r h = refl
by_work (Prepare p) r h = h refl
by_work (Execute x) r h = h refl
by_work (Deallocate stmt) r h = refl
by_work (Open o) r h = h refl
by_work (Close cursor) r h = refl
by_work (Fetch f) r h = h refl

pub suited : (used : ℕ) (q : Request) (r : Report) → report_reason (Good used q) r ≡ 0 → suits q r ≡ true
suited used q r e =
    let h = accepted_none (report_tests q r) refl (sym (report_same used q r) ∙ e) in
    by_work q r (works_suits (works q) (suits q r) (fails r) h.0 h.1.0)

-- a report that is not consulted refuses nothing
pub idle : (used : ℕ) (q : Request) (r : Report) → work_of q ≡ no_work → report_reason (Good used q) r ≡ 0
unfolding report_reason
idle used Reset r e = refl
idle used SessionClose r e = refl
idle used (Prepare p) r e = absurd (omega arith)
idle used (Execute x) r e = absurd (omega arith)
idle used (Deallocate stmt) r e = refl
idle used (Open o) r e = absurd (omega arith)
idle used (Close cursor) r e = refl
idle used (Fetch f) r e = absurd (omega arith)

-- ---- the step

-- the request that is accepted, and what was found of it
pub record Took (s : Session) (x : Frame) (r : Report) (used : ℕ) (q : Request) : Type 0 where
  pub good : x ≡ Good used q
  pub passes : look_reason s x ≡ 0
  pub look : Looked s q
  pub report : suits q r ≡ true

abbrev pub Taken : Session → Frame → Report → Type 0
Taken s x r = (used : ℕ) × (q : Request) × Took s x r used q

-- a step that gives no reason gives none for the look and none for the report
split : (look report : ℕ) → cond (eqb look 0) report look ≡ 0 → (look ≡ 0) × (report ≡ 0)
split look report e = go (eqb look 0) refl e
  where
    go : (b : Bool) → eqb look 0 ≡ b → cond b report look ≡ 0 → (look ≡ 0) × (report ≡ 0)
    go true h g = (eqb-true look 0 h, g)
    go false h g = absurd (eqb-false look 0 h g)

closed_or_lem : (b : Bool) (n : ℕ) → (n ≡ 0 → ⊥) → ◌≡◌ {A = ℕ} (cond b Reason.closed n) 0 → ⊥
closed_or_lem true n h e = omega arith
closed_or_lem false n h e = h e

-- only a frame that holds a request is not refused
pub took_look : (s : Session) (x : Frame) → look_reason s x ≡ 0 → (used : ℕ) × (q : Request) × (x ≡ Good used q)
unfolding look_reason
took_look s NotAllThere e = absurd (omega arith)
took_look s BadLength e = absurd (omega arith)
took_look s (UnknownType used) e = absurd (closed_or_lem (is_closed s) Reason.unknown_type (λ z. omega arith) e)
took_look s (BadPayload used kind) e = absurd (closed_or_lem (is_closed s) Reason.bad_payload (λ z. omega arith) e)
took_look s (BodyTwice used kind) e = absurd (closed_or_lem (is_closed s) Reason.body_twice (λ z. omega arith) e)
took_look s (Good used q) e = (used, q, refl)

pub took : (s : Session) (x : Frame) (r : Report) → step_reason s x r ≡ 0 → Taken s x r
took s x r e =
    let h = split (look_reason s x) (report_reason x r) e in
    let g = took_look s x h.0 in (
      g.0,
      g.1,
      record {
        good = g.2;
        passes = h.0;
        look = looked_at s g.0 g.1 (sym (ap (look_reason s) g.2) ∙ h.0);
        report = suited g.0 g.1 r (sym (ap (λ y. report_reason y r) g.2) ∙ h.1);
      },
    )

pub step_passes : (p : ℕ → Bool) (s : Session) (x : Frame) (r : Report) → p (look_reason s x) ≡ true →
    p (report_reason x r) ≡ true → p (step_reason s x r) ≡ true
step_passes p s x r h g = both (λ (n : ℕ). p n ≡ true) (eqb (look_reason s x) 0) (report_reason x r) (look_reason s x)
    (λ _. g) (λ _. h)

-- ---- which reasons are given

-- of a report
pub report_passes : (p : ℕ → Bool) → p 0 ≡ true → p Reason.bad_report ≡ true → p Reason.engine_failed ≡ true →
    (x : Frame) (r : Report) → p (report_reason x r) ≡ true
unfolding report_reason
report_passes p z a b NotAllThere r = z
report_passes p z a b BadLength r = z
report_passes p z a b (UnknownType used) r = z
report_passes p z a b (BadPayload used kind) r = z
report_passes p z a b (BodyTwice used kind) r = z
report_passes p z a b (Good used q) r =
    first_passes p z (report_tests q r) (rw (a, b))

-- of a look
pub look_passes : (p : ℕ → Bool) → p 0 ≡ true → ((s : Session) (x : Frame) → all_of p (frame_tests s x) ≡ true) →
    ((s : Session) (q : Request) → all_of p (request_tests s q) ≡ true) → (s : Session) (x : Frame) →
    p (look_reason s x) ≡ true
unfolding look_reason
look_passes p z f h s x =
    first_passes p z (look_tests s x)
    (all_append p (frame_tests s x) (on_good [] (request_tests s) x) (f s x) (asked x))
  where
    asked : (x : Frame) → all_of p (on_good [] (request_tests s) x) ≡ true
    asked NotAllThere = refl
    asked BadLength = refl
    asked (UnknownType used) = refl
    asked (BadPayload used kind) = refl
    asked (BodyTwice used kind) = refl
    asked (Good used q) = h s q

-- a number that is not another
abbrev pub other : ℕ → ℕ → Bool
other k n = not (eqb n k)

pub unlike : (n k : ℕ) → other k n ≡ true → n ≡ k → ⊥
unlike n k h e = true≢false (sym h ∙ ap not (eq-eqb n k e))

-- a look gives no reason of a failed engine
pub look_failed : (s : Session) (x : Frame) → look_reason s x ≡ Reason.engine_failed → ⊥
look_failed s x =
    unlike (look_reason s x) Reason.engine_failed
    (look_passes (other Reason.engine_failed) refl (λ s x. refl) (λ s q. refl) s x)

pub not_three : (s : Session) (x : Frame) (r : Report) → step_reason s x r ≡ Reason.no_room → ⊥
not_three s x r =
    let p = other Reason.no_room in
    unlike (step_reason s x r) Reason.no_room (step_passes p s x r (look_passes p refl (λ s x. refl) (λ s q. refl) s x)
    (report_passes p refl refl refl x r))

abbrev pub few : ℕ → Bool
few n = among n (Reason.accepted ∷ Reason.no_room ∷ Reason.bad_report ∷ Reason.engine_failed ∷ [])

pub report_few : (x : Frame) (r : Report) → few (report_reason x r) ≡ true
unfolding among
report_few x r = report_passes few refl refl refl x r

-- 16 is given for a failure code of 32 bits alone
fails_small : (w : Bool) (r : Report) → (w && fails r) ≡ true → r.code ≤ max_number
fails_small w r e =
    let h = (and_true w (fails r) e).1 in
    leb-true r.code max_number (and_true (eqb r.kind failed && not (eqb r.code 0)) (leb r.code max_number)
    h).1

abbrev CodeSmall : Report → ℕ → Type 0
CodeSmall r n = n ≡ Reason.engine_failed → r.code ≤ max_number

report_code : (x : Frame) (r : Report) → CodeSmall r (report_reason x r)
unfolding report_reason
report_code NotAllThere r = λ e. absurd (omega arith)
report_code BadLength r = λ e. absurd (omega arith)
report_code (UnknownType used) r = λ e. absurd (omega arith)
report_code (BadPayload used kind) r = λ e. absurd (omega arith)
report_code (BodyTwice used kind) r = λ e. absurd (omega arith)
report_code (Good used q) r =
    both (CodeSmall r) (works q && not (suits q r || fails r)) Reason.bad_report _ (λ _ e. absurd (omega arith))
    (λ _. both (CodeSmall r) (works q && fails r) Reason.engine_failed Reason.accepted
    (λ h _. fails_small (works q) r h) (λ _ e. absurd (omega arith)))

pub code_small : (s : Session) (x : Frame) (r : Report) → CodeSmall r (step_reason s x r)
code_small s x r =
    both (CodeSmall r) (eqb (look_reason s x) 0) (report_reason x r) (look_reason s x) (λ _. report_code x r)
    (λ _ e. absurd (look_failed s x e))

-- ---- reasons 1 to 3

-- none, or from 4 on
abbrev is_late : ℕ → Bool
is_late n = eqb n 0 || leb Reason.closed n

late : (n : ℕ) → is_late n ≡ true → n ≤ Reason.no_room → n ≡ 0
late n e h = go (eqb n 0) refl e
  where
    go : (b : Bool) → eqb n 0 ≡ b → (b || leb Reason.closed n) ≡ true → n ≡ 0
    go true f g = eqb-true n 0 f
    go false f g = absurd (omega (arith, leb-true Reason.closed n g))

late_step : (s : Session) (x : Frame) (r : Report) → is_late (look_reason s x) ≡ true →
    step_reason s x r ≤ Reason.no_room → step_reason s x r ≡ 0
late_step s x r h = late (step_reason s x r) (step_passes is_late s x r h (report_passes is_late refl refl refl x r))

-- closed, or a reason that comes behind it
late_own : (b : Bool) (n : ℕ) → is_late n ≡ true → is_late (cond b Reason.closed n) ≡ true
late_own b n h = both (λ (m : ℕ). is_late m ≡ true) b Reason.closed n (λ _. refl) (λ _. h)

-- of a frame that is all there and of a good length only reasons from 4 on are given
pub late_read : (s : Session) (x : Frame) (r : Report) →
    (is_refused Reason.not_all_there x || is_refused Reason.bad_length x) ≡ false →
    step_reason s x r ≤ Reason.no_room → step_reason s x r ≡ 0
unfolding look_reason
late_read s NotAllThere r e = absurd (true≢false e)
late_read s BadLength r e = absurd (true≢false e)
late_read s (UnknownType used) r e = late_step s (UnknownType used) r (late_own (is_closed s) Reason.unknown_type refl)
late_read s (BadPayload used kind) r e =
    late_step s (BadPayload used kind) r (late_own (is_closed s) Reason.bad_payload refl)
late_read s (BodyTwice used kind) r e =
    late_step s (BodyTwice used kind) r (late_own (is_closed s) Reason.body_twice refl)
late_read s (Good used q) r e = late_step s (Good used q) r (first_passes is_late refl (good_tests s q) refl)

-- below 4 stand 1 and 2, of a frame that uses no byte
pub low_used : (s : Session) (x : Frame) (r : Report) → step_reason s x r ≤ Reason.no_room →
    (step_reason s x r ≡ 0 → ⊥) → used_of x ≡ 0
low_used s NotAllThere r h z = refl
low_used s BadLength r h z = refl
low_used s (UnknownType used) r h z = absurd (z (late_read s (UnknownType used) r refl h))
low_used s (BadPayload used kind) r h z = absurd (z (late_read s (BadPayload used kind) r refl h))
low_used s (BodyTwice used kind) r h z = absurd (z (late_read s (BodyTwice used kind) r refl h))
low_used s (Good used q) r h z = absurd (z (late_read s (Good used q) r refl h))
