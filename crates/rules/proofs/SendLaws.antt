-- The rules of specs/SendRules.antt hold. Assumes nothing.
use Rattle.prelude.proofs.Basics.{ℕ, ◌+◌, ◌≤◌, arith, le_trans, not, ◌≡◌, refl, sym, ap, ◌∙◌, List, ◌++◌, length, take}
use Rattle.prelude.proofs.Basics.{drop, length-take, eqb, leb, ltb, eq-eqb, eqb-false, le-ltb, ltb-false, ne_eqb}
use Rattle.prelude.proofs.Basics.{not-true, both, Ok, Err}
use Rattle.protocol.specs.Reason as Reason
use Rattle.protocol.specs.declared.reason.Reason as Declared
use Rattle.message.specs.Frame.{reason_of, refused_head}
use Rattle.message.specs.declared.request.Request.TheVariants.{Reset, SessionClose, Prepare, Execute, Deallocate, Open}
use Rattle.message.specs.declared.request.Request.TheVariants.{Close, Fetch}
use Rattle.message.specs.declared.request.Frame.TheVariants.{NotAllThere, BadLength, Good}
use Rattle.message.proofs.UsedLaws.{uses_all}
use Rattle.rules.proofs.Names.{length_bytes, max_length, length_of, head_of, of_head, used_of, frame_in, frame_of}
use Rattle.rules.proofs.Names.{padded_of, HeadResult, Frame, Request, Session, reply_bytes, min_buffer, no_work, work_of}
use Rattle.rules.proofs.Names.{look_reason, report_reason, step_reason, row_count, sends_columns, accepted}
use Rattle.rules.proofs.Names.{decision_of, looked, look_of, step_by, step_on, answer_says, look_at, step_of, Report}
use Rattle.rules.specs.declared.Answer.{Answer}
use Rattle.rules.specs.Report.{to_fetch}
use Rattle.rules.specs.Rows.{first_row}
use Rattle.rules.specs.SendRules.{AcceptsIdle, SendsAsLooked, AsAsked, SendsAsAsked, Uses, UsesFrame, WritesWhole}
use Rattle.rules.specs.SendRules.{WithAny, AsReported, SendsColumns}
use Rattle.rules.proofs.ReadLaws.{frames_are_read}
use Rattle.rules.proofs.RefusalLaws.{Took, took_look, idle}
use Rattle.rules.proofs.StepLaws.{step_has, reply_front, written_front}
use Rattle.rules.proofs.LookLaws.{look_reason_lem, look_work_lem, look_good, step_reason_lem}
use Rattle.rules.proofs.BufferLaws.{decision_fits}

-- ---- work none

idle_step : (s : Session) (x : Frame) (r : Report) → look_reason s x ≡ 0 → (look_of s x).work ≡ no_work →
    step_reason s x r ≡ 0
idle_step s x r e w = go x g.2 e w
  where
    g : (used : ℕ) × (q : Request) × (x ≡ Good used q)
    g = took_look s x e

    go : (y : Frame) → y ≡ Good g.0 g.1 → look_reason s y ≡ 0 → (look_of s y).work ≡ no_work → step_reason s y r ≡ 0
    go y f h k =
        let z = ap (look_reason s) (sym f) ∙ h in
        let none = sym (look_work_lem s g.0 g.1 (eq-eqb (look_reason s (Good g.0 g.1)) 0 z))
        ∙ ap (λ v. (look_of s v).work) (sym f) ∙ k in
        ap (λ v. step_reason s v r) f
        ∙ rw (eq-eqb (look_reason s (Good g.0 g.1)) 0 z) (idle g.0 g.1 r none)

pub accepts_idle : AcceptsIdle
unfolding look_at
accepts_idle s frame r buffer e w room =
    let x = frame_of frame in
    step_reason_lem s x r buffer (le-ltb (length buffer) min_buffer room) ∙ idle_step s x r (sym (look_reason_lem s x) ∙ e) w

-- ---- the rows

-- the rows of an accepted step are those of its request
step_rows : (P : Request → ℕ → ℕ → Type 0) (s : Session) (x : Frame) (r : Report) (buffer : List ℕ) →
    ((used : ℕ) (q : Request) → Took s x r used q → P q (first_row s q) (row_count s q r)) →
    (step_on s x r buffer).answer.reason ≡ 0 →
    (used : ℕ) × (q : Request) × (x ≡ Good used q) × P q (step_on s x r buffer).answer.first
    (step_on s x r buffer).answer.count
step_rows P s x r buffer h =
    step_has (λ y. y.answer.reason ≡ 0 → (used : ℕ) × (q : Request) × (x ≡ Good used q) × P q y.answer.first
    y.answer.count) s x r buffer
    (λ _ e. absurd (omega arith)) (λ used q _ t _. (used, q, t.good, h used q t)) (λ _ some e. absurd (some e))

pub good_same : {used used' : ℕ} {q p : Request} → Good used q ≡ Good used' p → q ≡ p
good_same e = cc

as_asked : (s : Session) (q : Request) (r : Report) (a : Answer) → a.first ≡ first_row s q →
    a.count ≡ row_count s q r → AsAsked s q r a
unfolding first_row row_count
as_asked s Reset r a e f = record { from = e; many = f }
as_asked s SessionClose r a e f = record { from = e; many = f }
as_asked s (Prepare p) r a e f = record { from = e; many = f }
as_asked s (Execute x) r a e f = record { from = e; many = f }
as_asked s (Deallocate stmt) r a e f = record { from = e; many = f }
as_asked s (Open o) r a e f = record { from = e; many = f }
as_asked s (Close cursor) r a e f = record { from = e; many = f }
as_asked s (Fetch f) r a e g = record { from = e; many = g }

pub sends_as_asked : SendsAsAsked
sends_as_asked s frame r buffer used q e accepted' =
    let x = frame_of frame in
    let t = step_rows (λ p first count. (first ≡ first_row s p) × (count ≡ row_count s p r)) s x r buffer
    (λ _ _ _. (refl, refl)) accepted' in
    let same : t.1 ≡ q = good_same (sym t.2 ∙ e) in
    as_asked s q r (step_of s frame r buffer).answer (t.3.0 ∙ ap (first_row s) same)
    (t.3.1 ∙ ap (λ p. row_count s p r) same)

-- a look at a Fetch tells the same
fetch_rows_lem : (s : Session) (q : Request) (r : Report) → work_of q ≡ to_fetch →
    ((looked s q).first ≡ first_row s q) × ((looked s q).count ≡ row_count s q r)
unfolding first_row row_count
fetch_rows_lem s Reset r e = absurd (omega arith)
fetch_rows_lem s SessionClose r e = absurd (omega arith)
fetch_rows_lem s (Prepare p) r e = absurd (omega arith)
fetch_rows_lem s (Execute x) r e = absurd (omega arith)
fetch_rows_lem s (Deallocate stmt) r e = absurd (omega arith)
fetch_rows_lem s (Open o) r e = absurd (omega arith)
fetch_rows_lem s (Close cursor) r e = absurd (omega arith)
fetch_rows_lem s (Fetch f) r e = (refl, refl)

pub sends_as_looked : SendsAsLooked
unfolding look_at
sends_as_looked s frame r buffer e accepted' =
    let h = go (frame_of frame) e t.1 t.2 t.3 in record { first = h.0; count = h.1 }
  where
    t : (used : ℕ) × (q : Request) × (frame_of frame ≡ Good used q)
        × (((step_of s frame r buffer).answer.first ≡ first_row s q) ×
        ((step_of s frame r buffer).answer.count ≡ row_count s q r) × (look_reason s (frame_of frame) ≡ 0))
    t =
        step_rows (λ p first count. (first ≡ first_row s p) × (count ≡ row_count s p r) ×
        (look_reason s (frame_of frame) ≡ 0)) s (frame_of frame) r buffer
        (λ _ _ k. (refl, refl, k.passes)) accepted'

    go : (x : Frame) → (look_of s x).work ≡ to_fetch → (q : Request) → x ≡ Good t.0 q →
        ((step_of s frame r buffer).answer.first ≡ first_row s q) ×
        ((step_of s frame r buffer).answer.count ≡ row_count s q r) × (look_reason s x ≡ 0) →
        ((step_of s frame r buffer).answer.first ≡ (look_of s x).first) ×
        ((step_of s frame r buffer).answer.count ≡ (look_of s x).count)
    go x w q f h =
        let z = eq-eqb (look_reason s (Good t.0 q)) 0 (ap (look_reason s) (sym f) ∙ h.2) in
        let is = ap (look_of s) f ∙ look_good s t.0 q z in
        let rows = fetch_rows_lem s q r (sym (ap (λ l. l.work) is) ∙ w) in
        (h.0 ∙ sym rows.0 ∙ sym (ap (λ l. l.first) is), h.1 ∙ sym rows.1 ∙ sym (ap (λ l. l.count) is))

-- ---- the columns

with_any : (r : Report) (a : Answer) → a.columns ≡ not (eqb r.columns 0) → WithAny r a
with_any r a e = (
  λ f. omega (arith, eqb-false r.columns 0 (not-true (eqb r.columns 0) (sym e ∙ f))),
  λ h. e ∙ ap not (ne_eqb r.columns 0 (λ z. omega arith)),
)

as_reported : (q : Request) (r : Report) (a : Answer) → a.columns ≡ sends_columns q r → AsReported q r a
unfolding sends_columns
as_reported Reset r a e = e
as_reported SessionClose r a e = e
as_reported (Prepare p) r a e = e
as_reported (Execute x) r a e = with_any r a e
as_reported (Deallocate stmt) r a e = e
as_reported (Open o) r a e = with_any r a e
as_reported (Close cursor) r a e = e
as_reported (Fetch f) r a e = e

pub sends_columns_lem : SendsColumns
sends_columns_lem s frame r buffer used q e =
    step_has (λ y. y.answer.reason ≡ Reason.accepted → AsReported q r (answer_says (padded_of frame) y.answer)) s
    (frame_of frame) r buffer
    (λ _ z. absurd (omega arith))
    (λ used' p _ t _.
    as_reported q r (answer_says (padded_of frame) (step_by (Good used' p) buffer (accepted s r p)).answer)
    (ap (λ (v : Request). sends_columns v r) (good_same (sym t.good ∙ e))))
    (λ _ some z. absurd (some z))

-- ---- the bytes used

used_by : (s : Session) (x : Frame) (r : Report) (buffer : List ℕ) →
    ((step_on s x r buffer).answer.reason ≡ Reason.no_room → ⊥) →
    (step_on s x r buffer).answer.used ≡ used_of x
used_by s x r buffer =
    step_has (λ y. (y.answer.reason ≡ Reason.no_room → ⊥) → y.answer.used ≡ used_of x) s x r buffer
    (λ _ h. absurd (h refl))
    (λ used q _ t _. ap used_of (sym t.good)) (λ _ _ _. refl)

-- a frame that is refused by its head is refused so by the step
abbrev Unread : Frame → ℕ → Type 0
Unread x n = (n ≡ Reason.not_all_there → ⊥) → (n ≡ Reason.bad_length → ⊥) → (n ≡ Reason.no_room → ⊥) → ⊥

head_refused : (s : Session) (m : Declared.Reason) (r : Report) (buffer : List ℕ) →
    Unread (refused_head m) (step_on s (refused_head m) r buffer).answer.reason
unfolding look_reason report_reason
head_refused s m r buffer =
    both (λ x. Unread x (step_on s x r buffer).answer.reason) (eqb (Reason.number_of m) Reason.bad_length) BadLength NotAllThere
    (λ _. step_has (λ y. Unread BadLength y.answer.reason) s BadLength r buffer (λ _ a b c. c refl)
    (λ used q _ t. absurd (omega (arith, ap reason_of t.good))) (λ _ _ a b c. b refl))
    (λ _. step_has (λ y. Unread NotAllThere y.answer.reason) s NotAllThere r buffer (λ _ a b c. c refl)
    (λ used q _ t. absurd (omega (arith, ap reason_of t.good))) (λ _ _ a b c. a refl))

-- a whole frame ends where its four bytes say
abbrev Ends : List ℕ → HeadResult → Type 0
Ends frame (Ok head) = (head.end ≡ length_bytes + length_of frame) × (head.end ≤ length frame)
Ends frame (Err reason) = Unit {0}

head_ends : (frame : List ℕ) → Ends frame (head_of frame)
head_ends frame =
    both (Ends frame) (leb length_bytes (length frame)) _ _
    (λ _. both (Ends frame) (eqb (length_of frame) 0) _ _ (λ _. tt)
    (λ _. both (Ends frame) (ltb max_length (length_of frame)) _ _ (λ _. tt)
    (λ _. both (Ends frame) (ltb (length frame) (length_bytes + length_of frame)) _ _
    (λ _. tt)
    (λ e. (refl, ltb-false (length frame) (length_bytes + length_of frame) e)))))
    (λ _. tt)

uses_by : (s : Session) (frame : List ℕ) (r : Report) (buffer : List ℕ) (h : HeadResult) → Ends frame h →
    ((step_on s (of_head frame h) r buffer).answer.reason ≡ Reason.not_all_there → ⊥) →
    ((step_on s (of_head frame h) r buffer).answer.reason ≡ Reason.bad_length → ⊥) →
    ((step_on s (of_head frame h) r buffer).answer.reason ≡ Reason.no_room → ⊥) →
    Uses frame (step_on s (of_head frame h) r buffer).answer
uses_by s frame r buffer (Ok head) e a b c =
    let cut = take head.end frame in
    let u = used_by s (frame_in cut head.kind) r buffer c ∙ uses_all cut head.kind in
    record {
      own = omega (arith, u, length-take head.end frame, e.0, e.1);
      within = omega
          (arith, u, length-take head.end frame, e.1);
    }
uses_by s frame r buffer (Err reason) e a b c = absurd (head_refused s reason r buffer a b c)

pub uses_frame : UsesFrame
unfolding frame_of
uses_frame s frame r buffer a b c =
    let u = uses_by s frame r buffer (head_of frame) (head_ends frame) a b c in
    record { own = u.own; within = u.within }

-- ---- the reply

pub writes_whole : WritesWhole
unfolding step_on
writes_whole s frame r buffer room =
    let x = frame_of frame in
    let bytes = reply_bytes (decision_of s x r).reply in
    let small = decision_fits s x r (frames_are_read frame) in
    let front = reply_front buffer bytes (le_trans small room) in
    rw (le-ltb (length buffer) min_buffer room)
    (record {
      fits = small;
      long = ap length front;
      rest = written_front buffer bytes (le_trans small room) ∙ ap (λ bs. bs ++ drop (length bytes) buffer) (sym front);
    })
