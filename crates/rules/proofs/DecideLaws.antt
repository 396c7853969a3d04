-- The rules of specs/RefusalRules.antt hold: no reason occurs twice in the list of tests, so that each stands for one
-- test.
-- Assumes nothing.
use Rattle.prelude.proofs.Basics.{Option, Some, None, is_none}
use Rattle.prelude.proofs.Basics.{ℕ, ◌≤◌, arith, Bool, true, false, ◌&&◌, cond, false≢true, ◌≡◌, refl, sym, ap, subst}
use Rattle.prelude.proofs.Basics.{◌∙◌, List, [], ◌∷◌, ◌++◌, length, eqb, leb, eqb-true, le-ltb, leb-true, both}
use Rattle.protocol.specs.Reason as Reason
use Rattle.message.specs.declared.request.Frame.TheVariants.{NotAllThere, BadLength, UnknownType, BadPayload}
use Rattle.message.specs.declared.request.Frame.TheVariants.{BodyTwice, Good}
use Rattle.session.specs.Tables.{max_stmts, max_cursors, stmt_count, cursor_count}
use Rattle.session.proofs.TableLaws.{stmts_full_lem, full_stmts, full_cursors}
use Rattle.rules.proofs.Names.{prepare, open', stmt_of, cursor_of, frame_of, Frame, how_many, Session, is_stmt}
use Rattle.rules.proofs.Names.{is_cursor, stmt_place, cursor_place, and_true, cursors_full_lem, min_buffer, is_a}
use Rattle.rules.proofs.Names.{on_good, Test, first_of, look_reason, report_tests, report_reason, step_reason}
use Rattle.rules.proofs.Names.{look_at, NoneHolds, Report}
use Rattle.rules.specs.Refusal.{look_tests}
use Rattle.rules.specs.RefusalRules.{Decides, LookDecides, step_tests, StepDecides, LookGives, StepGives, FullWhen}
use Rattle.rules.specs.RefusalRules.{FullTables}
use Rattle.rules.proofs.TestLaws.{gives, gives_there, first_given, apart, Apart, apart_first, accepted_none}
use Rattle.rules.proofs.RefusalLaws.{other, unlike, look_passes, look_failed, report_passes, step_passes}
use Rattle.rules.proofs.LookLaws.{look_reason_lem, step_reason_lem}
use Rattle.rules.proofs.StepLaws.{step_has}

-- ---- a list in which each reason stands for one test

-- a reason that is given is that of the test that holds first
given_by : (before : List Test) (t : Test) (after : List Test) → apart (before ++ t ∷ after) ≡ true →
    first_of (before ++ t ∷ after) ≡ t.reason → (t.holds ≡ true) × NoneHolds before
given_by [] t after h e = go t.holds refl e
  where
    go : (b : Bool) → t.holds ≡ b → cond b t.reason (first_of after) ≡ t.reason → (t.holds ≡ true) × Unit {0}
    go true f g = (f, tt)
    go false f g = absurd ((apart_first t after h).alone (ap (gives after) (sym g) ∙ first_given after))
given_by (b ∷ bs) t after h e = go b.holds refl (given_by bs t after l.rest) e
  where
    l : Apart b (bs ++ t ∷ after)
    l = apart_first b (bs ++ t ∷ after) h

    go : (c : Bool) → b.holds ≡ c → (first_of (bs ++ t ∷ after) ≡ t.reason → (t.holds ≡ true) × NoneHolds bs) →
        cond c b.reason (first_of (bs ++ t ∷ after)) ≡ t.reason → (t.holds ≡ true) × NoneHolds (b ∷ bs)
    go true f more g = absurd (l.alone (ap (gives (bs ++ t ∷ after)) g ∙ gives_there bs t after))
    go false f more g = let k = more g in (k.0, (f, k.1))

holds_first : (before : List Test) (t : Test) (after : List Test) → t.holds ≡ true → NoneHolds before →
    first_of (before ++ t ∷ after) ≡ t.reason
holds_first [] t after h none = rw h
holds_first (b ∷ bs) t after h none = rw none.0 (holds_first bs t after h none.1)

none_first : (ts : List Test) → NoneHolds ts → first_of ts ≡ 0
none_first [] h = refl
none_first (t ∷ ts) h = rw h.0 (none_first ts h.1)

decides : (ts : List Test) → apart ts ≡ true → Decides ts (first_of ts)
decides ts h =
    record {
      given = λ before t after same e.
          given_by before t after (ap apart (sym same) ∙ h) (ap first_of (sym same) ∙ e);
      holds = λ before t after same on none. ap first_of same ∙ holds_first before t after on none;
      accepted = accepted_none ts h;
      none = none_first ts;
    }

-- ---- the list of a step

look_apart : (s : Session) (x : Frame) → apart (look_tests s x) ≡ true
look_apart s NotAllThere = refl
look_apart s BadLength = refl
look_apart s (UnknownType used) = refl
look_apart s (BadPayload used kind) = refl
look_apart s (BodyTwice used kind) = refl
look_apart s (Good used q) = refl

step_apart : (s : Session) (x : Frame) (r : Report) → apart (step_tests s x r) ≡ true
step_apart s NotAllThere r = refl
step_apart s BadLength r = refl
step_apart s (UnknownType used) r = refl
step_apart s (BadPayload used kind) r = refl
step_apart s (BodyTwice used kind) r = refl
step_apart s (Good used q) r = refl

-- the tests of a report are asked where those of the look give nothing
first_append : (ts us : List Test) → apart ts ≡ true →
    first_of (ts ++ us) ≡ cond (eqb (first_of ts) 0) (first_of us) (first_of ts)
first_append [] us h = refl
first_append (t ∷ ts) us h = go t.holds (first_append ts us l.rest)
  where
    l : Apart t ts
    l = apart_first t ts h

    go : (b : Bool) → first_of (ts ++ us) ≡ cond (eqb (first_of ts) 0) (first_of us) (first_of ts) →
        cond b t.reason (first_of (ts ++ us)) ≡ cond (eqb (cond b t.reason (first_of ts)) 0) (first_of us)
        (cond b t.reason (first_of ts))
    go true more =
        both (λ (n : ℕ). t.reason ≡ n) (eqb t.reason 0) (first_of us) t.reason
        (λ e. absurd (l.some (eqb-true t.reason 0 e))) (λ _. refl)
    go false more = more

look_first : (s : Session) (x : Frame) → look_reason s x ≡ first_of (look_tests s x)
unfolding look_reason
look_first s x = refl

step_first : (s : Session) (x : Frame) (r : Report) → step_reason s x r ≡ first_of (step_tests s x r)
unfolding look_reason report_reason
step_first s x r = sym (first_append (look_tests s x) (on_good [] (λ q. report_tests q r) x) (look_apart s x))

pub look_decides : LookDecides
unfolding look_at
look_decides s frame =
    let x = frame_of frame in
    subst (Decides (look_tests s x)) (sym (look_reason_lem s x ∙ look_first s x)) (decides (look_tests s x) (look_apart s x))

pub step_decides : StepDecides
step_decides s frame r buffer room =
    let x = frame_of frame in
    subst (Decides (step_tests s x r)) (sym (step_reason_lem s x r buffer (le-ltb (length buffer) min_buffer room)
    ∙ step_first s x r))
    (decides (step_tests s x r) (step_apart s x r))

-- ---- which reasons are given

pub look_gives : LookGives
unfolding look_at
look_gives s frame =
    let x = frame_of frame in
    rw (look_reason_lem s x)
    (record {
      small = leb-true (look_reason s x) Reason.body_twice
          (look_passes (λ n. leb n Reason.body_twice) refl (λ s x. refl) (λ s q. refl) s x);
      room = unlike (look_reason s x) Reason.no_room
          (look_passes (other Reason.no_room) refl (λ s x. refl) (λ s q. refl) s x);
      report = unlike (look_reason s x) Reason.bad_report
          (look_passes (other Reason.bad_report) refl (λ s x. refl) (λ s q. refl) s x);
      failed = look_failed s x;
    })

pub step_gives : StepGives
step_gives s frame r buffer =
    let x = frame_of frame in
    let p : ℕ → Bool = λ n. leb n Reason.body_twice in
    let all = step_passes p s x r (look_passes p refl (λ s x. refl) (λ s q. refl) s x)
    (report_passes p refl refl refl x r) in
    step_has (λ after. after.answer.reason ≤ Reason.body_twice) s x r buffer (λ _. omega arith)
    (λ _ _ _ _. omega arith)
    (λ _ _. leb-true (step_reason s x r) Reason.body_twice all)

-- ---- full tables

no_place_lem : (x : Option ℕ) → is_none x ≡ true → x ≡ None
no_place_lem (Some i) e = absurd (false≢true e)
no_place_lem None e = refl

full_when : (limit live own : ℕ) (a : Bool) (x : Option ℕ) → a ≡ true → (x ≡ None → (own ≡ 0) × (live ≡ limit)) →
    (own ≡ 0 → live ≡ limit → x ≡ None) → FullWhen limit live own (a && is_none x)
full_when limit live own a x is there back =
    record {
      given = λ e. let l = there (no_place_lem x (and_true a (is_none x) e).1) in (l.1, l.0);
      holds = λ full none. rw (is, back none full);
    }

pub full_tables : FullTables
full_tables s q stmts cursors = (
  λ is.
      full_when max_stmts (stmt_count s) (how_many (is_stmt (stmt_of q)) s.stmts) (is_a prepare q)
      (stmt_place s (stmt_of q)) is
      (λ e. let l = stmts_full_lem s (stmt_of q) e in (l.0, l.1 ∙ stmts))
      (λ none full. full_stmts s (stmt_of q) none (full ∙ sym stmts)),
  λ is.
      full_when max_cursors (cursor_count s) (how_many (is_cursor (cursor_of q)) s.cursors) (is_a open' q)
      (cursor_place s (cursor_of q)) is
      (λ e. let l = cursors_full_lem s (cursor_of q) e in (l.0, l.1 ∙ cursors))
      (λ none full. full_cursors s (cursor_of q) none (full ∙ sym cursors)),
)
