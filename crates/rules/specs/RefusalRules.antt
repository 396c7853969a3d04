-- Which refusal is given, and when an entry has no place.
use Rattle.std.specs.Prelude.{ℕ, ◌≤◌, Bool, true, false, ◌≡◌, List, [], ◌∷◌, ◌++◌, length}
use Rattle.protocol.specs.Client.{prepare, open'}
use Rattle.protocol.specs.Reason as Reason
use Rattle.message.specs.Frame.{frame_of}
use Rattle.message.specs.Request.{stmt_of, cursor_of}
use Rattle.message.specs.declared.request.Request.{Request}
use Rattle.message.specs.declared.request.Frame.{Frame}
use Rattle.session.specs.Session.{Session}
use Rattle.session.specs.Lists.{how_many}
use Rattle.session.specs.Entry.{is_stmt, is_cursor}
use Rattle.session.specs.Tables.{max_stmts, max_cursors, stmt_count, cursor_count}
use Rattle.reply.specs.ReplyRules.{min_buffer}
use Rattle.rules.specs.declared.Report.{Report}
use Rattle.rules.specs.Kind.{is_a, on_good}
use Rattle.rules.specs.Refusal.{Test, look_tests, report_tests, stmts_full, cursors_full}
use Rattle.rules.specs.Step.{look_at, step_of}

-- no test of a list holds
abbrev pub NoneHolds : List Test → Type 0
NoneHolds [] = Unit {0}
NoneHolds (t ∷ ts) = (t.holds ≡ false) × NoneHolds ts

-- "Each is given exactly when its row holds and no earlier one does", wherever in the list a test stands; and a frame
-- is accepted exactly when no test holds (O1)
pub record Decides (ts : List Test) (reason : ℕ) : Type 0 where
  pub given :
      (before : List Test) (t : Test) (after : List Test) → ts ≡ before ++ t ∷ after → reason ≡ t.reason →
      (t.holds ≡ true) × NoneHolds before
  pub holds :
      (before : List Test) (t : Test) (after : List Test) → ts ≡ before ++ t ∷ after → t.holds ≡ true →
      NoneHolds before → reason ≡ t.reason
  pub accepted : reason ≡ Reason.accepted → NoneHolds ts
  pub none : NoneHolds ts → reason ≡ Reason.accepted

abbrev pub LookDecides : Type 0
LookDecides = (s : Session) (frame : List ℕ) → Decides (look_tests s (frame_of frame)) (look_at s frame).reason

-- the tests of a step: those of the look, then those of the report
abbrev pub step_tests : Session → Frame → Report → List Test
step_tests s x r = look_tests s x ++ on_good [] (λ q. report_tests q r) x

-- given room; `ShortFirst` has the rest
abbrev pub StepDecides : Type 0
StepDecides =
    (s : Session) (frame : List ℕ) (r : Report) (buffer : List ℕ) → min_buffer ≤ length buffer →
    Decides (step_tests s (frame_of frame) r) (step_of s frame r buffer).answer.reason

-- a look gives none of 3, 15 and 16, and no number past the table's
pub record OfLook (reason : ℕ) : Type 0 where
  pub small : reason ≤ Reason.body_twice
  pub room : reason ≡ Reason.no_room → ⊥
  pub report : reason ≡ Reason.bad_report → ⊥
  pub failed : reason ≡ Reason.engine_failed → ⊥

abbrev pub LookGives : Type 0
LookGives = (s : Session) (frame : List ℕ) → OfLook (look_at s frame).reason

abbrev pub StepGives : Type 0
StepGives =
    (s : Session) (frame : List ℕ) (r : Report) (buffer : List ℕ) →
    (step_of s frame r buffer).answer.reason ≤ Reason.body_twice

-- as many entries are live as there are places, and none has the id
pub record FullWhen (limit live own : ℕ) (full : Bool) : Type 0 where
  pub given : full ≡ true → (live ≡ limit) × (own ≡ 0)
  pub holds : live ≡ limit → own ≡ 0 → full ≡ true

-- 13 "64 statements live, id not among them", 14 "16 cursors live, id not among them" (R13, R14)
abbrev pub FullTables : Type 0
FullTables =
    (s : Session) (q : Request) → length s.stmts ≡ max_stmts → length s.cursors ≡ max_cursors →
    (is_a prepare q ≡ true → FullWhen max_stmts (stmt_count s) (how_many (is_stmt (stmt_of q)) s.stmts) (stmts_full s q))
    × (is_a open' q ≡ true →
    FullWhen max_cursors (cursor_count s) (how_many (is_cursor (cursor_of q)) s.cursors) (cursors_full s q))
