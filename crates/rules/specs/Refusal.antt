-- The refusals, as one list of tests in order: "Each is given exactly when its row holds and no earlier one does." (O1)
use Rattle.std.specs.Prelude.{ℕ, Bool, cond, not, ◌&&◌, ◌||◌, List, [], ◌∷◌, ◌++◌, eqb, ltb, leb, is_none}
use Rattle.protocol.specs.Anys as Anys
use Rattle.protocol.specs.Client.{prepare, execute, deallocate, open', close, fetch}
use Rattle.protocol.specs.Reason as Reason
use Rattle.message.specs.Request.{stmt_of, cursor_of, args_of}
use Rattle.message.specs.Frame.{reason_of}
use Rattle.message.specs.declared.request.Request.{Request}
use Rattle.message.specs.declared.request.Frame.{Frame}
use Rattle.session.specs.Session.{Session, is_closed}
use Rattle.session.specs.Entry.{is_live_stmt, is_live_cursor}
use Rattle.session.specs.Tables.{live_stmt, live_cursor, carried, stmt_place, cursor_place}
use Rattle.rules.specs.declared.Report.{Report}
use Rattle.rules.specs.Kind.{is_a, one_of, one_of3, on_good}
use Rattle.rules.specs.Report.{works, suits, fails}

-- a reason, and whether its row of the table holds
pub record Test : Type 0 where
  pub reason : ℕ
  pub holds : Bool

abbrev pub refusal : ℕ → Bool → Test
refusal reason holds = record { reason = reason; holds = holds }

-- the reason of the first test that holds, 0 where none does
abbrev pub first_of : List Test → ℕ
first_of [] = Reason.accepted
first_of (t ∷ ts) = cond t.holds t.reason (first_of ts)

-- 1, 2, 5, 6 and 17: the frame is refused so by itself
abbrev pub is_refused : ℕ → Frame → Bool
is_refused reason x = eqb (reason_of x) reason

-- 7 "statement id not live" (R7)
abbrev pub stmt_not_live : Session → Request → Bool
stmt_not_live s q = one_of3 execute deallocate open' q && not (is_live_stmt (live_stmt s (stmt_of q)))

-- 8 "argument of Execute or Open is object or array" (R8)
abbrev pub unsupported : Request → Bool
unsupported q = one_of execute open' q && not (eqb (args_of q).kind Anys.none)

-- 9 "fewer arguments than placeholders" (R9)
abbrev pub few_arguments : Session → Request → Bool
few_arguments s q = one_of execute open' q && ltb (args_of q).count (live_stmt s (stmt_of q)).placeholders

-- 10 "cursor id not live" (R10)
abbrev pub cursor_not_live : Session → Request → Bool
cursor_not_live s q = one_of fetch close q && not (is_live_cursor (live_cursor s (cursor_of q)))

-- 11 "all rows already sent" (R11)
abbrev pub all_sent : Session → Request → Bool
all_sent s q = is_a fetch q && leb (live_cursor s (cursor_of q)).rows (live_cursor s (cursor_of q)).sent

-- 12 "statement carries a cursor of another id" (R12)
abbrev pub other_cursor : Session → Request → Bool
other_cursor s q =
    is_a open' q && is_live_cursor (carried s (stmt_of q)) && not (eqb (carried s (stmt_of q)).id (cursor_of q))

-- 13 "64 statements live, id not among them" (R13)
abbrev pub stmts_full : Session → Request → Bool
stmts_full s q = is_a prepare q && is_none (stmt_place s (stmt_of q))

-- 14 "16 cursors live, id not among them" (R14)
abbrev pub cursors_full : Session → Request → Bool
cursors_full s q = is_a open' q && is_none (cursor_place s (cursor_of q))

-- the refusals that a look gives
abbrev pub frame_tests : Session → Frame → List Test
frame_tests s x =
    refusal Reason.not_all_there (is_refused Reason.not_all_there x)
    ∷ refusal Reason.bad_length (is_refused Reason.bad_length x)
    ∷ refusal Reason.closed (is_closed s)
    ∷ refusal Reason.unknown_type (is_refused Reason.unknown_type x)
    ∷ refusal Reason.bad_payload (is_refused Reason.bad_payload x)
    ∷ refusal Reason.body_twice (is_refused Reason.body_twice x)
    ∷ []

abbrev pub request_tests : Session → Request → List Test
request_tests s q =
    refusal Reason.no_stmt (stmt_not_live s q)
    ∷ refusal Reason.not_scalar (unsupported q)
    ∷ refusal Reason.few_arguments (few_arguments s q)
    ∷ refusal Reason.no_cursor (cursor_not_live s q)
    ∷ refusal Reason.all_sent (all_sent s q)
    ∷ refusal Reason.other_cursor (other_cursor s q)
    ∷ refusal Reason.stmts_full (stmts_full s q)
    ∷ refusal Reason.cursors_full (cursors_full s q)
    ∷ []

abbrev pub look_tests : Session → Frame → List Test
look_tests s x = frame_tests s x ++ on_good [] (request_tests s) x

unfoldable pub look_reason : Session → Frame → ℕ
look_reason s x = first_of (look_tests s x)

-- the refusals of an engine report, which a request that wants work consults: 15 "of the wrong kind or outside its
-- limits", 16 "engine failed" (R15, R16, K10)
abbrev pub report_tests : Request → Report → List Test
report_tests q r =
    refusal Reason.bad_report (works q && not (suits q r || fails r))
    ∷ refusal Reason.engine_failed (works q && fails r)
    ∷ []

unfoldable pub report_reason : Frame → Report → ℕ
report_reason x r = first_of (on_good [] (λ q. report_tests q r) x)

-- of a step: what the look refuses, then the report
abbrev pub step_reason : Session → Frame → Report → ℕ
step_reason s x r = cond (eqb (look_reason s x) Reason.accepted) (report_reason x r) (look_reason s x)
