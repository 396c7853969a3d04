-- The refusals of each request, by the entries that were looked up. For private contracts: what is promised (crate
-- rules, `look_at` and `step_of`) does not cite it.
use Rattle.std.specs.Prelude.{Option, ℕ, Bool, false, cond, not, ◌&&◌, ◌||◌, [], ◌∷◌, eqb, ltb, leb, Option, is_none}
use Rattle.protocol.specs.Reason as Reason
use Rattle.args.specs.declared.arguments.Arguments.{Arguments}
use Rattle.message.specs.declared.request.Request.{Request}
use Rattle.session.specs.Session.{Session}
use Rattle.session.specs.declared.Stmt.{Stmt}
use Rattle.session.specs.declared.Cursor.{Cursor}
use Rattle.session.specs.Entry.{is_live_stmt, is_live_cursor}
use Rattle.rules.specs.declared.Look.{Look}
use Rattle.rules.specs.Decision.{look_refused}
use Rattle.rules.specs.Report.{to_fetch}
use Rattle.rules.specs.Refusal.{refusal, first_of, request_tests}
use Rattle.rules.specs.Rows.{fetch_count}

-- 7 to 14, of a request
unfoldable pub request_reason : Session → Request → ℕ
request_reason s q = first_of (request_tests s q)

-- the first of two refusals
abbrev pub or_else : ℕ → ℕ → ℕ
or_else reason next = cond (eqb reason Reason.accepted) next reason

-- a refusal, unless something holds
abbrev pub unless : Bool → ℕ → ℕ
unless holds reason = cond holds Reason.accepted reason

-- 4, or the refusal of a frame by itself
abbrev pub closed_or : Bool → ℕ → ℕ
closed_or closed reason = cond closed Reason.closed reason

-- 7, 8 and 9, of a statement that arguments are bound to
unfoldable pub binding_reason : Stmt → Arguments → ℕ
binding_reason t a =
    first_of
    (refusal Reason.no_stmt (not (is_live_stmt t))
    ∷ refusal Reason.not_scalar (not (eqb a.kind 0))
    ∷ refusal Reason.few_arguments (ltb a.count t.placeholders)
    ∷ [])

-- 12 and 14, of a cursor to open: the statement's cursor, and the place that the new one takes
unfoldable pub cursor_reason : ℕ → Cursor → Option ℕ → ℕ
cursor_reason id carried place =
    first_of
    (refusal Reason.other_cursor (is_live_cursor carried && not (eqb carried.id id))
    ∷ refusal Reason.cursors_full (is_none place)
    ∷ [])

-- 10 and 11, of a cursor that is to send rows
unfoldable pub fetch_reason : Cursor → ℕ
fetch_reason c =
    first_of (refusal Reason.no_cursor (not (is_live_cursor c)) ∷ refusal Reason.all_sent (leb c.rows c.sent) ∷ [])

-- 15 and 16, of a report that suits or not, and says that the engine failed or not
abbrev pub consulted : Bool → Bool → ℕ
consulted suits fails =
    first_of (refusal Reason.bad_report (not (suits || fails)) ∷ refusal Reason.engine_failed fails ∷ [])

-- a look, where nothing is refused
abbrev pub look_or : ℕ → Look → Look
look_or reason look = cond (eqb reason Reason.accepted) look (look_refused reason)

-- a look that wants this work, and sends no rows
abbrev pub look_work : ℕ → Look
look_work work = record { reason = Reason.accepted; work = work; first = 0; count = 0; padded = false }

-- a look at a Fetch of this cursor, with the rows to send
abbrev pub look_rows : Cursor → Option ℕ → Look
look_rows c rows =
    record { reason = Reason.accepted; work = to_fetch; first = c.sent; count = fetch_count c rows; padded = false }
