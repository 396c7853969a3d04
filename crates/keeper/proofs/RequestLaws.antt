-- Each request: the refusal by the entries that were looked up, what it sends, and the session after it. Assumes
-- nothing.
use Rattle.prelude.proofs.Basics.{ℕ, ◌+◌, ◌-◌, ◌≤◌, ◌<◌, min, arith, Bool, true, false, not, cond, ◌≡◌, refl, sym, ap}
use Rattle.prelude.proofs.Basics.{◌∙◌, List, leb, leb-false, Option, is_none}
use Rattle.protocol.specs.Reason as Reason
use Rattle.session.specs.Entry.{with_sent}
use Rattle.session.specs.Tables.{stored_cursor, ended_by, prepared_at, freed_at, opened_at, reset, closed_now}
use Rattle.rules.specs.Rows.{row_count, sends_columns}
use Rattle.rules.specs.Decision.{reply_to}
use Rattle.keeper.proofs.Names.{Execute, Fetch, Open, Prepare, Request, entry_at, Session, no_stmt}
use Rattle.keeper.proofs.Names.{no_cursor, is_live_stmt, is_live_cursor, is_cursor, on_stmt, stmt_at, cursor_at}
use Rattle.keeper.proofs.Names.{live_cursor, stmt_place, cursor_place}
use Rattle.keeper.proofs.Names.{Cursor, Stmt, Reply}
use Rattle.keeper.proofs.Names.{fetch_count, open_count, first_row, session_after, Report, Sends}
use Rattle.keeper.specs.private.Reasons.{request_reason, unless, fetch_reason}
use Rattle.keeper.specs.private.Does.{sends_of, sends_all, sends_first, sends_next, result_set}
use Rattle.keeper.specs.declared.report.ResultSet.{ResultSet}

-- ---- entries

unless_not : (b : Bool) (n : ℕ) → unless b n ≡ cond (not b) n 0
unless_not true n = refl
unless_not false n = refl

unless_full : (b : Bool) (n : ℕ) → unless (not b) n ≡ cond b n 0
unless_full true n = refl
unless_full false n = refl

-- the entry found is that of the place looked for
entry_found : {A : Type 0} (xs : List A) (none : A) {p place : Option ℕ} {x : A} → place ≡ p → x ≡ entry_at xs place none →
    x ≡ entry_at xs p none
entry_found xs none e f = f ∙ ap (λ q. entry_at xs q none) e

pub cursor_found : (s : Session) (id : ℕ) {place : Option ℕ} {c : Cursor} → place ≡ cursor_at s id →
    c ≡ entry_at s.cursors place no_cursor → c ≡ live_cursor s id
cursor_found s id = entry_found s.cursors no_cursor

-- an entry that is not live refuses
dead_looks : {A : Type 0} (live : A → Bool) (reason : ℕ) {x y : A} {n : ℕ} → x ≡ y → n ≡ unless (live x) reason →
    n ≡ cond (not (live y)) reason 0
dead_looks live reason {y = y} e f = f ∙ ap (λ z. unless (live z) reason) e ∙ unless_not (live y) reason

-- ---- what the look refuses

pub prepare_looks : (s : Session) (p : Prepare) {place : Option ℕ} {n : ℕ} → place ≡ stmt_place s p.stmt →
    n ≡ unless (not (is_none place)) Reason.stmts_full → n ≡ request_reason s (Request.Prepare p)
unfolding request_reason
prepare_looks s p e f =
    f ∙ ap (λ x. unless (not (is_none x)) Reason.stmts_full) e
    ∙ unless_full (is_none (stmt_place s p.stmt)) Reason.stmts_full

pub deallocate_looks : (s : Session) (id : ℕ) {place : Option ℕ} {t : Stmt} {n : ℕ} → place ≡ stmt_at s id →
    t ≡ entry_at s.stmts place no_stmt → n ≡ unless (is_live_stmt t) Reason.no_stmt →
    n ≡ request_reason s (Request.Deallocate id)
unfolding request_reason
deallocate_looks s id e f = dead_looks is_live_stmt Reason.no_stmt (entry_found s.stmts no_stmt e f)

pub close_looks : (s : Session) (id : ℕ) {place : Option ℕ} {c : Cursor} {n : ℕ} → place ≡ cursor_at s id →
    c ≡ entry_at s.cursors place no_cursor → n ≡ unless (is_live_cursor c) Reason.no_cursor →
    n ≡ request_reason s (Request.Close id)
unfolding request_reason
close_looks s id e f = dead_looks is_live_cursor Reason.no_cursor (cursor_found s id e f)

pub fetch_looks : (s : Session) (f : Fetch) {c : Cursor} {n : ℕ} → c ≡ live_cursor s f.cursor → n ≡ fetch_reason c →
    n ≡ request_reason s (Request.Fetch f)
unfolding request_reason fetch_reason
fetch_looks s f e g = g ∙ ap fetch_reason e

pub reset_looks : (s : Session) → 0 ≡ request_reason s Request.Reset
unfolding request_reason
reset_looks s = refl

pub session_close_looks : (s : Session) → 0 ≡ request_reason s Request.SessionClose
unfolding request_reason
session_close_looks s = refl

-- ---- what is sent

-- Ok, and no rows
abbrev pub just_ok : Sends
just_ok = record { columns = false; first = 0; count = 0; reply = Reply.Ok }

pub prepare_sends : (s : Session) (p : Prepare) (r : Report) → just_ok ≡ sends_of s (Request.Prepare p) r
unfolding first_row row_count sends_columns reply_to
prepare_sends s p r = refl

pub deallocate_sends : (s : Session) (id : ℕ) (r : Report) → just_ok ≡ sends_of s (Request.Deallocate id) r
unfolding first_row row_count sends_columns reply_to
deallocate_sends s id r = refl

pub close_sends : (s : Session) (id : ℕ) (r : Report) → just_ok ≡ sends_of s (Request.Close id) r
unfolding first_row row_count sends_columns reply_to
close_sends s id r = refl

pub reset_sends : (s : Session) (r : Report) → just_ok ≡ sends_of s Request.Reset r
unfolding first_row row_count sends_columns reply_to
reset_sends s r = refl

pub session_close_sends : (s : Session) (r : Report) → just_ok ≡ sends_of s Request.SessionClose r
unfolding first_row row_count sends_columns reply_to
session_close_sends s r = refl

pub execute_sends : (s : Session) (x : Execute) (r : Report) {set : ResultSet} {sends : Sends} →
    set ≡ result_set r → sends ≡ sends_all set → sends ≡ sends_of s (Request.Execute x) r
unfolding first_row row_count sends_columns reply_to
execute_sends s x r e f = f ∙ ap sends_all e

pub open_sends : (s : Session) (o : Open) (r : Report) {set : ResultSet} {count : ℕ} {sends : Sends} →
    set ≡ result_set r → count ≡ open_count o.rows set.rows →
    sends ≡ sends_first set count → sends ≡ sends_of s (Request.Open o) r
unfolding first_row row_count sends_columns reply_to
open_sends s o r {set} e g f =
    f ∙ ap (sends_first set) g ∙ ap (λ (x : ResultSet). sends_first x (open_count o.rows x.rows)) e

pub fetch_sends : (s : Session) (f : Fetch) (r : Report) {c : Cursor} {count : ℕ} {sends : Sends} →
    c ≡ live_cursor s f.cursor →
    count ≡ fetch_count c f.rows → sends ≡ sends_next c count → sends ≡ sends_of s (Request.Fetch f) r
unfolding first_row row_count sends_columns reply_to
fetch_sends s f r {c} e g h = h ∙ ap (sends_next c) g ∙ ap (λ y. sends_next y (fetch_count y f.rows)) e

-- ---- the session after it

pub prepare_after : (s : Session) (p : Prepare) (r : Report) {place : Option ℕ} {placeholders : ℕ} {s' : Session} →
    place ≡ stmt_place s p.stmt → placeholders ≡ r.placeholders →
    s' ≡ prepared_at s place p.stmt placeholders → s' ≡ session_after s (Request.Prepare p) r
unfolding session_after
prepare_after s p r {place} e g f =
    f ∙ ap (prepared_at s place p.stmt) g ∙ ap (λ x. prepared_at s x p.stmt r.placeholders) e

pub execute_after : (s : Session) (x : Execute) (r : Report) {s' : Session} → s' ≡ ended_by (on_stmt x.stmt) s →
    s' ≡ session_after s (Request.Execute x) r
unfolding session_after
execute_after s x r e = e

pub deallocate_after : (s : Session) (id : ℕ) (r : Report) {place : Option ℕ} {s' : Session} → place ≡ stmt_at s id →
    s' ≡ freed_at s place id →
    s' ≡ session_after s (Request.Deallocate id) r
unfolding session_after
deallocate_after s id r e f = f ∙ ap (λ x. freed_at s x id) e

pub open_after : (s : Session) (o : Open) (r : Report) {place : Option ℕ} {set : ResultSet} {count : ℕ} {s' : Session} →
    place ≡ cursor_place s o.cursor → set ≡ result_set r →
    count ≡ open_count o.rows set.rows → s' ≡ opened_at s place o.cursor o.execute.stmt set.rows count →
    s' ≡ session_after s (Request.Open o) r
unfolding session_after row_count
open_after s o r {place} {set} e h g f =
    f ∙ ap (opened_at s place o.cursor o.execute.stmt set.rows) g
    ∙ ap (λ (x : ResultSet). opened_at s place o.cursor o.execute.stmt x.rows (open_count o.rows x.rows)) h
    ∙ ap (λ x. opened_at s x o.cursor o.execute.stmt r.rows (open_count o.rows r.rows)) e

pub close_after : (s : Session) (id : ℕ) (r : Report) {s' : Session} → s' ≡ ended_by (is_cursor id) s →
    s' ≡ session_after s (Request.Close id) r
unfolding session_after
close_after s id r e = e

pub reset_after : (s : Session) (r : Report) {s' : Session} → s' ≡ reset s → s' ≡ session_after s Request.Reset r
unfolding session_after
reset_after s r e = e

pub session_close_after : (s : Session) (r : Report) {s' : Session} → s' ≡ closed_now s →
    s' ≡ session_after s Request.SessionClose r
unfolding session_after
session_close_after s r e = e

-- ---- what holds where nothing is refused

-- a cursor that is to send rows has some left
left_some : (c : Cursor) → fetch_reason c ≡ 0 → c.sent < c.rows
unfolding fetch_reason
left_some c e = go (not (is_live_cursor c)) (leb c.rows c.sent) refl e
  where
    go : (a b : Bool) → leb c.rows c.sent ≡ b →
        ◌≡◌ {A = ℕ} (cond a Reason.no_cursor (cond b Reason.all_sent 0)) 0 → c.sent < c.rows
    go true b f g = absurd (omega arith)
    go false true f g = absurd (omega arith)
    go false false f g = leb-false c.rows c.sent f

-- so no more rows are fetched than there are
pub fetch_within : (c : Cursor) (rows : Option ℕ) {count : ℕ} → Reason.accepted ≡ fetch_reason c →
    count ≡ fetch_count c rows → c.sent + count ≤ c.rows
fetch_within c rows e g =
    let h = left_some c (sym e) in
    omega (arith, g, h)

pub open_within : (r : Report) (rows : Option ℕ) {count : ℕ} → count ≡ open_count rows r.rows → count ≤ r.rows
open_within r rows e = omega (arith, e)

-- ---- the session after a Fetch

pub fetch_after : (s : Session) (f : Fetch) (r : Report) {place : Option ℕ} {c : Cursor} {count sent : ℕ} {s' : Session}
    → place ≡ cursor_at s f.cursor →
    c ≡ live_cursor s f.cursor → count ≡ fetch_count c f.rows →
    s' ≡ stored_cursor s place (with_sent (entry_at s.cursors place no_cursor) sent) → sent ≡ c.sent + count →
    s' ≡ session_after s (Request.Fetch f) r
unfolding session_after row_count
fetch_after s f r {place} {c} {count} {sent} e g k h l =
    h ∙ ap (λ x. stored_cursor s x (with_sent (entry_at s.cursors x no_cursor) sent)) e
    ∙ ap (λ (n : ℕ). stored_cursor s (cursor_at s f.cursor) (with_sent (live_cursor s f.cursor) n)) more
  where
    it : Cursor
    it = live_cursor s f.cursor

    more : sent ≡ it.sent + min (fetch_count it f.rows) (it.rows - it.sent)
    more =
        let a : c.sent ≡ it.sent = ap (λ y. y.sent) g in
        let b : count ≡ fetch_count it f.rows = k ∙ ap (λ y. fetch_count y f.rows) g in
        omega (arith, a, b, l)
