-- Every step keeps a session sound. Assumes nothing.
use Rattle.prelude.proofs.Basics.{ℕ, ◌≤◌, arith, Bool, true, false, not, ◌&&◌, ◌||◌, true≢false, ◌≡◌, refl, sym, subst}
use Rattle.prelude.proofs.Basics.{eqb, leb, eqb-true, leb-true, not-false}
use Rattle.message.specs.declared.request.Request.TheVariants.{Reset, SessionClose, Prepare, Execute, Deallocate, Open}
use Rattle.message.specs.declared.request.Request.TheVariants.{Close, Fetch}
use Rattle.session.specs.Tables.{live_stmt, carried}
use Rattle.session.specs.Sound.{max_placeholders, Openable}
use Rattle.session.proofs.TableLaws.{prepared_sound, ended_on_sound, freed_sound, opened_sound, fetched_sound}
use Rattle.session.proofs.TableLaws.{ended_sound, reset_sound, closed_now_sound}
use Rattle.rules.proofs.Names.{frame_of, Request, Session, is_live_stmt, is_live_cursor, max_number, Sound, and_true}
use Rattle.rules.proofs.Names.{suits, open_count, row_count, session_after, Read, ReadIn, Report}
use Rattle.rules.specs.Report.{prepared, result, max_columns, is_prepared, is_result}
use Rattle.rules.specs.StepRules.{KeepsSound}
use Rattle.rules.proofs.ReadLaws.{frames_are_read}
use Rattle.rules.proofs.RefusalLaws.{Looked}
use Rattle.rules.proofs.StepLaws.{step_has}

-- ---- the numbers of a report that suits

pub placeholders_fit : (r : Report) → is_prepared r ≡ true → r.placeholders ≤ max_placeholders
placeholders_fit r e =
    leb-true r.placeholders max_placeholders (and_true (eqb r.kind prepared)
    (leb r.placeholders max_placeholders) e).1

pub rows_fit : (r : Report) → is_result r ≡ true → r.rows ≤ max_number
rows_fit r e =
    let some = not (eqb r.columns 0) || eqb r.rows 0 in
    let kind = eqb r.kind result && leb r.columns max_columns in
    leb-true r.rows max_number (and_true kind (leb r.rows max_number)
    (and_true (kind && leb r.rows max_number) some e).0).1

-- ---- the session after an accepted request

-- a cursor of this id may be opened, where the statement is live and carries no other
openable : (s : Session) (id stmt : ℕ) → not (is_live_stmt (live_stmt s stmt)) ≡ false →
    (is_live_cursor (carried s stmt) && not (eqb (carried s stmt).id id)) ≡ false → Openable s id stmt
openable s id stmt h g =
    record {
      live = not-false (is_live_stmt (live_stmt s stmt)) h;
      sole = λ e. own (is_live_cursor (carried s stmt)) (eqb (carried s stmt).id id) refl e g;
    }
  where
    own : (a b : Bool) → eqb (carried s stmt).id id ≡ b → a ≡ true → (a && not b) ≡ false → (carried s stmt).id ≡ id
    own a true f e z = eqb-true (carried s stmt).id id f
    own true false f e z = absurd (true≢false z)
    own false false f e z = absurd (true≢false (sym e))

pub after_sound : (s : Session) (q : Request) (r : Report) → Sound s → Read q → Looked s q → suits q r ≡ true →
    Sound (session_after s q r)
unfolding session_after row_count
after_sound s Reset r sound read l e = reset_sound sound
after_sound s SessionClose r sound read l e = closed_now_sound sound
after_sound s (Prepare p) r sound read l e =
    prepared_sound sound p.stmt r.placeholders l.unclosed (placeholders_fit r e) read.stmt_small
after_sound s (Execute x) r sound read l e = ended_on_sound sound x.stmt
after_sound s (Deallocate stmt) r sound read l e = freed_sound sound stmt
after_sound s (Open o) r sound read l e =
    opened_sound sound o.cursor o.execute.stmt r.rows (open_count o.rows r.rows)
    (openable s o.cursor o.execute.stmt l.stmt_live l.sole) (omega arith)
    (record { id_small = read.cursor_small; stmt_small = read.stmt_small; rows_small = rows_fit r e })
after_sound s (Close cursor) r sound read l e = ended_sound sound cursor
after_sound s (Fetch f) r sound read l e = fetched_sound sound f.cursor _

pub keeps_sound : KeepsSound
keeps_sound s frame r buffer sound =
    let x = frame_of frame in
    step_has (λ after. Sound after.session) s x r buffer (λ _. sound)
    (λ used q _ t. after_sound s q r sound (subst ReadIn t.good (frames_are_read frame)) t.look t.report)
    (λ _ _. sound)
