-- Closed comes first, then each request by its own entries. Assumes nothing.
use Rattle.prelude.proofs.Basics.{ℕ, false, cond, ◌≡◌, sym, ◌∙◌, eqb, inl, inr}
use Rattle.protocol.specs.Reason as Reason
use Rattle.message.specs.declared.request.Frame.TheVariants.{Good}
use Rattle.keeper.proofs.Names.{Request, Session, is_closed, session_of, looked, look_refused, look_of, Look}
use Rattle.keeper.specs.private.Reasons.{request_reason}
use Rattle.keeper.proofs.RequestLaws.{reset_looks, session_close_looks, prepare_looks, deallocate_looks}
use Rattle.keeper.proofs.RequestLaws.{close_looks, cursor_found, fetch_looks}
use Rattle.keeper.proofs.LookLaws.{closed_look, found_look, as_look, reset_wants, session_close_wants}
use Rattle.keeper.proofs.LookLaws.{prepare_wants, execute_wants, deallocate_wants, open_wants, close_wants, fetch_wants}
use Rattle.keeper.proofs.look.look_at.Goals as goal

told : (s : Session) (q : Request) → is_closed s ≡ false → {p : Request} {n : ℕ} {work l : Look} → q ≡ p →
    n ≡ request_reason s p → work ≡ looked s p → l ≡ cond (eqb n Reason.accepted) work (look_refused n) →
    l ≡ look_of s (Good 0 q)
told s q opened {p} {n} {work} e f g h = as_look s q e (h ∙ found_look s p opened f work g)

pub returns-then-is_closed : goal.returns-then-is_closed
returns-then-is_closed c = c.refused.ensures ∙ closed_look
    (session_of c.args.words.now) c.args.request (sym c.is_closed.ensures ∙ c.if-is_closed.true)

pub returns-in-Reset : goal.returns-in-Reset
returns-in-Reset c =
    let s = session_of c.args.words.now in
    let opened : is_closed s ≡ false = sym c.is_closed.ensures ∙ c.if-is_closed.false in
    elim c.in-Reset.is [
      | inl e ↦ told s c.args.request opened e (reset_looks s) (reset_wants s) c.found.ensures
      | inr e ↦ told s c.args.request opened e (session_close_looks s) (session_close_wants s) c.found.ensures
    ]

pub returns-in-Prepare : goal.returns-in-Prepare
returns-in-Prepare c = let s = session_of c.args.words.now in
    told (session_of c.args.words.now) c.args.request (sym c.is_closed.ensures ∙ c.if-is_closed.false) c.in-Prepare.is
    (prepare_looks s _ c.stmt_place-place.ensures c.room.ensures) (prepare_wants s _)
    c.found-in-Prepare.ensures

pub returns-in-Execute : goal.returns-in-Execute
returns-in-Execute c = told (session_of c.args.words.now) c.args.request (sym c.is_closed.ensures
    ∙ c.if-is_closed.false) c.in-Execute.is
    c.execute.ensures (execute_wants _ _) c.found-in-Execute.ensures

pub returns-in-Deallocate : goal.returns-in-Deallocate
returns-in-Deallocate c = let s = session_of c.args.words.now in
    told (session_of c.args.words.now) c.args.request (sym c.is_closed.ensures
    ∙ c.if-is_closed.false) c.in-Deallocate.is
    (deallocate_looks s _ c.find_stmt-place.ensures c.stmt_at-entry.ensures
    c.live.ensures) (deallocate_wants s _) c.found-in-Deallocate.ensures

pub «open-requires» : goal.open-requires
«open-requires» c = c.cursor_place-place.ensures

pub returns-in-Open : goal.returns-in-Open
returns-in-Open c = let s = session_of c.args.words.now in
    told (session_of c.args.words.now) c.args.request (sym c.is_closed.ensures ∙ c.if-is_closed.false) c.in-Open.is
    c.«open».ensures (open_wants s _) c.found-in-Open.ensures

pub returns-in-Close : goal.returns-in-Close
returns-in-Close c = let s = session_of c.args.words.now in
    told (session_of c.args.words.now) c.args.request (sym c.is_closed.ensures ∙ c.if-is_closed.false) c.in-Close.is
    (close_looks s _ c.find_cursor-place.ensures c.cursor_at-entry.ensures
    c.live-in-Close.ensures) (close_wants s _) c.found-in-Close.ensures

pub returns-in-Fetch : goal.returns-in-Fetch
returns-in-Fetch c = let s = session_of c.args.words.now in
    told (session_of c.args.words.now) c.args.request (sym c.is_closed.ensures ∙ c.if-is_closed.false) c.in-Fetch.is
    (fetch_looks s _ (cursor_found s _ c.find_cursor-place-in-Fetch.ensures c.cursor_at-cursor.ensures)
    c.fetch.ensures) (fetch_wants s _ (cursor_found s _ c.find_cursor-place-in-Fetch.ensures
    c.cursor_at-cursor.ensures)) c.found_rows.ensures
