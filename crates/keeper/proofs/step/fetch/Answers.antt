-- The cursor looked up decides, and the report; its rows sent are the one word that changes. Assumes nothing.
use Rattle.prelude.proofs.Basics.{◌+◌, ◌≤◌, arith, refl}
use Rattle.keeper.proofs.Names.{Request, session_of}
use Rattle.keeper.proofs.ResultLaws.{handed_on}
use Rattle.keeper.proofs.StepLaws.{look_refuses, report_refuses, decides, decides_err}
use Rattle.keeper.proofs.RequestLaws.{cursor_found, fetch_looks, fetch_sends, fetch_after, fetch_within}
use Rattle.keeper.proofs.step.fetch.Goals as goal

pub returns-in_err-fetch : goal.returns-in_err-fetch
returns-in_err-fetch c =
    let s = session_of c.args.words.now in
    let found = cursor_found s c.args.f.cursor c.find_cursor-place.ensures c.cursor_at-cursor.ensures in
    decides_err (handed_on _ _ c.from_residual.ensures)
    (look_refuses s (Request.Fetch c.args.f) c.args.report c.requires
    (fetch_looks s c.args.f found c.in_err-fetch.ensures))

pub returns-in_err-done : goal.returns-in_err-done
returns-in_err-done c =
    let s = session_of c.args.words.now in
    let found = cursor_found s c.args.f.cursor c.find_cursor-place.ensures c.cursor_at-cursor.ensures in
    decides_err (handed_on _ _ c.from_residual-in_err-done.ensures)
    (report_refuses s (Request.Fetch c.args.f) c.args.report c.requires
    (fetch_looks s c.args.f found c.in_ok-fetch.ensures) c.in_err-done.ensures)

pub overflow_add-cursor : goal.overflow_add-cursor
overflow_add-cursor c =
    let within : c.cursor_at-cursor.result.sent + c.fetch_count-count.result ≤ c.cursor_at-cursor.result.rows =
    fetch_within c.cursor_at-cursor.result c.args.f.rows c.in_ok-fetch.ensures c.fetch_count-count.ensures in
    record { fits = omega (arith, within) }

pub fetched-requires : goal.fetched-requires
fetched-requires c = fetch_within c.cursor_at-cursor.result c.args.f.rows c.in_ok-fetch.ensures
    c.fetch_count-count.ensures

pub returns : goal.returns
returns c =
    let s = session_of c.args.words.now in
    let found = cursor_found s c.args.f.cursor c.find_cursor-place.ensures c.cursor_at-cursor.ensures in
    decides s (Request.Fetch c.args.f) c.args.report c.requires
    (fetch_looks s c.args.f found c.in_ok-fetch.ensures) c.in_ok-done.ensures
    (fetch_sends s c.args.f c.args.report found c.fetch_count-count.ensures c.fetched.ensures)
    (fetch_after s c.args.f c.args.report c.find_cursor-place.ensures found c.fetch_count-count.ensures
    c.put_sent.ensures refl)
