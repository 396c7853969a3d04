-- Each request by its own entries. Assumes nothing.
use Rattle.prelude.proofs.Basics.{◌∙◌, inl, inr}
use Rattle.keeper.proofs.Names.{Request, session_of}
use Rattle.keeper.proofs.RequestLaws.{prepare_looks, deallocate_looks, close_looks}
use Rattle.keeper.proofs.LookLaws.{closed_or_look, close_as_reset, prepare_wants, execute_wants}
use Rattle.keeper.proofs.LookLaws.{deallocate_wants, close_wants}
use Rattle.keeper.proofs.InspectLaws.{as_request, session_close_touches, prepare_touches, execute_touches}
use Rattle.keeper.proofs.InspectLaws.{deallocate_touches, close_touches}
use Rattle.keeper.proofs.inspect.inspect_at.Goals as goal

pub returns-in-Reset : goal.returns-in-Reset
returns-in-Reset c =
    let s = session_of c.args.words.now in
    elim c.in-Reset.is [
      | inl e ↦
          let whole = as_request s c.args.request e (c.all_end.ensures.look, c.all_end.ensures.touches) in
          record { look = whole.0; touches = whole.1 }
      | inr e ↦
          let whole = as_request s c.args.request e (
            c.all_end.ensures.look ∙ close_as_reset s,
            c.all_end.ensures.touches ∙ session_close_touches s,
          ) in
          record { look = whole.0; touches = whole.1 }
    ]

pub returns-in-Prepare : goal.returns-in-Prepare
returns-in-Prepare c = let whole =
    let s = session_of c.args.words.now in
    as_request s c.args.request c.in-Prepare.is (
      c.told.ensures.look ∙ closed_or_look s (Request.Prepare _) _
          (prepare_looks s _ c.stmt_place-place.ensures c.room-outcome.ensures) _
          (prepare_wants s _),
      c.told.ensures.touches ∙ c.on_stmt.ensures
          ∙ prepare_touches s _ c.stmt_place-place.ensures,
    ) in record { look = whole.0; touches = whole.1 }

pub returns-in-Execute : goal.returns-in-Execute
returns-in-Execute c = let whole =
    let s = session_of c.args.words.now in
    as_request s c.args.request c.in-Execute.is (
      c.told-in-Execute.ensures.look ∙ closed_or_look s (Request.Execute _) _ c.execute-outcome.ensures _
          (execute_wants s _),
      c.told-in-Execute.ensures.touches ∙ c.on_stmt-in-Execute.ensures
          ∙ execute_touches s _ c.find_stmt-place.ensures,
    ) in record { look = whole.0; touches = whole.1 }

pub returns-in-Deallocate : goal.returns-in-Deallocate
returns-in-Deallocate c = let whole =
    let s = session_of c.args.words.now in
    as_request s c.args.request c.in-Deallocate.is (
      c.told-in-Deallocate.ensures.look ∙ closed_or_look s (Request.Deallocate _) _
          (deallocate_looks s _ c.find_stmt-place-in-Deallocate.ensures
          c.stmt_at-entry.ensures c.live-outcome.ensures) _
          (deallocate_wants s _),
      c.told-in-Deallocate.ensures.touches ∙ c.on_stmt-in-Deallocate.ensures ∙ deallocate_touches s _
          c.find_stmt-place-in-Deallocate.ensures,
    ) in record { look = whole.0; touches = whole.1 }

pub returns-in-Open : goal.returns-in-Open
returns-in-Open c = let whole =
    let s = session_of c.args.words.now in
    as_request s c.args.request c.in-Open.is (
      c.inspect_open.ensures.look,
      c.inspect_open.ensures.touches,
    ) in record { look = whole.0; touches = whole.1 }

pub returns-in-Close : goal.returns-in-Close
returns-in-Close c = let whole =
    let s = session_of c.args.words.now in
    as_request s c.args.request c.in-Close.is (
      c.told-in-Close.ensures.look ∙ closed_or_look s (Request.Close _) _
          (close_looks s _ c.find_cursor-place.ensures
          c.cursor_at-entry.ensures c.live-outcome-in-Close.ensures) _
          (close_wants s _),
      c.told-in-Close.ensures.touches ∙ c.touches.ensures ∙ close_touches s _
          c.find_cursor-place.ensures c.passing-ends.ensures,
    ) in record { look = whole.0; touches = whole.1 }

pub returns-in-Fetch : goal.returns-in-Fetch
returns-in-Fetch c = let whole =
    let s = session_of c.args.words.now in
    as_request s c.args.request c.in-Fetch.is (
      c.inspect_fetch.ensures.look,
      c.inspect_fetch.ensures.touches,
    ) in record { look = whole.0; touches = whole.1 }
