-- The names that more than one proof of this crate needs: its definitions, and those and the laws of the crates below.
-- Assumes nothing.
unfoldable pub use Rattle.message.specs.Frame.{frame_of}
unfoldable pub use Rattle.message.specs.Padded.{padded_of}
pub use Rattle.message.specs.declared.request.Execute.{Execute}
pub use Rattle.message.specs.declared.request.Fetch.{Fetch}
pub use Rattle.message.specs.declared.request.Frame.{Frame}
pub use Rattle.message.specs.declared.request.Open.{Open}
pub use Rattle.message.specs.declared.request.Prepare.{Prepare}
pub use Rattle.message.specs.declared.request.Request.{Request}
pub use Rattle.session.specs.Lists.{entry_at}
pub use Rattle.session.specs.Session.{Session, is_closed}
pub use Rattle.session.specs.Entry.{no_stmt, no_cursor, is_live_stmt, is_live_cursor, is_cursor, on_stmt}
pub use Rattle.session.specs.Tables.{stmt_at, cursor_at, live_cursor, stmt_place, cursor_place}
pub use Rattle.session.specs.Words.{session_of}
pub use Rattle.session.specs.Sound.{max_number, max_placeholders}
pub use Rattle.session.specs.declared.Cursor.{Cursor}
pub use Rattle.session.specs.declared.Stmt.{Stmt}
unfoldable pub use Rattle.reply.specs.Reply.{reply_bytes}
pub use Rattle.reply.specs.ReplyRules.{min_buffer}
pub use Rattle.reply.specs.declared.Reply.{Reply}
pub use Rattle.rules.specs.Report.{is_prepared, is_result, fails}
pub use Rattle.rules.specs.Refusal.{first_of, report_tests, step_reason}
unfoldable pub use Rattle.rules.specs.Refusal.{look_reason, report_reason}
pub use Rattle.rules.specs.Rows.{fetch_count, open_count}
unfoldable pub use Rattle.rules.specs.Rows.{first_row}
pub use Rattle.rules.specs.Decision.{refusal_of, refused, looked, look_refused}
unfoldable pub use Rattle.rules.specs.Decision.{session_after, refused_reply, decision_of, look_of}
pub use Rattle.rules.specs.Step.{step_by, step_of}
unfoldable pub use Rattle.rules.specs.Step.{step_on}
pub use Rattle.rules.specs.Inspect.{touches}
pub use Rattle.rules.specs.declared.Answer.{Answer}
pub use Rattle.rules.specs.declared.Look.{Look}
pub use Rattle.rules.specs.declared.Report.{Report}
pub use Rattle.rules.specs.declared.Touches.{Touches}
pub use Rattle.rules.proofs.StepLaws.{error_fits}
pub use Rattle.keeper.specs.declared.answer.Names.{Names}
pub use Rattle.keeper.specs.declared.answer.Sends.{Sends}
