-- The names that more than one proof of this crate needs: its definitions, and those and the laws of the crates below.
-- Assumes nothing.
pub use Rattle.protocol.specs.Client.{prepare, open', fetch}
pub use Rattle.message.specs.Head.{HeadResult, framed, length_bytes, max_length, length_of, head_of}
pub use Rattle.message.specs.Request.{stmt_of, cursor_of}
pub use Rattle.message.specs.Frame.{of_head, used_of}
unfoldable pub use Rattle.message.specs.Frame.{frame_in, frame_of}
unfoldable pub use Rattle.message.specs.Padded.{padded_of}
pub use Rattle.message.specs.declared.request.Frame.{Frame}
pub use Rattle.message.specs.declared.request.Request.{Request}
pub use Rattle.session.specs.Lists.{put, entry_at, how_many}
unfoldable pub use Rattle.session.specs.Lists.{first}
pub use Rattle.session.specs.Session.{Session, is_closed}
pub use Rattle.session.specs.Entry.{no_stmt, no_cursor, new_cursor, is_live_stmt, is_live_cursor, is_stmt, free_stmt, is_cursor}
pub use Rattle.session.specs.Entry.{free_cursor, raise}
pub use Rattle.session.specs.Tables.{stmt_at, cursor_at, stmt_place, cursor_place}
pub use Rattle.session.specs.Sound.{max_number, Sound}
pub use Rattle.session.specs.declared.Cursor.{Cursor}
pub use Rattle.session.proofs.PlaceLaws.{found, Taken, taken}
pub use Rattle.session.proofs.SumLaws.{one, and_true}
pub use Rattle.session.proofs.TableLaws.{cursors_full_lem}
pub use Rattle.session.proofs.PlaceLaws.Taken.{new, own}
unfoldable pub use Rattle.reply.specs.Frames.{among}
unfoldable pub use Rattle.reply.specs.Reply.{reply_bytes}
pub use Rattle.reply.specs.ReplyRules.{min_buffer}
pub use Rattle.reply.specs.declared.Reply.{Reply}
pub use Rattle.reply.proofs.ReplyLaws.{fits_smallest}
pub use Rattle.rules.specs.Kind.{is_a, on_good}
pub use Rattle.rules.specs.Report.{no_work, work_of, suits}
pub use Rattle.rules.specs.Refusal.{Test}
unfoldable pub use Rattle.rules.specs.Refusal.{first_of, request_tests, look_reason, report_tests}
unfoldable pub use Rattle.rules.specs.Refusal.{report_reason, step_reason}
unfoldable pub use Rattle.rules.specs.Rows.{open_count, row_count, sends_columns}
unfoldable pub use Rattle.rules.specs.Ending.{ends_it}
unfoldable pub use Rattle.rules.specs.Decision.{session_after, reply_to, accepted, wire_code, refusal_of}
unfoldable pub use Rattle.rules.specs.Decision.{refused_reply, refused, decision_of, looked, look_of}
unfoldable pub use Rattle.rules.specs.Step.{short, too_short, step_by, step_on, answer_says, step_says, look_at, step_of}
pub use Rattle.rules.specs.Read.{Read, ReadIn}
pub use Rattle.rules.specs.RefusalRules.{NoneHolds}
pub use Rattle.rules.specs.declared.Report.{Report}
