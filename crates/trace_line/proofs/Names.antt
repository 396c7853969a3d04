-- The names that more than one proof of this crate needs: its definitions, and those and the laws of the crates below.
-- Assumes nothing.
pub use Rattle.std.specs.Prelude.{Option, Result, Ok, Err}
pub use Rattle.varint.specs.Varint.{onto, low64, varint_at}
unfoldable pub use Rattle.varint.specs.Varint.{groups}
pub use Rattle.varint.specs.declared.Number.{Number}
unfoldable pub use Rattle.message.specs.Frame.{frame_of}
pub use Rattle.session.specs.Session.{Session}
pub use Rattle.session.specs.Words.{session_of}
pub use Rattle.encode.specs.Put.{put_at, written}
pub use Rattle.encode.proofs.PutLaws.{put_fits, length_written}
pub use Rattle.encode.proofs.PutsLaws.{puts_then}
unfoldable pub use Rattle.reply.specs.Reply.{reply_bytes}
pub use Rattle.rules.specs.Report.{prepared, result, failed}
unfoldable pub use Rattle.rules.specs.Decision.{decision_of}
pub use Rattle.rules.specs.Step.{Step, step_of}
unfoldable pub use Rattle.rules.specs.Step.{step_on}
pub use Rattle.rules.specs.declared.Report.{Report}
unfoldable pub use Rattle.trace_line.specs.Line.{letter_of, mark_of, line_of}
unfoldable pub use Rattle.trace_line.specs.End.{end_text}
pub use Rattle.trace_line.specs.Output.{Lines}
unfoldable pub use Rattle.trace_line.specs.Output.{header, no_line, also, number_behind, Behind, on_record}
unfoldable pub use Rattle.trace_line.specs.Output.{lines_from}
unfoldable pub use Rattle.trace_line.specs.Printer.{first_of, stands_first, max_line, lines_within, print_of}
pub use Rattle.trace_line.specs.Record.{NumberResult, RecordResult}
unfoldable pub use Rattle.trace_line.specs.Record.{number_of, number_at, and_then, max_frame, max_kind, bare_report}
unfoldable pub use Rattle.trace_line.specs.Record.{prepared_report, result_report, failed_report, whole_record}
unfoldable pub use Rattle.trace_line.specs.Record.{prepared_at}
unfoldable pub use Rattle.trace_line.specs.Record.{failed_at, rows_at, result_at, report_at, kind_at, frame_at}
unfoldable pub use Rattle.trace_line.specs.Record.{record_at}
pub use Rattle.trace_line.specs.RecordRules.{Within, shifted}
unfoldable pub use Rattle.trace_line.specs.Trace.{line_after, reply_buffer, trace_of, trace_at}
pub use Rattle.trace_line.specs.declared.Traced.{Traced}
pub use Rattle.trace_line.specs.declared.line.Line.{Line}
pub use Rattle.trace_line.specs.declared.printer.Printer.{Printer}
pub use Rattle.trace_line.specs.declared.printer.Walk.{Walk}
pub use Rattle.trace_line.specs.declared.record.Record.{Record}
pub use Rattle.trace_line.specs.declared.record.RecordError.{RecordError}
pub use Rattle.trace_line.specs.declared.record.RecordError.TheVariants.{Short, Bad}
