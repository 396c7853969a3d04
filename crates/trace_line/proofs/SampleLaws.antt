-- The samples, by computing them. Assumes nothing.
use Rattle.prelude.proofs.Basics.{refl}
use Rattle.varint.specs.Shortest.{shortest}
use Rattle.scalar.specs.Fixed.{little}
use Rattle.wire.specs.Field.{field_at}
use Rattle.layout.specs.Fields.{fields_from, has_required}
use Rattle.layout.specs.Row.{row_for}
use Rattle.layout.specs.Table.{rows_of}
use Rattle.layout.specs.Merged.{parts_from, parts_in, parts_onto}
use Rattle.args.specs.Arguments.{arguments_from, place_from, next_argument, together}
use Rattle.message.specs.Prepare.{prepare_frame, body_in}
use Rattle.message.specs.Execute.{open_frame, execute_in, arguments_within}
use Rattle.message.specs.Simple.{reset_frame, fetch_frame}
use Rattle.message.specs.Frame.{frame_in}
use Rattle.session.specs.Lists.{sum_by, first}
use Rattle.encode.specs.Field.{number_field, bytes_field}
use Rattle.reply.specs.Decimal.{digits}
use Rattle.reply.specs.Text.{text}
use Rattle.reply.specs.Frame.{error_payload}
use Rattle.rules.specs.Refusal.{look_reason, report_reason}
use Rattle.rules.specs.Rows.{first_row, row_count, sends_columns}
use Rattle.rules.specs.Decision.{session_after, reply_to, named, named_kind, wire_code, refused_reply}
use Rattle.trace_line.proofs.Names.{groups, frame_of, reply_bytes, decision_of, step_on, mark_of, line_of, end_text}
use Rattle.trace_line.proofs.Names.{header, lines_from, number_at, prepared_at, rows_at, result_at, report_at, kind_at}
use Rattle.trace_line.proofs.Names.{frame_at, record_at}
use Rattle.trace_line.specs.Samples.{SamplesShown, ExampleShown}

pub samples_shown : SamplesShown
unfolding header lines_from end_text record_at frame_at kind_at report_at number_at groups line_of mark_of digits step_on
    decision_of look_reason report_reason session_after reply_to first_row row_count sends_columns refused_reply frame_of
    frame_in reset_frame little fields_from has_required reply_bytes sum_by
samples_shown = refl

pub example_shown : ExampleShown
unfolding header lines_from end_text record_at frame_at kind_at report_at prepared_at result_at rows_at number_at groups
    line_of mark_of digits step_on decision_of look_reason report_reason session_after reply_to first_row row_count
    sends_columns refused_reply wire_code named named_kind frame_of frame_in prepare_frame fetch_frame open_frame execute_in
    body_in parts_from parts_in parts_onto arguments_within arguments_from place_from next_argument together little field_at
    fields_from has_required row_for rows_of first reply_bytes sum_by text error_payload number_field bytes_field shortest
example_shown = refl
