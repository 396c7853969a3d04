-- The names that more than one proof of this crate needs: its definitions, and those and the laws of the crates below.
-- Assumes nothing.
pub use Rattle.varint.specs.Shortest.{varint_bytes}
pub use Rattle.varint.proofs.TailLaws.{Tail, tail_length, Stands, stands_length, stands_cut, tail_stands, stands_first}
pub use Rattle.varint.proofs.TailLaws.{stands_next}
pub use Rattle.scalar.specs.declared.argument.Argument.{Argument}
unfoldable pub use Rattle.wire.specs.Field.{field_at}
unfoldable pub use Rattle.wire.specs.Padded.{field_padded}
pub use Rattle.wire.specs.Past.{PastField}
pub use Rattle.wire.specs.declared.field.Field.{Field}
pub use Rattle.wire.specs.declared.tag.Tag.{Tag}
pub use Rattle.wire.proofs.PastLaws.{field_past}
unfoldable pub use Rattle.layout.specs.Row.{row_for}
pub use Rattle.layout.specs.Slots.{no_slots}
pub use Rattle.layout.specs.Fields.{use_of, noted, fields_at}
unfoldable pub use Rattle.layout.specs.Fields.{fields_from, has_required}
pub use Rattle.layout.specs.Part.{embedded, low32}
unfoldable pub use Rattle.layout.specs.Padded.{padded_from}
pub use Rattle.layout.specs.declared.fields.Use.{Use}
pub use Rattle.layout.specs.declared.slots.Slots.{Slots}
pub use Rattle.layout.proofs.FieldsLaws.{Listing, goes_on_lem}
pub use Rattle.layout.proofs.KeptLaws.{same_or_not}
pub use Rattle.args.specs.Arguments.{is_args, arguments_at, any_type_of, no_arguments, bad_arguments, with_type, arguments_in}
unfoldable pub use Rattle.args.specs.Arguments.{arguments_from, together}
pub use Rattle.args.specs.Padded.{inside_args}
unfoldable pub use Rattle.args.specs.Padded.{argument_padded, execute_padded}
pub use Rattle.args.specs.Moved.{moved}
pub use Rattle.args.specs.declared.arguments.Arguments.{Arguments}
pub use Rattle.args.proofs.ArgumentsLaws.{type_good}
pub use Rattle.args.proofs.ArgsFieldLaws.{is_args_lem, no_number}
pub use Rattle.args.proofs.MovedArgLaws.{field_inside}
pub use Rattle.message.specs.Head.{max_length, framed, head_of}
pub use Rattle.message.specs.Operation.{field_of}
pub use Rattle.message.specs.Payload.{payload}
unfoldable pub use Rattle.message.specs.Execute.{arguments_within}
unfoldable pub use Rattle.message.specs.Frame.{frame_in, frame_of}
pub use Rattle.message.specs.declared.request.Frame.{Frame}
pub use Rattle.message.specs.declared.request.Request.{Request}
pub use Rattle.message.proofs.MessageLaws.{payload_good, within_there}
pub use Rattle.encode.specs.Field.{prefix_of}
unfoldable pub use Rattle.encode.specs.Field.{number_field, optional_field, bytes_field}
pub use Rattle.encode.specs.Frame.{four_bytes, frame}
pub use Rattle.encode.proofs.PutsLaws.{puts_then, puts_as}
pub use Rattle.encode.proofs.FieldLaws.{number_short, optional_short, optional_told, prefix_short, bytes_sum, puts_counted}
unfoldable pub use Rattle.writer.specs.Judge.{is_good, on_arg, args_from, good_stretch, is_type, good_body, good_prepare}
unfoldable pub use Rattle.writer.specs.Judge.{accepted_as, accepted}
unfoldable pub use Rattle.writer.specs.Payload.{execute_payload, prepare_stmt_payload, prepare_payload}
unfoldable pub use Rattle.writer.specs.Payload.{open_stmt_payload, open_payload, fetch_payload, payload_as, payload_of}
unfoldable pub use Rattle.writer.specs.Write.{frame_bytes, draft_reason, left_of}
pub use Rattle.writer.specs.RoundTrip.{Sized, has_args, given, TellAlike}
pub use Rattle.writer.specs.Padded.{stretch_padded}
pub use Rattle.writer.specs.declared.Draft.{Draft}
