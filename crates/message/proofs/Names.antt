-- The names that more than one proof of this crate needs: its definitions, and those and the laws of the crates below.
-- Assumes nothing.
pub use Rattle.varint.specs.Varint.{varint_at}
unfoldable pub use Rattle.varint.specs.Padded.{padded_at}
pub use Rattle.varint.specs.declared.Number.{Number}
unfoldable pub use Rattle.scalar.specs.Fixed.{little}
pub use Rattle.scalar.specs.declared.argument.Argument.{Argument}
pub use Rattle.wire.specs.Value.{of_varint, as_length}
pub use Rattle.wire.specs.Field.{of_value}
unfoldable pub use Rattle.wire.specs.Field.{field_at}
unfoldable pub use Rattle.wire.specs.Padded.{field_padded}
pub use Rattle.wire.specs.declared.field.Field.{Field}
pub use Rattle.wire.specs.declared.value.Value.{Value}
pub use Rattle.wire.proofs.FieldLaws.{quick_wire}
pub use Rattle.layout.specs.Table.{prepare_stmt, stmt_execute, open_stmt, len}
unfoldable pub use Rattle.layout.specs.Table.{rows_of}
pub use Rattle.layout.specs.Row.{wire_of}
unfoldable pub use Rattle.layout.specs.Row.{row_for}
pub use Rattle.layout.specs.Slots.{no_slots}
pub use Rattle.layout.specs.Fields.{noted, checked, fields_at}
unfoldable pub use Rattle.layout.specs.Fields.{has_required}
pub use Rattle.layout.specs.Part.{embedded, count_of, value_of, low32}
pub use Rattle.layout.specs.Merged.{one_part, end_of, parts_of, merged}
unfoldable pub use Rattle.layout.specs.Merged.{parts_in}
unfoldable pub use Rattle.layout.specs.Padded.{parts_padded}
pub use Rattle.layout.specs.private.Found.{Holds}
pub use Rattle.layout.specs.private.Counted.{Counted}
pub use Rattle.layout.specs.declared.fields.Use.{Use}
pub use Rattle.layout.specs.declared.part.Part.{Part}
pub use Rattle.layout.specs.declared.slots.Slots.{Slots}
pub use Rattle.layout.proofs.FieldsLaws.{Listing, ends, goes_on_lem}
pub use Rattle.layout.proofs.FoundLaws.{held_good}
pub use Rattle.layout.proofs.CountLaws.{good_list}
pub use Rattle.layout.proofs.MergedLaws.{one_part_lem}
pub use Rattle.args.specs.Arguments.{arguments_at, no_arguments, bad_arguments, arguments_in, nth_argument}
unfoldable pub use Rattle.args.specs.Arguments.{together}
unfoldable pub use Rattle.args.specs.Padded.{execute_padded}
pub use Rattle.args.specs.UnreadRules.{type_in}
pub use Rattle.args.specs.declared.arguments.Arguments.{Arguments}
pub use Rattle.args.proofs.PairLaws.{pair_bytes, pair_parts}
pub use Rattle.args.proofs.TextLaws.{told}
pub use Rattle.args.proofs.ScalarLaws.{Held}
pub use Rattle.args.proofs.BoundLaws.{bound_found}
pub use Rattle.args.proofs.UnreadLaws.{take_size}
pub use Rattle.args.proofs.PaddedLaws.{pair_part}
pub use Rattle.args.proofs.InsideLaws.{one_flag}
pub use Rattle.args.proofs.PartedLaws.{held_one}
pub use Rattle.message.specs.Head.{HeadResult, framed, length_bytes, max_length, length_of, head_of}
pub use Rattle.message.specs.Request.{args_of}
pub use Rattle.message.specs.Payload.{payload, if_good, twice, optional_of, truth_of}
unfoldable pub use Rattle.message.specs.Simple.{reset_frame, session_close_frame, deallocate_frame, close_frame}
unfoldable pub use Rattle.message.specs.Simple.{fetch_in, fetch_frame}
unfoldable pub use Rattle.message.specs.Execute.{bad_execute, arguments_within, execute_of, execute_in, execute_from}
unfoldable pub use Rattle.message.specs.Execute.{execute_frame, arguments_good, executes_good, open_from, open_by}
unfoldable pub use Rattle.message.specs.Execute.{open_inside, open_parts, execute_parts, open_frame}
unfoldable pub use Rattle.message.specs.Prepare.{body_in, bodies_good, prepare_from, prepare_by, prepare_inside}
unfoldable pub use Rattle.message.specs.Prepare.{stmt_parts, body_parts, prepare_frame}
unfoldable pub use Rattle.message.specs.Frame.{frame_in, of_head, frame_of, reason_of, used_of, part_of, chosen_part}
unfoldable pub use Rattle.message.specs.Frame.{argument_in}
unfoldable pub use Rattle.message.specs.Padded.{own_padded, executes_padded, open_stmt_padded, kind_padded, head_padded}
unfoldable pub use Rattle.message.specs.Padded.{padded_of}
pub use Rattle.message.specs.WithinRules.{PartsInside}
pub use Rattle.message.specs.UnreadRules.{stmt_in}
pub use Rattle.message.specs.declared.execute.Inner.{Inner}
pub use Rattle.message.specs.declared.first.First.{First}
pub use Rattle.message.specs.declared.prepare.Chosen.{Chosen}
pub use Rattle.message.specs.declared.request.Execute.{Execute}
pub use Rattle.message.specs.declared.request.Frame.{Frame}
pub use Rattle.message.specs.declared.request.Request.{Request}
