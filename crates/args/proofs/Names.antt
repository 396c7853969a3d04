-- The names that more than one proof of this crate needs: its definitions, and those and the laws of the crates below.
-- Assumes nothing.
pub use Rattle.varint.proofs.TailLaws.{Stands}
pub use Rattle.scalar.specs.Argument.{signed_of, double_of, float_of, reason_of}
pub use Rattle.scalar.specs.declared.argument.Argument.{Argument}
pub use Rattle.wire.specs.Value.{as_length, value_at}
pub use Rattle.wire.specs.Field.{of_value}
unfoldable pub use Rattle.wire.specs.Field.{field_at}
pub use Rattle.wire.specs.Padded.{value_padded}
unfoldable pub use Rattle.wire.specs.Padded.{field_padded}
pub use Rattle.wire.specs.Past.{PastField}
pub use Rattle.wire.specs.declared.field.Field.{Field}
pub use Rattle.wire.specs.declared.value.Value.{Value}
pub use Rattle.wire.proofs.PastLaws.{field_past}
pub use Rattle.wire.proofs.FieldLaws.{quick_wire}
pub use Rattle.wire.proofs.LongLaws.{LongField, field_long}
pub use Rattle.wire.proofs.PaddedLaws.{quick_flag}
pub use Rattle.layout.specs.Table.{any, scalar, bytes, len}
unfoldable pub use Rattle.layout.specs.Table.{rows_of}
pub use Rattle.layout.specs.Row.{wire_of, is_repeated, slot_count}
unfoldable pub use Rattle.layout.specs.Row.{row_for}
pub use Rattle.layout.specs.Slots.{no_slots, bad_slots}
pub use Rattle.layout.specs.Fields.{use_of, noted, field_list, checked, fields_at}
unfoldable pub use Rattle.layout.specs.Fields.{has_required}
pub use Rattle.layout.specs.Part.{embedded, count_of, value_of, start_of, len_of, low32}
pub use Rattle.layout.specs.Merged.{one_part, end_of, parts_of, merged}
unfoldable pub use Rattle.layout.specs.Merged.{parts_in}
pub use Rattle.layout.specs.Padded.{nothing_inside, part_padded}
unfoldable pub use Rattle.layout.specs.Padded.{parts_padded}
pub use Rattle.layout.specs.declared.fields.Use.{Use}
pub use Rattle.layout.specs.declared.part.Part.{Part}
pub use Rattle.layout.specs.declared.slots.Slots.{Slots}
pub use Rattle.layout.proofs.FieldsLaws.{starts, ends, goes_on_lem}
pub use Rattle.layout.proofs.KeptLaws.{kept_within}
pub use Rattle.layout.proofs.AlikeLaws.{Alike}
pub use Rattle.layout.proofs.PartLaws.{part_within}
pub use Rattle.layout.proofs.MergedLaws.{one_part_lem}
pub use Rattle.layout.proofs.MergeLaws.{AllWithin}
pub use Rattle.layout.proofs.CutLaws.{parts_by, one_within, inner_within, inner_cut, merged_cut}
pub use Rattle.layout.proofs.PaddedLaws.{Marking, marks, marked, marks_on, padded_inside}
unfoldable pub use Rattle.args.specs.Value.{bad, present, bytes_of, bytes_in, of_type, scalar_of, scalar_in, of_any_type}
unfoldable pub use Rattle.args.specs.Value.{any_of, scalar_parts, argument_in}
unfoldable pub use Rattle.args.specs.Arguments.{is_args, Sought, placed_at, of_field, place_from, arg_place}
unfoldable pub use Rattle.args.specs.Arguments.{place_of, found_argument, of_place}
unfoldable pub use Rattle.args.specs.Arguments.{next_argument, and_more, arguments_from, arguments_at, any_type_of}
unfoldable pub use Rattle.args.specs.Arguments.{number_of, type_number}
unfoldable pub use Rattle.args.specs.Arguments.{no_arguments, bad_arguments, counted, with_type, together}
unfoldable pub use Rattle.args.specs.Arguments.{arguments_in, handed_out}
unfoldable pub use Rattle.args.specs.Padded.{bytes_padded, inside_scalar, scalar_padded, inside_any, argument_padded}
unfoldable pub use Rattle.args.specs.Padded.{inside_args}
pub use Rattle.args.specs.WithinRules.{EndsBy, GoesOn}
pub use Rattle.args.specs.Moved.{moved}
pub use Rattle.args.specs.declared.arguments.ArgPlace.{ArgPlace}
pub use Rattle.args.specs.declared.arguments.Arguments.{Arguments}
pub use Rattle.args.specs.declared.arguments.NextArgument.{NextArgument}
pub use Rattle.args.specs.declared.bound.Bound.{Bound}
pub use Rattle.args.specs.declared.kind.AnyType.{AnyType}
pub use Rattle.args.specs.declared.pair.Pair.{Pair}
