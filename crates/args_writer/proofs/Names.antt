-- The names that more than one proof of this crate needs: its definitions, and those and the laws of the crates below.
-- Assumes nothing.
pub use Rattle.varint.specs.Shortest.{varint_bytes}
pub use Rattle.varint.proofs.VarintLaws.{varint_length}
pub use Rattle.varint.proofs.TailLaws.{Stands, stands_length, stands_first, stands_next}
pub use Rattle.scalar.specs.Argument.{type_of}
pub use Rattle.scalar.specs.Zigzag.{zigzag}
pub use Rattle.scalar.specs.declared.argument.Argument.{Argument}
pub use Rattle.scalar.proofs.ArgumentLaws.{is_nan_lem, no_nan}
pub use Rattle.wire.specs.Value.{as_fixed, value_at}
unfoldable pub use Rattle.wire.specs.Field.{field_at}
pub use Rattle.wire.specs.declared.field.Field.{Field}
pub use Rattle.layout.specs.Table.{scalar}
unfoldable pub use Rattle.layout.specs.Table.{rows_of}
pub use Rattle.layout.specs.Slots.{no_slots}
pub use Rattle.layout.specs.Fields.{use_of}
pub use Rattle.layout.specs.declared.fields.Use.{Use}
pub use Rattle.layout.specs.declared.slots.Slots.{Slots}
pub use Rattle.args.specs.Value.{argument_in}
pub use Rattle.args.proofs.MovedArgLaws.{field_inside}
pub use Rattle.encode.specs.Field.{prefix_of}
unfoldable pub use Rattle.encode.specs.Field.{number_field, bytes_field, fixed_field}
unfoldable pub use Rattle.encode.specs.Fixed.{fixed_bytes}
pub use Rattle.encode.proofs.FieldLaws.{number_short, prefix_short, bytes_sum, fixed_parts, puts_counted}
pub use Rattle.writer.specs.Judge.{good_stretch}
unfoldable pub use Rattle.writer.specs.Judge.{args_from}
pub use Rattle.writer.proofs.FieldLaws.{behind_tag, Reads, with_number, with_bytes, reads_number, reads_bytes}
pub use Rattle.writer.proofs.FieldLaws.{stands_inside}
pub use Rattle.writer.proofs.StretchLaws.{stretch_of}
pub use Rattle.writer.proofs.ExecuteBackLaws.{part_start}
unfoldable pub use Rattle.args_writer.specs.Scalar.{writable, value_field, scalar_bytes, any_bytes, arg_field}
unfoldable pub use Rattle.args_writer.specs.Append.{append_reason, appended_of, left_by}
pub use Rattle.args_writer.specs.Reads.{Sized, placed}
pub use Rattle.args_writer.specs.declared.form.Form.{Form}
