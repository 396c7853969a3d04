-- The names that more than one proof of this crate needs: its definitions, and those and the laws of the crates below.
-- Assumes nothing.
unfoldable pub use Rattle.wire.specs.Field.{field_at}
pub use Rattle.wire.specs.Past.{PastField}
pub use Rattle.wire.specs.declared.field.Field.{Field}
pub use Rattle.wire.proofs.PastLaws.{field_past}
pub use Rattle.wire.proofs.MovedLaws.{moved_field, field_moved, Stands, Tail, stands_length, stands_take, tail_length}
unfoldable pub use Rattle.layout.specs.Table.{len, rows_of}
unfoldable pub use Rattle.layout.specs.Row.{number_of, wire_of, is_repeated, listed_of, no_row, row_for, listed}
unfoldable pub use Rattle.layout.specs.Row.{slot_count, takes}
pub use Rattle.layout.specs.Slots.{no_slots, bad_slots}
unfoldable pub use Rattle.layout.specs.Fields.{use_by, use_of, noted, on_field, fields_from, fields_onto, field_list}
unfoldable pub use Rattle.layout.specs.Fields.{has_required, checked, fields_at, fields_to}
pub use Rattle.layout.specs.Part.{embedded, start_of, end_in}
unfoldable pub use Rattle.layout.specs.Merged.{end_of, is_part, part_by, parts_from, parts_of, parts_in, part_onto}
unfoldable pub use Rattle.layout.specs.Merged.{parts_onto}
unfoldable pub use Rattle.layout.specs.Padded.{onward, padded_from, nothing_inside, list_padded, padded_to}
unfoldable pub use Rattle.layout.specs.MergedRules.{all_good, joined}
pub use Rattle.layout.specs.declared.fields.Use.{Use}
pub use Rattle.layout.specs.declared.part.Part.{Part}
pub use Rattle.layout.specs.declared.slots.Slots.{Slots}
