-- The names that more than one proof of this crate needs: its definitions, and those and the laws of the crates below.
-- Assumes nothing.
pub use Rattle.varint.specs.Past.{Past}
pub use Rattle.varint.specs.Varint.{low64, varint_at}
unfoldable pub use Rattle.varint.specs.Padded.{padded_at}
pub use Rattle.varint.specs.declared.Number.{Number}
pub use Rattle.varint.proofs.GroupLaws.{groups_end, varint_none}
pub use Rattle.varint.proofs.PastLaws.{varint_past}
pub use Rattle.varint.proofs.AgreeLaws.{KeepsVarint, varint_keeps}
pub use Rattle.varint.proofs.FlagLaws.{padded_none}
unfoldable pub use Rattle.scalar.specs.Fixed.{little}
pub use Rattle.wire.specs.Tag.{tag_of, tag_at}
pub use Rattle.wire.specs.Value.{of_varint, of_fixed, as_fixed, of_length, value_at}
unfoldable pub use Rattle.wire.specs.Group.{behind, skip_value, and_then, group_field, group_fields, group_end}
unfoldable pub use Rattle.wire.specs.Field.{max_depth, of_value, of_group, field_of, of_tag, field_at}
unfoldable pub use Rattle.wire.specs.Padded.{value_padded, behind_tag, field_padded}
pub use Rattle.wire.specs.Past.{PastTag, PastValue, PastSkip, PastField}
pub use Rattle.wire.specs.declared.field.Field.{Field}
pub use Rattle.wire.specs.declared.tag.Tag.{Tag}
pub use Rattle.wire.specs.declared.value.Value.{Value}
