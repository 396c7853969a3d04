-- The statement in two parts, computed. Assumes nothing.
use Rattle.prelude.proofs.Basics.{refl}
use Rattle.varint.specs.Varint.{groups}
use Rattle.layout.proofs.Names.{field_at, rows_of, row_for, fields_from, has_required, parts_onto}
use Rattle.layout.specs.MergedSamples.{TypeAndBodyApart}

pub type_and_body_apart : TypeAndBodyApart
unfolding groups field_at row_for rows_of fields_from has_required parts_onto
type_and_body_apart =
    record {
      good = refl;
      type = refl;
      body = refl;
      body_first = refl;
      body_alone = refl;
      bad_part = refl;
      field_divided = refl;
    }
