-- The samples of specs/PaddedSamples.antt compute. Assumes nothing.
use Rattle.prelude.proofs.Basics.{refl}
use Rattle.varint.specs.Varint.{groups}
use Rattle.varint.specs.Shortest.{shortest}
use Rattle.varint.specs.Padded.{same_bytes}
use Rattle.layout.specs.Fields.{fields_from}
use Rattle.layout.specs.Padded.{padded_from}
use Rattle.args.specs.Arguments.{arguments_from, place_from, next_argument}
use Rattle.message.proofs.Names.{padded_at, little, field_at, field_padded, rows_of, row_for, has_required, together}
use Rattle.message.proofs.Names.{execute_padded, deallocate_frame, close_frame, fetch_frame, arguments_within}
use Rattle.message.proofs.Names.{execute_in, execute_frame, frame_in, frame_of, kind_padded, padded_of}
use Rattle.message.specs.PaddedSamples.{IdsTellApart}

pub ids_tell_apart : IdsTellApart
unfolding padded_of kind_padded execute_padded padded_from field_padded padded_at same_bytes shortest frame_of frame_in
    deallocate_frame close_frame fetch_frame execute_frame groups little field_at fields_from has_required row_for rows_of
    arguments_within arguments_from place_from next_argument together execute_in
ids_tell_apart = ((refl, refl), ((refl, refl), ((refl, refl), (refl, refl))))
