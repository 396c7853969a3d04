-- What a field list holds, by field number: how often it occurs, and of the occurrence that counts the value, place and
-- length.
use Rattle.std.specs.Prelude.{true, false, replicate}
use Rattle.layout.specs.Row.{slot_count}
use Rattle.layout.specs.declared.slots.Slots.{Slots}

abbrev pub no_slots : Slots
no_slots =
    record {
      good = true;
      count = replicate slot_count 0;
      value = replicate slot_count 0;
      start = replicate slot_count 0;
      len = replicate slot_count 0;
    }

-- a list that is no good holds nothing
abbrev pub bad_slots : Slots
bad_slots =
    record {
      good = false;
      count = replicate slot_count 0;
      value = replicate slot_count 0;
      start = replicate slot_count 0;
      len = replicate slot_count 0;
    }
