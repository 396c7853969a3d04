-- The wire types of a field (W7): a varint, eight bytes, a length and as many bytes, a group's start and end, four
-- bytes.
use Rattle.std.specs.Prelude.{ℕ}

abbrev pub varint : ℕ
varint = 0

abbrev pub i64 : ℕ
i64 = 1

abbrev pub len : ℕ
len = 2

abbrev pub group_start : ℕ
group_start = 3

abbrev pub group_end : ℕ
group_end = 4

abbrev pub i32 : ℕ
i32 = 5
