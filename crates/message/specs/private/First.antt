-- What the short way for the id that stands first says of a frame, where it answers.
use Rattle.std.specs.Prelude.{ℕ, ◌+◌, ◌<◌, ◌≡◌, List, length, get_or, Option, Some, None}
use Rattle.wire.specs.Field.{field_at}
use Rattle.message.specs.Payload.{payload}
use Rattle.message.specs.declared.first.First.{First}
use Rattle.wire.specs.Field.{some_field}

-- field 1 as a varint
abbrev pub id_tag : ℕ
id_tag = 8

-- field 1 is the id, and the tag stands behind it in a byte, which ends at `next`
pub record Starts (s : List ℕ) (tag id next : ℕ) : Type 0 where
  pub len : ℕ
  pub end : ℕ
  pub there : payload < length s
  pub id_is : get_or s payload 0 ≡ id_tag
  pub one : field_at s payload ≡ some_field 1 0 id (payload + 1) len end
  pub inside : end < length s
  pub tag_is : get_or s end 0 ≡ tag
  pub next_is : next ≡ end + 1

abbrev pub Begins : List ℕ → ℕ → Option First → Type 0
Begins s tag (Some first) = Starts s tag first.id first.next
Begins s tag None = Unit {0}
