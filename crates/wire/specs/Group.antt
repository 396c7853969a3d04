-- Groups (W12, W13): wire types 3 and 4 may nest to depth 32; an end must carry its start's number; a lone end, an
-- unended group and depth 33 are bad. All other rules hold inside groups too.
use Rattle.std.specs.Prelude.{ℕ, zero, suc, cond, List, length, eqb}
use Rattle.protocol.specs.WireType as WireType
use Rattle.wire.specs.Tag.{tag_at}
use Rattle.wire.specs.Value.{value_at}
use Rattle.wire.specs.declared.tag.Tag.{Tag}
use Rattle.wire.specs.declared.value.Value.{Value}
use Rattle.std.specs.Prelude.{Option, Some, None}

-- the place behind a value
abbrev pub behind : Option Value → Option ℕ
behind (Some r) = Some r.next
behind None = None

abbrev pub skip_value : List ℕ → ℕ → ℕ → Option ℕ
skip_value s wire at = behind (value_at s wire at)

-- go on at the place that a skip found
abbrev pub and_then : Option ℕ → (ℕ → Option ℕ) → Option ℕ
and_then (Some q) more = more q
and_then None more = None

-- one field of the group `number`, from its tag on: its end must carry that number; an inner group is skipped by
-- `inner`, any other field by its value; then `more` goes on
abbrev pub group_field : (ℕ → ℕ → Option ℕ) → (ℕ → Option ℕ) → List ℕ → ℕ → Option Tag → Option ℕ
group_field inner more s number (Some r) =
    cond (eqb r.wire WireType.group_end) (cond (eqb r.number number) (Some r.next) None)
    (cond (eqb r.wire WireType.group_start) (and_then (inner r.number r.next) more)
    (and_then (skip_value s r.wire r.next) more))
group_field inner more s number None = None

-- at most `most` fields of the group `number` from the place `at` on
unfoldable pub group_fields : (ℕ → ℕ → Option ℕ) → ℕ → List ℕ → ℕ → ℕ → Option ℕ
group_fields inner zero s at number = None
group_fields inner (suc most) s at number =
    group_field inner (λ q. group_fields inner most s q number) s number (tag_at s at)

-- the place behind the end of the group `number`, whose start tag ends at `at`; at most `depth` groups stand one in
-- another. A field has a byte at least, so there are no more fields than bytes.
unfoldable pub group_end : ℕ → List ℕ → ℕ → ℕ → Option ℕ
group_end zero s at number = None
group_end (suc depth) s at number = group_fields (λ n p. group_end depth s p n) (length s) s at number
