-- The short ways for a message of one field or two: what they find, by the bytes alone. What they do not find the long
-- way reads. For contracts inside the library; they follow the code's tests, and what is promised does not cite them.
use Rattle.std.specs.Prelude.{ℕ, ◌+◌, ◌*◌, ◌%◌, Bool, false, cond, List, Option, Some, None}
use Rattle.std.specs.Prelude.{length, take, get_or, ltb, leb, eqb}
use Rattle.varint.specs.Padded.{padded_at}
use Rattle.wire.specs.Value.{as_length, value_at}
use Rattle.wire.specs.Padded.{value_padded}
use Rattle.wire.specs.declared.value.Value.{Value}
use Rattle.layout.specs.declared.part.Part.{Part}
use Rattle.args.specs.declared.pair.Pair.{Pair}
use Rattle.std.specs.Prelude.{Option, Some, None}

-- the value behind the two bytes must end where the message does
abbrev pub pair_of : ℕ → ℕ → Option Value → Option Pair
pair_of key end (Some r) =
    cond (eqb r.next end) (Some (record { key = key; value = r.number; start = r.start })) None
pair_of key end None = None

-- from the place `at` to the end of s: the tag of field 1 as a varint, its value, and a tag, in a byte each; then that
-- tag's value
unfoldable pub pair_at : List ℕ → ℕ → Option Pair
pair_at s at =
    cond (ltb (length s) (at + 3)) None
    (cond (eqb (get_or s at 0) 8)
    (cond (ltb (get_or s (at + 1) 0) 128)
    (cond (ltb (get_or s (at + 2) 0) 128)
    (pair_of (get_or s (at + 1) 0 * 256 + get_or s (at + 2) 0) (length s)
    (value_at s (get_or s (at + 2) 0 % 8) (at + 3)))
    None)
    None)
    None)

-- in n bytes of s from the place `at` on
unfoldable pub pair_in : List ℕ → ℕ → ℕ → Option Pair
pair_in s at n = cond (leb (at + n) (length s)) (pair_at (take (at + n) s) at) None

-- the value of field 1, a varint of one byte, where the field fills n bytes of s from the place `at` on
unfoldable pub lone_in : List ℕ → ℕ → ℕ → Option ℕ
lone_in s at n =
    cond (eqb n 2)
    (cond (ltb (length s) (at + 2)) None
    (cond (eqb (get_or s at 0) 8)
    (cond (ltb (get_or s (at + 1) 0) 128) (Some (get_or s (at + 1) 0)) None)
    None))
    None

-- field 1 with bytes, where it ends with the message: from the place `at` to the end of s
abbrev pub text_of : ℕ → Option Value → Option Part
text_of end (Some r) = cond (eqb r.next end) (Some (record { start = r.start; len = r.len })) None
text_of end None = None

unfoldable pub text_at : List ℕ → ℕ → Option Part
text_at s at =
    cond (ltb at (length s))
    (cond (eqb (get_or s at 0) 10) (text_of (length s) (as_length s (at + 1))) None) None

-- in n bytes of s from the place `at` on
unfoldable pub text_in : List ℕ → ℕ → ℕ → Option Part
text_in s at n = cond (leb (at + n) (length s)) (text_at (take (at + n) s) at) None

-- whether what they read is padded: of a pair the number or the length of the second value, of bytes alone their length
unfoldable pub pair_flag : List ℕ → ℕ → Bool
pair_flag s at =
    cond (ltb (length s) (at + 3)) false
    (cond (eqb (get_or s at 0) 8)
    (cond (ltb (get_or s (at + 1) 0) 128)
    (cond (ltb (get_or s (at + 2) 0) 128) (value_padded s (get_or s (at + 2) 0 % 8) (at + 3)) false) false)
    false)

unfoldable pub pair_padded : List ℕ → ℕ → ℕ → Bool
pair_padded s at n = cond (leb (at + n) (length s)) (pair_flag (take (at + n) s) at) false

unfoldable pub text_flag : List ℕ → ℕ → Bool
text_flag s at = cond (ltb at (length s)) (cond (eqb (get_or s at 0) 10) (padded_at s (at + 1)) false) false

unfoldable pub text_padded : List ℕ → ℕ → ℕ → Bool
text_padded s at n = cond (leb (at + n) (length s)) (text_flag (take (at + n) s) at) false
