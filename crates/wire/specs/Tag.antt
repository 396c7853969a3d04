-- A field's tag (W7): below 2^32, field number 1 or more; wire types 6 and 7 are bad.
use Rattle.std.specs.Prelude.{ℕ, ◌/◌, ◌%◌, ◌^◌, cond, List, ltb}
use Rattle.varint.specs.Varint.{varint_at}
use Rattle.varint.specs.declared.Number.{Number}
use Rattle.wire.specs.declared.tag.Tag.{Tag}
use Rattle.std.specs.Prelude.{Option, Some, None}

-- a tag, and the place behind it
abbrev pub some_tag : ℕ → ℕ → ℕ → Option Tag
some_tag number wire next = Some (record { number = number; wire = wire; next = next })

-- the number is the varint less its low three bits, which are the wire type
abbrev pub tag_of : Option Number → Option Tag
tag_of (Some r) =
    cond (ltb r.value (2 ^ 32))
    (cond (ltb r.value 8) None (cond (ltb (r.value % 8) 6) (some_tag (r.value / 8) (r.value % 8) r.next) None))
    None
tag_of None = None

-- the tag at the place `at` of s
abbrev pub tag_at : List ℕ → ℕ → Option Tag
tag_at s at = tag_of (varint_at s at)
