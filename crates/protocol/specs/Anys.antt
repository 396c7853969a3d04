-- The types of an Any, and the field of its scalar (L7).
use Rattle.std.specs.Prelude.{ℕ}

-- what is no Any has no type
abbrev pub none : ℕ
none = 0

abbrev pub scalar : ℕ
scalar = 1

abbrev pub object : ℕ
object = 2

abbrev pub array : ℕ
array = 3

-- the field that holds the scalar
abbrev pub scalar_field : ℕ
scalar_field = 2
