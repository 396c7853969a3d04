-- An argument read of bytes that stand in others: its own bytes, if it has any, have their place there.
use Rattle.std.specs.Prelude.{ℕ, ◌+◌}
use Rattle.scalar.specs.declared.argument.Argument.{Argument}
use Rattle.scalar.specs.declared.argument.Argument.TheVariants as Va

-- the same argument, its bytes, if it has any, at the place that f makes of theirs
abbrev pub placed_by : (ℕ → ℕ) → Argument → Argument
placed_by f (Va.Octets start len) = Va.Octets (f start) len
placed_by f (Va.String start len) = Va.String (f start) len
placed_by f (Va.Signed z) = Va.Signed z
placed_by f (Va.Unsigned n) = Va.Unsigned n
placed_by f Va.Null = Va.Null
placed_by f (Va.Double x) = Va.Double x
placed_by f (Va.DoubleNan n) = Va.DoubleNan n
placed_by f (Va.Float x) = Va.Float x
placed_by f (Va.FloatNan n) = Va.FloatNan n
placed_by f (Va.Bool b) = Va.Bool b
placed_by f Va.Object = Va.Object
placed_by f Va.Array = Va.Array
placed_by f (Va.Refused n) = Va.Refused n

-- the same argument, its bytes d places further on
abbrev pub moved : ℕ → Argument → Argument
moved d a = placed_by (λ start. d + start) a
