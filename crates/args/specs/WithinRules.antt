-- Where arguments stand: their bytes lie within those of their message, and going from one to the next ends (A4, A7).
use Rattle.std.specs.Prelude.{ℕ, ◌+◌, ◌-◌, ◌≤◌, ◌<◌, List, Option, Some, None, length}
use Rattle.scalar.specs.declared.argument.Argument.{Argument}
use Rattle.scalar.specs.declared.argument.Argument.TheVariants as Va
use Rattle.args.specs.Arguments.{next_argument, arguments_at, nth_argument}
use Rattle.args.specs.declared.arguments.NextArgument.{NextArgument}

-- the bytes of octets and of a string end within n; any other argument has none
abbrev pub EndsBy : ℕ → Argument → Type 0
EndsBy n (Va.Octets start len) = start + len ≤ n
EndsBy n (Va.String start len) = start + len ≤ n
EndsBy n (Va.Signed z) = Unit {0}
EndsBy n (Va.Unsigned v) = Unit {0}
EndsBy n Va.Null = Unit {0}
EndsBy n (Va.Double d) = Unit {0}
EndsBy n (Va.DoubleNan v) = Unit {0}
EndsBy n (Va.Float d) = Unit {0}
EndsBy n (Va.FloatNan v) = Unit {0}
EndsBy n (Va.Bool b) = Unit {0}
EndsBy n Va.Object = Unit {0}
EndsBy n Va.Array = Unit {0}
EndsBy n (Va.Refused reason) = Unit {0}

-- the next place is further on and within the bytes, and the argument's own bytes end before it
abbrev pub GoesOn : ℕ → ℕ → Option NextArgument → Type 0
GoesOn at end (Some found) = (at < found.next) × (found.next ≤ end) × EndsBy found.next found.value
GoesOn at end None = Unit {0}

abbrev pub NextGoesOn : Type 0
NextGoesOn = (s : List ℕ) (at : ℕ) → GoesOn at (length s) (next_argument s at)

-- there are no more arguments than bytes
abbrev pub FewArguments : Type 0
FewArguments = (s : List ℕ) (from : ℕ) → length (arguments_at s from) ≤ length s - from

-- the bytes of the argument with an index lie within the message's
abbrev pub NthWithin : Type 0
NthWithin = (s : List ℕ) (from index : ℕ) → EndsBy (length s) (nth_argument s from index)
