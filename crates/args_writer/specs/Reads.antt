-- What is appended reads back: the result is a good stretch whose last argument is the one appended, and the earlier
-- ones are as they were.
use Rattle.std.specs.Prelude.{ℕ, ◌^◌, ◌<◌, ◌≡◌, true, List, [], ◌∷◌, ◌++◌, length, take, T}
use Rattle.std.specs.Float.{binary32, binary64}
use Rattle.std.specs.Float.Ieee.{fits}
use Rattle.scalar.specs.Zigzag.{zigzag}
use Rattle.scalar.specs.Argument.{double_of, float_of}
use Rattle.scalar.specs.declared.argument.Argument.{Argument}
use Rattle.scalar.specs.declared.argument.Argument.TheVariants as Va
use Rattle.args.specs.Arguments.{arguments_at}
use Rattle.args.specs.Moved.{placed_by}
use Rattle.writer.specs.Judge.{good_stretch}
use Rattle.args_writer.specs.Scalar.{bytes_of, writable, arg_field}
use Rattle.args_writer.specs.Append.{append_reason, appended_of, left_by}

-- a value as the code has it: numbers of 64 bits, a float's bits of 32, and numbers that the format has
abbrev pub Sized : Argument → Type 0
Sized (Va.Signed z) = zigzag z < 2 ^ 64
Sized (Va.Unsigned n) = n < 2 ^ 64
Sized Va.Null = Unit {0}
Sized (Va.Octets start len) = Unit {0}
Sized (Va.Double d) = T (fits binary64 d)
Sized (Va.DoubleNan n) = n < 2 ^ 64
Sized (Va.Float d) = T (fits binary32 d)
Sized (Va.FloatNan n) = n < 2 ^ 32
Sized (Va.Bool b) = Unit {0}
Sized (Va.String start len) = Unit {0}
Sized Va.Object = Unit {0}
Sized Va.Array = Unit {0}
Sized (Va.Refused n) = Unit {0}

-- the same scalar, its bytes at the place p
abbrev pub placed : ℕ → Argument → Argument
placed p a = placed_by (λ start. p) a

-- s is a good stretch: the arguments of `before` as they were, and behind them a, with the bytes that it names in src
pub record Appended (a : Argument) (src before s : List ℕ) : Type 0 where
  pub good : good_stretch s ≡ true
  pub place : ℕ
  pub arguments : arguments_at s 0 ≡ arguments_at before 0 ++ (placed place a ∷ [])
  pub bytes : bytes_of (placed place a) s ≡ bytes_of a src

-- of every scalar that is not refused 6, behind every good stretch
abbrev pub AppendReads : Type 0
AppendReads =
    (a : Argument) (src s : List ℕ) →
    Sized a → writable a src ≡ true → length (arg_field a src) < 2 ^ 64 → good_stretch s ≡ true →
    Appended a src s (s ++ arg_field a src)

-- so does the buffer that it was appended to, cut off behind the stretch
abbrev pub AppendedReads : Type 0
AppendedReads =
    (a : Argument) (src buf : List ℕ) (at : ℕ) →
    Sized a → length buf < 2 ^ 64 → good_stretch (take at buf) ≡ true → append_reason a src (length buf) at ≡ 0 →
    Appended a src (take at buf) (take (appended_of a src (length buf) at).len (left_by a src buf at))

-- no bits are refused 6: those of every double and every float can be written, a NaN's too
abbrev pub EveryBits : Type 0
EveryBits =
    (src : List ℕ) (n : ℕ) →
    (n < 2 ^ 64 → Sized (double_of n) × (writable (double_of n) src ≡ true))
    × (n < 2 ^ 32 → Sized (float_of n) × (writable (float_of n) src ≡ true))
