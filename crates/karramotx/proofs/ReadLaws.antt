-- Every argument that is read is one of the machine's: a sint has 64 bits, a double and a float are numbers of their
-- formats, and a NaN stands as its bits. So each is told by its number, its type and its value. Assumes nothing.
use Rattle.prelude.proofs.Basics.{ℕ, zero, suc, Bool, true, false, not, cond, ◌≡◌, refl, sym, ap, ◌∙◌, List, length}
use Rattle.prelude.proofs.Basics.{get_or, take, T, eqb, both, yes, no}
use mir.Syntax.{w64}
use mir.Val.{SFits}
use mir.Facts.{to_z-of_z}
use lib.Ieee.{Float, Format, binary32, binary64, of_bits, to_bits, nan_bits, is_nan, fits}
use lib.Ieee.Bits.{of_bits-to_bits, of_bits-fits, nan_bits_is}
use Rattle.scalar.specs.Argument.{signed_of, carried, double_of, float_of, reason_of}
use Rattle.scalar.specs.declared.argument.Argument.{Argument}
use Rattle.scalar.specs.declared.argument.Argument.TheVariants as Va
use Rattle.layout.specs.Table.{rows_of, any, scalar, bytes}
use Rattle.layout.specs.declared.slots.Slots.{Slots}
use Rattle.layout.specs.declared.part.Part.{Part}
use Rattle.layout.specs.Merged.{parts_in, merged}
use Rattle.layout.specs.Part.{embedded, count_of, value_of as field_value, start_of, len_of, low32}
use Rattle.args.specs.Value.{bad, present, bytes_of, bytes_in, of_type, scalar_of, of_any_type, any_of, scalar_parts}
use Rattle.args.specs.Arguments.{Sought, arg_place, of_place, next_argument, and_more, arguments_from, arguments_at, handed_out}
use Rattle.std.specs.Prelude.{Option, Some, None, Ok, Err}
use Rattle.args.specs.declared.arguments.NextArgument.{NextArgument}
use Rattle.message.specs.Request.{args_of}
use Rattle.message.specs.Frame.{argument_in as argument_from, argument_of, frame_of}
use Rattle.message.specs.declared.request.Frame.{Frame}
use Rattle.message.specs.declared.request.Frame.TheVariants.{NotAllThere, BadLength, UnknownType, BadPayload}
use Rattle.message.specs.declared.request.Frame.TheVariants.{BodyTwice, Good}
use Rattle.karramotx.specs.Value.{value_of}
use Rattle.karramotx.specs.ValueRules.{Told, ToldByIndex, ToldNext, ToldInPass, told_argument, ValueByIndex}
use Rattle.karramotx.specs.ValueRules.{ValueNext, ValueInPass}
use Rattle.karramotx.proofs.ValueLaws.{signed_fits}
use Rattle.karramotx.proofs.SintLaws.{Small, sint_small}

-- a number of a format
abbrev Number : Format → Float → Type 0
Number f d = (is_nan d ≡ false) × T (fits f d)

abbrev Exact : Argument → Type 0
Exact (Va.Signed z) = SFits w64 z
Exact (Va.Unsigned n) = Unit {0}
Exact Va.Null = Unit {0}
Exact (Va.Octets start len) = Unit {0}
Exact (Va.Double d) = Number binary64 d
Exact (Va.DoubleNan n) = nan_bits binary64 n ≡ true
Exact (Va.Float d) = Number binary32 d
Exact (Va.FloatNan n) = nan_bits binary32 n ≡ true
Exact (Va.Bool b) = Unit {0}
Exact (Va.String start len) = Unit {0}
Exact Va.Object = Unit {0}
Exact Va.Array = Unit {0}
Exact (Va.Refused n) = Unit {0}

-- ---- it is told as it is

told : (a : Argument) → Exact a → Told a
told (Va.Signed z) h = (refl, refl)
told (Va.Unsigned n) h = (refl, refl)
told Va.Null h = (refl, refl)
told (Va.Octets start len) h = (refl, refl)
told (Va.Double d) h = (rw h.0, rw h.0)
told (Va.DoubleNan n) h = (refl, refl)
told (Va.Float d) h = (rw h.0, rw h.0)
told (Va.FloatNan n) h = (refl, refl)
told (Va.Bool b) h = (refl, refl)
told (Va.String start len) h = (refl, refl)
told Va.Object h = (refl, refl)
told Va.Array h = (refl, refl)
told (Va.Refused n) h = (refl, refl)

module _ (f : Format) (raw : ℕ → Argument) (number : Float → Argument) where
  -- the bits of a number are that number, those of a NaN stay bits
  number-back : (d : Float) → Number f d → carried f raw number (to_bits f d) ≡ number d
  number-back d h =
      let same = of_bits-to_bits f d h.1 in
      let plain : nan_bits f (to_bits f d) ≡ false = nan_bits_is f (to_bits f d) ∙ ap is_nan same ∙ h.0 in
      sym (no (raw (to_bits f d)) (number (of_bits f (to_bits f d))) plain) ∙ ap number same

  nan-back : (n : ℕ) → nan_bits f n ≡ true → carried f raw number n ≡ raw n
  nan-back n h = sym (yes (raw n) (number (of_bits f n)) h)

bool_back : (b : Bool) → not (eqb (cond b 1 0) 0) ≡ b
bool_back true = refl
bool_back false = refl

refused_back : (n : ℕ) → Va.Refused n ≡ handed_out (Va.Refused n)
refused_back n = both (λ a. Va.Refused n ≡ a) (eqb n 0) (Va.Refused n) (Va.Refused n) (λ _. refl) (λ _. refl)

value_back : (a : Argument) → Exact a → told_argument (value_of a) ≡ handed_out a
unfolding told_argument
value_back (Va.Signed z) h = ap Va.Signed (to_z-of_z h)
value_back (Va.Unsigned n) h = refl
value_back Va.Null h = refl
value_back (Va.Octets start len) h = refl
value_back (Va.Double d) h = rw h.0 (number-back binary64 Va.DoubleNan Va.Double d h)
value_back (Va.DoubleNan n) h = nan-back binary64 Va.DoubleNan Va.Double n h
value_back (Va.Float d) h = rw h.0 (number-back binary32 Va.FloatNan Va.Float d h)
value_back (Va.FloatNan n) h = nan-back binary32 Va.FloatNan Va.Float n h
value_back (Va.Bool b) h = ap Va.Bool (bool_back b)
value_back (Va.String start len) h = refl
value_back Va.Object h = refl
value_back Va.Array h = refl
value_back (Va.Refused n) h = refused_back n

-- ---- every argument that is read

-- bits that are no NaN's are a number
number : (f : Format) (n : ℕ) → nan_bits f n ≡ false → Number f (of_bits f n)
number f n e = (sym (nan_bits_is f n) ∙ e, of_bits-fits f n)

double_number : (n : ℕ) → Exact (double_of n)
double_number n = both Exact (nan_bits binary64 n) _ _ (λ e. e) (number binary64 n)

float_number : (n : ℕ) → Exact (float_of n)
float_number n = both Exact (nan_bits binary32 n) _ _ (λ e. e) (number binary32 n)

present_number : (count : ℕ) (a : Argument) → Exact a → Exact (present count a)
present_number count a h = both Exact (eqb count 0) bad a (λ _. tt) (λ _. h)

bytes_number : (octets : Bool) (x : Slots) → Exact (bytes_of octets x)
bytes_number octets x =
    both Exact x.good _ bad (λ _. both Exact octets (Va.Octets (start_of x 1) (len_of x 1))
    (Va.String (start_of x 1) (len_of x 1)) (λ _. tt) (λ _. tt))
    (λ _. tt)

abbrev NextExact : Option NextArgument → Type 0
NextExact (Some found) = Exact found.value
NextExact None = Unit {0}

more_number : (more : ℕ → List Argument) → ((next i : ℕ) → Exact (get_or (more next) i (Va.Refused 9))) →
    (n : Option NextArgument) → NextExact n →
    (i : ℕ) → Exact (get_or (and_more more n) i (Va.Refused 9))
more_number more rest (Some found) h zero = h
more_number more rest (Some found) h (suc i) = rest found.next i
more_number more rest None h i = tt

module _ (s : List ℕ) where
  type-number : (ps : List Part) (x : Slots) (t : ℕ) → Small x → Exact (of_type s ps x t)
  unfolding of_type
  type-number ps x t small =
      both Exact (eqb t 1) _ _
      (λ _. present_number (count_of x 2) (signed_of (field_value x 2)) (signed_fits (field_value x 2) small))
      (λ _.
      both Exact (eqb t 2) _ _ (λ _. present_number (count_of x 3) (Va.Unsigned (field_value x 3)) tt)
      (λ _.
      both Exact (eqb t 3) _ _ (λ _. tt)
      (λ _.
      both Exact (eqb t 4) _ _
      (λ _. present_number (count_of x 5) (bytes_in true s (parts_in 5 s ps))
      (bytes_number true (merged (rows_of bytes) s (parts_in 5 s ps))))
      (λ _.
      both Exact (eqb t 5) _ _ (λ _. present_number (count_of x 6) (double_of (field_value x 6))
      (double_number (field_value x 6)))
      (λ _.
      both Exact (eqb t 6) _ _
      (λ _. present_number (count_of x 7) (float_of (low32 (field_value x 7))) (float_number (low32 (field_value x 7))))
      (λ _.
      both Exact (eqb t 7) _ _ (λ _. present_number (count_of x 8) (Va.Bool (not (eqb (field_value x 8) 0))) tt)
      (λ _.
      both Exact (eqb t 8) _ _
      (λ _. present_number (count_of x 9) (bytes_in false s (parts_in 9 s ps))
      (bytes_number false (merged (rows_of bytes) s (parts_in 9 s ps))))
      (λ _. tt))))))))

  scalar-number : (ps : List Part) (x : Slots) → Small x → Exact (scalar_of s ps x)
  unfolding scalar_of
  scalar-number ps x small =
      both Exact x.good _ bad (λ _. type-number ps x (low32 (field_value x 1)) small) (λ _. tt)

  any-type-number : (ps : List Part) (x : Slots) (t : ℕ) → Exact (of_any_type s ps x t)
  unfolding of_any_type
  any-type-number ps x t =
      both Exact (eqb t 1) _ _
      (λ _.
      present_number (count_of x 2) _
      (scalar-number ps (merged (rows_of scalar) s ps) (sint_small s ps)))
      (λ _. both Exact (eqb t 2) Va.Object _ (λ _. tt) (λ _. both Exact (eqb t 3) Va.Array bad (λ _. tt) (λ _. tt)))

  any-number : (ps : List Part) (x : Slots) → Exact (any_of s ps x)
  unfolding any_of
  any-number ps x = both Exact x.good _ bad (λ _. any-type-number ps x (low32 (field_value x 1))) (λ _. tt)

  place-number : (x : Sought) → NextExact (of_place s x)
  place-number (Ok (Some p)) = any-number (scalar_parts s p.start p.len) (embedded (rows_of any) s p.start p.len)
  place-number (Ok None) = tt
  place-number (Err reason) = tt

  next-number : (at : ℕ) → NextExact (next_argument s at)
  unfolding next_argument
  next-number at = place-number (arg_place s at)

  -- each argument on the way, or 9 where there is none
  from-number : (most at index : ℕ) → Exact (get_or (arguments_from most s at) index (Va.Refused 9))
  unfolding arguments_from
  from-number zero at index = tt
  from-number (suc most) at index = more_number (arguments_from most s) (from-number most) (next_argument s at)
      (next-number at) index

handed_out_number : (a : Argument) → Exact a → Exact (handed_out a)
handed_out_number a h = both Exact (eqb (reason_of a) 0) a (Va.Refused (reason_of a)) (λ _. h) (λ _. tt)

argument_number : (s : List ℕ) (index : ℕ) (x : Frame) → Exact (argument_from s index x)
argument_number s index NotAllThere = tt
argument_number s index BadLength = tt
argument_number s index (UnknownType used) = tt
argument_number s index (BadPayload used kind) = tt
argument_number s index (BodyTwice used kind) = tt
argument_number s index (Good used q) =
    let t = take (args_of q).end s in
    handed_out_number (get_or (arguments_at t (args_of q).start) index (Va.Refused 9))
    (from-number t (length t) (args_of q).start index)

pub told_by_index : ToldByIndex
told_by_index frame index = told (argument_of frame index) (argument_number frame index (frame_of frame))

told_next : (n : Option NextArgument) → NextExact n → ToldNext n
told_next (Some found) h = told found.value h
told_next None h = (refl, refl)

pub told_in_pass : ToldInPass
told_in_pass s at = told_next (next_argument s at) (next-number s at)

-- ---- the value

handed_out_again : (a : Argument) → handed_out (handed_out a) ≡ handed_out a
handed_out_again a =
    both (λ b. handed_out b ≡ b) (eqb (reason_of a) 0) a (Va.Refused (reason_of a))
    (λ e. sym (yes a (Va.Refused (reason_of a)) e)) (λ _. sym (refused_back (reason_of a)))

-- an argument by its index is as it is handed out
as_handed_out : (s : List ℕ) (index : ℕ) (x : Frame) → handed_out (argument_from s index x) ≡ argument_from s index x
as_handed_out s index NotAllThere = refl
as_handed_out s index BadLength = refl
as_handed_out s index (UnknownType used) = refl
as_handed_out s index (BadPayload used kind) = refl
as_handed_out s index (BodyTwice used kind) = refl
as_handed_out s index (Good used q) =
    handed_out_again (get_or (arguments_at (take (args_of q).end s) (args_of q).start) index (Va.Refused 9))

pub value_by_index : ValueByIndex
value_by_index frame index =
    value_back (argument_of frame index) (argument_number frame index (frame_of frame))
    ∙ as_handed_out frame index (frame_of frame)

value_next : (n : Option NextArgument) → NextExact n → ValueNext n
unfolding told_argument
value_next (Some found) h = (value_back found.value h, refl)
value_next None h = tt

pub value_in_pass : ValueInPass
value_in_pass s at = value_next (next_argument s at) (next-number s at)
