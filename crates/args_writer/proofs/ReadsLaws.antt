-- What is appended reads back. Assumes nothing.
use Rattle.prelude.proofs.Basics.{ℕ, zero, suc, ◌+◌, ◌-◌, ◌≤◌, arith, zero-add, Bool, true, false, not, cond, ◌≡◌, refl}
use Rattle.prelude.proofs.Basics.{sym, ap, subst, ◌∙◌, List, [], ◌∷◌, ◌++◌, map, append-nil, length, take, drop}
use Rattle.prelude.proofs.Basics.{length-append, drop_at, drop-drop, length-take-le, take_at, leb, le-leb, le-ltb}
use Rattle.prelude.proofs.Basics.{leb-true, lt-ltb, ne_eqb, both, yes}
use lib.Ieee.{binary32, binary64, nan_bits, of_bits}
use lib.Ieee.Bits.{of_bits-fits, nan_bits_is}
use Rattle.scalar.specs.declared.argument.Argument.TheVariants as Va
use Rattle.args.specs.Arguments.{any_type_of, arguments_from, arguments_at}
use Rattle.args.specs.Moved.{moved}
use Rattle.args.proofs.PlaceLaws.{next_end}
use Rattle.args.proofs.ArgsFieldLaws.{is_args_lem}
use Rattle.args.proofs.MovedArgLaws.{argument_moved, args_found}
use Rattle.args.proofs.ArgumentsLaws.{from_none as args_none}
use Rattle.writer.specs.Judge.{is_good}
use Rattle.writer.proofs.FieldLaws.{bytes_reads}
use Rattle.writer.proofs.ArgListLaws.{type_moved}
use Rattle.writer.proofs.StretchLaws.{Stretch, done, more, there}
use Rattle.writer.proofs.ListsLaws.{next_finds, lists_then, lists_stretch, lists_whole}
use Rattle.args_writer.proofs.Names.{Stands, stands_length, type_of, Argument, field_at, Field, argument_in}
use Rattle.args_writer.proofs.Names.{field_inside, good_stretch, args_from, stands_inside, stretch_of, writable}
use Rattle.args_writer.proofs.Names.{value_field, any_bytes, arg_field, append_reason, appended_of, left_by, Sized}
use Rattle.args_writer.proofs.Names.{placed}
use Rattle.args_writer.specs.Scalar.{bytes_of}
use Rattle.args_writer.specs.Reads.{Appended, AppendReads, AppendedReads, EveryBits}
use Rattle.args_writer.proofs.ScalarBackLaws.{scalar_stands, any_back, scalar_back}
use Rattle.wire.specs.Field.{some_field}

-- ---- good stretches one behind the other

-- a stretch that stands in bytes with one behind it
stretch_then : {s : List ℕ} {at : ℕ} {a q : List ℕ} → Stands s at a q → Stretch s (at + length a) → {i : ℕ} →
    Stretch a i → Stretch s (at + i)
stretch_then {s} {at} k r (done e) = subst (λ (p : ℕ). Stretch s (at + p)) (sym e) r
stretch_then {s} {at} {a} k r {i} (more {st = st} {ln = ln} e b g) =
    let inside = field_inside a i e in
    more (there k i e)
    (λ z. b (sym (ap any_type_of (argument_moved k st ln inside.0) ∙ type_moved at (argument_in a st ln)) ∙ z))
    (stretch_then k r g)

-- a stretch is judged good
judged : (a : List ℕ) (m i : ℕ) → length a ≤ i + m → Stretch a i → args_from m a i ≡ true
unfolding args_from
judged a zero i h g = refl
judged a (suc m) i h (done e) = rw (le-ltb i (length a) (omega arith)) refl
judged a (suc m) i h (more {v = v} {st = st} {ln = ln} {next = next} e b g) =
    let inside = field_inside a i e in
    let rest : cond (is_good (argument_in a st ln)) (args_from m a next) false ≡ true =
    rw (ne_eqb (any_type_of (argument_in a st ln)) 0 b) (judged a m next (omega arith) g) in
    rw (lt-ltb i (length a) (omega arith), e)
    (sym
    (yes (cond (is_good (argument_in a st ln)) (args_from m a next) false) false (sym (is_args_lem 2 2 v refl refl)))
    ∙ rest)

module _ (s f : List ℕ) where
  front : Stands (s ++ f) 0 s f
  front = record { within = omega arith; there = refl }

  back : Stands (s ++ f) (length s) f []
  back =
      record {
        within = omega (arith, length-append s f);
        there = drop_at s f (length s) refl ∙ sym (append-nil f);
      }

  both-good : Stretch s 0 → Stretch f 0 → good_stretch (s ++ f) ≡ true
  both-good g h =
      let end : length s + length f ≡ length (s ++ f) = sym (length-append s f) in
      let place : length s + 0 ≡ 0 + length s = omega arith in
      judged (s ++ f) (length (s ++ f)) 0 (omega arith)
      (stretch_then front (subst (Stretch (s ++ f)) place (stretch_then back (done end) h)) g)

-- ---- and their arguments

moved_none : (a : Argument) → moved 0 a ≡ a
moved_none (Va.Octets start len) = ap (λ (n : ℕ). Va.Octets n len) (zero-add start)
moved_none (Va.String start len) = ap (λ (n : ℕ). Va.String n len) (zero-add start)
moved_none (Va.Signed z) = refl
moved_none (Va.Unsigned n) = refl
moved_none Va.Null = refl
moved_none (Va.Double d) = refl
moved_none (Va.DoubleNan n) = refl
moved_none (Va.Float d) = refl
moved_none (Va.FloatNan n) = refl
moved_none (Va.Bool b) = refl
moved_none Va.Object = refl
moved_none Va.Array = refl
moved_none (Va.Refused n) = refl

all_moved_none : (l : List Argument) → map (moved 0) l ≡ l
all_moved_none [] = refl
all_moved_none (a ∷ l) = rw (moved_none a, all_moved_none l)

both_listed : (s f : List ℕ) → Stretch s 0 → Stretch f 0 →
    arguments_at (s ++ f) 0 ≡ arguments_at s 0 ++ map (moved (length s)) (arguments_at f 0)
both_listed s f g h =
    lists_whole (lists_then (lists_stretch s g) (lists_stretch f h)) (record { within = omega arith; is = refl })
    ∙ ap (λ (l : List Argument). l ++ map (moved (0 + length s)) (arguments_at f 0)) (all_moved_none (arguments_at s 0))
    ∙ ap (λ (n : ℕ). arguments_at s 0 ++ map (moved n) (arguments_at f 0)) (zero-add (length s))

-- a stretch of one field
module _ (f : List ℕ) {v st ln next : ℕ} (e : field_at f 0 ≡ some_field 2 2 v st ln next) (whole : next ≡ length f) where
  one-good : (any_type_of (argument_in f st ln) ≡ 0 → ⊥) → Stretch f 0
  one-good b = more e b (done whole)

  one-listed : arguments_at f 0 ≡ argument_in f st ln ∷ []
  one-listed =
      let inside = field_inside f 0 e in
      let n : length f ≡ suc (length f - 1) = omega arith in
      ap (λ (m : ℕ). arguments_from m f 0) n
      ∙ args_found (length f - 1) f 0 (next_finds f 0 e)
      ∙ ap (λ (l : List Argument). argument_in f st ln ∷ l)
      (args_none (length f - 1) f next (next_end f next (omega arith)))

-- ---- a scalar behind a good stretch

-- a scalar that can be written is an Any of type 1
writable_type : (a : Argument) (src : List ℕ) (p : ℕ) → writable a src ≡ true → any_type_of (placed p a) ≡ 1
writable_type (Va.Octets start len) src p e = refl
writable_type (Va.String start len) src p e = refl
writable_type (Va.Signed z) src p e = refl
writable_type (Va.Unsigned n) src p e = refl
writable_type Va.Null src p e = refl
writable_type (Va.Double d) src p e = refl
writable_type (Va.DoubleNan n) src p e = refl
writable_type (Va.Float d) src p e = refl
writable_type (Va.FloatNan n) src p e = refl
writable_type (Va.Bool b) src p e = refl
writable_type Va.Object src p e = absurd (let z : ◌≡◌ {A = ℕ} 0 1 = cc in omega arith)
writable_type Va.Array src p e = absurd (let z : ◌≡◌ {A = ℕ} 0 1 = cc in omega arith)
writable_type (Va.Refused n) src p e = absurd (let z : ◌≡◌ {A = ℕ} 0 1 = cc in omega arith)

-- the place of its bytes moves with it, and so do they
moved_placed : (d p : ℕ) (a : Argument) → moved d (placed p a) ≡ placed (d + p) a
moved_placed d p (Va.Octets start len) = refl
moved_placed d p (Va.String start len) = refl
moved_placed d p (Va.Signed z) = refl
moved_placed d p (Va.Unsigned n) = refl
moved_placed d p Va.Null = refl
moved_placed d p (Va.Double x) = refl
moved_placed d p (Va.DoubleNan n) = refl
moved_placed d p (Va.Float x) = refl
moved_placed d p (Va.FloatNan n) = refl
moved_placed d p (Va.Bool b) = refl
moved_placed d p Va.Object = refl
moved_placed d p Va.Array = refl
moved_placed d p (Va.Refused n) = refl

module _ (s f : List ℕ) (p : ℕ) where
  bytes_behind : (len : ℕ) → take len (drop (length s + p) (s ++ f)) ≡ take len (drop p f)
  bytes_behind len = ap (take len) (sym (drop-drop p (length s) (s ++ f)) ∙ ap (drop p) (drop_at s f (length s) refl))

  bytes-moved : (a : Argument) → bytes_of (placed (length s + p) a) (s ++ f) ≡ bytes_of (placed p a) f
  bytes-moved (Va.Octets start len) = bytes_behind len
  bytes-moved (Va.String start len) = bytes_behind len
  bytes-moved (Va.Signed z) = refl
  bytes-moved (Va.Unsigned n) = refl
  bytes-moved Va.Null = refl
  bytes-moved (Va.Double x) = refl
  bytes-moved (Va.DoubleNan n) = refl
  bytes-moved (Va.Float x) = refl
  bytes-moved (Va.FloatNan n) = refl
  bytes-moved (Va.Bool b) = refl
  bytes-moved Va.Object = refl
  bytes-moved Va.Array = refl
  bytes-moved (Va.Refused n) = refl

pub append_reads : AppendReads
append_reads a src s sized good short stretch =
    let t = type_of a in
    let value = value_field a src in
    let any = any_bytes t value in
    let f = arg_field a src in
    let whole : Stands f 0 f [] = record { within = omega arith; there = sym (append-nil f) } in
    let k = stands_inside 2 any whole in
    let field = bytes_reads 2 0 f [] (omega arith) (omega arith) any (omega (arith, stands_length k)) whole in
    let end : 0 + length f ≡ length f = omega arith in
    let inner = scalar_stands t value k in
    let r = scalar_back short src a sized good inner in
    let is = any_back t value k (omega (arith, stands_length inner)) ∙ r.is in
    let g = stretch_of s stretch in
    let h = one-good f field end (λ z. omega (arith, ap any_type_of is, writable_type a src r.place good, z)) in
    record {
      good = both-good s f g h;
      place = length s + r.place;
      arguments =
          both_listed s f g h
          ∙ ap (λ (l : List Argument). arguments_at s 0 ++ map (moved (length s)) l)
          (one-listed f field end ∙ ap (λ (x : Argument). x ∷ []) is)
          ∙ ap (λ (x : Argument). arguments_at s 0 ++ (x ∷ [])) (moved_placed (length s) r.place a);
      bytes = bytes-moved s f r.place a ∙ r.bytes;
    }

-- ---- in the buffer

module _ (a : Argument) (src buf : List ℕ) (at : ℕ) where
  abbrev f : List ℕ
  f = arg_field a src

  pub not_refused : append_reason a src (length buf) at ≡ 0 → (writable a src ≡ true) × (at + length f ≤ length buf)
  unfolding append_reason
  not_refused = go (writable a src) (leb (at + length f) (length buf)) refl
    where
      go : (w b : Bool) → leb (at + length f) (length buf) ≡ b → ◌≡◌ {A = ℕ} (cond w (cond b 0 3) 6) 0 →
          (w ≡ true) × (at + length f ≤ length buf)
      go true true e h = (refl, leb-true (at + length f) (length buf) e)
      go true false e h = absurd (omega arith)
      go false b e h = absurd (omega arith)

  -- cut off behind the stretch: what stood there, and the field
  pub cut_is : append_reason a src (length buf) at ≡ 0 →
      take (appended_of a src (length buf) at).len (left_by a src buf at) ≡ take at buf ++ f
  unfolding appended_of left_by
  cut_is e =
      let w = not_refused e in
      let room = w.1 in
      let n : length (take at buf ++ f) ≡ at + length f = omega
      (arith, length-append (take at buf) f, length-take-le at buf (omega arith)) in
      rw (e, w.0, le-leb (at + length f) (length buf) room)
      (take_at (take at buf ++ f) (drop (at + length f) buf) (at + length f) n)

pub appended_reads : AppendedReads
appended_reads a src buf at sized small good e =
    let w = not_refused a src buf at e in
    subst (Appended a src (take at buf)) (sym (cut_is a src buf at e))
    (append_reads a src (take at buf) sized w.0 (omega arith) good)

-- ---- every bit pattern

pub every_bits : EveryBits
every_bits src n = (
  λ h.
      both P (nan_bits binary64 n) (Va.DoubleNan n) (Va.Double (of_bits binary64 n)) (λ e. (h, e))
      (λ e. (of_bits-fits binary64 n, ap not (sym (nan_bits_is binary64 n) ∙ e))),
  λ h.
      both P (nan_bits binary32 n) (Va.FloatNan n) (Va.Float (of_bits binary32 n)) (λ e. (h, e))
      (λ e. (of_bits-fits binary32 n, ap not (sym (nan_bits_is binary32 n) ∙ e))),
)
  where
    P : Argument → Type 0
    P a = Sized a × (writable a src ≡ true)
