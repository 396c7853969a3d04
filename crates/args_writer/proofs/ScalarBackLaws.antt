-- A scalar that is written reads back as itself, wherever its Any stands. Assumes nothing.
use Rattle.prelude.proofs.Basics.{ℕ, ◌+◌, ◌^◌, ◌<◌, arith, mod-eq_of_lt, Bool, true, false, not, cond, ◌≡◌, refl, sym}
use Rattle.prelude.proofs.Basics.{ap, subst, ◌∙◌, List, [], length, get_or, take, drop, length-drop, length-take-le, T}
use Rattle.prelude.proofs.Basics.{eqb, leb, leb-true, not-true, yes, no as without}
use lib.Ieee.{Float, Format, binary32, binary64, fits, is_nan, nan_bits, of_bits, to_bits}
use lib.Ieee.Bits.{of_bits-to_bits, to_bits-lt, nan_bits_is}
use Rattle.varint.proofs.TailLaws.{stands_bytes}
use Rattle.scalar.specs.Argument.{carried, double_of, float_of, signed_of}
use Rattle.scalar.specs.declared.argument.Argument.TheVariants as Va
use Rattle.scalar.proofs.ZigzagLaws.{unzigzag_zigzag}
use Rattle.layout.specs.Table.{any, bytes}
use Rattle.layout.specs.Row.{row_for}
use Rattle.layout.specs.Fields.{has_required}
use Rattle.layout.specs.Part.{embedded, count_of, start_of, len_of, low32}
use Rattle.layout.specs.Merged.{one_part, parts_in}
use Rattle.layout.specs.MergedRules.{holds_bytes}
use Rattle.layout.specs.declared.part.Part.{Part}
use Rattle.layout.proofs.MergedLaws.{one_part_lem}
use Rattle.layout.proofs.FieldsLaws.{Listing}
use Rattle.args.specs.Value.{bytes_of as bytes_taken, bytes_in, of_type, scalar_of, scalar_in, of_any_type, any_of}
use Rattle.args.specs.Value.{scalar_parts}
use Rattle.writer.proofs.FieldLaws.{reads_then, embedded_good, parts_embedded, parts_inner}
use Rattle.args_writer.proofs.Names.{Stands, stands_length, stands_next, type_of, zigzag, Argument, scalar}
use Rattle.args_writer.proofs.Names.{rows_of, no_slots, use_of, Use, Slots, argument_in, number_field, bytes_field}
use Rattle.args_writer.proofs.Names.{fixed_field, Reads, with_number, with_bytes, reads_number, reads_bytes}
use Rattle.args_writer.proofs.Names.{stands_inside, part_start, writable, value_field, scalar_bytes, any_bytes}
use Rattle.args_writer.proofs.Names.{Sized, placed}
use Rattle.args_writer.specs.Scalar.{bytes_of}
use Rattle.args_writer.proofs.FixedBackLaws.{with_fixed, reads_fixed}

-- ---- what the rows take

module _ (v : ℕ) where
  kept_any : (Use.Kept ≡ use_of (rows_of any) 1 0 1) × (Use.Kept ≡ use_of (rows_of any) 2 2 v)
  unfolding rows_of row_for
  kept_any = (refl, refl)

  kept_bytes : Use.Kept ≡ use_of (rows_of bytes) 1 2 v
  unfolding rows_of row_for
  kept_bytes = refl

  pub kept-value :
      (Use.Kept ≡ use_of (rows_of scalar) 2 0 v)
      × (Use.Kept ≡ use_of (rows_of scalar) 3 0 v)
      × (Use.Kept ≡ use_of (rows_of scalar) 5 2 v)
      × (Use.Kept ≡ use_of (rows_of scalar) 6 1 v)
      × (Use.Kept ≡ use_of (rows_of scalar) 7 5 v)
      × (Use.Kept ≡ use_of (rows_of scalar) 8 0 v)
      × (Use.Kept ≡ use_of (rows_of scalar) 9 2 v)
  unfolding rows_of row_for
  kept-value = (refl, refl, refl, refl, refl, refl, refl)

-- the listed types
abbrev pub Listed : ℕ → Type 0
Listed t = Use.Kept ≡ use_of (rows_of scalar) 1 0 t

pub listed : Listed 1 × Listed 2 × Listed 3 × Listed 4 × Listed 5 × Listed 6 × Listed 7 × Listed 8
unfolding rows_of row_for
listed = (refl, refl, refl, refl, refl, refl, refl, refl)

-- ---- the Any, and the Scalar in it

-- where the Scalar stands in its Any
abbrev pub scalar_place : ℕ → List ℕ → ℕ
scalar_place at content = part_start 2 (at + length (number_field 1 1)) (length content)

any_needed : (at p n : ℕ) → true ≡ has_required (rows_of any) (with_bytes 2 n p (with_number 1 1 at no_slots)).count
unfolding rows_of has_required
any_needed at p n = refl

any_taken : (s : List ℕ) (ps : List Part) (at p n : ℕ) →
    scalar_in s ps ≡ any_of s ps (with_bytes 2 n p (with_number 1 1 at no_slots))
unfolding any_of of_any_type
any_taken s ps at p n = refl

-- the fields that hold a message
holds_scalar : holds_bytes (rows_of any) 2 ≡ true
unfolding rows_of row_for
holds_scalar = refl

pub holds_bytes_lem : (holds_bytes (rows_of scalar) 5 ≡ true) × (holds_bytes (rows_of scalar) 9 ≡ true)
unfolding rows_of row_for
holds_bytes_lem = (refl, refl)

module _ {s q : List ℕ} {at : ℕ} (t : ℕ) (value : List ℕ) (k : Stands s at (any_bytes t value) q) where
  abbrev content : List ℕ
  content = scalar_bytes t value

  pub scalar_stands : Stands s (scalar_place at content) content q
  unfolding any_bytes
  scalar_stands = stands_inside 2 content (stands_next (number_field 1 1) (bytes_field 2 content) k)

  pub any_listed : length content < 2 ^ 64 →
      embedded (rows_of any) s at (length (any_bytes t value))
      ≡ with_bytes 2 (length content) (at + length (number_field 1 1)) (with_number 1 1 at no_slots)
  unfolding any_bytes
  any_listed short =
      embedded_good
      (reads_then (reads_number (rows_of any) 1 1 (kept_any 1).0 (omega arith) (omega arith) (omega arith))
      (reads_bytes (rows_of any) 2 content (kept_any (length content)).1 (omega arith) (omega arith) short))
      k (sym (any_needed at (at + length (number_field 1 1)) (length content)))

  pub scalar_once : length content < 2 ^ 64 →
      scalar_parts s at (length (any_bytes t value)) ≡ one_part (scalar_place at content) (length content)
  scalar_once short =
      parts_embedded (rows_of any) 2 holds_scalar refl refl s at (length (any_bytes t value)) (any_listed short)

  pub any_back : length content < 2 ^ 64 →
      argument_in s at (length (any_bytes t value)) ≡ scalar_in s (one_part (scalar_place at content) (length content))
  any_back short =
      ap (any_of s (scalar_parts s at (length (any_bytes t value)))) (any_listed short)
      ∙ sym (any_taken s (scalar_parts s at (length (any_bytes t value))) at (at + length (number_field 1 1))
      (length content))
      ∙ ap (scalar_in s) (scalar_once short)

-- ---- the value in the Scalar

-- behind the type the value is read
pub scalar_in_lem : {s q : List ℕ} {at t : ℕ} {value : List ℕ} {g : ℕ → Slots → Slots} → Listed t → t < 10 →
    Reads (rows_of scalar) value g →
    true ≡ has_required (rows_of scalar) (g (at + length (number_field 1 t)) (with_number 1 t at no_slots)).count →
    Stands s at (scalar_bytes t value) q →
    embedded (rows_of scalar) s at (length (scalar_bytes t value)) ≡ g (at + length (number_field 1 t))
    (with_number 1 t at no_slots)
unfolding scalar_bytes
scalar_in_lem {t = t} u few r h k =
    embedded_good (reads_then (reads_number (rows_of scalar) 1 t u (omega arith) (omega arith) (omega arith)) r) k
    (sym h)

-- only the type is required
pub scalar_needed : (count : List ℕ) → get_or count 1 0 ≡ 1 → true ≡ has_required (rows_of scalar) count
unfolding rows_of has_required
scalar_needed count e = sym (ap (λ (n : ℕ). cond (not (eqb n 0)) true false) e)

-- what each type takes of its Scalar
module _ (s : List ℕ) (ps : List Part) (at p v : ℕ) where
  sint-taken : signed_of v ≡ scalar_of s ps (with_number 2 v p (with_number 1 1 at no_slots))
  unfolding scalar_of of_type
  sint-taken = refl

  uint-taken : Va.Unsigned v ≡ scalar_of s ps (with_number 3 v p (with_number 1 2 at no_slots))
  unfolding scalar_of of_type
  uint-taken = refl

  null-taken : Va.Null ≡ scalar_of s ps (with_number 1 3 at no_slots)
  unfolding scalar_of of_type
  null-taken = refl

  octets-taken : bytes_in true s (parts_in 5 s ps) ≡ scalar_of s ps (with_bytes 5 v p (with_number 1 4 at no_slots))
  unfolding scalar_of of_type
  octets-taken = refl

  double-taken : double_of v ≡ scalar_of s ps (with_fixed 6 1 8 v p (with_number 1 5 at no_slots))
  unfolding scalar_of of_type
  double-taken = refl

  float-taken : float_of (low32 v) ≡ scalar_of s ps (with_fixed 7 5 4 v p (with_number 1 6 at no_slots))
  unfolding scalar_of of_type
  float-taken = refl

  bool-taken : Va.Bool (not (eqb v 0)) ≡ scalar_of s ps (with_number 8 v p (with_number 1 7 at no_slots))
  unfolding scalar_of of_type
  bool-taken = refl

  string-taken : bytes_in false s (parts_in 9 s ps) ≡ scalar_of s ps (with_bytes 9 v p (with_number 1 8 at no_slots))
  unfolding scalar_of of_type
  string-taken = refl

-- ---- doubles and floats

module _ (f : Format) (raw : ℕ → Argument) (number : Float → Argument) where
  number-kept : (d : Float) → T (fits f d) → not (is_nan d) ≡ true → carried f raw number (to_bits f d) ≡ number d
  number-kept d h e =
      let back = of_bits-to_bits f d h in
      sym (without (raw (to_bits f d)) (number (of_bits f (to_bits f d)))
      (nan_bits_is f (to_bits f d) ∙ ap is_nan back ∙ not-true _ e))
      ∙ ap number back

  raw-kept : (n : ℕ) → nan_bits f n ≡ true → carried f raw number n ≡ raw n
  raw-kept n e = sym (yes (raw n) (number (of_bits f n)) e)

-- ---- bytes

bytes_needed : (at n : ℕ) → true ≡ has_required (rows_of bytes) (with_bytes 1 n at no_slots).count
unfolding rows_of has_required
bytes_needed at n = refl

abbrev bytes_case : Bool → ℕ → ℕ → Argument
bytes_case octets p n = cond octets (Va.Octets p n) (Va.String p n)

bytes_back : {s q : List ℕ} {at : ℕ} (octets : Bool) (bs : List ℕ) → length bs < 2 ^ 64 →
    Stands s at (bytes_field 1 bs) q →
    bytes_in octets s (one_part at (length (bytes_field 1 bs)))
    ≡ bytes_case octets (part_start 1 at (length bs)) (length bs)
bytes_back {s} {q} {at} octets bs short k =
    ap (bytes_taken octets)
    (one_part_lem (rows_of bytes) s (record { start = at; len = length (bytes_field 1 bs) })
    ∙ embedded_good (reads_bytes (rows_of bytes) 1 bs (kept_bytes (length bs)) (omega arith) (omega arith) short) k
    (sym (bytes_needed at (length bs))))

-- ---- every scalar

-- r is the scalar a, with the bytes that it names in src
pub record Back (a : Argument) (src s : List ℕ) (r : Argument) : Type 0 where
  pub place : ℕ
  pub is : r ≡ placed place a
  pub bytes : bytes_of (placed place a) s ≡ bytes_of a src

-- the Scalar of type t with this value, where it stands
abbrev Taken : List ℕ → ℕ → ℕ → List ℕ → Argument
Taken s at t value = scalar_in s (one_part at (length (scalar_bytes t value)))

-- it is read by its type and its value
value_back : {s q : List ℕ} {at t : ℕ} {value : List ℕ} {g : ℕ → Slots → Slots} {r : Argument} → Listed t → t < 10 →
    Reads (rows_of scalar) value g →
    get_or (g (at + length (number_field 1 t)) (with_number 1 t at no_slots)).count 1 0 ≡ 1 →
    r
    ≡ scalar_of s (one_part at (length (scalar_bytes t value))) (g (at + length (number_field 1 t))
    (with_number 1 t at no_slots)) →
    Stands s at (scalar_bytes t value) q → Taken s at t value ≡ r
value_back {s} {at = at} {t = t} {value = value} u low reads one taken k =
    let n = length (scalar_bytes t value) in
    ap (scalar_of s (one_part at n))
    (one_part_lem (rows_of scalar) s (record { start = at; len = n }) ∙ scalar_in_lem u low reads (scalar_needed _ one) k)
    ∙ sym taken

-- octets and string: a type whose value is a message with bytes, in the field num
pub record Carries (t num : ℕ) : Type 0 where
  pub listed : Listed t
  pub low : t < 10
  pub some : 0 < num
  pub few : num < 10
  pub kept : (v : ℕ) → Use.Kept ≡ use_of (rows_of scalar) num 2 v
  pub holds : holds_bytes (rows_of scalar) num ≡ true
  pub typed : (at p n : ℕ) → get_or (with_bytes num n p (with_number 1 t at no_slots)).count 1 0 ≡ 1
  pub once : (at p n : ℕ) → count_of (with_bytes num n p (with_number 1 t at no_slots)) num ≡ 1
  pub stands : (at p n : ℕ) →
      one_part (start_of (with_bytes num n p (with_number 1 t at no_slots)) num)
      (len_of (with_bytes num n p (with_number 1 t at no_slots)) num)
      ≡ one_part (part_start num p n) n

pub octets_carries : Carries 4 5
octets_carries =
    record {
      listed = listed.3;
      low = omega arith;
      some = omega arith;
      few = omega arith;
      kept = λ v. (kept-value v).2;
      holds = holds_bytes_lem.0;
      typed = λ at p n. refl;
      once = λ at p n. refl;
      stands = λ at p n. refl;
    }

pub string_carries : Carries 8 9
string_carries =
    record {
      listed = listed.7;
      low = omega arith;
      some = omega arith;
      few = omega arith;
      kept = λ v. (kept-value v).6;
      holds = holds_bytes_lem.1;
      typed = λ at p n. refl;
      once = λ at p n. refl;
      stands = λ at p n. refl;
    }

-- where the message with the bytes stands, and the bytes in it
abbrev pub inner_place : ℕ → ℕ → ℕ → List ℕ → ℕ
inner_place at t num bs = part_start num (at + length (number_field 1 t)) (length (bytes_field 1 bs))

abbrev bytes_place : ℕ → ℕ → ℕ → List ℕ → ℕ
bytes_place at t num bs = part_start 1 (inner_place at t num bs) (length bs)

module _ {s q : List ℕ} {at : ℕ} (t num : ℕ) (bs : List ℕ)
    (k : Stands s at (scalar_bytes t (bytes_field num (bytes_field 1 bs))) q) where
  pub inner_stands : Stands s (inner_place at t num bs) (bytes_field 1 bs) q
  unfolding scalar_bytes
  inner_stands = stands_inside num (bytes_field 1 bs)
      (stands_next (number_field 1 t) (bytes_field num (bytes_field 1 bs)) k)

  bytes-stand : Stands s (bytes_place at t num bs) bs q
  bytes-stand = stands_inside 1 bs inner_stands

  -- the Scalar in its one part
  abbrev pub only_part : List Part
  only_part = one_part at (length (scalar_bytes t (bytes_field num (bytes_field 1 bs))))

  module _ (c : Carries t num) (small : length s < 2 ^ 64) where
    pub inner_reads : Reads (rows_of scalar) (bytes_field num (bytes_field 1 bs))
        (with_bytes num (length (bytes_field 1 bs)))
    inner_reads =
        reads_bytes (rows_of scalar) num (bytes_field 1 bs) (c.kept (length (bytes_field 1 bs))) c.some c.few
        (omega (arith, stands_length inner_stands))

    -- and the message with the bytes in its own
    pub inner_once : parts_in num s only_part ≡ one_part (inner_place at t num bs) (length (bytes_field 1 bs))
    inner_once =
        let n = length (bytes_field 1 bs) in
        let p = at + length (number_field 1 t) in
        parts_inner (rows_of scalar) num c.holds refl (c.once at p n) s at
        (length (scalar_bytes t (bytes_field num (bytes_field 1 bs))))
        (scalar_in_lem c.listed c.low inner_reads (scalar_needed _ (c.typed at p n)) k)
        ∙ c.stands at p n

    part-back : (octets : Bool) →
        bytes_in octets s (parts_in num s only_part)
        ≡ scalar_of s only_part (with_bytes num (length (bytes_field 1 bs)) (at + length (number_field 1 t))
        (with_number 1 t at no_slots)) →
        Taken s at t (bytes_field num (bytes_field 1 bs)) ≡ bytes_case octets (bytes_place at t num bs) (length bs)
    part-back octets taken =
        value_back c.listed c.low inner_reads
        (c.typed at (at + length (number_field 1 t)) (length (bytes_field 1 bs))) taken k
        ∙ ap (bytes_in octets s) inner_once
        ∙ bytes_back octets bs (omega (arith, stands_length bytes-stand)) inner_stands

-- a bool is written as 0 or 1
pub bit_small : (b : Bool) → cond b 1 0 < 2 ^ 64
bit_small true = omega arith
bit_small false = omega arith

bit_kept : (b : Bool) → not (eqb (cond b 1 0) 0) ≡ b
bit_kept true = refl
bit_kept false = refl

named_long : (start len : ℕ) (src : List ℕ) → leb (start + len) (length src) ≡ true →
    length (take len (drop start src)) ≡ len
named_long start len src e =
    let h = leb-true (start + len) (length src) e in
    length-take-le len (drop start src) (omega (arith, length-drop start src))

pub no_value : Reads (rows_of scalar) [] (λ at x. x)
no_value =
    record {
      on = λ s from at q x k l.
          let e : at ≡ at + 0 = omega arith in
          subst (λ (p : ℕ). Listing (rows_of scalar) s from p x) e l;
    }

-- a value that is no bytes
plain : {a r : Argument} {src s : List ℕ} → placed 0 a ≡ a → bytes_of a s ≡ bytes_of a src → r ≡ a → Back a src s r
plain {a} {r} {src} {s} e f g = record { place = 0; is = g ∙ sym e; bytes = ap (λ (b : Argument). bytes_of b s) e ∙ f }

module _ {s q : List ℕ} {at : ℕ} (small : length s < 2 ^ 64) (src : List ℕ) where
  double-back : (n : ℕ) → n < 2 ^ 64 → Stands s at (scalar_bytes 5 (fixed_field 6 1 8 n)) q →
      Taken s at 5 (fixed_field 6 1 8 n) ≡ double_of n
  double-back n h =
      value_back listed.4 (omega arith)
      (reads_fixed (rows_of scalar) 6 1 8 n (λ s p. refl) (kept-value n).3 (omega arith) (omega arith) (omega arith)
      (λ e. omega arith) h)
      refl (double-taken s _ at (at + length (number_field 1 5)) n)

  float_back : (n : ℕ) → n < 2 ^ 32 → Stands s at (scalar_bytes 6 (fixed_field 7 5 4 n)) q →
      Taken s at 6 (fixed_field 7 5 4 n) ≡ float_of n
  float_back n h k =
      value_back listed.5 (omega arith)
      (reads_fixed (rows_of scalar) 7 5 4 n (λ s p. refl) (kept-value n).4 (omega arith) (omega arith) (omega arith)
      (λ e. omega arith) h)
      refl (float-taken s _ at (at + length (number_field 1 6)) n) k
      ∙ ap float_of (mod-eq_of_lt h)

  -- octets and string, whose bytes stand in a message of their own
  named_back : (t num start len : ℕ) (octets : Bool) {a : Argument} → Carries t num →
      ((ps : List Part) (n : ℕ) → bytes_in octets s (parts_in num s ps)
      ≡ scalar_of s ps (with_bytes num n (at + length (number_field 1 t)) (with_number 1 t at no_slots))) →
      ((p : ℕ) → bytes_case octets p len ≡ placed p a) →
      ((p : ℕ) → bytes_of (placed p a) s ≡ take len (drop p s)) → bytes_of a src ≡ take len (drop start src) →
      leb (start + len) (length src) ≡ true →
      Stands s at (scalar_bytes t (bytes_field num (bytes_field 1 (take len (drop start src))))) q →
      Back a src s (Taken s at t (bytes_field num (bytes_field 1 (take len (drop start src)))))
  named_back t num start len octets c taken is bytes own e k =
      let bs = take len (drop start src) in
      let n = named_long start len src e in
      let p = bytes_place at t num bs in
      record {
        place = p;
        is =
            part-back t num bs k c small octets (taken (only_part t num bs k) (length (bytes_field 1 bs)))
            ∙ ap (bytes_case octets p) n ∙ is p;
        bytes =
            bytes p ∙ ap (λ (m : ℕ). take m (drop p s)) (sym n) ∙ stands_bytes (bytes-stand t num bs k) ∙ sym own;
      }

  pub scalar_back : (a : Argument) → Sized a → writable a src ≡ true →
      Stands s at (scalar_bytes (type_of a) (value_field a src)) q →
      Back a src s (Taken s at (type_of a) (value_field a src))
  scalar_back (Va.Signed z) h e k =
      plain refl refl
      (value_back listed.0 (omega arith)
      (reads_number (rows_of scalar) 2 (zigzag z) (kept-value (zigzag z)).0 (omega arith) (omega arith) h) refl
      (sint-taken s _ at (at + length (number_field 1 1)) (zigzag z)) k
      ∙ ap Va.Signed (unzigzag_zigzag z))
  scalar_back (Va.Unsigned n) h e k =
      plain refl refl
      (value_back listed.1 (omega arith)
      (reads_number (rows_of scalar) 3 n (kept-value n).1 (omega arith) (omega arith) h) refl
      (uint-taken s _ at (at + length (number_field 1 2)) n) k)
  scalar_back Va.Null h e k =
      plain refl refl (value_back listed.2 (omega arith) no_value refl (null-taken s _ at 0 0) k)
  scalar_back (Va.Octets start len) h e k =
      named_back 4 5 start len true octets_carries
      (λ ps n. octets-taken s ps at (at + length (number_field 1 4)) n) (λ p. refl) (λ p. refl) refl e k
  scalar_back (Va.Double d) h e k =
      plain refl refl (double-back (to_bits binary64 d) (to_bits-lt binary64 d h) k
      ∙ number-kept binary64 Va.DoubleNan Va.Double d h e)
  scalar_back (Va.DoubleNan n) h e k =
      plain refl refl (double-back n h k ∙ raw-kept binary64 Va.DoubleNan Va.Double n e)
  scalar_back (Va.Float d) h e k =
      plain refl refl (float_back (to_bits binary32 d) (to_bits-lt binary32 d h) k
      ∙ number-kept binary32 Va.FloatNan Va.Float d h e)
  scalar_back (Va.FloatNan n) h e k = plain refl refl (float_back n h k ∙ raw-kept binary32 Va.FloatNan Va.Float n e)
  scalar_back (Va.Bool b) h e k =
      plain refl refl
      (value_back listed.6 (omega arith)
      (reads_number (rows_of scalar) 8 (cond b 1 0) (kept-value (cond b 1 0)).5 (omega arith) (omega arith)
      (bit_small b))
      refl (bool-taken s _ at (at + length (number_field 1 7)) (cond b 1 0)) k
      ∙ ap Va.Bool (bit_kept b))
  scalar_back (Va.String start len) h e k =
      named_back 8 9 start len false string_carries
      (λ ps n. string-taken s ps at (at + length (number_field 1 8)) n) (λ p. refl) (λ p. refl) refl e k
  scalar_back Va.Object h e k = absurd (let z : ◌≡◌ {A = ℕ} 0 1 = cc in omega arith)
  scalar_back Va.Array h e k = absurd (let z : ◌≡◌ {A = ℕ} 0 1 = cc in omega arith)
  scalar_back (Va.Refused n) h e k = absurd (let z : ◌≡◌ {A = ℕ} 0 1 = cc in omega arith)
