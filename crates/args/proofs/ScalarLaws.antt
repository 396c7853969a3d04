-- A Scalar and an Any of one field or two, by its type and the tag of its value: what the rows make of it, for each
-- type. Assumes nothing.
use Rattle.prelude.proofs.Basics.{ℕ, ◌+◌, ◌*◌, ◌/◌, ◌%◌, ◌≤◌, ◌<◌, arith, Bool, true, false, not, ◌≡◌}
use Rattle.prelude.proofs.Basics.{refl, sym, ap, ◌∙◌, List, [], ◌++◌, length, take, take-length, eqb}
use Rattle.std.specs.Prelude.{Some}
use Rattle.scalar.specs.declared.argument.Argument.TheVariants as Va
use Rattle.args.proofs.Names.{signed_of, double_of, float_of, Argument, any, scalar, rows_of, row_for, has_required}
use Rattle.args.proofs.Names.{no_slots, use_of, noted, checked, Use, embedded, count_of, value_of, low32, one_part}
use Rattle.args.proofs.Names.{parts_in}
use Rattle.args.proofs.Names.{Part, Slots, one_part_lem, present, bytes_in, of_type, scalar_of}
use Rattle.args.proofs.Names.{scalar_in, of_any_type, any_of, scalar_parts, argument_in, Pair}
use Rattle.args.specs.private.Pair.{lone_in, pair_in}
use Rattle.args.proofs.ValueLaws.{scalar_good}
use Rattle.args.proofs.PairLaws.{lone_kept, pair_kept, pair_bytes, pair_parts}

-- a Scalar in one part
pub scalar_one : (s : List ℕ) (at n : ℕ) → scalar_of s (one_part at n) (embedded (rows_of scalar) s at n) ≡ scalar_in s
    (one_part at n)
scalar_one s at n = ap (scalar_of s (one_part at n)) (sym (one_part_lem (rows_of scalar) s (record { start = at; len = n })))

-- null has no value
pub null_read : (s : List ℕ) (at n : ℕ) → Some 3 ≡ lone_in s at n → Va.Null ≡ scalar_in s (one_part at n)
unfolding rows_of row_for has_required scalar_of of_type
null_read s at n p =
    ap (scalar_of s (one_part at n)) (lone_kept s at n (rows_of scalar) 3 p refl) ∙ scalar_one s at n

-- an object and an array are told by their type alone
pub object_read : (s : List ℕ) (at n : ℕ) → Some 2 ≡ lone_in s at n → Va.Object ≡ argument_in s at n
unfolding rows_of row_for has_required any_of of_any_type
object_read s at n p = ap (any_of s (scalar_parts s at n)) (lone_kept s at n (rows_of any) 2 p refl)

pub array_read : (s : List ℕ) (at n : ℕ) → Some 3 ≡ lone_in s at n → Va.Array ≡ argument_in s at n
unfolding rows_of row_for has_required any_of of_any_type
array_read s at n p = ap (any_of s (scalar_parts s at n)) (lone_kept s at n (rows_of any) 3 p refl)

-- what the long way answers of bytes that are lent anew
pub long_scalar_read : (s : List ℕ) (at n : ℕ) {a : Argument} → a ≡ scalar_in (take (length s) s) (one_part at n) →
    a ≡ scalar_in s (one_part at n)
long_scalar_read s at n e = e ∙ ap (λ (l : List ℕ). scalar_in l (one_part at n)) (take-length s)

pub long_argument_read : (s : List ℕ) (at n : ℕ) {a : Argument} → a ≡ argument_in (take (length s) s) at n →
    a ≡ argument_in s at n
long_argument_read s at n e = e ∙ ap (λ (l : List ℕ). argument_in l at n) (take-length s)

-- what a pair with octets, and one with a string, holds
abbrev held : ℕ → ℕ → ℕ → ℕ → ℕ → Slots
held type field at value start =
    checked (rows_of scalar) (noted Use.Kept (noted Use.Kept no_slots 1 type (at + 1) 1) field value start value)

octets_slots : (at value start : ℕ) →
    (true ≡ (held 4 5 at value start).good) × (4 ≡ low32 (value_of (held 4 5 at value start) 1))
    × (1 ≡ count_of (held 4 5 at value start) 5)
unfolding rows_of has_required
octets_slots at value start = (refl, refl, refl)

string_slots : (at value start : ℕ) →
    (true ≡ (held 8 9 at value start).good) × (8 ≡ low32 (value_of (held 8 9 at value start) 1))
    × (1 ≡ count_of (held 8 9 at value start) 9)
unfolding rows_of has_required
string_slots at value start = (refl, refl, refl)

-- of these types the bytes inside are the value
octets_typed : (s : List ℕ) (ps : List Part) (x : Slots) → count_of x 5 ≡ 1 →
    bytes_in true s (parts_in 5 s ps) ≡ of_type s ps x 4
unfolding of_type
octets_typed s ps x e = ap (λ (n : ℕ). present n (bytes_in true s (parts_in 5 s ps))) (sym e)

string_typed : (s : List ℕ) (ps : List Part) (x : Slots) → count_of x 9 ≡ 1 →
    bytes_in false s (parts_in 9 s ps) ≡ of_type s ps x 8
unfolding of_type
string_typed s ps x e = ap (λ (n : ℕ). present n (bytes_in false s (parts_in 9 s ps))) (sym e)

octets_there : (s : List ℕ) (ps : List Part) (at value start : ℕ) →
    bytes_in true s (parts_in 5 s ps) ≡ scalar_of s ps (held 4 5 at value start)
octets_there s ps at value start =
    let x = held 4 5 at value start in
    let h = octets_slots at value start in
    octets_typed s ps x (sym h.2) ∙ ap (of_type s ps x) h.1 ∙ scalar_good s ps x (sym h.0)

string_there : (s : List ℕ) (ps : List Part) (at value start : ℕ) →
    bytes_in false s (parts_in 9 s ps) ≡ scalar_of s ps (held 8 9 at value start)
string_there s ps at value start =
    let x = held 8 9 at value start in
    let h = string_slots at value start in
    string_typed s ps x (sym h.2) ∙ ap (of_type s ps x) h.1 ∙ scalar_good s ps x (sym h.0)

-- a scalar that is there
scalar_there : (s : List ℕ) (ps : List Part) (at value start : ℕ) →
    scalar_in s ps
    ≡ any_of s ps
    (checked (rows_of any) (noted Use.Kept (noted Use.Kept no_slots 1 1 (at + 1) 1) 2 value start value))
unfolding rows_of has_required any_of of_any_type
scalar_there s ps at value start = refl

-- the rows keep these fields
kept_octets : (value : ℕ) → (Use.Kept ≡ use_of (rows_of scalar) 1 0 4) × (Use.Kept ≡ use_of (rows_of scalar) 5 2 value)
unfolding rows_of row_for
kept_octets value = (refl, refl)

kept_string : (value : ℕ) → (Use.Kept ≡ use_of (rows_of scalar) 1 0 8) × (Use.Kept ≡ use_of (rows_of scalar) 9 2 value)
unfolding rows_of row_for
kept_string value = (refl, refl)

kept_scalar : (value : ℕ) → (Use.Kept ≡ use_of (rows_of any) 1 0 1) × (Use.Kept ≡ use_of (rows_of any) 2 2 value)
unfolding rows_of row_for
kept_scalar value = (refl, refl)

-- the two fields that the bytes hold
pub record Held (s : List ℕ) (at n : ℕ) (p : Pair) : Type 0 where
  pub is : pair_in s at n ≡ Some p

module _ {s : List ℕ} {at n : ℕ} {p : Pair} (h : Held s at n p) where
  -- the bytes lent anew are the same
  lent : (octets : Bool) → bytes_in octets (take (length s) s) (one_part p.start p.value) ≡ bytes_in octets s
      (one_part p.start p.value)
  lent octets = ap (λ (l : List ℕ). bytes_in octets l (one_part p.start p.value)) (take-length s)

  -- the part of a field with bytes
  pub inner_one : (kind key : ℕ) → p.key ≡ kind * 256 + key → 8 ≤ key → key < 128 → key % 8 ≡ 2 →
      parts_in (key / 8) s (one_part at n) ≡ one_part p.start p.value
  unfolding parts_in
  inner_one kind key k some short two =
      ap (λ (ps : List Part). ps ++ []) (pair_parts s at n h.is kind key k some short two)

  pub sint_read : p.key ≡ 1 * 256 + 16 → signed_of p.value ≡ scalar_in s (one_part at n)
  unfolding rows_of row_for has_required scalar_of of_type
  sint_read k =
      ap (scalar_of s (one_part at n))
      (pair_kept s at n h.is (rows_of scalar) 1 16 k (omega arith) refl refl)
      ∙ scalar_one s at n

  pub uint_read : p.key ≡ 2 * 256 + 24 → Va.Unsigned p.value ≡ scalar_in s (one_part at n)
  unfolding rows_of row_for has_required scalar_of of_type
  uint_read k =
      ap (scalar_of s (one_part at n))
      (pair_kept s at n h.is (rows_of scalar) 2 24 k (omega arith) refl refl)
      ∙ scalar_one s at n

  pub octets_read : p.key ≡ 4 * 256 + 42 → {a : Argument} →
      a ≡ bytes_in true (take (length s) s) (one_part p.start p.value) → a ≡ scalar_in s (one_part at n)
  octets_read k e =
      e
      ∙ lent true
      ∙ ap (bytes_in true s) (sym (inner_one 4 42 k (omega arith) (omega arith) refl))
      ∙ octets_there s (one_part at n) at p.value p.start
      ∙ ap (scalar_of s (one_part at n))
      (pair_bytes s at n h.is (rows_of scalar) 4 42 k (omega arith) (kept_octets p.value).0 (kept_octets p.value).1
      refl)
      ∙ scalar_one s at n

  pub double_read : p.key ≡ 5 * 256 + 49 → double_of p.value ≡ scalar_in s (one_part at n)
  unfolding rows_of row_for has_required scalar_of of_type
  double_read k =
      ap (scalar_of s (one_part at n))
      (pair_kept s at n h.is (rows_of scalar) 5 49 k (omega arith) refl refl)
      ∙ scalar_one s at n

  pub float_read : p.key ≡ 6 * 256 + 61 → float_of (low32 p.value) ≡ scalar_in s (one_part at n)
  unfolding rows_of row_for has_required scalar_of of_type
  float_read k =
      ap (scalar_of s (one_part at n))
      (pair_kept s at n h.is (rows_of scalar) 6 61 k (omega arith) refl refl)
      ∙ scalar_one s at n

  pub bool_read : p.key ≡ 7 * 256 + 64 → Va.Bool (not (eqb p.value 0)) ≡ scalar_in s (one_part at n)
  unfolding rows_of row_for has_required scalar_of of_type
  bool_read k =
      ap (scalar_of s (one_part at n))
      (pair_kept s at n h.is (rows_of scalar) 7 64 k (omega arith) refl refl)
      ∙ scalar_one s at n

  pub string_read : p.key ≡ 8 * 256 + 74 → {a : Argument} →
      a ≡ bytes_in false (take (length s) s) (one_part p.start p.value) → a ≡ scalar_in s (one_part at n)
  string_read k e =
      e
      ∙ lent false
      ∙ ap (bytes_in false s) (sym (inner_one 8 74 k (omega arith) (omega arith) refl))
      ∙ string_there s (one_part at n) at p.value p.start
      ∙ ap (scalar_of s (one_part at n))
      (pair_bytes s at n h.is (rows_of scalar) 8 74 k (omega arith) (kept_string p.value).0 (kept_string p.value).1
      refl)
      ∙ scalar_one s at n

  -- the scalar of an Any
  pub scalar_parted : p.key ≡ 1 * 256 + 18 → scalar_parts s at n ≡ one_part p.start p.value
  scalar_parted k = pair_parts s at n h.is 1 18 k (omega arith) (omega arith) refl

  pub scalar_read : p.key ≡ 1 * 256 + 18 → scalar_in s (one_part p.start p.value) ≡ argument_in s at n
  scalar_read k =
      ap (scalar_in s) (sym (scalar_parted k))
      ∙ scalar_there s (scalar_parts s at n) at p.value p.start
      ∙ ap (any_of s (scalar_parts s at n))
      (pair_bytes s at n h.is (rows_of any) 1 18 k (omega arith) (kept_scalar p.value).0 (kept_scalar p.value).1
      refl)
