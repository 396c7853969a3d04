-- An argument that is appended is not padded. Assumes nothing.
use Rattle.prelude.proofs.Basics.{ℕ, ◌+◌, ◌-◌, ◌*◌, ◌^◌, ◌<◌, arith, Bool, true, false, ◌||◌, cond, ◌≡◌, refl, sym, ap}
use Rattle.prelude.proofs.Basics.{ap₂, ◌∙◌, List, [], ◌++◌, append-nil, length, get_or, take, drop, or_false}
use lib.Ieee.{binary32, binary64, to_bits}
use lib.Ieee.Bits.{to_bits-lt}
use Rattle.scalar.specs.declared.argument.Argument.TheVariants as Va
use Rattle.wire.specs.Padded.{field_padded}
use Rattle.wire.proofs.PaddedLaws.{no_flag}
use Rattle.layout.specs.Padded.{padded_from, nothing_inside, parts_padded}
use Rattle.layout.specs.Merged.{one_part, parts_in}
use Rattle.layout.specs.declared.part.Part.{Part}
use Rattle.layout.proofs.MergedLaws.{one_part_lem}
use Rattle.args.specs.Value.{scalar_parts}
use Rattle.args.specs.Padded.{inside_args, inside_scalar, scalar_padded, inside_any, argument_padded}
use Rattle.writer.specs.RoundTrip.{has_args}
use Rattle.writer.specs.Padded.{stretch_padded}
use Rattle.writer.proofs.MarkLaws.{field_plain, own_only, Says, says_none, says_then, says_whole, says_part, one_field}
use Rattle.writer.proofs.MarkLaws.{says_stretch, says_args, says_number, says_bytes}
use Rattle.writer.proofs.PaddedLaws.{one_said, written_padded}
use Rattle.args_writer.proofs.Names.{varint_bytes, Stands, stands_length, stands_first, type_of, zigzag, Argument}
use Rattle.args_writer.proofs.Names.{as_fixed, value_at, scalar, rows_of, no_slots, Slots, field_inside, number_field}
use Rattle.args_writer.proofs.Names.{bytes_field, fixed_field, fixed_bytes, good_stretch, args_from, behind_tag, Reads}
use Rattle.args_writer.proofs.Names.{with_number, with_bytes, reads_number, stands_inside, stretch_of}
use Rattle.args_writer.proofs.Names.{writable, value_field, scalar_bytes, any_bytes, arg_field, Sized}
use Rattle.args_writer.specs.Padded.{AppendPadded, AppendedPadded, Made, empty, append, MadePlain, FramePlain}
use Rattle.args_writer.proofs.FixedBackLaws.{fixed_reads, with_fixed, reads_fixed}
use Rattle.args_writer.proofs.ScalarBackLaws.{Listed, listed, kept-value, scalar_stands, any_listed, scalar_once}
use Rattle.args_writer.proofs.ScalarBackLaws.{scalar_in_lem, scalar_needed, Carries, octets_carries, string_carries}
use Rattle.args_writer.proofs.ScalarBackLaws.{inner_place, inner_stands, only_part, inner_reads, inner_once}
use Rattle.args_writer.proofs.ScalarBackLaws.{bit_small, no_value}
use Rattle.args_writer.proofs.ReadsLaws.{append_reads, not_refused, cut_is}

-- ---- a field with a fixed value

-- of wire type 1 or 5, by the width
module _ (num wire k v : ℕ) (by-wire : (s : List ℕ) (p : ℕ) → as_fixed k s p ≡ value_at s wire p) (some : 0 < num)
    (few : num < 10) (low : wire < 6) (no_number : wire ≡ 0 → ⊥) (no_bytes : wire ≡ 2 → ⊥) (no-group : wire ≡ 3 → ⊥)
    (h : v < 256 ^ k) where
  fixed_plain : (at : ℕ) (s q : List ℕ) → Stands s at (fixed_field num wire k v) q → field_padded s at ≡ false
  unfolding fixed_field
  fixed_plain at s q st =
      let g = num * 8 + wire in
      field_plain g num wire at s (fixed_bytes k v ++ q) refl some few low
      (stands_first (varint_bytes g) (fixed_bytes k v) st)
      (no_flag s wire (behind_tag at g) no_number no_bytes)

  says-fixed : Says own_only (fixed_field num wire k v) false
  says-fixed =
      record {
        on = λ s at q m st l.
            let e = fixed_reads num wire k v at s q (by-wire s) some few low no-group h st in
            let ahead = field_inside s at e in
            (m - 1, omega arith, one_field nothing_inside s at m e l (fixed_plain at s q st) refl);
      }

-- ---- inside a Scalar

module _ (s : List ℕ) (ps : List Part) (at p v : ℕ) where
  -- only octets and a string have a message inside
  nothing-inside :
      (inside_scalar s ps (with_number 2 v p (with_number 1 1 at no_slots)) ≡ false)
      × (inside_scalar s ps (with_number 3 v p (with_number 1 2 at no_slots)) ≡ false)
      × (inside_scalar s ps (with_number 1 3 at no_slots) ≡ false)
      × (inside_scalar s ps (with_fixed 6 1 8 v p (with_number 1 5 at no_slots)) ≡ false)
      × (inside_scalar s ps (with_fixed 7 5 4 v p (with_number 1 6 at no_slots)) ≡ false)
      × (inside_scalar s ps (with_number 8 v p (with_number 1 7 at no_slots)) ≡ false)
  unfolding inside_scalar
  nothing-inside = (refl, refl, refl, refl, refl, refl)

  bytes_inside :
      (inside_scalar s ps (with_bytes 5 v p (with_number 1 4 at no_slots)) ≡ parts_padded s (parts_in 5 s ps))
      × (inside_scalar s ps (with_bytes 9 v p (with_number 1 8 at no_slots)) ≡ parts_padded s (parts_in 9 s ps))
  unfolding inside_scalar
  bytes_inside = (refl, refl)

-- the Scalar of type t with this value, in its one part
abbrev ScalarPlain : List ℕ → ℕ → ℕ → List ℕ → Type 0
ScalarPlain s at t value = scalar_padded s (one_part at (length (scalar_bytes t value))) ≡ false

-- a type and a value, neither padded, with nothing padded inside
scalar_plain : {s q : List ℕ} {at t : ℕ} {value : List ℕ} {g : ℕ → Slots → Slots} → Listed t → t < 10 →
    Reads (rows_of scalar) value g →
    get_or (g (at + length (number_field 1 t)) (with_number 1 t at no_slots)).count 1 0 ≡ 1 → Says own_only value false →
    inside_scalar s (one_part at (length (scalar_bytes t value))) (g (at + length (number_field 1 t))
    (with_number 1 t at no_slots))
    ≡ false →
    Stands s at (scalar_bytes t value) q → ScalarPlain s at t value
unfolding scalar_padded scalar_bytes
scalar_plain {s} {at = at} {t = t} {value = value} u low reads one says inside k =
    let n = length (scalar_bytes t value) in
    ap₂ ◌||◌
    (one_said s at n ∙ says_part (says_then (says_number 1 (omega arith) (omega arith) t (omega arith)) says) k)
    (ap (inside_scalar s (one_part at n))
    (one_part_lem (rows_of scalar) s (record { start = at; len = n }) ∙ scalar_in_lem u low reads (scalar_needed _ one) k)
    ∙ inside)

-- ---- every scalar

module _ {s q : List ℕ} {at : ℕ} (small : length s < 2 ^ 64) (src : List ℕ) where
  double-plain : (n : ℕ) → n < 2 ^ 64 → Stands s at (scalar_bytes 5 (fixed_field 6 1 8 n)) q →
      ScalarPlain s at 5 (fixed_field 6 1 8 n)
  double-plain n h =
      scalar_plain listed.4 (omega arith)
      (reads_fixed (rows_of scalar) 6 1 8 n (λ s p. refl) (kept-value n).3 (omega arith) (omega arith) (omega arith)
      (λ e. omega arith) h)
      refl
      (says-fixed 6 1 8 n (λ s p. refl) (omega arith) (omega arith) (omega arith) (λ e. omega arith) (λ e. omega arith)
      (λ e. omega arith) h)
      (nothing-inside s _ at (at + length (number_field 1 5)) n).3

  float_plain : (n : ℕ) → n < 2 ^ 32 → Stands s at (scalar_bytes 6 (fixed_field 7 5 4 n)) q →
      ScalarPlain s at 6 (fixed_field 7 5 4 n)
  float_plain n h =
      scalar_plain listed.5 (omega arith)
      (reads_fixed (rows_of scalar) 7 5 4 n (λ s p. refl) (kept-value n).4 (omega arith) (omega arith) (omega arith)
      (λ e. omega arith) h)
      refl
      (says-fixed 7 5 4 n (λ s p. refl) (omega arith) (omega arith) (omega arith) (λ e. omega arith) (λ e. omega arith)
      (λ e. omega arith) h)
      (nothing-inside s _ at (at + length (number_field 1 6)) n).4

  -- octets and string, whose bytes stand in a message of their own
  named-plain : (t num : ℕ) (bs : List ℕ) → Carries t num →
      ((ps : List Part) (n : ℕ) →
      inside_scalar s ps (with_bytes num n (at + length (number_field 1 t)) (with_number 1 t at no_slots))
      ≡ parts_padded s (parts_in num s ps)) →
      Stands s at (scalar_bytes t (bytes_field num (bytes_field 1 bs))) q →
      ScalarPlain s at t (bytes_field num (bytes_field 1 bs))
  named-plain t num bs c inside k =
      let inner = inner_stands t num bs k in
      let within = stands_inside 1 bs inner in
      let n = length (bytes_field 1 bs) in
      scalar_plain c.listed c.low (inner_reads t num bs k c small)
      (c.typed at (at + length (number_field 1 t)) n)
      (says_bytes num c.some c.few (bytes_field 1 bs) (omega (arith, stands_length inner)))
      (inside (only_part t num bs k) n
      ∙ ap (parts_padded s) (inner_once t num bs k c small)
      ∙ one_said s (inner_place at t num bs) n
      ∙ says_part (says_bytes 1 (omega arith) (omega arith) bs (omega (arith, stands_length within))) inner)
      k

  pub value_plain : (a : Argument) → Sized a → writable a src ≡ true →
      Stands s at (scalar_bytes (type_of a) (value_field a src)) q →
      ScalarPlain s at (type_of a) (value_field a src)
  value_plain (Va.Signed z) h e k =
      scalar_plain listed.0 (omega arith)
      (reads_number (rows_of scalar) 2 (zigzag z) (kept-value (zigzag z)).0 (omega arith) (omega arith) h) refl
      (says_number 2 (omega arith) (omega arith) (zigzag z) h)
      (nothing-inside s _ at (at + length (number_field 1 1)) (zigzag z)).0 k
  value_plain (Va.Unsigned n) h e k =
      scalar_plain listed.1 (omega arith)
      (reads_number (rows_of scalar) 3 n (kept-value n).1 (omega arith) (omega arith) h) refl
      (says_number 3 (omega arith) (omega arith) n h) (nothing-inside s _ at (at + length (number_field 1 2)) n).1 k
  value_plain Va.Null h e k =
      scalar_plain listed.2 (omega arith) no_value refl (says_none own_only) (nothing-inside s _ at 0 0).2 k
  value_plain (Va.Octets start len) h e k =
      named-plain 4 5 (take len (drop start src)) octets_carries
      (λ ps n. (bytes_inside s ps at (at + length (number_field 1 4)) n).0) k
  value_plain (Va.Double d) h e k = double-plain (to_bits binary64 d) (to_bits-lt binary64 d h) k
  value_plain (Va.DoubleNan n) h e k = double-plain n h k
  value_plain (Va.Float d) h e k = float_plain (to_bits binary32 d) (to_bits-lt binary32 d h) k
  value_plain (Va.FloatNan n) h e k = float_plain n h k
  value_plain (Va.Bool b) h e k =
      scalar_plain listed.6 (omega arith)
      (reads_number (rows_of scalar) 8 (cond b 1 0) (kept-value (cond b 1 0)).5 (omega arith) (omega arith)
      (bit_small b))
      refl (says_number 8 (omega arith) (omega arith) (cond b 1 0) (bit_small b))
      (nothing-inside s _ at (at + length (number_field 1 7)) (cond b 1 0)).5 k
  value_plain (Va.String start len) h e k =
      named-plain 8 9 (take len (drop start src)) string_carries
      (λ ps n. (bytes_inside s ps at (at + length (number_field 1 8)) n).1) k
  value_plain Va.Object h e k = absurd (let z : ◌≡◌ {A = ℕ} 0 1 = cc in omega arith)
  value_plain Va.Array h e k = absurd (let z : ◌≡◌ {A = ℕ} 0 1 = cc in omega arith)
  value_plain (Va.Refused n) h e k = absurd (let z : ◌≡◌ {A = ℕ} 0 1 = cc in omega arith)

-- ---- its Any, and the args field

any_inside : (s : List ℕ) (ps : List Part) (at p n : ℕ) →
    inside_any s ps (with_bytes 2 n p (with_number 1 1 at no_slots)) ≡ scalar_padded s ps
unfolding inside_any
any_inside s ps at p n = refl

any_plain : (a : Argument) (src : List ℕ) → Sized a → writable a src ≡ true →
    length (any_bytes (type_of a) (value_field a src)) < 2 ^ 64 →
    argument_padded (any_bytes (type_of a) (value_field a src)) 0 (length (any_bytes (type_of a) (value_field a src))) ≡ false
unfolding argument_padded any_bytes
any_plain a src sized good short =
    let t = type_of a in
    let value = value_field a src in
    let bs = any_bytes t value in
    let content = scalar_bytes t value in
    let k : Stands bs 0 bs [] = record { within = omega arith; there = sym (append-nil bs) } in
    let inner = scalar_stands t value k in
    let n : length content < 2 ^ 64 = omega (arith, stands_length inner) in
    ap₂ ◌||◌
    (says_part
    (says_then (says_number 1 (omega arith) (omega arith) 1 (omega arith))
    (says_bytes 2 (omega arith) (omega arith) content n))
    k)
    (ap (inside_any bs (scalar_parts bs 0 (length bs))) (any_listed t value k n)
    ∙ any_inside bs (scalar_parts bs 0 (length bs)) 0 (0 + length (number_field 1 1)) (length content)
    ∙ ap (scalar_padded bs) (scalar_once t value k n)
    ∙ value_plain short src a sized good inner)

-- a field that is appended
field_says : (a : Argument) (src : List ℕ) → Sized a → writable a src ≡ true → length (arg_field a src) < 2 ^ 64 →
    Says inside_args (arg_field a src) false
field_says a src sized good short =
    let f = arg_field a src in
    let any = any_bytes (type_of a) (value_field a src) in
    let whole : Stands f 0 f [] = record { within = omega arith; there = sym (append-nil f) } in
    let n : length any < 2 ^ 64 = omega (arith, stands_length (stands_inside 2 any whole)) in
    says_args any n (any_plain a src sized good n)

pub append_padded : AppendPadded
append_padded a src s sized good short stretch =
    says_whole
    (says_then (says_stretch s (stretch_of s stretch)) (field_says a src sized good short))
    (record { within = omega arith; is = refl })
    ∙ sym (or_false (stretch_padded s))

pub appended_padded : AppendedPadded
appended_padded a src buf at sized small good e =
    let w = not_refused a src buf at e in
    ap stretch_padded (cut_is a src buf at e)
    ∙ append_padded a src (take at buf) sized w.0 (omega (arith, w.1)) good

-- ---- made by appending alone

made_good : (s : List ℕ) → Made s → good_stretch s ≡ true
unfolding args_from
made_good s empty = refl
made_good s (append {s = s₀} m a src sized good short) =
    (append_reads a src s₀ sized good short (made_good s₀ m)).good

pub made_plain : MadePlain
unfolding padded_from
made_plain s empty = refl
made_plain s (append {s = s₀} m a src sized good short) =
    append_padded a src s₀ sized good short (made_good s₀ m) ∙ made_plain s₀ m

pub frame_plain : FramePlain
frame_plain d body args rest sized h m =
    written_padded d body args rest sized h
    ∙ ap (λ (b : Bool). cond (has_args d.kind) b false) (made_plain args m)
    ∙ either_way (has_args d.kind)
  where
    either_way : (b : Bool) → cond b false false ≡ false
    either_way true = refl
    either_way false = refl
