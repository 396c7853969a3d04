-- Arguments read in bytes and in a byte string that holds these bytes: the same, moved. Assumes nothing.
use Rattle.prelude.proofs.Basics.{ℕ, zero, suc, ◌+◌, ◌≤◌, ◌<◌, arith, Bool, true, false, not, cond, ◌≡◌, refl, sym}
use Rattle.prelude.proofs.Basics.{ap, ap₂, ◌∙◌, List, ◌∷◌, map, length, get_or, take, length-take-le, eqb, eq-eqb}
use Rattle.prelude.proofs.Basics.{eqb-false}
use Rattle.prelude.proofs.Basics.{eqb-true, less_or_not}
use lib.Ieee.{Format, binary32, binary64, nan_bits}
use Rattle.varint.proofs.TailLaws.{chosen_alike, Tail, tail_length, tail_stands, stands_length, stands_take}
use Rattle.scalar.specs.Argument.{carried}
use Rattle.scalar.specs.declared.argument.Argument.TheVariants as Va
use Rattle.wire.proofs.MovedLaws.{moved_field, field_moved}
use Rattle.layout.proofs.AlikeLaws.{alike_as, fields_alike}
use Rattle.layout.proofs.MergedPlaceLaws.{moved_parts, merged_alike, parts_moved, inner_moved}
use Rattle.layout.proofs.CutLaws.{within_later}
use Rattle.layout.specs.Merged.{parts_onto}
use Rattle.args.proofs.Names.{Stands, signed_of, double_of, float_of, Argument, field_at, PastField, Field}
use Rattle.args.proofs.Names.{field_past, any, scalar, bytes, rows_of, is_repeated, row_for, no_slots, bad_slots}
use Rattle.args.proofs.Names.{checked, fields_at, has_required, embedded, count_of, value_of, start_of, len_of, low32}
use Rattle.args.proofs.Names.{parts_of, parts_in, merged, Part, Slots, Alike, part_within, AllWithin, parts_by}
use Rattle.args.proofs.Names.{inner_within, bad, present, bytes_of, bytes_in, of_type, scalar_of, scalar_in}
use Rattle.args.proofs.Names.{of_any_type, any_of, scalar_parts, argument_in, arg_place, of_place, next_argument}
use Rattle.args.proofs.Names.{and_more}
use Rattle.args.proofs.Names.{arguments_from, moved, Sought, placed_at, found_argument, NextArgument}
use Rattle.std.specs.Prelude.{Option, Some, None, Ok, Err}
use Rattle.protocol.specs.declared.reason.Reason.{Reason}
use Rattle.args.proofs.PlaceLaws.{Seeking, starts, ends, no_field, advances, found, other_wire, other_number}
use Rattle.args.proofs.PlaceLaws.{next_end, next_placed}
use Rattle.args.proofs.ArgumentsLaws.{from_none, advances as next-advances}
use Rattle.std.specs.Prelude.{Option, Some, None}
use Rattle.wire.specs.Field.{some_field}

-- ---- embedded messages

alike_more : {rows : List (List ℕ)} {d n m : ℕ} {x y : Slots} → n ≤ m → Alike rows d n x y → Alike rows d m x y
alike_more h a =
    record {
      good = a.good;
      count = a.count;
      value = a.value;
      len = a.len;
      kept =
          record {
            starts = a.kept.starts;
            lens = a.kept.lens;
            inside = λ k. omega (arith, a.kept.inside k);
          };
      starts = a.starts;
      start = a.start;
    }

-- a message embedded in the bytes
pub embedded_alike : (rows : List (List ℕ)) {s : List ℕ} {d : ℕ} {t q : List ℕ} → Stands s d t q → (at n : ℕ) →
    at + n ≤ length t →
    Alike rows d (length t) (embedded rows t at n) (embedded rows s (d + at) n)
embedded_alike rows {s} {d} {t} {q} k at n h =
    let e : d + (at + n) ≡ d + at + n = omega arith in
    alike_as rows d (length t) (part_within rows t at n h)
    (ap (λ (m : ℕ). fields_at rows (take m s) (d + at)) e
    ∙ part_within rows s (d + at) n (omega (arith, stands_length k)))
    (alike_more (omega (arith, length-take-le (at + n) t h)) (fields_alike rows (stands_take k (at + n) h) at))

-- ---- one argument

-- a value that must be present, and then is moved
present_moved : (d count : ℕ) (a b : Argument) → ((count ≡ 0 → ⊥) → b ≡ moved d a) →
    present count b ≡ moved d (present count a)
present_moved d count a b h = go (eqb count 0) refl
  where
    go : (t : Bool) → eqb count 0 ≡ t → cond t bad b ≡ moved d (cond t bad a)
    go true e = refl
    go false e = h (eqb-false count 0 e)

-- the bytes of an octets or string message are required
one_needed : (count : List ℕ) → has_required (rows_of bytes) count ≡ true → get_or count 1 0 ≡ 0 → ⊥
unfolding rows_of has_required
one_needed count e z = let f = rw (eq-eqb (get_or count 1 0) 0 z) at e in let y : ◌≡◌ {A = ℕ} 0 1 = cc in omega arith

bytes_there : (s : List ℕ) (ps : List Part) → (merged (rows_of bytes) s ps).good ≡ true →
    count_of (merged (rows_of bytes) s ps) 1 ≡ 0 → ⊥
bytes_there s ps = go (parts_onto (rows_of bytes) s ps no_slots)
  where
    go : (x : Slots) → (checked (rows_of bytes) x).good ≡ true → count_of (checked (rows_of bytes) x) 1 ≡ 0 → ⊥
    go x = by (has_required (rows_of bytes) x.count) refl
      where
        by : (b : Bool) → has_required (rows_of bytes) x.count ≡ b → (cond b x bad_slots).good ≡ true →
            count_of (cond b x bad_slots) 1 ≡ 0 → ⊥
        by true e g z = one_needed x.count e z
        by false e g z = let y : ◌≡◌ {A = ℕ} 0 1 = cc in omega arith

-- no row of these is a repeated one
once_bytes : is_repeated (row_for (rows_of bytes) 1) ≡ false
unfolding rows_of row_for
once_bytes = refl

carried_moved : (d : ℕ) (f : Format) (n : ℕ) →
    (carried f Va.DoubleNan Va.Double n ≡ moved d (carried f Va.DoubleNan Va.Double n))
    × (carried f Va.FloatNan Va.Float n ≡ moved d (carried f Va.FloatNan Va.Float n))
carried_moved d f n = (chosen_alike (moved d) (nan_bits f n) refl refl, chosen_alike (moved d) (nan_bits f n) refl refl)

module _ {s : List ℕ} {d : ℕ} {t q : List ℕ} (k : Stands s d t q) where
  bytes_of_moved : (octets : Bool) (x y : Slots) → Alike (rows_of bytes) d (length t) x y →
      (x.good ≡ true → count_of x 1 ≡ 0 → ⊥) →
      bytes_of octets y ≡ moved d (bytes_of octets x)
  bytes_of_moved octets x y a h =
      ap (λ (b : Bool). cond b (cond octets (Va.Octets (start_of y 1) (len_of y 1)) (Va.String (start_of y 1) (len_of y 1)))
      bad) a.good
      ∙ go x.good refl
    where
      places : x.good ≡ true → (start_of y 1 ≡ d + start_of x 1) × (len_of y 1 ≡ len_of x 1)
      places g = (a.start 1 once_bytes (h g), ap (λ (l : List ℕ). get_or l 1 0) a.len)

      go : (b : Bool) → x.good ≡ b →
          cond b (cond octets (Va.Octets (start_of y 1) (len_of y 1)) (Va.String (start_of y 1) (len_of y 1))) bad
          ≡ moved d (cond b (cond octets (Va.Octets (start_of x 1) (len_of x 1)) (Va.String (start_of x 1) (len_of x 1)))
          bad)
      go true g = rw ((places g).0, (places g).1) (chosen_alike (moved d) octets refl refl)
      go false g = refl

  bytes-moved : (octets : Bool) (ps : List Part) → AllWithin (length t) ps →
      bytes_in octets s (moved_parts d ps) ≡ moved d (bytes_in octets t ps)
  bytes-moved octets ps w =
      bytes_of_moved octets (merged (rows_of bytes) t ps) (merged (rows_of bytes) s (moved_parts d ps))
      (merged_alike (rows_of bytes) k ps w) (bytes_there t ps)

  module _ (ps : List Part) (w : AllWithin (length t) ps) (x y : Slots) (a : Alike (rows_of scalar) d (length t) x y)
    where
      same_count : (i : ℕ) → count_of y i ≡ count_of x i
      same_count i = ap (λ (l : List ℕ). get_or l i 0) a.count

      same-value : (i : ℕ) → value_of y i ≡ value_of x i
      same-value i = ap (λ (l : List ℕ). get_or l i 0) a.value

      -- a number by its field
      number-moved : (i : ℕ) (f : ℕ → Argument) → ((v : ℕ) → f v ≡ moved d (f v)) →
          present (count_of y i) (f (value_of y i)) ≡ moved d (present (count_of x i) (f (value_of x i)))
      number-moved i f h =
          rw (same_count i, same-value i)
          (present_moved d (count_of x i) (f (value_of x i)) (f (value_of x i)) (λ _. h (value_of x i)))

      -- bytes by their field
      part_moved : (i : ℕ) (octets : Bool) →
          present (count_of y i) (bytes_in octets s (parts_in i s (moved_parts d ps)))
          ≡ moved d (present (count_of x i) (bytes_in octets t (parts_in i t ps)))
      part_moved i octets =
          ap₂ (λ (n : ℕ) (qs : List Part). present n (bytes_in octets s qs)) (same_count i) (inner_moved i k ps w)
          ∙ present_moved d (count_of x i) (bytes_in octets t (parts_in i t ps))
          (bytes_in octets s (moved_parts d (parts_in i t ps)))
          (λ _. bytes-moved octets (parts_in i t ps) (inner_within i t (length t) ps w))

      type_moved : (c : ℕ) → of_type s (moved_parts d ps) y c ≡ moved d (of_type t ps x c)
      unfolding of_type
      type_moved c =
          chosen_alike (moved d) (eqb c 1) (number-moved 2 signed_of (λ _. refl))
          (chosen_alike (moved d) (eqb c 2) (number-moved 3 Va.Unsigned (λ _. refl))
          (chosen_alike (moved d) (eqb c 3) refl
          (chosen_alike (moved d) (eqb c 4) (part_moved 5 true)
          (chosen_alike (moved d) (eqb c 5) (number-moved 6 double_of (λ v. (carried_moved d binary64 v).0))
          (chosen_alike (moved d) (eqb c 6)
          (number-moved 7 (λ v. float_of (low32 v)) (λ v. (carried_moved d binary32 (low32 v)).1))
          (chosen_alike (moved d) (eqb c 7) (number-moved 8 (λ v. Va.Bool (not (eqb v 0))) (λ _. refl))
          (chosen_alike (moved d) (eqb c 8) (part_moved 9 false) refl)))))))

      scalar_of_moved : scalar_of s (moved_parts d ps) y ≡ moved d (scalar_of t ps x)
      unfolding scalar_of
      scalar_of_moved =
          ap (λ (b : Bool). cond b (of_type s (moved_parts d ps) y (low32 (value_of y 1))) bad) a.good
          ∙ chosen_alike (moved d) x.good
          (ap (λ (v : ℕ). of_type s (moved_parts d ps) y (low32 v)) (same-value 1) ∙ type_moved (low32 (value_of x 1)))
          refl

  scalar-moved : (ps : List Part) → AllWithin (length t) ps →
      scalar_in s (moved_parts d ps) ≡ moved d (scalar_in t ps)
  scalar-moved ps w =
      scalar_of_moved ps w (merged (rows_of scalar) t ps) (merged (rows_of scalar) s (moved_parts d ps))
      (merged_alike (rows_of scalar) k ps w)

  module _ (ps : List Part) (w : AllWithin (length t) ps) (x y : Slots) (a : Alike (rows_of any) d (length t) x y) where
    any-type-moved : (c : ℕ) → of_any_type s (moved_parts d ps) y c ≡ moved d (of_any_type t ps x c)
    unfolding of_any_type
    any-type-moved c =
        chosen_alike (moved d) (eqb c 1)
        (ap (λ (l : List ℕ). present (get_or l 2 0) (scalar_in s (moved_parts d ps))) a.count
        ∙ present_moved d (count_of x 2) (scalar_in t ps) (scalar_in s (moved_parts d ps)) (λ _. scalar-moved ps w))
        (chosen_alike (moved d) (eqb c 2) refl (chosen_alike (moved d) (eqb c 3) refl refl))

    any-moved : any_of s (moved_parts d ps) y ≡ moved d (any_of t ps x)
    unfolding any_of
    any-moved =
        ap (λ (b : Bool). cond b (of_any_type s (moved_parts d ps) y (low32 (value_of y 1))) bad) a.good
        ∙ chosen_alike (moved d) x.good
        (ap (λ (v : ℕ). of_any_type s (moved_parts d ps) y (low32 v)) (ap (λ (l : List ℕ). get_or l 1 0) a.value)
        ∙ any-type-moved (low32 (value_of x 1))) refl

  -- the parts of its scalar
  pub parted_moved : (at n : ℕ) → at + n ≤ length t → scalar_parts s (d + at) n ≡ moved_parts d (scalar_parts t at n)
  parted_moved at n h =
      let e : d + at + n ≡ d + (at + n) = omega arith in
      ap (λ (m : ℕ). parts_of 2 (take m s) (d + at)) e ∙ parts_moved 2 (stands_take k (at + n) h) at

  pub parted_within : (at n : ℕ) → at + n ≤ length t → AllWithin (length t) (scalar_parts t at n)
  parted_within at n h =
      within_later (at + n) (length t) h (scalar_parts t at n) (parts_by 2 t at (at + n))

  pub argument_moved : (at n : ℕ) → at + n ≤ length t → argument_in s (d + at) n ≡ moved d (argument_in t at n)
  argument_moved at n h =
      ap (λ (ps : List Part). any_of s ps (embedded (rows_of any) s (d + at) n)) (parted_moved at n h)
      ∙ any-moved (scalar_parts t at n) (parted_within at n h) (embedded (rows_of any) t at n)
      (embedded (rows_of any) s (d + at) n) (embedded_alike (rows_of any) k at n h)

-- ---- the arguments of a message, one by one and all

abbrev pub moved_next : ℕ → Option NextArgument → Option NextArgument
moved_next d (Some found) = found_argument (moved d found.value) (d + found.next)
moved_next d None = None

-- a field ends within the bytes
pub field_inside : (s : List ℕ) (p : ℕ) {n w v st ln next : ℕ} → field_at s p ≡ some_field n w v st ln next →
    (st + ln ≤ length s) × (p < next) × (next ≤ length s)
field_inside s p {n} {w} {v} {st} {ln} {next} e = go (field_past s p)
  where
    go : PastField p (length s) (field_at s p) → (st + ln ≤ length s) × (p < next) × (next ≤ length s)
    go = rw e (λ h. (omega arith, h.2, h.3))

-- ---- the next argument

module _ {s : List ℕ} {d : ℕ} {t : List ℕ} (k : Tail s d t) (at : ℕ) where
  abbrev Same : Type 0
  Same = next_argument s (d + at) ≡ moved_next d (next_argument t at)

  both-placed : (x y : Sought) → x ≡ arg_place t at → y ≡ arg_place s (d + at) →
      of_place s y ≡ moved_next d (of_place t x) → Same
  both-placed x y e f h = sym (next_placed s (d + at) y f) ∙ h ∙ ap (moved_next d) (next_placed t at x e)

  module _ (p : ℕ) (i : p < length t) (f : Seeking t at p) (g : Seeking s (d + at) (d + p))
      (on : (q : ℕ) → p < q → Seeking t at q → Seeking s (d + at) (d + q) → Same) where
    j : d + p < length s
    j = omega (arith, tail_length k)

    by_field : (z : Option Field) → field_at t p ≡ z → Same
    by_field None e =
        both-placed (Err Reason.BadPayload) (Err Reason.BadPayload) (no_field f i e)
        (no_field g j (field_moved k p ∙ ap (moved_field d) e))
        (ap (λ (n : ℕ). found_argument (Va.Refused 6) n) (tail_length k))
    by_field (Some r) e = by_number (eqb r.number 2) refl
      where
        e' : field_at s (d + p) ≡ some_field r.number r.wire r.value (d + r.start) r.len (d + r.next)
        e' = field_moved k p ∙ ap (moved_field d) e

        by-wire : r.number ≡ 2 → (b : Bool) → eqb r.wire 2 ≡ b → Same
        by-wire h true b =
            both-placed (placed_at r.start r.len r.next) (placed_at (d + r.start) r.len (d + r.next)) (found f i e h (eqb-true r.wire 2 b))
            (found g j e' h (eqb-true r.wire 2 b))
            (ap (λ (a : Argument). found_argument a (d + r.next))
            (argument_moved (tail_stands k) r.start r.len (field_inside t p e).0))
        by-wire h false b =
            on r.next (advances f i e) (other_wire f i e h (eqb-false r.wire 2 b)) (other_wire g j e' h (eqb-false r.wire 2 b))

        by_number : (b : Bool) → eqb r.number 2 ≡ b → Same
        by_number true b = by-wire (eqb-true r.number 2 b) (eqb r.wire 2) refl
        by_number false b =
            on r.next (advances f i e) (other_number f i e (eqb-false r.number 2 b)) (other_number g j e' (eqb-false r.number 2 b))

  walks : (most p : ℕ) → length t ≤ p + most → Seeking t at p → Seeking s (d + at) (d + p) → Same
  walks zero p h f g =
      both-placed (Ok None) (Ok None) (ends f (omega arith)) (ends g (omega (arith, tail_length k))) refl
  walks (suc most) p h f g =
      less_or_not p (length t) (λ i. by_field p i f g (λ q z. walks most q (omega arith)) (field_at t p) refl)
      (λ i. both-placed (Ok None) (Ok None) (ends f i) (ends g (omega (arith, tail_length k))) refl)

  pub next_moved : Same
  next_moved = walks (length t) at (omega arith) (starts t at) (starts s (d + at))

-- ---- all arguments

pub args_found : (m : ℕ) (s : List ℕ) (at : ℕ) {found : NextArgument} →
    next_argument s at ≡ Some found →
    arguments_from (suc m) s at ≡ found.value ∷ arguments_from m s found.next
unfolding arguments_from
args_found m s at e = ap (and_more (λ next. arguments_from m s next)) e

module _ {s : List ℕ} {d : ℕ} {t : List ℕ} (k : Tail s d t) where
  pub args_moved : (m n at : ℕ) → length t ≤ at + m → length t ≤ at + n →
      arguments_from n s (d + at) ≡ map (moved d) (arguments_from m t at)
  args_moved zero n at h g =
      from_none n s (d + at) (next_end s (d + at) (omega (arith, tail_length k)))
      ∙ sym (ap (map (moved d)) (from_none zero t at (next_end t at (omega arith))))
  args_moved (suc m) zero at h g =
      from_none zero s (d + at) (next_end s (d + at) (omega (arith, tail_length k)))
      ∙ sym (ap (map (moved d)) (from_none (suc m) t at (next_end t at (omega arith))))
  args_moved (suc m) (suc n) at h g =
      go (λ next a. args_moved m n next (omega arith) (omega arith)) (next_argument t at) refl
    where
      go : ((next : ℕ) → at < next → arguments_from n s (d + next) ≡ map (moved d) (arguments_from m t next)) →
          (x : Option NextArgument) → next_argument t at ≡ x →
          arguments_from (suc n) s (d + at) ≡ map (moved d) (arguments_from (suc m) t at)
      go on (Some found) e =
          args_found n s (d + at) (next_moved k at ∙ ap (moved_next d) e)
          ∙ ap (λ (l : List Argument). moved d found.value ∷ l) (on found.next (next-advances t at e).0)
          ∙ sym (ap (map (moved d)) (args_found m t at e))
      go on None e =
          from_none (suc n) s (d + at) (next_moved k at ∙ ap (moved_next d) e)
          ∙ sym (ap (map (moved d)) (from_none (suc m) t at e))
