-- What the functions that read scalars, octets and strings in parts hand on: where the parts stand, and what is
-- found of them. Assumes nothing.
use Rattle.prelude.proofs.Basics.{ℕ, ◌+◌, ◌-◌, ◌≤◌, arith, Bool, true, false, ◌||◌, ◌≡◌, refl, sym, ap}
use Rattle.prelude.proofs.Basics.{subst, ◌∙◌, List, append-nil, length, take, take-length}
use Rattle.prelude.proofs.Basics.{length-take-le}
use Rattle.prelude.proofs.Basics.{ne_eqb, no, or_false}
use Rattle.layout.specs.private.Found.{slot_at, Holds}
use Rattle.layout.specs.declared.found.Found.{Found}
use Rattle.layout.specs.private.Counted.{Counted}
use Rattle.layout.specs.MergedRules.{holds_bytes}
use Rattle.layout.proofs.CountLaws.{good_list}
use Rattle.layout.proofs.CountedLaws.{merged_counted, fields_counted}
use Rattle.args.proofs.Names.{Argument, any, scalar, len, rows_of, wire_of, row_for, embedded}
use Rattle.args.proofs.Names.{one_part, parts_of, parts_in, merged, part_padded, parts_padded, Part, Slots}
use Rattle.args.proofs.Names.{part_within}
use Rattle.args.proofs.Names.{one_part_lem, parts_by, one_within, merged_cut, bad, present, scalar_in}
use Rattle.args.proofs.Names.{scalar_parts, scalar_padded, inside_scalar}
use Rattle.args.specs.private.Parts.{scalar_by}
use Rattle.args.proofs.CutLaws.{scalar_cut, scalar_flag_cut, inside_cut}

-- ---- one part

-- an embedded message is a message in one part
pub held_one : (rows : List (List ℕ)) (s : List ℕ) (at n : ℕ) {g : Bool} {found : Found} →
    Holds (embedded rows s at n) g found → Holds (merged rows s (one_part at n)) g found
held_one rows s at n {g} {found} h =
    subst (λ (x : Slots). Holds x g found) (sym (one_part_lem rows s (record { start = at; len = n }))) h

-- and stands within the bytes, where it is good
pub held_within : (rows : List (List ℕ)) (s : List ℕ) (at n : ℕ) {g : Bool} {found : Found} →
    Holds (embedded rows s at n) g found → g ≡ true → at + n ≤ length s
held_within rows s at n h e = (good_list rows s at (at + n) (sym h.answer ∙ e)).0

pub held_good : {x : Slots} {g : Bool} {found : Found} → Holds x g found → g ≡ true → Holds x true found
held_good {x} {g} {found} h e = subst (λ (b : Bool). Holds x b found) e h

pub held_parts : (rows : List (List ℕ)) (s : List ℕ) {ps qs : List Part} {g : Bool} {found : Found} → ps ≡ qs →
    Holds (merged rows s ps) g found → Holds (merged rows s qs) g found
held_parts rows s {g = g} {found = found} e h =
    subst (λ (ps : List Part). Holds (merged rows s ps) g found) e h

pub one_padded : (s : List ℕ) (at n : ℕ) {ps : List Part} → ps ≡ one_part at n → part_padded s at n ≡ parts_padded s ps
unfolding parts_padded
one_padded s at n e = or_false (part_padded s at n) ∙ ap (parts_padded s) (sym e)

-- ---- a Scalar, whole or in parts

module _ (s : List ℕ) (at : ℕ) (within : at ≤ length s) where
  -- all of s from a place on
  all_of : take (at + (length s - at)) s ≡ s
  all_of = let e : at + (length s - at) ≡ length s = omega arith in ap (λ (n : ℕ). take n s) e ∙ take-length s

  pub by_whole : (whole : Bool) → whole ≡ true → (k : ℕ) → parts_of k s at ≡ parts_in k s (scalar_by whole s at)
  unfolding parts_in
  by_whole whole e k =
      ap (λ (l : List ℕ). parts_of k l at) (sym all_of)
      ∙ sym (append-nil (parts_of k (take (at + (length s - at)) s) at))
      ∙ ap (λ (b : Bool). parts_in k s (scalar_by b s at)) (sym e)

pub by_parts : (s : List ℕ) (at : ℕ) (whole : Bool) → whole ≡ false → (k : ℕ) →
    parts_in k s (parts_of 2 s at) ≡ parts_in k s (scalar_by whole s at)
by_parts s at whole e k = ap (λ (b : Bool). parts_in k s (scalar_by b s at)) (sym e)

-- one that ends with s
pub whole_one : (s : List ℕ) (at n : ℕ) → at + n ≤ length s → one_part at n ≡ scalar_by true (take (at + n) s) at
whole_one s at n h =
    let e : n ≡ length (take (at + n) s) - at = omega (arith, length-take-le (at + n) s h) in
    ap (one_part at) e

-- what is found of a whole Scalar is so in the bytes cut off behind it
pub held_cut : (s : List ℕ) (at n : ℕ) → at + n ≤ length s → {g : Bool} {found : Found} →
    Holds (embedded (rows_of scalar) s at n) g found →
    Holds (merged (rows_of scalar) (take (at + n) s) (scalar_by true (take (at + n) s) at)) g found
held_cut s at n h {g} {found} a =
    let e = at + n in
    held_parts (rows_of scalar) (take e s) (whole_one s at n h)
    (subst (λ (x : Slots). Holds x g found)
    (sym (merged_cut (rows_of scalar) s e h (one_part at n) (one_within at n e (omega arith))))
    (held_one (rows_of scalar) s at n a))

-- what is read of it there
pub whole_cut : (s : List ℕ) (at n : ℕ) → at + n ≤ length s →
    scalar_in (take (at + n) s) (scalar_by true (take (at + n) s) at) ≡ scalar_in s (one_part at n)
whole_cut s at n h =
    ap (scalar_in (take (at + n) s)) (sym (whole_one s at n h))
    ∙ scalar_cut s (at + n) h (one_part at n) (one_within at n (at + n) (omega arith))

-- and whether anything inside it is padded
pub whole_inside : (s : List ℕ) (at n : ℕ) → at + n ≤ length s →
    inside_scalar (take (at + n) s) (scalar_by true (take (at + n) s) at)
    (merged (rows_of scalar) (take (at + n) s) (scalar_by true (take (at + n) s) at))
    ≡ inside_scalar s (one_part at n) (merged (rows_of scalar) s (one_part at n))
whole_inside s at n h =
    let e = at + n in
    let w = one_within at n e (omega arith) in
    ap (λ (ps : List Part). inside_scalar (take e s) ps (merged (rows_of scalar) (take e s) ps))
    (sym (whole_one s at n h))
    ∙ ap (inside_scalar (take e s) (one_part at n)) (merged_cut (rows_of scalar) s e h (one_part at n) w)
    ∙ inside_cut s e h (one_part at n) w (merged (rows_of scalar) s (one_part at n))

-- the flag of the list and that of the inside are the Scalar's
pub scalar_whole : (s : List ℕ) (ps : List Part) →
    (parts_padded s ps || inside_scalar s ps (merged (rows_of scalar) s ps)) ≡ scalar_padded s ps
unfolding scalar_padded
scalar_whole s ps = refl

-- ---- how often octets, strings and scalars occur

bytes_hold : (holds_bytes (rows_of scalar) 5 ≡ true) × (holds_bytes (rows_of scalar) 9 ≡ true)
    × (holds_bytes (rows_of any) 2 ≡ true)
unfolding rows_of row_for
bytes_hold = (refl, refl, refl)

bytes_wire : (wire_of (row_for (rows_of scalar) 5) ≡ len) × (wire_of (row_for (rows_of scalar) 9) ≡ len)
    × (wire_of (row_for (rows_of any) 2) ≡ len)
unfolding rows_of row_for
bytes_wire = (refl, refl, refl)

module _ (s : List ℕ) (ps : List Part) {found : Found} (h : Holds (merged (rows_of scalar) s ps) true found) where
  pub octets_counted : Counted (parts_in 5 s ps) (slot_at found 5)
  octets_counted = merged_counted (rows_of scalar) 5 bytes_hold.0 bytes_wire.0 s ps h refl

  pub string_counted : Counted (parts_in 9 s ps) (slot_at found 9)
  string_counted = merged_counted (rows_of scalar) 9 bytes_hold.1 bytes_wire.1 s ps h refl

pub scalar_counted : (s : List ℕ) (at n : ℕ) {g : Bool} {found : Found} →
    Holds (embedded (rows_of any) s at n) g found → g ≡ true →
    Counted (scalar_parts s at n) (slot_at found 2)
scalar_counted s at n {g} {found} h e =
    fields_counted (rows_of any) 2 bytes_hold.2 bytes_wire.2 (take (at + n) s) at
    (subst (λ (x : Slots). Holds x g found)
    (sym (part_within (rows_of any) s at n (held_within (rows_of any) s at n h e))) h)
    e

-- ---- what is present

pub here : (times : ℕ) (a : Argument) → (times ≡ 0 → ⊥) → a ≡ present times a
here times a h = no bad a (ne_eqb times 0 h)

-- a scalar in parts, read in the bytes cut off behind its Any
pub parted_cut : (s : List ℕ) (at n : ℕ) → at + n ≤ length s →
    scalar_in (take (at + n) s) (scalar_parts s at n) ≡ scalar_in s (scalar_parts s at n)
parted_cut s at n h = scalar_cut s (at + n) h (scalar_parts s at n) (parts_by 2 s at (at + n))

pub parted_flag_cut : (s : List ℕ) (at n : ℕ) → at + n ≤ length s →
    scalar_padded (take (at + n) s) (scalar_parts s at n) ≡ scalar_padded s (scalar_parts s at n)
parted_flag_cut s at n h = scalar_flag_cut s (at + n) h (scalar_parts s at n) (parts_by 2 s at (at + n))
