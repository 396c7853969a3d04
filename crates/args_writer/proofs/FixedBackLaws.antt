-- A field with a fixed value reads back, wherever it stands. Assumes nothing.
use Rattle.prelude.proofs.Basics.{ℕ, zero, suc, ◌+◌, ◌*◌, ◌/◌, ◌%◌, ◌^◌, ◌<◌, arith, ◌≡◌, refl, sym, ap, ◌∙◌, List, []}
use Rattle.prelude.proofs.Basics.{◌∷◌, ◌++◌, length, get_or, length-append}
use native.Mathlib.Nat.{pow-succ'}
use Rattle.varint.proofs.TailLaws.{tail_byte}
use Rattle.scalar.specs.Fixed.{little}
use Rattle.varint.specs.declared.Number.{Number}
use Rattle.scalar.proofs.FixedLaws.{fixed_whole}
use Rattle.wire.specs.Value.{of_fixed}
use Rattle.wire.specs.Field.{of_value}
use Rattle.wire.specs.declared.tag.Tag.{Tag}
use Rattle.wire.proofs.FieldLaws.{field_tagged, field_value}
use Rattle.layout.specs.Fields.{noted}
use Rattle.layout.proofs.FieldsLaws.{goes_on_lem}
use Rattle.encode.proofs.FieldLaws.{fixed_length}
use Rattle.writer.proofs.FieldLaws.{tag_reads}
use Rattle.args_writer.proofs.Names.{varint_bytes, varint_length, Stands, stands_length, stands_first}
use Rattle.args_writer.proofs.Names.{stands_next, as_fixed, value_at, field_at, Field, use_of, Use, Slots}
use Rattle.args_writer.proofs.Names.{fixed_field, fixed_bytes, behind_tag, Reads}
use Rattle.std.specs.Prelude.{Option}
use Rattle.wire.specs.Field.{some_field}
use Rattle.wire.specs.Tag.{some_tag}

little_back : (k v at : ℕ) (s q : List ℕ) → v < 256 ^ k → Stands s at (fixed_bytes k v) q → v ≡ little k s at
unfolding little fixed_bytes
little_back zero v at s q h k = omega arith
little_back (suc n) v at s q h k =
    let first : get_or s (at + 0) 0 ≡ v % 256 = tail_byte (record { within = k.within; is = k.there }) 0 in
    let place : at + 0 ≡ at = omega arith in
    let rest = little_back n (v / 256) (at + 1) s q (below n h)
    (stands_next (v % 256 ∷ []) (fixed_bytes n (v / 256)) k) in
    omega (arith, first, ap (λ (p : ℕ). get_or s p 0) place, rest)
  where
    below : (n : ℕ) → v < 256 ^ suc n → v / 256 < 256 ^ n
    below n h = let g = rw pow-succ' at h in omega arith

-- of wire type 1 or 5, by the width
module _ (num wire k v at : ℕ) (s q : List ℕ) (by-wire : (p : ℕ) → as_fixed k s p ≡ value_at s wire p) where
  pub fixed_reads : 0 < num → num < 10 → wire < 6 → (wire ≡ 3 → ⊥) → v < 256 ^ k →
      Stands s at (fixed_field num wire k v) q →
      field_at s at ≡ some_field num wire v (behind_tag at (num * 8 + wire)) k (at + length (fixed_field num wire k v))
  unfolding fixed_field
  fixed_reads some few low no-group h st =
      let g = num * 8 + wire in
      let here = behind_tag at g in
      let n = fixed_length k v in
      let next : here + k ≡ at + length (varint_bytes g ++ fixed_bytes k v) = omega
      (arith, length-append (varint_bytes g) (fixed_bytes k v)) in
      let behind = stands_next (varint_bytes g) (fixed_bytes k v) st in
      field_tagged s at (some_tag num wire here)
      (tag_reads g num wire at s (fixed_bytes k v ++ q) refl some few low
      (stands_first (varint_bytes g) (fixed_bytes k v) st))
      ∙ sym (field_value s num wire here no-group)
      ∙ ap (of_value num wire) (sym (by-wire here))
      ∙ ap (λ (x : Option Number). of_value num wire (of_fixed k here x))
      (sym (fixed_whole k s here v (omega (arith, stands_length behind)) (little_back k v here s q h behind)))
      ∙ ap (λ (m : ℕ). some_field num wire v here k m) next

abbrev pub with_fixed : ℕ → ℕ → ℕ → ℕ → ℕ → Slots → Slots
with_fixed num wire k v at x = noted Use.Kept x num v (behind_tag at (num * 8 + wire)) k

fixed_some : (num wire k v : ℕ) → 0 < length (fixed_field num wire k v)
unfolding fixed_field
fixed_some num wire k v =
    omega (arith, length-append (varint_bytes (num * 8 + wire)) (fixed_bytes k v), varint_length (num * 8 + wire))

pub reads_fixed : (rows : List (List ℕ)) (num wire k v : ℕ) →
    ((s : List ℕ) (p : ℕ) → as_fixed k s p ≡ value_at s wire p) →
    Use.Kept ≡ use_of rows num wire v → 0 < num → num < 10 → wire < 6 → (wire ≡ 3 → ⊥) → v < 256 ^ k →
    Reads rows (fixed_field num wire k v) (with_fixed num wire k v)
reads_fixed rows num wire k v by-wire u some few low no-group h =
    record {
      on = λ s from at q x st l.
          goes_on_lem l (omega (arith, stands_length st, fixed_some num wire k v))
          (fixed_reads num wire k v at s q (by-wire s) some few low no-group h st) Use.Kept u;
    }
