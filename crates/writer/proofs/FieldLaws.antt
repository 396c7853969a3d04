-- A field that is written reads back, wherever it stands; and field lists part by part. Assumes nothing.
use Rattle.prelude.proofs.Basics.{ℕ, ◌+◌, ◌-◌, ◌*◌, ◌/◌, ◌%◌, ◌^◌, ◌<◌, arith, Bool, true, false, cond, ◌≡◌, refl, sym}
use Rattle.prelude.proofs.Basics.{ap, subst, ◌∙◌, List, [], ◌++◌, length, length-append, take}
use Rattle.varint.specs.declared.Number.{Number}
use Rattle.varint.proofs.VarintLaws.{reads_there, varint_length}
use Rattle.wire.specs.Tag.{tag_of, tag_at}
use Rattle.wire.specs.Value.{of_varint, of_length}
use Rattle.wire.specs.Field.{of_value}
use Rattle.wire.proofs.TagLaws.{tag_good}
use Rattle.wire.proofs.ValueLaws.{length_good}
use Rattle.wire.proofs.FieldLaws.{field_tagged}
use Rattle.layout.specs.Fields.{checked}
use Rattle.layout.proofs.FieldsLaws.{starts, ends, checked_good}
use Rattle.layout.specs.Part.{count_of, start_of, len_of}
use Rattle.layout.specs.Merged.{one_part, parts_of, parts_in}
use Rattle.layout.specs.MergedRules.{holds_bytes, Keeps}
use Rattle.layout.specs.declared.part.Part.{Part}
use Rattle.layout.proofs.PartLaws.{part_within}
use Rattle.layout.proofs.CountLaws.{good_list}
use Rattle.layout.proofs.KeepsLaws.{parts_kept, one_only}
use Rattle.encode.proofs.FieldLaws.{number_parts, prefix_parts}
use Rattle.writer.proofs.Names.{varint_bytes, Tail, tail_length, Stands, stands_length, stands_cut, tail_stands}
use Rattle.writer.proofs.Names.{stands_first, stands_next, field_at, no_slots, use_of, noted, fields_at}
use Rattle.writer.proofs.Names.{has_required, embedded, Use, Slots, Listing, goes_on_lem, number_field, optional_field}
use Rattle.writer.proofs.Names.{bytes_field, bytes_sum}
use Rattle.std.specs.Prelude.{Option}
use Rattle.wire.specs.Field.{some_field}
use Rattle.wire.specs.Tag.{some_tag}

-- ---- one field

pub tag_reads : (g num w at : ℕ) (s q : List ℕ) → g ≡ num * 8 + w → 0 < num → num < 10 → w < 6 →
    Stands s at (varint_bytes g) q →
    tag_at s at ≡ some_tag num w (at + length (varint_bytes g))
tag_reads g num w at s q e a b c k =
    ap tag_of (reads_there g at s q (omega arith) k.there)
    ∙ sym (tag_good g (at + length (varint_bytes g)) (omega arith) (omega arith) (omega arith))
    ∙ (let m : g / 8 ≡ num = omega arith in
    let r : g % 8 ≡ w = omega arith in
    rw (m, r))

-- the place behind a field's tag
abbrev pub behind_tag : ℕ → ℕ → ℕ
behind_tag at g = at + length (varint_bytes g)

module _ (num at : ℕ) (s q : List ℕ) (some : 0 < num) (few : num < 10) where
  pub number_reads : (v : ℕ) → v < 2 ^ 64 → Stands s at (number_field num v) q →
      field_at s at ≡ some_field num 0 v (behind_tag at (num * 8)) (length (varint_bytes v))
      (at + length (number_field num v))
  unfolding number_field
  number_reads v h k =
      let g = num * 8 in
      let here = behind_tag at g in
      let next = here + length (varint_bytes v) in
      let e : next - here ≡ length (varint_bytes v) = omega arith in
      let f : next ≡ at + length (varint_bytes g ++ varint_bytes v) = omega
      (arith, length-append (varint_bytes g) (varint_bytes v)) in
      field_tagged s at (some_tag num 0 here)
      (tag_reads g num 0 at s (varint_bytes v ++ q) (omega arith) some few (omega arith)
      (stands_first (varint_bytes g) (varint_bytes v) k))
      ∙ ap (λ (x : Option Number). of_value num 0 (of_varint here x))
      (reads_there v here s q h (stands_next (varint_bytes g) (varint_bytes v) k).there)
      ∙ rw (e, f)

  pub bytes_reads : (bs : List ℕ) → length bs < 2 ^ 64 → Stands s at (bytes_field num bs) q →
      field_at s at
      ≡ some_field num 2 (length bs) (behind_tag (behind_tag at (num * 8 + 2)) (length bs)) (length bs)
      (at + length (bytes_field num bs))
  unfolding bytes_field
  bytes_reads bs h k =
      let g = num * 8 + 2 in
      let n = length bs in
      let here = behind_tag at g in
      let start = behind_tag here n in
      let front = stands_first (varint_bytes g ++ varint_bytes n) bs k in
      let f : start + n ≡ at + length (varint_bytes g ++ varint_bytes n ++ bs) =
      omega (arith, length-append (varint_bytes g ++ varint_bytes n) bs, length-append (varint_bytes g) (varint_bytes n)) in
      field_tagged s at (some_tag num 2 here)
      (tag_reads g num 2 at s (varint_bytes n ++ (bs ++ q)) refl some few (omega arith)
      (stands_first (varint_bytes g) (varint_bytes n) front))
      ∙ ap (λ (x : Option Number). of_value num 2 (of_length s x))
      (reads_there n here s (bs ++ q) h (stands_next (varint_bytes g) (varint_bytes n) front).there)
      ∙ ap (of_value num 2) (sym (length_good s n start (omega (arith, stands_length k))))
      ∙ ap (λ (m : ℕ). some_field num 2 n start n m) f

-- ---- field lists

-- wherever these bytes stand in a message with these rows, reading them leads from what was read before, x, to f of
-- the place and x
pub record Reads (rows : List (List ℕ)) (bs : List ℕ) (f : ℕ → Slots → Slots) : Type 0 where
  pub on : (s : List ℕ) (from at : ℕ) (q : List ℕ) (x : Slots) → Stands s at bs q → Listing rows s from at x →
      Listing rows s from (at + length bs) (f at x)

-- a field that is kept
abbrev pub with_number : ℕ → ℕ → ℕ → Slots → Slots
with_number num v at x = noted Use.Kept x num v (behind_tag at (num * 8)) (length (varint_bytes v))

abbrev pub with_bytes : ℕ → ℕ → ℕ → Slots → Slots
with_bytes num n at x = noted Use.Kept x num n (behind_tag (behind_tag at (num * 8 + 2)) n) n

pub reads_number : (rows : List (List ℕ)) (num v : ℕ) → Use.Kept ≡ use_of rows num 0 v → 0 < num → num < 10 →
    v < 2 ^ 64 →
    Reads rows (number_field num v) (with_number num v)
reads_number rows num v u some few h =
    record {
      on = λ s from at q x k l.
          goes_on_lem l (omega (arith, stands_length k, number_parts num v, varint_length v))
          (number_reads num at s q some few v h k) Use.Kept u;
    }

pub reads_bytes : (rows : List (List ℕ)) (num : ℕ) (bs : List ℕ) → Use.Kept ≡ use_of rows num 2 (length bs) → 0 < num →
    num < 10 → length bs < 2 ^ 64 →
    Reads rows (bytes_field num bs) (with_bytes num (length bs))
reads_bytes rows num bs u some few h =
    record {
      on = λ s from at q x k l.
          goes_on_lem l (omega (
            arith,
            stands_length k,
            bytes_sum num bs,
            prefix_parts num (length bs),
            varint_length
                (length bs),
          ))
          (bytes_reads num at s q some few bs h k) Use.Kept u;
    }

pub reads_optional : (rows : List (List ℕ)) (b : Bool) (num v : ℕ) → Use.Kept ≡ use_of rows num 0 v → 0 < num →
    num < 10 → v < 2 ^ 64 →
    Reads rows (optional_field b num v) (λ at x. cond b (with_number num v at x) x)
unfolding optional_field
reads_optional rows true num v u some few h = reads_number rows num v u some few h
reads_optional rows false num v u some few h =
    record {
      on = λ s from at q x k l.
          let e : at ≡ at + 0 = omega arith in
          subst (λ (p : ℕ). Listing rows s from p x) e l;
    }

pub reads_then : {rows : List (List ℕ)} {xs ys : List ℕ} {f g : ℕ → Slots → Slots} → Reads rows xs f → Reads rows ys g →
    Reads rows (xs ++ ys) (λ at x. g (at + length xs) (f at x))
reads_then {rows} {xs} {ys} {f} {g} a b =
    record {
      on = λ s from at q x k l.
          let e : at + length xs + length ys ≡ at + length (xs ++ ys) = omega (arith, length-append xs ys) in
          subst (λ (p : ℕ). Listing rows s from p (g (at + length xs) (f at x))) e
          (b.on s from (at + length xs) q (f at x) (stands_next xs ys k)
          (a.on s from at (ys ++ q) x (stands_first xs ys k) l));
    }

-- the message that these bytes are
pub reads_whole : {rows : List (List ℕ)} {bs : List ℕ} {f : ℕ → Slots → Slots} {s : List ℕ} {at : ℕ} → Reads rows bs f →
    Tail s at bs →
    fields_at rows s at ≡ checked rows (f at no_slots)
reads_whole {rows} {bs} {f} {s} {at} r k =
    sym
    (ap (checked rows)
    (ends (r.on s at at [] no_slots (tail_stands k) (starts rows s at)) (omega (arith, tail_length k))))

-- embedded in another
pub reads_embedded : {rows : List (List ℕ)} {bs : List ℕ} {f : ℕ → Slots → Slots} {s q : List ℕ} {at : ℕ} →
    Reads rows bs f → Stands s at bs q →
    embedded rows s at (length bs) ≡ checked rows (f at no_slots)
reads_embedded {rows} {bs} {f} {s} {q} {at} r k =
    sym (part_within rows s at (length bs) (omega (arith, stands_length k))) ∙ reads_whole r (stands_cut k)

-- where what is required is there
pub whole_good : {rows : List (List ℕ)} {bs : List ℕ} {f : ℕ → Slots → Slots} {s : List ℕ} {at : ℕ} → Reads rows bs f →
    Tail s at bs →
    has_required rows (f at no_slots).count ≡ true → fields_at rows s at ≡ f at no_slots
whole_good {rows} {f = f} {at = at} r k h = reads_whole r k ∙ sym (checked_good rows (f at no_slots) h)

pub embedded_good : {rows : List (List ℕ)} {bs : List ℕ} {f : ℕ → Slots → Slots} {s q : List ℕ} {at : ℕ} →
    Reads rows bs f → Stands s at bs q →
    has_required rows (f at no_slots).count ≡ true → embedded rows s at (length bs) ≡ f at no_slots
embedded_good {rows} {f = f} {at = at} r k h = reads_embedded r k ∙ sym (checked_good rows (f at no_slots) h)

-- the bytes of a field, within it
pub stands_inside : {s : List ℕ} {at : ℕ} (num : ℕ) (bs : List ℕ) {q : List ℕ} → Stands s at (bytes_field num bs) q →
    Stands s (behind_tag (behind_tag at (num * 8 + 2)) (length bs)) bs q
unfolding bytes_field
stands_inside {s} {at} num bs {q} k =
    let g = varint_bytes (num * 8 + 2) in
    let n = varint_bytes (length bs) in
    let e : at + length (g ++ n) ≡ at + length g + length n = omega (arith, length-append g n) in
    subst (λ (p : ℕ). Stands s p bs q) e (stands_next (g ++ n) bs k)

-- ---- where a field with bytes stands

-- in a message that has it once it is the one part
module _ (rows : List (List ℕ)) (k : ℕ) (h : holds_bytes rows k ≡ true) {x : Slots} (good : x.good ≡ true)
    (one : count_of x k ≡ 1) where
  pub parts_whole : (s : List ℕ) (from : ℕ) → fields_at rows s from ≡ x →
      parts_of k s from ≡ one_part (start_of x k) (len_of x k)
  parts_whole s from e =
      one_only x k (parts_of k s from)
      (subst (λ (y : Slots). Keeps y k (parts_of k s from)) e
      (parts_kept.whole rows k s from h (ap (λ (y : Slots). y.good) e ∙ good)))
      one

  pub parts_embedded : (s : List ℕ) (at n : ℕ) → embedded rows s at n ≡ x →
      parts_of k (take (at + n) s) at ≡ one_part (start_of x k) (len_of x k)
  parts_embedded s at n e =
      parts_whole (take (at + n) s) at
      (part_within rows s at n (good_list rows s at (at + n) (ap (λ (y : Slots). y.good) e ∙ good)).0 ∙ e)

  pub parts_inner : (s : List ℕ) (at n : ℕ) → embedded rows s at n ≡ x →
      parts_in k s (one_part at n) ≡ one_part (start_of x k) (len_of x k)
  unfolding parts_in
  parts_inner s at n e = ap (λ (ps : List Part). ps ++ []) (parts_embedded s at n e)
