-- Reading does not depend on where the bytes stand: what is read from a place of a byte string on is what is read of
-- the bytes from there to its end, with every place moved. Assumes nothing.
use Rattle.prelude.proofs.Basics.{ℕ, zero, suc, ◌+◌, ◌-◌, ◌%◌, ◌≤◌, ◌<◌, arith, Bool, true, false, cond, ◌≡◌, refl, sym}
use Rattle.prelude.proofs.Basics.{ap, subst, ◌∙◌, List, length, get_or, eqb, leb, ltb, eqb-false, eqb-true, less_or_not}
use Rattle.varint.specs.Varint.{onto, groups}
use Rattle.varint.proofs.GroupLaws.{groups_none, groups_last, groups_more}
use Rattle.varint.proofs.ShortestLaws.{below_or_not}
pub use Rattle.varint.proofs.TailLaws.{Tail, tail_length, Stands, stands_length, stands_take}
use Rattle.varint.proofs.TailLaws.{chosen_alike, leb_add, tail_byte}
use Rattle.wire.proofs.Names.{low64, varint_at, Number, groups_end, little, tag_of, tag_at, of_varint, of_fixed}
use Rattle.wire.proofs.Names.{as_fixed, of_length, value_at, behind, skip_value, group_end, max_depth, of_value}
use Rattle.wire.proofs.Names.{of_group, of_tag, field_at, Field, Tag, Value}
use Rattle.wire.proofs.FieldLaws.{field_tagged}
use Rattle.wire.proofs.GroupLaws.{Skipping, Turn, Skipped, starts, shut, unended, no_tag, ended, misended, into}
use Rattle.wire.proofs.GroupLaws.{over, stops, advances, goes_on_lem}
use Rattle.std.specs.Prelude.{Option, Some, None}
use Rattle.varint.specs.Number.{some_number}
use Rattle.wire.specs.Field.{some_field}
use Rattle.wire.specs.Tag.{some_tag}
use Rattle.wire.specs.Value.{some_value}

abbrev pub moved_varint : ℕ → Option Number → Option Number
moved_varint d (Some r) = some_number r.value (d + r.next)
moved_varint d None = None

abbrev pub moved_tag : ℕ → Option Tag → Option Tag
moved_tag d (Some r) = some_tag r.number r.wire (d + r.next)
moved_tag d None = None

abbrev pub moved_value : ℕ → Option Value → Option Value
moved_value d (Some r) = some_value r.number (d + r.start) r.len (d + r.next)
moved_value d None = None

abbrev pub moved_skip : ℕ → Option ℕ → Option ℕ
moved_skip d (Some next) = Some (d + next)
moved_skip d None = None

abbrev pub moved_field : ℕ → Option Field → Option Field
moved_field d (Some r) = some_field r.number r.wire r.value (d + r.start) r.len (d + r.next)
moved_field d None = None

-- ---- numbers

onto_moved : (d a w : ℕ) (x : Option Number) → onto a w (moved_varint d x) ≡ moved_varint d (onto a w x)
onto_moved d a w (Some r) = refl
onto_moved d a w None = refl

low64_moved : (d : ℕ) (x : Option Number) → low64 (moved_varint d x) ≡ moved_varint d (low64 x)
low64_moved d (Some r) = refl
low64_moved d None = refl

module _ {s : List ℕ} {d : ℕ} {t : List ℕ} (k : Tail s d t) where
  groups-moved : (n at : ℕ) → groups n s (d + at) ≡ moved_varint d (groups n t at)
  groups-moved zero at = groups_none s (d + at) ∙ sym (ap (moved_varint d) (groups_none t at))
  groups-moved (suc n) at =
      less_or_not at (length t)
      (λ h.
      let g : d + at < length s = omega (arith, tail_length k) in
      below_or_not (get_or t at 0)
      (λ a.
      let b : get_or s (d + at) 0 < 128 = rw (tail_byte k at) a in
      let e : d + at + 1 ≡ d + (at + 1) = omega arith in
      rw (groups_last n s (d + at) g b, groups_last n t at h a, tail_byte k at, e))
      (λ a.
      let b : 128 ≤ get_or s (d + at) 0 = rw (tail_byte k at) a in
      let e : d + at + 1 ≡ d + (at + 1) = omega arith in
      rw (groups_more n s (d + at) g b, groups_more n t at h a, tail_byte k at, e, groups-moved n (at + 1))
      (onto_moved d (get_or t at 0 % 128) 128 (groups n t (at + 1)))))
      (λ h. groups_end (suc n) s (d + at) (omega (arith, tail_length k))
      ∙ sym (ap (moved_varint d) (groups_end (suc n) t at h)))

  pub varint_moved : (at : ℕ) → varint_at s (d + at) ≡ moved_varint d (varint_at t at)
  varint_moved at = ap low64 (groups-moved 10 at) ∙ low64_moved d (groups 10 t at)

  little-moved : (n at : ℕ) → little n s (d + at) ≡ little n t at
  unfolding little
  little-moved zero at = refl
  little-moved (suc n) at =
      let e : d + at + 1 ≡ d + (at + 1) = omega arith in
      rw (tail_byte k at, e, little-moved n (at + 1))

  -- ---- tags and values

  tag_of_moved : (x : Option Number) → tag_of (moved_varint d x) ≡ moved_tag d (tag_of x)
  tag_of_moved (Some r) =
      chosen_alike (moved_tag d) (ltb r.value 4294967296)
      (chosen_alike (moved_tag d) (ltb r.value 8) refl (chosen_alike (moved_tag d) (ltb (r.value % 8) 6) refl refl))
      refl
  tag_of_moved None = refl

  pub tag_moved : (at : ℕ) → tag_at s (d + at) ≡ moved_tag d (tag_at t at)
  tag_moved at = ap tag_of (varint_moved at) ∙ tag_of_moved (varint_at t at)

  number-moved : (at : ℕ) (x : Option Number) → of_varint (d + at) (moved_varint d x) ≡ moved_value d (of_varint at x)
  number-moved at (Some r) =
      let e : d + r.next - (d + at) ≡ r.next - at = omega arith in
      ap (λ (n : ℕ). some_value r.value (d + at) n (d + r.next)) e
  number-moved at None = refl

  fixed_moved : (n at : ℕ) → as_fixed n s (d + at) ≡ moved_value d (as_fixed n t at)
  fixed_moved n at =
      let e : d + at + n ≡ d + (at + n) = omega arith in
      rw (e, tail_length k, leb_add d (at + n) (length t), little-moved n at) (go (leb (at + n) (length t)))
    where
      go : (b : Bool) →
          of_fixed n (d + at) (cond b (some_number (little n t at) (d + (at + n))) None)
          ≡ moved_value d (of_fixed n at (cond b (some_number (little n t at) (at + n)) None))
      go true = refl
      go false = refl

  length_moved : (x : Option Number) → of_length s (moved_varint d x) ≡ moved_value d (of_length t x)
  length_moved (Some r) =
      let e : length s - (d + r.next) ≡ length t - r.next = omega (arith, tail_length k) in
      let f : d + r.next + r.value ≡ d + (r.next + r.value) = omega arith in
      rw (e, f) (chosen_alike (moved_value d) (ltb (length t - r.next) r.value) refl refl)
  length_moved None = refl

  pub value_moved : (wire at : ℕ) → value_at s wire (d + at) ≡ moved_value d (value_at t wire at)
  value_moved wire at =
      chosen_alike (moved_value d) (eqb wire 0)
      (ap (of_varint (d + at)) (varint_moved at) ∙ number-moved at (varint_at t at))
      (chosen_alike (moved_value d) (eqb wire 1) (fixed_moved 8 at)
      (chosen_alike (moved_value d) (eqb wire 2) (ap (of_length s) (varint_moved at) ∙ length_moved (varint_at t at))
      (chosen_alike (moved_value d) (eqb wire 5) (fixed_moved 4 at) refl)))

  -- ---- groups

  pub skip_moved : (wire at : ℕ) → skip_value s wire (d + at) ≡ moved_skip d (skip_value t wire at)
  skip_moved wire at = ap behind (value_moved wire at) ∙ go (value_at t wire at)
    where
      go : (v : Option Value) → behind (moved_value d v) ≡ moved_skip d (behind v)
      go (Some r) = refl
      go None = refl

  -- two walks through the same group, one in each byte string, come to the same end
  module _ (depth at number : ℕ)
      (inner : (p n : ℕ) → group_end (depth - 1) s (d + p) n ≡ moved_skip d (group_end (depth - 1) t p n)) where
    abbrev Alike : Type 0
    Alike = group_end depth s (d + at) number ≡ moved_skip d (group_end depth t at number)

    -- one field of the group; `on` goes on from a place further on
    module _ (p : ℕ) (i : p < length t) (f : Skipping depth t at number p)
        (g : Skipping depth s (d + at) number (d + p))
        (on : (q : ℕ) → p < q → Skipping depth t at number q → Skipping depth s (d + at) number (d + q) → Alike) where
      here : (x : Option Tag) → tag_at t p ≡ x → Turn depth t at number p x
      here x e = record { state = f; inside = i; tag = e }

      there : (x : Option Tag) → tag_at t p ≡ x → Turn depth s (d + at) number (d + p) (moved_tag d x)
      there x e = record { state = g; inside = omega (arith, tail_length k); tag = tag_moved p ∙ ap (moved_tag d) e }

      module _ (n w next : ℕ) (r : Turn depth t at number p (some_tag n w next))
          (r' : Turn depth s (d + at) number (d + p) (some_tag n w (d + next))) where
        by_number : w ≡ 4 → (b : Bool) → eqb n number ≡ b → Alike
        by_number h4 true b =
            let m = eqb-true n number b in
            sym (ended r' h4 m) ∙ ap (moved_skip d) (ended r h4 m)
        by_number h4 false b =
            let m = eqb-false n number b in
            sym (misended r' h4 m) ∙ ap (moved_skip d) (misended r h4 m)

        by-skip : (y : Option ℕ) {x x' : Option ℕ} → Skipped r x → Skipped r' x' → x' ≡ moved_skip d x → x ≡ y → Alike
        by-skip (Some q) f f' e b =
            on q (advances r f b) (goes_on_lem r f b) (goes_on_lem r' f' (e ∙ ap (moved_skip d) b))
        by-skip None f f' e b =
            sym (stops r' f' (e ∙ ap (moved_skip d) b)) ∙ ap (moved_skip d) (stops r f b)

        by-start : (w ≡ 4 → ⊥) → (b : Bool) → eqb w 3 ≡ b → Alike
        by-start h4 true b =
            let h3 = eqb-true w 3 b in
            by-skip (group_end (depth - 1) t next n) (into r h4 h3) (into r' h4 h3) (inner next n) refl
        by-start h4 false b =
            let h3 = eqb-false w 3 b in
            by-skip (skip_value t w next) (over r h4 h3) (over r' h4 h3) (skip_moved w next) refl

        by_end : (b : Bool) → eqb w 4 ≡ b → Alike
        by_end true b = by_number (eqb-true w 4 b) (eqb n number) refl
        by_end false b = by-start (eqb-false w 4 b) (eqb w 3) refl

      by-tag : (x : Option Tag) → tag_at t p ≡ x → Alike
      by-tag None e = sym (no_tag (there None e)) ∙ ap (moved_skip d) (no_tag (here None e))
      by-tag (Some r) e =
          by_end r.number r.wire r.next (here (some_tag r.number r.wire r.next) e) (there (some_tag r.number r.wire r.next) e) (eqb r.wire 4) refl

    walks : (most p : ℕ) → length t ≤ p + most → Skipping depth t at number p →
        Skipping depth s (d + at) number (d + p) → Alike
    walks zero p h f g = sym (unended g (omega (arith, tail_length k))) ∙ ap (moved_skip d) (unended f (omega arith))
    walks (suc most) p h f g =
        less_or_not p (length t) (λ i. by-tag p i f g (λ q a. walks most q (omega arith)) (tag_at t p) refl)
        (λ i. sym (unended g (omega (arith, tail_length k))) ∙ ap (moved_skip d) (unended f i))

  pub group_moved : (depth at number : ℕ) → group_end depth s (d + at) number ≡ moved_skip d (group_end depth t at number)
  group_moved zero at number = shut s (d + at) number ∙ sym (ap (moved_skip d) (shut t at number))
  group_moved (suc depth) at number =
      walks (suc depth) at number
      (λ p n. less (λ (m : ℕ). group_end m s (d + p) n ≡ moved_skip d (group_end m t p n)) (group_moved depth p n))
      (length t) at (omega arith) (starts (suc depth) t at number (omega arith))
      (starts (suc depth) s (d + at) number (omega arith))
    where
      less : (P : ℕ → Type 0) → P depth → P (suc depth - 1)
      less P h = let e : depth ≡ suc depth - 1 = omega arith in subst P e h

  -- ---- fields

  of_value_moved : (n w : ℕ) (v : Option Value) → of_value n w (moved_value d v) ≡ moved_field d (of_value n w v)
  of_value_moved n w (Some r) = refl
  of_value_moved n w None = refl

  of_group_moved : (n at : ℕ) (x : Option ℕ) → of_group n (d + at) (moved_skip d x) ≡ moved_field d (of_group n at x)
  of_group_moved n at (Some next) =
      let e : d + next - (d + at) ≡ next - at = omega arith in
      ap (λ (m : ℕ). some_field n 3 0 (d + at) m (d + next)) e
  of_group_moved n at None = refl

  of_tag_moved : (x : Option Tag) → of_tag s (moved_tag d x) ≡ moved_field d (of_tag t x)
  of_tag_moved (Some r) =
      chosen_alike (moved_field d) (eqb r.wire 3)
      (ap (of_group r.number (d + r.next)) (group_moved max_depth r.next r.number) ∙ of_group_moved r.number r.next (group_end max_depth t r.next r.number))
      (ap (of_value r.number r.wire) (value_moved r.wire r.next) ∙ of_value_moved r.number r.wire (value_at t r.wire r.next))
  of_tag_moved None = refl

  pub field_moved : (at : ℕ) → field_at s (d + at) ≡ moved_field d (field_at t at)
  field_moved at =
      field_tagged s (d + at) (moved_tag d (tag_at t at)) (tag_moved at)
      ∙ of_tag_moved (tag_at t at)
      ∙ sym (ap (moved_field d) (field_tagged t at (tag_at t at) refl))
