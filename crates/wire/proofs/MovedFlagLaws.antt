-- Whether a field is padded does not depend on where its bytes stand, nor on what stands behind them. Assumes nothing.
use Rattle.prelude.proofs.Basics.{ℕ, ◌+◌, ◌-◌, ◌≤◌, ◌<◌, arith, Bool, true, false, ◌||◌, cond, ◌≡◌, refl, sym, ap, ap₂}
use Rattle.prelude.proofs.Basics.{◌∙◌, List, ◌++◌, length, take, drop, List·getD-append, length-append, length-drop}
use Rattle.prelude.proofs.Basics.{drop-append-le, drop-drop, take-append-le, eqb, eqb-true}
use Rattle.varint.specs.Padded.{is_padded, padded_by}
use Rattle.wire.proofs.Names.{Past, varint_at, padded_at, Number, varint_past, KeepsVarint, varint_keeps, tag_of}
use Rattle.wire.proofs.Names.{tag_at, of_varint, of_length, of_value, field_of, field_at, value_padded, behind_tag}
use Rattle.wire.proofs.Names.{field_padded, Tag, Value}
use Rattle.wire.proofs.FieldLaws.{field_tagged}
use Rattle.wire.proofs.PaddedLaws.{field_flag}
use Rattle.wire.proofs.MovedLaws.{moved_varint, moved_tag, varint_moved, tag_moved, Tail, Stands}
use Rattle.std.specs.Prelude.{Option, Some, None}
use Rattle.varint.specs.Number.{some_number}
use Rattle.wire.specs.Field.{some_field}
use Rattle.wire.specs.Tag.{some_tag}

-- ---- where the bytes stand

module _ {s : List ℕ} {d : ℕ} {t : List ℕ} (k : Tail s d t) where
  by-varint : (at : ℕ) (x : Option Number) → padded_by s (d + at) (moved_varint d x) ≡ padded_by t at x
  by-varint at (Some r) =
      let e : d + r.next - (d + at) ≡ r.next - at = omega arith in
      ap₂ (λ (n : ℕ) (l : List ℕ). is_padded (take n l) r.value) e (sym (drop-drop at d s) ∙ ap (drop at) k.is)
  by-varint at None = refl

  padded-moved : (at : ℕ) → padded_at s (d + at) ≡ padded_at t at
  unfolding padded_at
  padded-moved at = ap (padded_by s (d + at)) (varint_moved k at) ∙ by-varint at (varint_at t at)

  behind_moved : (x : Option Tag) → behind_tag s (moved_tag d x) ≡ behind_tag t x
  behind_moved (Some r) =
      ap (λ (b : Bool). cond (eqb r.wire 0) b (cond (eqb r.wire 2) b false)) (padded-moved r.next)
  behind_moved None = refl

  pub field_flag_moved : (at : ℕ) → field_padded s (d + at) ≡ field_padded t at
  unfolding field_padded
  field_flag_moved at = ap₂ ◌||◌ (padded-moved at) (ap (behind_tag s) (tag_moved k at) ∙ behind_moved (tag_at t at))

-- ---- what stands behind them

module _ (s q : List ℕ) where
  varint-longer : (at : ℕ) {v next : ℕ} → varint_at s at ≡ some_number v next →
      (varint_at (s ++ q) at ≡ some_number v next) × (at < next) × (next ≤ length s)
  varint-longer at {v} {next} e =
      go
      (varint_keeps {p = at}
      (record {
        here = omega arith;
        there = omega (arith, length-append s q);
        same = λ i _ h. List·getD-append s q 0 i h;
      }))
      (varint_past s at)
    where
      go : KeepsVarint (length s) (varint_at s at) (varint_at (s ++ q) at) → Past at (length s) (varint_at s at) →
          (varint_at (s ++ q) at ≡ some_number v next) × (at < next) × (next ≤ length s)
      go = rw e (λ k p. (k p.1, p.0, p.1))

  padded-longer : (at : ℕ) {v next : ℕ} → varint_at s at ≡ some_number v next → padded_at (s ++ q) at ≡ padded_at s at
  unfolding padded_at
  padded-longer at {v} {next} e =
      let f = varint-longer at e in
      ap (padded_by (s ++ q) at) f.0
      ∙ ap (λ (l : List ℕ). is_padded l v)
      (ap (take (next - at)) (drop-append-le at s q (omega (arith, f.1, f.2)))
      ∙ take-append-le (next - at) (drop at s) q (omega (arith, length-drop at s, f.2)))
      ∙ sym (ap (padded_by s at) e)

  -- a value that begins with a varint has one
  begins : (g : Option Number → Option Value) → g None ≡ None → (number wire at : ℕ) {n w v st ln next : ℕ} →
      of_value number wire (g (varint_at s at)) ≡ some_field n w v st ln next → padded_at (s ++ q) at ≡ padded_at s at
  begins g z number wire at {n} {w} {v} {st} {ln} {next} e = go (varint_at s at) refl
    where
      go : (x : Option Number) → varint_at s at ≡ x → padded_at (s ++ q) at ≡ padded_at s at
      go (Some r) f = padded-longer at f
      go None f =
          absurd
          (let bad : None ≡ some_field n w v st ln next =
          sym (ap (λ (x : Option Number). of_value number wire (g x)) f ∙ ap (of_value number wire) z) ∙ e in
          let y : ◌≡◌ {A = ℕ} 0 1 = cc in
          omega arith)

  value-longer : (number wire at : ℕ) {n w v st ln next : ℕ} →
      field_of s number wire at ≡ some_field n w v st ln next →
      value_padded (s ++ q) wire at ≡ value_padded s wire at
  value-longer number wire at {n} {w} {v} {st} {ln} {next} e = go (eqb wire 0) refl (eqb wire 2) refl
    where
      with-wire : {i : ℕ} → wire ≡ i → field_of s number i at ≡ some_field n w v st ln next
      with-wire {i} f = ap (λ (i : ℕ). field_of s number i at) (sym f) ∙ e

      go : (a : Bool) → eqb wire 0 ≡ a → (b : Bool) → eqb wire 2 ≡ b →
          cond a (padded_at (s ++ q) at) (cond b (padded_at (s ++ q) at) false)
          ≡ cond a (padded_at s at) (cond b (padded_at s at) false)
      go true f b h = begins (of_varint at) refl number 0 at (with-wire (eqb-true wire 0 f))
      go false f true h = begins (of_length s) refl number 2 at (with-wire (eqb-true wire 2 h))
      go false f false h = refl

  field-flag-longer : (at : ℕ) {n w v st ln next : ℕ} → field_at s at ≡ some_field n w v st ln next →
      field_padded (s ++ q) at ≡ field_padded s at
  field-flag-longer at {n} {w} {v} {st} {ln} {next} e = by-varint (varint_at s at) refl
    where
      by-tag : (g here : ℕ) → varint_at s at ≡ some_number g here → (y : Option Tag) → tag_of (some_number g here) ≡ y →
          field_padded (s ++ q) at ≡ field_padded s at
      by-tag g here f (Some r) h =
          let y = some_tag r.number r.wire r.next in
          sym (field_flag (s ++ q) at y (ap tag_of (varint-longer at f).0 ∙ h))
          ∙ ap₂ ◌||◌ (padded-longer at f)
          (value-longer r.number r.wire r.next (sym (field_tagged s at y (ap tag_of f ∙ h)) ∙ e))
          ∙ field_flag s at y (ap tag_of f ∙ h)
      by-tag g here f None h =
          absurd
          (let bad = sym (field_tagged s at None (ap tag_of f ∙ h)) ∙ e in
          let y : ◌≡◌ {A = ℕ} 0 1 = cc in
          omega arith)

      by-varint : (x : Option Number) → varint_at s at ≡ x → field_padded (s ++ q) at ≡ field_padded s at
      by-varint (Some r) f = by-tag r.value r.next f (tag_of (some_number r.value r.next)) refl
      by-varint None f =
          absurd
          (let bad = sym (field_tagged s at None (ap tag_of f)) ∙ e in
          let y : ◌≡◌ {A = ℕ} 0 1 = cc in
          omega arith)

-- a field of bytes that stand somewhere
pub field_flag_stands : {s : List ℕ} {d : ℕ} {t q : List ℕ} → Stands s d t q → (at : ℕ) {n w v st ln next : ℕ} →
    field_at t at ≡ some_field n w v st ln next → field_padded s (d + at) ≡ field_padded t at
field_flag_stands {t = t} {q = q} k at e =
    field_flag_moved (record { within = k.within; is = k.there }) at ∙ field-flag-longer t q at e
