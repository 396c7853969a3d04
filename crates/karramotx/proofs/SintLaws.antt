-- The number of a sint field has 64 bits, since only a varint is kept for it. Assumes nothing.
use Rattle.prelude.proofs.Basics.{ℕ, zero, suc, ◌^◌, ◌<◌, arith, mod-lt, Bool, true, false, cond, ◌≡◌, refl, sym}
use Rattle.prelude.proofs.Basics.{ap, subst, List, [], ◌∷◌, length, get_or, set, take, eqb, leb, ltb, eqb-true, both}
use Rattle.varint.specs.declared.Number.{Number}
use Rattle.varint.specs.Varint.{groups, low64}
use Rattle.wire.specs.declared.tag.Tag.{Tag}
use Rattle.wire.specs.declared.value.Value.{Value}
use Rattle.wire.specs.declared.field.Field.{Field}
use Rattle.wire.specs.Tag.{tag_at}
use Rattle.wire.specs.Group.{group_end}
use Rattle.wire.specs.Value.{of_varint, value_at}
use Rattle.wire.specs.Field.{max_depth, of_value, of_group, of_tag, field_at}
use Rattle.layout.specs.Table.{rows_of, scalar}
use Rattle.layout.specs.Row.{is_repeated, row_for, takes}
use Rattle.layout.specs.Fields.{use_of, noted, on_field, fields_from, has_required}
use Rattle.layout.specs.Slots.{no_slots, bad_slots}
use Rattle.layout.specs.declared.slots.Slots.{Slots}
use Rattle.layout.specs.declared.fields.Use.{Use}
use Rattle.layout.specs.declared.part.Part.{Part}
use Rattle.layout.specs.Part.{value_of}
use Rattle.layout.specs.Merged.{end_of, part_onto, parts_onto, merged}
use Rattle.std.specs.Prelude.{Option, Some, None}

-- ---- a field whose wire type is 0

abbrev SmallValue : Option Value → Type 0
SmallValue (Some r) = r.number < 2 ^ 64
SmallValue None = Unit {0}

abbrev SmallField : Option Field → Type 0
SmallField (Some r) = r.wire ≡ 0 → r.value < 2 ^ 64
SmallField None = Unit {0}

varint_small : (at : ℕ) (x : Option Number) → SmallValue (of_varint at (low64 x))
varint_small at (Some r) = mod-lt r.value (omega arith)
varint_small at None = tt

module _ (s : List ℕ) where
  value-small : (wire at : ℕ) → wire ≡ 0 → SmallValue (value_at s wire at)
  value-small wire at e =
      subst (λ (w : ℕ). SmallValue (value_at s w at)) (sym e) (varint_small at (groups 10 s at))

  of-value : (number wire : ℕ) (x : Option Value) → (wire ≡ 0 → SmallValue x) → SmallField (of_value number wire x)
  of-value number wire (Some r) h = h
  of-value number wire None h = tt

  of-group : (number at : ℕ) (x : Option ℕ) → SmallField (of_group number at x)
  of-group number at (Some next) = λ e. absurd (omega arith)
  of-group number at None = tt

  of_tag_lem : (x : Option Tag) → SmallField (of_tag s x)
  of_tag_lem (Some r) =
      both SmallField (eqb r.wire 3) (of_group r.number r.next (group_end max_depth s r.next r.number))
      (of_value r.number r.wire (value_at s r.wire r.next))
      (λ _. of-group r.number r.next (group_end max_depth s r.next r.number))
      (λ _. of-value r.number r.wire (value_at s r.wire r.next) (value-small r.wire r.next))
  of_tag_lem None = tt

  field-small : (at : ℕ) → SmallField (field_at s at)
  unfolding field_at
  field-small at = of_tag_lem (tag_at s at)

-- ---- the slot of field 2 of a Scalar

abbrev pub Small : Slots → Type 0
Small x = value_of x 2 < 2 ^ 64

set_small : (l : List ℕ) (i k v most : ℕ) → (i ≡ k → v < most) → get_or l k 0 < most → get_or (set l i v) k 0 < most
set_small [] i k v most f h = h
set_small (x ∷ l) zero zero v most f h = f refl
set_small (x ∷ l) zero (suc k) v most f h = h
set_small (x ∷ l) (suc i) zero v most f h = h
set_small (x ∷ l) (suc i) (suc k) v most f h = set_small l i k v most (λ e. f (ap suc e)) h

-- its row takes no other wire type
varint_taken : (number wire v : ℕ) → number ≡ 2 → takes (row_for (rows_of scalar) number) number wire v ≡ true → wire ≡ 0
unfolding row_for rows_of
varint_taken number wire v e t = go (eqb 0 wire) refl (subst Taken e t)
  where
    Taken : ℕ → Type 0
    Taken n = takes (row_for (rows_of scalar) n) n wire v ≡ true

    go : (b : Bool) → eqb 0 wire ≡ b → cond b true false ≡ true → wire ≡ 0
    go true f g = sym (eqb-true 0 wire f)
    go false f g = absurd (let z : ◌≡◌ {A = ℕ} 0 1 = cc in omega arith)

noted_small : (x : Slots) (number wire v start len : ℕ) → Small x → (wire ≡ 0 → v < 2 ^ 64) →
    Small (noted (use_of (rows_of scalar) number wire v) x number v start len)
noted_small x number wire v start len h f =
    both P (takes (row_for (rows_of scalar) number) number wire v) _ Use.Unknown
    (λ t. both P (is_repeated (row_for (rows_of scalar) number)) Use.Counted Use.Kept (λ _. h)
    (λ _. set_small x.value number 2 v (2 ^ 64) (λ e. f (varint_taken number wire v e t)) h))
    (λ _. h)
  where
    P : Use → Type 0
    P u = Small (noted u x number v start len)

on_field_lem : (s : List ℕ) (x : Slots) (more : ℕ → Slots → Slots) →
    ((next : ℕ) (y : Slots) → Small y → Small (more next y)) →
    Small x → (f : Option Field) → SmallField f → Small (on_field (rows_of scalar) x more f)
on_field_lem s x more on h (Some r) g =
    on r.next (noted (use_of (rows_of scalar) r.number r.wire r.value) x r.number r.value r.start r.len)
    (noted_small x r.number r.wire r.value r.start r.len h g)
on_field_lem s x more on h None g = omega arith

fields_small : (most : ℕ) (s : List ℕ) (at : ℕ) (x : Slots) → Small x → Small (fields_from most (rows_of scalar) s at x)
unfolding fields_from
fields_small zero s at x h = h
fields_small (suc most) s at x h =
    both Small (ltb at (length s)) _ x
    (λ _. on_field_lem s x (λ next y. fields_from most (rows_of scalar) s next y)
    (λ next y. fields_small most s next y) h (field_at s at) (field-small s at))
    (λ _. h)

-- in each part of the Scalar, and in all of them
part_small : (s : List ℕ) (p : Part) (x : Slots) → Small x → Small (part_onto (rows_of scalar) s p x)
part_small s p x h =
    let t = take (end_of p) s in
    both Small (leb (end_of p) (length s)) _ bad_slots (λ _. fields_small (length t) t p.start x h)
    (λ _. omega arith)

parts_small : (s : List ℕ) (ps : List Part) (x : Slots) → Small x → Small (parts_onto (rows_of scalar) s ps x)
unfolding parts_onto
parts_small s [] x h = h
parts_small s (p ∷ ps) x h =
    let y = part_onto (rows_of scalar) s p x in
    both Small y.good (parts_onto (rows_of scalar) s ps y) bad_slots (λ _. parts_small s ps y (part_small s p x h))
    (λ _. omega arith)

pub sint_small : (s : List ℕ) (ps : List Part) → Small (merged (rows_of scalar) s ps)
sint_small s ps =
    let x = parts_onto (rows_of scalar) s ps no_slots in
    both Small (has_required (rows_of scalar) x.count) x bad_slots (λ _. parts_small s ps no_slots (omega arith))
    (λ _. omega arith)
