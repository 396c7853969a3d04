-- The bytes of two fields that a list keeps do not overlap. Assumes nothing.
use Rattle.prelude.proofs.Basics.{ℕ, zero, suc, ◌+◌, ◌≤◌, ◌<◌, arith, ◌≡◌, refl, sym, ap, ◌∙◌, ◌⊎◌, inl, inr, ⊎_elim}
use Rattle.prelude.proofs.Basics.{List, length, get_or, set, length-set, get_or-set_other, get_or-set_same, ltb, both}
use Rattle.layout.proofs.Names.{field_at, PastField, Field, field_past, slot_count, no_slots, bad_slots, use_of}
use Rattle.layout.proofs.Names.{noted, on_field, fields_from, field_list, has_required, start_of, end_in, Use, Slots}
use Rattle.layout.specs.FieldsRules.{KeptApart}
use Rattle.layout.proofs.FieldsLaws.{kept_slot}
use Rattle.layout.proofs.KeptLaws.{zeros, same_or_not}
use Rattle.std.specs.Prelude.{Option, Some, None}

-- no two fields overlap
abbrev Clear : Slots → Type 0
Clear x = (i k : ℕ) → (i ≡ k → ⊥) → (end_in x i ≤ start_of x k) ⊎ (end_in x k ≤ start_of x i)

-- the same before the place p, where all of them end
record Apart (p : ℕ) (x : Slots) : Type 0 where
  starts : length x.start ≡ slot_count
  lens : length x.len ≡ slot_count
  ends : (k : ℕ) → end_in x k ≤ p
  clear : Clear x

none_clear : Clear no_slots
none_clear i k _ = inl (omega (arith, zeros slot_count i))

bad_clear : Clear bad_slots
bad_clear i k _ = inl (omega (arith, zeros slot_count i))

none_apart : (p : ℕ) → Apart p no_slots
none_apart p = record { starts = refl; lens = refl; ends = λ k. omega (arith, zeros slot_count k); clear = none_clear }

apart_later : {p : ℕ} {x : Slots} → Apart p x → (q : ℕ) → p ≤ q → Apart q x
apart_later a q h =
    record { starts = a.starts; lens = a.lens; ends = λ k. omega (arith, a.ends k); clear = a.clear }

-- one field more: k is as it was, or is the one
record Was (k : ℕ) (x y : Slots) : Type 0 where
  start : start_of y k ≡ start_of x k
  end : end_in y k ≡ end_in x k

record Now (k number st ln : ℕ) (y : Slots) : Type 0 where
  is : k ≡ number
  start : start_of y k ≡ st
  end : end_in y k ≡ st + ln

module _ {p : ℕ} {x : Slots} (a : Apart p x) (number v st ln next : ℕ) (slot : number < slot_count) (behind : p < st)
    (within : st + ln ≤ next) where
  abbrev y : Slots
  y = noted Use.Kept x number v st ln

  one : (k : ℕ) → Was k x y ⊎ Now k number st ln y
  one k =
      same_or_not k number
      (λ z.
      let s-is =
      ap (λ (m : ℕ). get_or (set x.start number st) m 0) z
      ∙ get_or-set_same x.start number st 0 (omega (arith, a.starts)) in
      let l-is =
      ap (λ (m : ℕ). get_or (set x.len number ln) m 0) z
      ∙ get_or-set_same x.len number ln 0 (omega (arith, a.lens)) in
      inr (record { is = z; start = s-is; end = omega (arith, s-is, l-is) }))
      (λ z.
      let s-is = get_or-set_other x.start number k st 0 z in
      let l-is = get_or-set_other x.len number k ln 0 z in
      inl (record { start = s-is; end = omega (arith, s-is, l-is) }))

  kept-clear : Clear y
  kept-clear i k h =
      ⊎_elim
      (λ c.
      ⊎_elim
      (λ d.
      ⊎_elim (λ l. inl (omega (arith, c.end, d.start))) (λ l. inr (omega (arith, d.end, c.start)))
      (a.clear i k h))
      (λ d. inl (omega (arith, c.end, d.start, a.ends i))) (one k))
      (λ c.
      ⊎_elim (λ d. inr (omega (arith, d.end, c.start, a.ends k))) (λ d. absurd (h (c.is ∙ sym d.is))) (one k))
      (one i)

  kept-apart-next : Apart next y
  kept-apart-next =
      record {
        starts = length-set x.start number st ∙ a.starts;
        lens = length-set x.len number ln ∙ a.lens;
        ends = λ k. ⊎_elim (λ c. omega (arith, c.end, a.ends k)) (λ c. omega (arith, c.end)) (one k);
        clear = kept-clear;
      }

noted_apart : (rows : List (List ℕ)) {p : ℕ} {x : Slots} → Apart p x → (number w v st ln next : ℕ) → p < st →
    st + ln ≤ next → (u : Use) → u ≡ use_of rows number w v → Apart next (noted u x number v st ln)
noted_apart rows a number w v st ln next h l Use.Unknown e = apart_later a next (omega arith)
noted_apart rows {p} {x} a number w v st ln next h l Use.Counted e =
    let b = apart_later a next (omega arith) in
    record { starts = b.starts; lens = b.lens; ends = b.ends; clear = b.clear }
noted_apart rows a number w v st ln next h l Use.Kept e =
    kept-apart-next a number v st ln next (kept_slot rows number w v e) h l

module _ (rows : List (List ℕ)) (s : List ℕ) where
  field-clear : (p : ℕ) (x : Slots) → Apart p x → (more : ℕ → Slots → Slots) →
      ((q : ℕ) (y : Slots) → Apart q y → Clear (more q y)) → (z : Option Field) → PastField p (length s) z →
      Clear (on_field rows x more z)
  field-clear p x a more m (Some r) h =
      m r.next (noted (use_of rows r.number r.wire r.value) x r.number r.value r.start r.len)
      (noted_apart rows a r.number r.wire r.value r.start r.len r.next h.0 h.1 (use_of rows r.number r.wire r.value) refl)
  field-clear p x a more m None h = bad_clear

  from-clear : (most p : ℕ) (x : Slots) → Apart p x → Clear (fields_from most rows s p x)
  unfolding fields_from
  from-clear zero p x a = a.clear
  from-clear (suc most) p x a =
      both Clear (ltb p (length s)) _ _
      (λ _.
      field-clear p x a (λ next y. fields_from most rows s next y) (λ q y b. from-clear most q y b) (field_at s p)
      (field_past s p))
      (λ _. a.clear)

pub kept_apart : KeptApart
kept_apart rows s from =
    both Clear (has_required rows (field_list rows s from).count) _ _
    (λ _. from-clear rows s (length s) from no_slots (none_apart from)) (λ _. bad_clear)
