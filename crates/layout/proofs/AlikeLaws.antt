-- Field lists read in bytes and in a byte string that holds these bytes: they are alike but for the places. Assumes
-- nothing.
use Rattle.prelude.proofs.Basics.{ℕ, zero, suc, ◌+◌, ◌≤◌, ◌<◌, arith, Bool, true, false, ◌≡◌, refl, sym, ap, subst, ◌∙◌}
use Rattle.prelude.proofs.Basics.{List, length, get_or, set, length-set, get_or-set_other, get_or-set_same, less_or_not}
use Rattle.layout.proofs.Names.{field_at, PastField, Field, field_past, moved_field, field_moved, Tail}
use Rattle.layout.proofs.Names.{tail_length, is_repeated, row_for, slot_count, no_slots, bad_slots, use_of, noted}
use Rattle.layout.proofs.Names.{fields_onto, has_required, checked, fields_at, start_of, Use, Slots}
use Rattle.layout.proofs.FieldsLaws.{Towards, starts_onto, ends, no_field, advances, goes_on_lem, kept_slot}
use Rattle.layout.proofs.FieldsLaws.{checked_good, checked_bad}
use Rattle.layout.proofs.KeptLaws.{zeros, same_or_not, Kept, none_kept, bad_kept, noted_kept}
use Rattle.layout.proofs.UnreadLaws.{counted_repeated}
use Rattle.std.specs.Prelude.{Option, Some, None}

-- x is read in n bytes, and y in a byte string that holds them at the place d
pub record Alike (rows : List (List ℕ)) (d n : ℕ) (x y : Slots) : Type 0 where
  pub good : y.good ≡ x.good
  pub count : y.count ≡ x.count
  pub value : y.value ≡ x.value
  pub len : y.len ≡ x.len
  pub kept : Kept n x
  pub starts : length y.start ≡ slot_count
  -- a field that is kept and occurs
  pub start : (k : ℕ) → is_repeated (row_for rows k) ≡ false → (get_or x.count k 0 ≡ 0 → ⊥) →
      start_of y k ≡ d + start_of x k

module _ (rows : List (List ℕ)) (d n : ℕ) where
  pub none_alike : Alike rows d n no_slots no_slots
  none_alike =
      record {
        good = refl;
        count = refl;
        value = refl;
        len = refl;
        kept = none_kept n;
        starts = refl;
        start = λ k _ h. absurd (h (zeros slot_count k));
      }

  pub bad_alike : Alike rows d n bad_slots bad_slots
  bad_alike =
      record {
        good = refl;
        count = refl;
        value = refl;
        len = refl;
        kept = bad_kept n;
        starts = refl;
        start = λ k _ h. absurd (h (zeros slot_count k));
      }

  pub alike_as : {x y x' y' : Slots} → x ≡ x' → y ≡ y' → Alike rows d n x y → Alike rows d n x' y'
  alike_as {x} {y} {x'} {y'} e f a =
      subst (λ (z : Slots). Alike rows d n x' z) f (subst (λ (z : Slots). Alike rows d n z y) e a)

  -- one field more
  module _ {x y : Slots} (a : Alike rows d n x y) (number w v st ln : ℕ) (in-n : st + ln ≤ n) where
    noted-alike : (u : Use) → use_of rows number w v ≡ u →
        Alike rows d n (noted u x number v st ln) (noted u y number v (d + st) ln)
    noted-alike Use.Unknown e = a
    noted-alike Use.Counted e =
        record {
          good = a.good;
          count = ap (λ (l : List ℕ). set l number (get_or l number 0 + 1)) a.count;
          value = a.value;
          len = a.len;
          kept = noted_kept rows n a.kept number w v st ln in-n Use.Counted (sym e);
          starts = a.starts;
          start = λ k r h.
              same_or_not k number
              (λ z.
              absurd
              (let r' = ap (λ (m : ℕ). is_repeated (row_for rows m)) z in
              let r'' = counted_repeated rows number w v e in
              let z : ◌≡◌ {A = ℕ} 0 1 = cc in
              omega arith))
              (λ z. a.start k r (λ o. h (get_or-set_other x.count number k (get_or x.count number 0 + 1) 0 z ∙ o)));
        }
    noted-alike Use.Kept e =
        record {
          good = a.good;
          count = ap (λ (l : List ℕ). set l number (get_or l number 0 + 1)) a.count;
          value = ap (λ (l : List ℕ). set l number v) a.value;
          len = ap (λ (l : List ℕ). set l number ln) a.len;
          kept = noted_kept rows n a.kept number w v st ln in-n Use.Kept (sym e);
          starts = length-set y.start number (d + st) ∙ a.starts;
          start = λ k r h.
              same_or_not k number
              (λ z.
              ap (λ (m : ℕ). get_or (set y.start number (d + st)) m 0) z
              ∙ get_or-set_same y.start number (d + st) 0 small-too
              ∙ ap (λ (m : ℕ). d + m) (sym (get_or-set_same x.start number st 0 small))
              ∙ ap (λ (m : ℕ). d + get_or (set x.start number st) m 0) (sym z))
              (λ z.
              get_or-set_other y.start number k (d + st) 0 z
              ∙ a.start k r (λ o. h (get_or-set_other x.count number k (get_or x.count number 0 + 1) 0 z ∙ o))
              ∙ ap (λ (m : ℕ). d + m) (sym (get_or-set_other x.start number k st 0 z)));
        }
      where
        small : number < length x.start
        small = omega (arith, kept_slot rows number w v (sym e), a.kept.starts)

        small-too : number < length y.start
        small-too = omega (arith, kept_slot rows number w v (sym e), a.starts)

-- asking for what is required
pub checked_alike : (rows : List (List ℕ)) (d n : ℕ) {x y : Slots} → Alike rows d n x y →
    Alike rows d n (checked rows x) (checked rows y)
checked_alike rows d n {x} {y} a = go (has_required rows x.count) refl
  where
    go : (b : Bool) → has_required rows x.count ≡ b → Alike rows d n (checked rows x) (checked rows y)
    go true e =
        alike_as rows d n (checked_good rows x e) (checked_good rows y (ap (has_required rows) a.count ∙ e)) a
    go false e =
        alike_as rows d n (checked_bad rows x e) (checked_bad rows y (ap (has_required rows) a.count ∙ e))
        (bad_alike rows d n)

-- two walks through a field list, one in the bytes and one in what holds them
module _ (rows : List (List ℕ)) {s : List ℕ} {d : ℕ} {t : List ℕ} (k : Tail s d t) (n : ℕ) (few : length t ≤ n)
    (xs ys : Slots) where
  abbrev Same : Type 0
  Same = Alike rows d n xs ys

  module _ (p : ℕ) (i : p < length t) {x y : Slots} (f : Towards rows t p x xs) (g : Towards rows s (d + p) y ys)
      (a : Alike rows d n x y)
      (on : (q : ℕ) → p < q → (x' y' : Slots) → Towards rows t q x' xs → Towards rows s (d + q) y' ys →
      Alike rows d n x' y' → Same) where
    j : d + p < length s
    j = omega (arith, tail_length k)

    by_field : (z : Option Field) → field_at t p ≡ z → Same
    by_field None e =
        alike_as rows d n (no_field f i e) (no_field g j (field_moved k p ∙ ap (moved_field d) e)) (bad_alike rows d n)
    by_field (Some r) e =
        let e' = field_moved k p ∙ ap (moved_field d) e in
        let u = use_of rows r.number r.wire r.value in
        on r.next (advances f i e) (noted u x r.number r.value r.start r.len) (noted u y r.number r.value (d + r.start) r.len)
        (goes_on_lem f i e (use_of rows r.number r.wire r.value) refl) (goes_on_lem g j e' (use_of rows r.number r.wire r.value) refl)
        (noted-alike rows d n a r.number r.wire r.value r.start r.len (within (field_past t p)) (use_of rows r.number r.wire r.value) refl)
      where
        within : PastField p (length t) (field_at t p) → r.start + r.len ≤ n
        within = rw e (λ h. omega arith)

  pub walks : (most p : ℕ) → length t ≤ p + most → {x y : Slots} → Towards rows t p x xs →
      Towards rows s (d + p) y ys → Alike rows d n x y → Same
  walks zero p h f g a = alike_as rows d n (ends f (omega arith)) (ends g (omega (arith, tail_length k))) a
  walks (suc most) p h f g a =
      less_or_not p (length t) (λ i. by_field p i f g a (λ q z x' y'. walks most q (omega arith)) (field_at t p) refl)
      (λ i. alike_as rows d n (ends f i) (ends g (omega (arith, tail_length k))) a)

module _ (rows : List (List ℕ)) {s : List ℕ} {d : ℕ} {t : List ℕ} (k : Tail s d t) (from : ℕ) where
  -- behind slots that are alike
  pub onto_alike : (n : ℕ) → length t ≤ n → {x y : Slots} → Alike rows d n x y →
      Alike rows d n (fields_onto rows t from x) (fields_onto rows s (d + from) y)
  onto_alike n few {x} {y} a =
      walks rows k n few (fields_onto rows t from x) (fields_onto rows s (d + from) y) (length t) from (omega arith)
      (starts_onto rows t from x) (starts_onto rows s (d + from) y) a

  pub fields_alike : Alike rows d (length t) (fields_at rows t from) (fields_at rows s (d + from))
  fields_alike =
      checked_alike rows d (length t) (onto_alike (length t) (omega arith) (none_alike rows d (length t)))
