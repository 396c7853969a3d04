-- What the groups of a varint hold, one turn of the reading loop at a time. Assumes nothing.
use Rattle.prelude.proofs.Basics.{ℕ, zero, suc, ◌+◌, ◌-◌, ◌*◌, ◌%◌, ◌^◌, ◌≤◌, ◌<◌, arith, mod-eq_of_lt, mul_assoc}
use Rattle.prelude.proofs.Basics.{add-one, Bool, true, false, not, ◌≡◌, refl, sym, ap, ap₂, ◌∙◌, List, [], ◌∷◌, ◌++◌}
use Rattle.prelude.proofs.Basics.{length, get_or, take, drop, length-drop, get_or-drop, eqb, ltb, eqb-false, eqb-true}
use Rattle.prelude.proofs.Basics.{le-ltb, lt-ltb, less_or_not}
use native.Mathlib.Nat.{mul-add, mul_comm, mul-le-mul_right, pow-le-pow_right, pow-suc}
use lib.Seq.{take-suc}
use Rattle.varint.specs.Varint.{onto, groups, low64, varint_at}
use Rattle.varint.specs.Padded.{is_padded}
use Rattle.varint.specs.private.Behind.{behind_first, padded_first, padded_behind, padded_tenth}
use Rattle.varint.specs.declared.Number.{Number}
use Rattle.varint.proofs.PaddedLaws.{tops, tops_one, tops_more, needless, needed, another}
use Rattle.std.specs.Prelude.{Option, Some, None}
use Rattle.varint.specs.Number.{some_number}

zero_times : (w d : ℕ) → d ≤ 0 → d * w ≡ 0
zero_times w zero h = omega arith
zero_times w (suc d) h = absurd (omega arith)

pub onto_onto : (a w b : ℕ) (x : Option Number) → onto a w (onto b 128 x) ≡ onto (a + b * w) (w * 128) x
onto_onto a w b (Some r) =
    ap (λ (m : ℕ). some_number m r.next) (omega (arith, mul-add w b (128 * r.value), mul_assoc w 128 r.value, mul_comm w b))
onto_onto a w b None = refl

pub groups_none : (s : List ℕ) (at : ℕ) → groups 0 s at ≡ None
unfolding groups
groups_none s at = refl

-- at the end of the bytes there is no group
pub groups_end : (n : ℕ) (s : List ℕ) (at : ℕ) → length s ≤ at → groups n s at ≡ None
unfolding groups
groups_end zero s at h = refl
groups_end (suc n) s at h = simp (le-ltb at (length s) h)

module _ (n : ℕ) (s : List ℕ) (at : ℕ) (in-s : at < length s) where
  pub groups_last : get_or s at 0 < 128 → groups (suc n) s at ≡ some_number (get_or s at 0) (at + 1)
  unfolding groups
  groups_last h = simp (lt-ltb at (length s) in-s, lt-ltb (get_or s at 0) 128 h)

  pub groups_more : 128 ≤ get_or s at 0 → groups (suc n) s at ≡ onto (get_or s at 0 % 128) 128 (groups n s (at + 1))
  unfolding groups
  groups_more h = simp (lt-ltb at (length s) in-s, le-ltb (get_or s at 0) 128 h)

-- where the loop stands after k groups, of which the first is that of a byte ahead of the place `at`: their number, the
-- next group's weight, and the rest; and that the bytes read are the ones that are written for their number
pub record Reading (first : ℕ) (s : List ℕ) (at value weight i k : ℕ) : Type 0 where
  pub few : k ≤ 9
  pub some : 0 < k
  pub weighs : weight ≡ 128 ^ k
  pub small : value < weight
  pub place : i + 1 ≡ at + k
  pub whole : onto value weight (groups (10 - k) s i) ≡ onto (first % 128) 128 (groups 9 s at)
  pub bytes : 128 ≤ first → first ∷ take (i - at) (drop at s) ≡ tops k value

pub starts : (first : ℕ) (s : List ℕ) (at : ℕ) → first < 256 → Reading first s at (first % 128) 128 at 1
starts first s at h =
    record {
      few = omega arith;
      some = omega arith;
      weighs = refl;
      small = omega arith;
      place = omega arith;
      whole = refl;
      bytes = λ m.
          let none : at - at ≡ 0 = omega arith in
          let is : first ≡ 128 + first % 128 = omega arith in
          rw none (ap (λ (n : ℕ). n ∷ []) is ∙ tops_one (first % 128) (omega arith));
    }

module _ {first : ℕ} {s : List ℕ} {at value weight i k : ℕ} (r : Reading first s at value weight i k) where
  -- one byte more, of those from the place `at` on
  one_byte_lem : i < length s → take (i + 1 - at) (drop at s) ≡ take (i - at) (drop at s) ++ (get_or s i 0 ∷ [])
  one_byte_lem h =
      let n : i + 1 - at ≡ suc (i - at) = omega (arith, r.place, r.some) in
      let j : at + (i - at) ≡ i = omega (arith, r.place, r.some) in
      rw n
      (take-suc (drop at s) (i - at) 0 (omega (arith, length-drop at s, r.place, r.some))
      ∙ ap (λ (b : ℕ). take (i - at) (drop at s) ++ (b ∷ []))
      (get_or-drop at s (i - at) 0 ∙ ap (λ (m : ℕ). get_or s m 0) j))

  -- the bytes up to one more, the first one ahead of them
  pub more_bytes : 128 ≤ first → i < length s →
      first ∷ take (i + 1 - at) (drop at s) ≡ tops k value ++ (get_or s i 0 ∷ [])
  more_bytes m h =
      ap (λ (l : List ℕ). first ∷ l) (one_byte_lem h)
      ∙ ap (λ (l : List ℕ). l ++ (get_or s i 0 ∷ [])) (r.bytes m)

  module _ (more : k < 9) where
    pub light : weight ≤ 2 ^ 56
    light = rw r.weighs (pow-le-pow_right {n = 128} (omega arith) {i = k} {j = 8} (omega arith))

    one_more : (j : ℕ) → j ≡ 10 - k → groups j s i ≡ groups (suc (9 - k)) s i
    one_more j e = ap (λ (m : ℕ). groups m s i) (omega arith)

    pub whole_end : length s ≤ i → None ≡ behind_first first s at
    whole_end h = ap low64 (sym (ap (onto value weight) (groups_end (10 - k) s i h)) ∙ r.whole)

    -- a group's part of the number stays below 2 ^ 63
    pub product : (b : ℕ) → b < 128 → b * weight ≤ 127 * weight
    product b h = mul-le-mul_right weight (omega arith)

    pub room : (b : ℕ) → b < 128 → value + b * weight < 2 ^ 63
    room b h = omega (arith, product b h, light, r.small)

    pub whole_last : i < length s → get_or s i 0 < 128 →
        some_number (value + get_or s i 0 * weight) (i + 1) ≡ behind_first first s at
    whole_last h b =
        ap (λ (m : ℕ). some_number m (i + 1))
        (sym (mod-eq_of_lt {m = 2 ^ 64} (omega (arith, room (get_or s i 0) b)))
        ∙ ap (λ (m : ℕ). (value + m) % 2 ^ 64) (mul_comm (get_or s i 0) weight))
        ∙ ap low64
        (sym (ap (onto value weight) (one_more (10 - k) refl ∙ groups_last (9 - k) s i h b)) ∙ r.whole)

    pub goes_on_lem : i < length s → 128 ≤ get_or s i 0 → get_or s i 0 < 256 →
        Reading first s at (value + get_or s i 0 % 128 * weight) (weight * 128) (i + 1) (k + 1)
    goes_on_lem h b u =
        record {
          few = omega arith;
          some = omega arith;
          weighs = rw (add-one, pow-suc) (ap (λ (m : ℕ). m * 128) r.weighs);
          small = omega (arith, product (get_or s i 0 % 128) (omega arith), r.small);
          place = omega (arith, r.place);
          whole =
              ap (λ (m : ℕ). onto (value + get_or s i 0 % 128 * weight) (weight * 128) (groups m s (i + 1)))
              (omega arith)
              ∙ sym (onto_onto value weight (get_or s i 0 % 128) (groups (9 - k) s (i + 1)))
              ∙ ap (onto value weight) (sym (one_more (10 - k) refl ∙ groups_more (9 - k) s i h b))
              ∙ r.whole;
          bytes = λ m.
              let is : get_or s i 0 ≡ 128 + get_or s i 0 % 128 = omega arith in
              more_bytes m h
              ∙ ap (λ (n : ℕ). tops k value ++ (n ∷ [])) is
              ∙ tops_more k value (get_or s i 0 % 128) (rw r.weighs at r.small) (omega arith)
              ∙ ap₂ (λ (n w : ℕ). tops n (value + get_or s i 0 % 128 * w)) (sym (add-one k)) (sym r.weighs);
        }

    pub flag_end : length s ≤ i → padded_behind first s at ≡ false
    unfolding padded_behind
    flag_end h = ap (padded_first first s at) (sym (whole_end h))

    -- the last group is 0 where the number is below its weight
    pub flag_last : 128 ≤ first → i < length s → get_or s i 0 < 128 →
        ltb (value + get_or s i 0 * weight) weight ≡ padded_behind first s at
    unfolding padded_behind
    flag_last m h b =
        let d = get_or s i 0 in
        let v = value + d * weight in
        let bytes = first ∷ take (i + 1 - at) (drop at s) in
        let small = rw r.weighs at r.small in
        rw (← whole_last h b)
        (less_or_not 0 d
        (λ p.
        let above : weight ≤ v = omega (arith, mul-le-mul_right weight p) in
        le-ltb v weight above
        ∙ sym (rw (← r.weighs) at
        (needed k value d bytes r.few r.some small b (more_bytes m h) p)))
        (λ z.
        let none : v ≡ value = omega (arith, zero_times weight d z) in
        lt-ltb v weight (omega (arith, r.small))
        ∙ needless k value d bytes r.few r.some small b (more_bytes m h) {n = v}
        (rw (none) small)))

-- after nine groups one more may stand
module _ {first : ℕ} {s : List ℕ} {at value weight i k : ℕ} (r : Reading first s at value weight i k) (nine : 9 ≤ k)
  where
    k-nine : k ≡ 9
    k-nine = omega (arith, r.few)

    weight_is : weight ≡ 2 ^ 63
    weight_is = r.weighs ∙ ap (λ (m : ℕ). 128 ^ m) k-nine

    pub below_top : value < 2 ^ 63
    below_top = rw weight_is at r.small

    pub whole_tenth : low64 (onto value (2 ^ 63) (groups 1 s i)) ≡ behind_first first s at
    whole_tenth =
        ap low64
        (ap (λ (m : ℕ). onto value m (groups 1 s i)) (sym weight_is)
        ∙ ap (λ (m : ℕ). onto value weight (groups (10 - m) s i)) (sym k-nine)
        ∙ r.whole)

module _ (low : ℕ) (s : List ℕ) (at : ℕ) (in-s : at < length s) where
  pub tenth_more : 128 ≤ get_or s at 0 → None ≡ low64 (onto low (2 ^ 63) (groups 1 s at))
  tenth_more h =
      ap (λ (x : Option Number). low64 (onto low (2 ^ 63) x))
      (sym (groups_more 0 s at in-s h ∙ ap (onto (get_or s at 0 % 128) 128) (groups_none s (at + 1))))

  pub tenth_last : get_or s at 0 < 128 → low < 2 ^ 63 →
      some_number (low + get_or s at 0 % 2 * 2 ^ 63) (at + 1) ≡ low64 (onto low (2 ^ 63) (groups 1 s at))
  tenth_last h l =
      ap (λ (m : ℕ). some_number m (at + 1)) (omega arith)
      ∙ ap (λ (x : Option Number). low64 (onto low (2 ^ 63) x)) (sym (groups_last 0 s at in-s h))

  pub tenth_over : 128 ≤ get_or s at 0 → padded_tenth s at ≡ false
  tenth_over h = simp (lt-ltb at (length s) in-s, le-ltb (get_or s at 0) 128 h)

  pub tenth_told : get_or s at 0 < 128 → not (eqb (get_or s at 0) 1) ≡ padded_tenth s at
  tenth_told h = simp (lt-ltb at (length s) in-s, lt-ltb (get_or s at 0) 128 h)

pub tenth_none : (s : List ℕ) (at : ℕ) → length s ≤ at → padded_tenth s at ≡ false
tenth_none s at h = simp (le-ltb at (length s) h)

-- of a tenth group just the value 1 is written
module _ {first : ℕ} {s : List ℕ} {at value weight i k : ℕ} (r : Reading first s at value weight i k) (nine : 9 ≤ k)
    (m : 128 ≤ first) where
  told : (x : Option Number) → x ≡ low64 (onto value (2 ^ 63) (groups 1 s i)) →
      padded_first first s at x ≡ padded_behind first s at
  unfolding padded_behind
  told x e = ap (padded_first first s at) (e ∙ whole_tenth r nine)

  module _ (h : i < length s) (b : get_or s i 0 < 128) where
    bytes : List ℕ
    bytes = first ∷ take (i + 1 - at) (drop at s)

    top : 128 ^ k ≡ 2 ^ 63
    top = sym r.weighs ∙ weight_is r nine

    small : value < 128 ^ k
    small = rw r.weighs at r.small

    are : bytes ≡ tops k value ++ (get_or s i 0 ∷ [])
    unfolding bytes
    are = more_bytes r m h

    tenth-one : get_or s i 0 ≡ 1 → is_padded bytes (value + get_or s i 0 % 2 * 2 ^ 63) ≡ false
    tenth-one e =
        ap (is_padded bytes) (ap₂ (λ (d p : ℕ). value + d * p) (omega arith) (sym top))
        ∙ needed k value (get_or s i 0) bytes r.few r.some small b are (omega arith)

    tenth-odd : (get_or s i 0 ≡ 1 → ⊥) → get_or s i 0 % 2 ≡ 1 → true ≡ is_padded bytes (value + get_or s i 0 % 2 * 2 ^ 63)
    tenth-odd f e =
        another k value (get_or s i 0) bytes r.few r.some small b are 1 (omega arith) (omega arith) f
        ∙ ap (is_padded bytes) (ap₂ (λ (d p : ℕ). value + d * p) (sym e) top)

    tenth-even : get_or s i 0 % 2 ≡ 0 → true ≡ is_padded bytes (value + get_or s i 0 % 2 * 2 ^ 63)
    tenth-even e =
        needless k value (get_or s i 0) bytes r.few r.some small b are
        (let same : value + get_or s i 0 % 2 * 2 ^ 63 ≡ value = omega arith in rw same small)

    tenth-flag : not (eqb (get_or s i 0) 1) ≡ is_padded bytes (value + get_or s i 0 % 2 * 2 ^ 63)
    tenth-flag = go (eqb (get_or s i 0) 1) refl
      where
        go : (t : Bool) → eqb (get_or s i 0) 1 ≡ t → not t ≡ is_padded bytes (value + get_or s i 0 % 2 * 2 ^ 63)
        go true e = sym (tenth-one (eqb-true (get_or s i 0) 1 e))
        go false e =
            less_or_not (get_or s i 0 % 2) 1 (λ z. tenth-even (omega arith))
            (λ z. tenth-odd (eqb-false (get_or s i 0) 1 e) (omega arith))

  pub flag_tenth : padded_tenth s i ≡ padded_behind first s at
  flag_tenth =
      less_or_not i (length s)
      (λ h.
      less_or_not (get_or s i 0) 128
      (λ b.
      simp (lt-ltb i (length s) h, lt-ltb (get_or s i 0) 128 b)
      (unfold bytes in (tenth-flag h b)
      ∙ told (some_number (value + get_or s i 0 % 2 * 2 ^ 63) (i + 1)) (tenth_last value s i h b (below_top r nine))))
      (λ b.
      simp (lt-ltb i (length s) h, le-ltb (get_or s i 0) 128 b) (told None (tenth_more value s i h b))))
      (λ h.
      simp (le-ltb i (length s) h)
      (told None (ap (λ (x : Option Number). low64 (onto value (2 ^ 63) x)) (sym (groups_end 1 s i h)))))

-- a varint of one byte, and none at the end of the bytes
pub varint_one : (s : List ℕ) (at : ℕ) → at < length s → get_or s at 0 < 128 →
    some_number (get_or s at 0) (at + 1) ≡ varint_at s at
varint_one s at h b =
    ap (λ (m : ℕ). some_number m (at + 1)) (sym (mod-eq_of_lt {m = 2 ^ 64} (omega arith)))
    ∙ ap low64 (sym (groups_last 9 s at h b))

pub varint_none : (s : List ℕ) (at : ℕ) → length s ≤ at → None ≡ varint_at s at
varint_none s at h = ap low64 (sym (groups_end 10 s at h))

-- a first byte that has another behind it
module _ (s : List ℕ) (at low : ℕ) (inside : at < length s) (is : low ≡ get_or s at 0) (more : 128 ≤ low) where
  pub varint_cut : length s - at < 2 → None ≡ varint_at s at
  varint_cut h =
      ap low64
      (sym (groups_more 9 s at inside (omega arith)
      ∙ ap (onto (get_or s at 0 % 128) 128) (groups_end 9 s (at + 1) (omega arith))))

  pub varint_two : (high : ℕ) → high ≡ get_or s (at + 1) 0 → 2 ≤ length s - at → high < 128 →
      some_number (low % 128 + high * 128) (at + 2) ≡ varint_at s at
  varint_two high e h b =
      let value : low % 128 + high * 128 ≡ (get_or s at 0 % 128 + 128 * get_or s (at + 1) 0) % 2 ^ 64 = omega arith in
      let next : at + 2 ≡ at + 1 + 1 = omega arith in
      ap₂ some_number value next
      ∙ ap low64
      (sym (groups_more 9 s at inside (omega arith)
      ∙ ap (onto (get_or s at 0 % 128) 128) (groups_last 8 s (at + 1) (omega arith) (omega arith))))
