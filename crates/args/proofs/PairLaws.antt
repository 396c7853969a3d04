-- The short ways for a message of one field or two: their values of one byte, their steps, and what a message's rows
-- make of the fields. Assumes nothing.
use Rattle.prelude.proofs.Basics.{ℕ, ◌+◌, ◌-◌, ◌*◌, ◌/◌, ◌%◌, ◌≤◌, ◌<◌, arith, Bool, true, false, ◌&&◌, cond, ◌≡◌}
use Rattle.prelude.proofs.Basics.{refl}
use Rattle.std.specs.Prelude.{Option, Some, None}
use Rattle.prelude.proofs.Basics.{sym, ap, ap₂, subst, ◌∙◌, List, ◌∷◌, length, get_or, take, get_or-take, length-take-le}
use Rattle.prelude.proofs.Basics.{eqb, leb, ltb}
use Rattle.prelude.proofs.Basics.{eq-eqb, eqb-true, le-leb, le-ltb, leb-true, lt-leb, lt-ltb, ltb-false, ltb-true}
use Rattle.prelude.proofs.Basics.{ne_eqb, both, yes, no}
use Rattle.wire.specs.Value.{of_varint, of_length}
use Rattle.wire.specs.Field.{field_of}
use Rattle.wire.proofs.ValueLaws.{length_good, value_number, value_length, value_none}
use Rattle.wire.proofs.FieldLaws.{field_value, one_byte_lem}
use Rattle.layout.proofs.FieldsLaws.{kept_slot}
use Rattle.layout.proofs.PartsLaws.{parts_end, parts_on}
use Rattle.args.proofs.Names.{value_at, of_value, field_at, Value, quick_wire, LongField, field_long}
use Rattle.args.proofs.Names.{no_slots, use_of, noted, field_list, checked, embedded, one_part, parts_of, Use, Part}
use Rattle.args.proofs.Names.{Slots, starts, ends}
use Rattle.args.proofs.Names.{goes_on_lem, part_within, Pair}
use Rattle.args.specs.private.Pair.{pair_of, pair_at, pair_in, lone_in}
use Rattle.wire.specs.Field.{some_field}
use Rattle.wire.specs.Value.{some_value}

-- ---- a number or a length of one byte

module _ (s : List ℕ) (wire at v : ℕ) (inside : at < length s) (is : v ≡ get_or s at 0) (short : v < 128) where
  pub quick_number : wire ≡ 0 → some_value v at 1 (at + 1) ≡ value_at s wire at
  quick_number e =
      let long : 1 ≡ at + 1 - at = omega arith in
      ap (λ (k : ℕ). some_value v at k (at + 1)) long ∙ ap (of_varint at) (one_byte_lem s at v inside is short)
      ∙ value_number s wire at e

  pub quick_length : wire ≡ 2 → v ≤ length s - (at + 1) → some_value v (at + 1) v (at + 1 + v) ≡ value_at s wire at
  quick_length e h =
      length_good s v (at + 1) h
      ∙ ap (of_length s) (one_byte_lem s at v inside is short)
      ∙ value_length s wire at (λ z. omega arith) (λ z. omega arith) e

-- ---- what the short ways say of the bytes

-- field 1 with the value `first`, in a byte
pub record FieldOne (s : List ℕ) (at first : ℕ) : Type 0 where
  pub inside : at + 2 ≤ length s
  pub one_is : get_or s at 0 ≡ 8
  pub first_is : first ≡ get_or s (at + 1) 0
  pub first_short : first < 128

-- that field, the tag `tag` in a byte, and the value of that tag, up to the end of s
pub record TwoFields (s : List ℕ) (at first tag value start : ℕ) : Type 0 where
  pub one : FieldOne s at first
  pub len : ℕ
  pub inside : at + 3 ≤ length s
  pub tag_is : tag ≡ get_or s (at + 2) 0
  pub tag_short : tag < 128
  pub value_is : some_value value start len (length s) ≡ value_at s (tag % 8) (at + 3)

-- a pair that was found; its key is that value and that tag
pub record Found (s : List ℕ) (at : ℕ) (p : Pair) : Type 0 where
  pub first : ℕ
  pub tag : ℕ
  pub key_is : p.key ≡ first * 256 + tag
  pub fields : TwoFields s at first tag p.value p.start

abbrev Says : List ℕ → ℕ → Option Pair → Type 0
Says s at (Some p) = Found s at p
Says s at None = Unit {0}

at_says : (s : List ℕ) (at : ℕ) → Says s at (pair_at s at)
unfolding pair_at
at_says s at =
    both (Says s at) (ltb (length s) (at + 3)) _ _ (λ _. tt)
    (λ l. both (Says s at) (eqb (get_or s at 0) 8) _ _
    (λ o. both (Says s at) (ltb (get_or s (at + 1) 0) 128) _ _
    (λ f. both (Says s at) (ltb (get_or s (at + 2) 0) 128) _ _
    (λ t. go (value_at s (get_or s (at + 2) 0 % 8) (at + 3)) refl (ltb-false (length s) (at + 3) l)
    (eqb-true (get_or s at 0) 8 o) (ltb-true (get_or s (at + 1) 0) 128 f) (ltb-true (get_or s (at + 2) 0) 128 t))
    (λ _. tt))
    (λ _. tt))
    (λ _. tt))
  where
    go : (v : Option Value) → v ≡ value_at s (get_or s (at + 2) 0 % 8) (at + 3) → at + 3 ≤ length s → get_or s at 0 ≡ 8 →
        get_or s (at + 1) 0 < 128 →
        get_or s (at + 2) 0 < 128 → Says s at (pair_of (get_or s (at + 1) 0 * 256 + get_or s (at + 2) 0) (length s) v)
    go (Some r) e l o f t =
        both (Says s at) (eqb r.next (length s)) _ None
        (λ q.
        record {
          first = get_or s (at + 1) 0;
          tag = get_or s (at + 2) 0;
          key_is = refl;
          fields =
              record {
                one = record { inside = omega (arith, l); one_is = o; first_is = refl; first_short = f };
                len = r.len;
                inside = l;
                tag_is = refl;
                tag_short = t;
                value_is = ap (some_value r.number r.start r.len) (sym (eqb-true r.next (length s) q)) ∙ e;
              };
        })
        (λ _. tt)
    go None e l o f t = tt

abbrev SaysIn : List ℕ → ℕ → ℕ → Option Pair → Type 0
SaysIn s at n (Some p) = (at + n ≤ length s) × Found (take (at + n) s) at p
SaysIn s at n None = Unit {0}

in_says : (s : List ℕ) (at n : ℕ) → SaysIn s at n (pair_in s at n)
unfolding pair_in
in_says s at n =
    both (SaysIn s at n) (leb (at + n) (length s)) _ _
    (λ h. go (pair_at (take (at + n) s) at) (leb-true (at + n) (length s) h) (at_says (take (at + n) s) at)) (λ _. tt)
  where
    go : (r : Option Pair) → at + n ≤ length s → Says (take (at + n) s) at r → SaysIn s at n r
    go (Some p) h t = (h, t)
    go None h t = tt

-- field 1 alone
abbrev SaysLone : List ℕ → ℕ → ℕ → Option ℕ → Type 0
SaysLone s at n (Some first) = (n ≡ 2) × FieldOne s at first
SaysLone s at n None = Unit {0}

lone_says : (s : List ℕ) (at n : ℕ) → SaysLone s at n (lone_in s at n)
unfolding lone_in
lone_says s at n =
    both (SaysLone s at n) (eqb n 2) _ _
    (λ two. both (SaysLone s at n) (ltb (length s) (at + 2)) _ _ (λ _. tt)
    (λ l. both (SaysLone s at n) (eqb (get_or s at 0) 8) _ _
    (λ o. both (SaysLone s at n) (ltb (get_or s (at + 1) 0) 128) _ _
    (λ f. (
      eqb-true n 2 two,
      record {
        inside = ltb-false (length s) (at + 2) l;
        one_is = eqb-true (get_or s at 0) 8 o;
        first_is = refl;
        first_short = ltb-true (get_or s (at + 1) 0) 128 f;
      },
    ))
    (λ _. tt))
    (λ _. tt)))
    (λ _. tt)

-- ---- the fields

module _ {s : List ℕ} {at first : ℕ} (t : FieldOne s at first) where
  pub field_one : field_at s at ≡ some_field 1 0 first (at + 1) 1 (at + 2)
  field_one =
      let next : at + 1 + 1 ≡ at + 2 = omega arith in
      sym
      (ap (λ (p : ℕ). some_field 1 0 first (at + 1) 1 p) (sym next)
      ∙ ap (of_value 1 0) (quick_number s 0 (at + 1) first (omega (arith, t.inside)) t.first_is t.first_short
      refl)
      ∙ quick_wire s at 8 (omega (arith, t.inside)) (sym t.one_is) (omega arith) 0 (omega arith) refl (omega arith))

  -- the field in the bytes cut off behind it
  cut-behind : FieldOne (take (at + 2) s) at first
  cut-behind =
      record {
        inside = omega (arith, length-take-le (at + 2) s t.inside);
        one_is = get_or-take (at + 2) s at 0 (omega arith) ∙ t.one_is;
        first_is = t.first_is ∙ sym (get_or-take (at + 2) s (at + 1) 0 (omega arith));
        first_short = t.first_short;
      }

  one-listed : (rows : List (List ℕ)) (u : Use) → length s ≡ at + 2 → u ≡ use_of rows 1 0 first →
      noted u no_slots 1 first (at + 1) 1 ≡ field_list rows s at
  one-listed rows u h e = ends (goes_on_lem (starts rows s at) (omega (arith, t.inside)) field_one u e) (omega (arith, h))

module _ {s : List ℕ} {at first tag value start : ℕ} (t : TwoFields s at first tag value start) where
  -- the wire type of a value is one of these
  never : (tag % 8 ≡ 0 → ⊥) → (tag % 8 ≡ 1 → ⊥) → (tag % 8 ≡ 2 → ⊥) → (tag % 8 ≡ 5 → ⊥) → ⊥
  never a b d f = let z : ◌≡◌ {A = ℕ} 0 1 = cc (t.value_is, value_none s (tag % 8) (at + 3) a b d f) in omega arith

  pub wire_low : tag % 8 < 6
  wire_low = go (ltb (tag % 8) 6) refl
    where
      go : (b : Bool) → ltb (tag % 8) 6 ≡ b → tag % 8 < 6
      go true e = ltb-true (tag % 8) 6 e
      go false e =
          let high = ltb-false (tag % 8) 6 e in absurd
          (never (λ h. omega arith) (λ h. omega arith) (λ h. omega arith) (λ h. omega arith))

  pub field_two : 8 ≤ tag → field_at s (at + 2) ≡ some_field (tag / 8) (tag % 8) value start t.len (length s)
  field_two h =
      let next : at + 3 ≡ at + 2 + 1 = omega arith in
      sym
      (ap (of_value (tag / 8) (tag % 8)) t.value_is
      ∙ field_value s (tag / 8) (tag % 8) (at + 3) (λ e. never (λ h. omega arith) (λ h. omega arith)
      (λ h. omega arith) (λ h. omega arith))
      ∙ ap (field_of s (tag / 8) (tag % 8)) next
      ∙ quick_wire s (at + 2) tag (omega (arith, t.inside)) t.tag_is t.tag_short (tag % 8) h refl wire_low)

  -- the value of a field with bytes is their length
  two-long : 8 ≤ tag → tag % 8 ≡ 2 → value ≡ t.len
  two-long h = go (field_long s (at + 2))
    where
      go : LongField (field_at s (at + 2)) → tag % 8 ≡ 2 → value ≡ t.len
      go = rw (field_two h) (λ f. f)

  two_listed : (rows : List (List ℕ)) (u v : Use) → 8 ≤ tag → u ≡ use_of rows 1 0 first →
      v ≡ use_of rows (tag / 8) (tag % 8) value →
      noted v (noted u no_slots 1 first (at + 1) 1) (tag / 8) value start t.len ≡ field_list rows s at
  two_listed rows u v h e f =
      let one = goes_on_lem (starts rows s at) (omega (arith, t.inside)) (field_one t.one) u e in
      ends (goes_on_lem one (omega (arith, t.inside)) (field_two h) v f) (omega arith)

-- ---- the steps of the short ways

module _ (s : List ℕ) (at : ℕ) where
  pub at_short : length s < at + 3 → None ≡ pair_at s at
  unfolding pair_at
  at_short h = yes None _ (lt-ltb (length s) (at + 3) h)

  module _ (inside : at + 3 ≤ length s) where
    pub at_other : (get_or s at 0 ≡ 8 → ⊥) → None ≡ pair_at s at
    unfolding pair_at
    at_other o = simp (le-ltb (length s) (at + 3) inside, ne_eqb (get_or s at 0) 8 o)

    module _ (o : get_or s at 0 ≡ 8) (first : ℕ) (f : first ≡ get_or s (at + 1) 0) where
      pub at_long_first : 128 ≤ first → None ≡ pair_at s at
      unfolding pair_at
      at_long_first h = simp (
        le-ltb (length s) (at + 3) inside,
        eq-eqb (get_or s at 0) 8 o,
        le-ltb (get_or s (at + 1) 0)
            128 (omega arith),
      )

      module _ (h : first < 128) (tag : ℕ) (g : tag ≡ get_or s (at + 2) 0) where
        pub at_long_tag : 128 ≤ tag → None ≡ pair_at s at
        unfolding pair_at
        at_long_tag k =
            simp (
              le-ltb (length s) (at + 3) inside,
              eq-eqb (get_or s at 0) 8 o,
              lt-ltb (get_or s (at + 1) 0) 128 (omega arith),
              le-ltb (get_or s (at + 2) 0) 128 (omega arith),
            )

        pub at_pair : tag < 128 → (read : Option Value) → read ≡ value_at s (tag % 8) (at + 3) →
            pair_of (first * 256 + tag) (length s) read ≡ pair_at s at
        unfolding pair_at
        at_pair k read v =
            ap (pair_of (first * 256 + tag) (length s)) v
            ∙ ap (λ (y : ℕ). pair_of (first * 256 + y) (length s) (value_at s (y % 8) (at + 3))) g
            ∙ ap
            (λ (x : ℕ).
            pair_of (x * 256 + get_or s (at + 2) 0) (length s) (value_at s (get_or s (at + 2) 0 % 8) (at + 3)))
            f
            ∙ yes _ None (lt-ltb (get_or s (at + 2) 0) 128 (omega arith))
            ∙ yes _ None (lt-ltb (get_or s (at + 1) 0) 128 (omega arith))
            ∙ yes _ None (eq-eqb (get_or s at 0) 8 o)
            ∙ no None _ (le-ltb (length s) (at + 3) inside)

module _ (s : List ℕ) (at n : ℕ) where
  pub in_past : length s < at + n → None ≡ pair_in s at n
  unfolding pair_in
  in_past h = no _ None (lt-leb (at + n) (length s) h)

  pub in_cut : at + n ≤ length s → pair_at (take (at + n) s) at ≡ pair_in s at n
  unfolding pair_in
  in_cut h = yes _ None (le-leb (at + n) (length s) h)

module _ (s : List ℕ) (at n : ℕ) where
  pub lone_longer : (n ≡ 2 → ⊥) → None ≡ lone_in s at n
  unfolding lone_in
  lone_longer h = no _ None (ne_eqb n 2 h)

  module _ (two : n ≡ 2) where
    pub lone_past : length s < at + 2 → None ≡ lone_in s at n
    unfolding lone_in
    lone_past h = simp (eq-eqb n 2 two, lt-ltb (length s) (at + 2) h)

    module _ (inside : at + 2 ≤ length s) where
      pub lone_other : (get_or s at 0 ≡ 8 → ⊥) → None ≡ lone_in s at n
      unfolding lone_in
      lone_other o = simp (eq-eqb n 2 two, le-ltb (length s) (at + 2) inside, ne_eqb (get_or s at 0) 8 o)

      module _ (o : get_or s at 0 ≡ 8) (first : ℕ) (f : first ≡ get_or s (at + 1) 0) where
        pub lone_long : 128 ≤ first → None ≡ lone_in s at n
        unfolding lone_in
        lone_long h =
            simp (
              eq-eqb n 2 two,
              le-ltb (length s) (at + 2) inside,
              eq-eqb (get_or s at 0) 8 o,
              le-ltb (get_or s (at + 1) 0) 128 (omega arith),
            )

        pub lone_found : first < 128 → Some first ≡ lone_in s at n
        unfolding lone_in
        lone_found h =
            ap Some f
            ∙ yes (Some (get_or s (at + 1) 0)) None (lt-ltb (get_or s (at + 1) 0) 128 (omega arith))
            ∙ yes _ None (eq-eqb (get_or s at 0) 8 o)
            ∙ no None _ (le-ltb (length s) (at + 2) inside)
            ∙ yes _ None (eq-eqb n 2 two)

-- ---- what a message's rows make of one field

-- the bytes of a field that stands alone
pub lone_filled : (s : List ℕ) (at n : ℕ) {first : ℕ} → Some first ≡ lone_in s at n →
    (n ≡ 2) × FieldOne (take (at + 2) s) at first × (at + 2 ≤ length s)
lone_filled s at n p =
    let f = subst (SaysLone s at n) (sym p) (lone_says s at n) in
    (f.0, cut-behind f.1, f.1.inside)

-- the code asks for a type; the rows keep it
pub lone_kept : (s : List ℕ) (at n : ℕ) (rows : List (List ℕ)) (kind : ℕ) → Some kind ≡ lone_in s at n →
    Use.Kept ≡ use_of rows 1 0 kind →
    checked rows (noted Use.Kept no_slots 1 kind (at + 1) 1) ≡ embedded rows s at n
lone_kept s at n rows kind p kept = go (subst (SaysLone s at n) (sym p) (lone_says s at n))
  where
    go : (n ≡ 2) × FieldOne s at kind → checked rows (noted Use.Kept no_slots 1 kind (at + 1) 1) ≡ embedded rows s at n
    go (two, f) =
        ap (checked rows) (one-listed (cut-behind f) rows Use.Kept (length-take-le (at + 2) s f.inside) kept)
        ∙ part_within rows s at 2 f.inside
        ∙ ap (embedded rows s at) (sym two)

-- ---- what they make of a pair

module _ (s : List ℕ) (at n : ℕ) {p : Pair} (e : pair_in s at n ≡ Some p) where
  pub told : SaysIn s at n (Some p)
  told = subst (SaysIn s at n) e (in_says s at n)

  -- the code asks for a type and a tag, both in one number; the rows keep both fields
  module _ (rows : List (List ℕ)) (kind key : ℕ) (named : p.key ≡ kind * 256 + key) (some : 8 ≤ key)
      (kept-kind : Use.Kept ≡ use_of rows 1 0 kind) (kept-value : Use.Kept ≡ use_of rows (key / 8) (key % 8) p.value) where
    -- what they hold then
    abbrev pub slots : ℕ → Slots
    slots len = checked rows (noted Use.Kept (noted Use.Kept no_slots 1 kind (at + 1) 1) (key / 8) p.value p.start len)

    key-is : key ≡ told.1.tag
    key-is =
        omega (
          arith,
          told.1.key_is,
          told.1.fields.one.first_short,
          told.1.fields.tag_short,
          kept_slot rows (key / 8) (key % 8) p.value kept-value,
        )

    kind-is : kind ≡ told.1.first
    kind-is = omega (arith, told.1.key_is, key-is)

    pub pair_kept : slots told.1.fields.len ≡ embedded rows s at n
    pair_kept =
        rw (kind-is, key-is)
        (ap (checked rows) (two_listed told.1.fields rows Use.Kept Use.Kept (omega (arith, key-is))
        (rw kind-is at kept-kind) (rw key-is at kept-value))
        ∙ part_within rows s at n told.0)

    -- of a field with bytes the length is the value
    pub pair_bytes : key % 8 ≡ 2 → slots p.value ≡ embedded rows s at n
    pair_bytes h = ap slots (two-long told.1.fields (omega (arith, key-is)) (rw key-is at h)) ∙ pair_kept

  -- a second field with bytes has one part
  pub pair_parts : (kind key : ℕ) → p.key ≡ kind * 256 + key → 8 ≤ key → key < 128 → key % 8 ≡ 2 →
      parts_of (key / 8) (take (at + n) s) at ≡ one_part p.start p.value
  pair_parts kind key named some short bytes =
      let u = take (at + n) s in
      let t = told.1.fields in
      let k = key / 8 in
      let is : told.1.tag ≡ key = omega (arith, told.1.key_is, t.tag_short) in
      parts_on k u at (omega (arith, t.inside)) _ (field_one t.one)
      ∙ ap (λ (b : Bool). cond b (record { start = at + 1; len = 1 } ∷ parts_of k u (at + 2)) (parts_of k u (at + 2)))
      (never_both (eqb 1 k))
      ∙ parts_on k u (at + 2) (omega (arith, t.inside)) _ (field_two t (omega (arith, is)))
      ∙ ap
      (λ (b : Bool).
      cond b (record { start = p.start; len = t.len } ∷ parts_of k u (length u)) (parts_of k u (length u)))
      (ap₂ ◌&&◌ (eq-eqb (told.1.tag / 8) k (ap (λ (i : ℕ). i / 8) is))
      (eq-eqb (told.1.tag % 8) 2 (ap (λ (i : ℕ). i % 8) is ∙ bytes)))
      ∙ ap₂ (λ (ln : ℕ) (ps : List Part). record { start = p.start; len = ln } ∷ ps)
      (sym (two-long t (omega (arith, is)) (ap (λ (i : ℕ). i % 8) is ∙ bytes)))
      (parts_end k u (length u) (length u) (omega arith))
    where
      never_both : (b : Bool) → (b && false) ≡ false
      never_both true = refl
      never_both false = refl
