-- Whether the short ways for one field or two read a padded varint, step by step, and what that says of the whole
-- message. Assumes nothing.
use Rattle.prelude.proofs.Basics.{ℕ, ◌+◌, ◌*◌, ◌-◌, ◌%◌, ◌≤◌, ◌<◌, arith, Bool, true, false, ◌||◌, ◌≡◌, refl, sym, ap, ◌∙◌}
use Rattle.prelude.proofs.Basics.{List, length, get_or, take, length-take-le, eqb, ltb, eq-eqb, eqb-true, le-leb, le-ltb}
use Rattle.prelude.proofs.Basics.{lt-leb, lt-ltb, ltb-false, ltb-true, ne_eqb, both, yes, no, less_or_not, or_false}
use Rattle.prelude.proofs.Basics.{or_within}
use Rattle.varint.specs.Padded.{padded_at}
use Rattle.varint.proofs.FlagLaws.{padded_one}
use Rattle.wire.proofs.FieldLaws.{quick_low}
use Rattle.wire.proofs.PaddedLaws.{no_flag}
use Rattle.layout.specs.Padded.{onward, padded_from, list_padded}
use Rattle.layout.proofs.FieldsLaws as Fields
use Rattle.layout.proofs.PaddedLaws.{flag_turn}
use Rattle.args.proofs.Names.{field_at, value_padded, field_padded, quick_flag, bad_slots, use_of, field_list, checked}
use Rattle.args.proofs.Names.{fields_at, has_required, embedded, nothing_inside, part_padded, Slots, part_within}
use Rattle.args.proofs.Names.{Marking, marks, marked, marks_on, padded_inside, Part, Pair}
use Rattle.std.specs.Prelude.{Some}
use Rattle.args.specs.private.Pair.{pair_flag, pair_padded, text_in, text_flag, text_padded, lone_in}
use Rattle.args.proofs.PairLaws.{FieldOne, TwoFields, Found, field_one, field_two, wire_low, lone_filled}
use Rattle.args.proofs.PairLaws as Two
use Rattle.args.proofs.TextLaws.{Filled}
use Rattle.args.proofs.TextLaws as Alone
use Rattle.args.proofs.ScalarLaws.{Held}

-- ---- the steps of the pair

module _ (s : List ℕ) (at : ℕ) where
  pub flag_short : length s < at + 3 → pair_flag s at ≡ false
  unfolding pair_flag
  flag_short h = simp (lt-ltb (length s) (at + 3) h)

  module _ (inside : at + 3 ≤ length s) where
    pub flag_other : (get_or s at 0 ≡ 8 → ⊥) → pair_flag s at ≡ false
    unfolding pair_flag
    flag_other o = simp (le-ltb (length s) (at + 3) inside, ne_eqb (get_or s at 0) 8 o)

    module _ (o : get_or s at 0 ≡ 8) (first : ℕ) (f : first ≡ get_or s (at + 1) 0) where
      pub flag_long_first : 128 ≤ first → pair_flag s at ≡ false
      unfolding pair_flag
      flag_long_first h =
          simp (
            le-ltb (length s) (at + 3) inside,
            eq-eqb (get_or s at 0) 8 o,
            le-ltb (get_or s (at + 1) 0) 128 (omega arith),
          )

      module _ (h : first < 128) (tag : ℕ) (g : tag ≡ get_or s (at + 2) 0) where
        pub flag_long_tag : 128 ≤ tag → pair_flag s at ≡ false
        unfolding pair_flag
        flag_long_tag k =
            simp (
              le-ltb (length s) (at + 3) inside,
              eq-eqb (get_or s at 0) 8 o,
              lt-ltb (get_or s (at + 1) 0) 128 (omega arith),
              le-ltb (get_or s (at + 2) 0) 128 (omega arith),
            )

        pub flag_pair : tag < 128 → value_padded s (tag % 8) (at + 3) ≡ pair_flag s at
        unfolding pair_flag
        flag_pair k =
            ap (λ (y : ℕ). value_padded s (y % 8) (at + 3)) g
            ∙ yes _ false (lt-ltb (get_or s (at + 2) 0) 128 (omega arith))
            ∙ yes _ false (lt-ltb (get_or s (at + 1) 0) 128 (omega arith))
            ∙ yes _ false (eq-eqb (get_or s at 0) 8 o)
            ∙ no false _ (le-ltb (length s) (at + 3) inside)

module _ (s : List ℕ) (at n : ℕ) where
  pub pair_past : length s < at + n → pair_padded s at n ≡ false
  unfolding pair_padded
  pair_past h = sym (no _ false (lt-leb (at + n) (length s) h))

  pub pair_cut : at + n ≤ length s → pair_flag (take (at + n) s) at ≡ pair_padded s at n
  unfolding pair_padded
  pair_cut h = yes _ false (le-leb (at + n) (length s) h)

-- ---- the steps of bytes alone

module _ (s : List ℕ) (at : ℕ) where
  pub text_flag_none : length s ≤ at → text_flag s at ≡ false
  unfolding text_flag
  text_flag_none h = sym (no _ false (le-ltb at (length s) h))

  pub text_flag_other : (get_or s at 0 ≡ 10 → ⊥) → at < length s → text_flag s at ≡ false
  unfolding text_flag
  text_flag_other o h = simp (lt-ltb at (length s) h, ne_eqb (get_or s at 0) 10 o)

  pub text_flag_read : get_or s at 0 ≡ 10 → at < length s → padded_at s (at + 1) ≡ text_flag s at
  unfolding text_flag
  text_flag_read o h = yes _ false (eq-eqb (get_or s at 0) 10 o) ∙ yes _ false (lt-ltb at (length s) h)

module _ (s : List ℕ) (at n : ℕ) where
  pub text_flag_past : length s < at + n → text_padded s at n ≡ false
  unfolding text_padded
  text_flag_past h = sym (no _ false (lt-leb (at + n) (length s) h))

  pub text_flag_cut : at + n ≤ length s → text_flag (take (at + n) s) at ≡ text_padded s at n
  unfolding text_padded
  text_flag_cut h = yes _ false (le-leb (at + n) (length s) h)

-- ---- lists of one field and two

-- a first field that is padded is in the list
pub first_padded : (s : List ℕ) (at : ℕ) → at < length s → field_padded s at ≡ true → list_padded s at ≡ true
first_padded s at h e =
    flag_turn nothing_inside (length s) s at (omega arith) h (field_at s at) refl
    ∙ ap (λ (b : Bool). b || (false || onward (λ next. padded_from nothing_inside (length s - 1) s next)
    (field_at s at))) e

-- field 1 in two bytes is not padded
module _ {s : List ℕ} {at first : ℕ} (t : FieldOne s at first) where
  one_plain : field_padded s at ≡ false
  one_plain =
      sym (quick_flag s at 8 (omega (arith, t.inside)) (sym t.one_is) (omega arith) 0 (omega arith) refl
      (omega arith))
      ∙ padded_one s (at + 1) (omega (arith, t.inside)) (rw t.first_is at t.first_short)

  behind-one : Marking nothing_inside s at (at + 2) false false
  behind-one =
      marks_on (marks nothing_inside s at false) (omega (arith, t.inside)) (field_one t) (sym one_plain) refl

  pub one_list : length s ≡ at + 2 → list_padded s at ≡ false
  one_list h = sym (marked behind-one (omega (arith, h)))

-- a field behind it
module _ {s : List ℕ} {at first tag : ℕ} (t : FieldOne s at first) (more : at + 3 ≤ length s)
    (is : tag ≡ get_or s (at + 2) 0) (short : tag < 128) where
  second : 8 ≤ tag → tag % 8 < 6 → value_padded s (tag % 8) (at + 3) ≡ field_padded s (at + 2)
  second h w =
      let next : at + 3 ≡ at + 2 + 1 = omega arith in
      ap (value_padded s (tag % 8)) next
      ∙ quick_flag s (at + 2) tag (omega (arith, more)) is short (tag % 8) h refl w

  -- a tag below 8 is none, and the list is bad
  no_tag : (rows : List (List ℕ)) → tag < 8 → bad_slots ≡ field_list rows s at
  no_tag rows h =
      let one = Fields.goes_on_lem (Fields.starts rows s at) (omega (arith, t.inside)) (field_one t)
      (use_of rows 1 0 first) refl in
      Fields.no_field one (omega (arith, more))
      (sym (quick_low s (at + 2) tag (omega (arith, more)) is short h))

  -- where its value is padded, so is the list, unless it is bad
  second-padded : (rows : List (List ℕ)) → (fields_at rows s at).good ≡ true →
      value_padded s (tag % 8) (at + 3) ≡ true → list_padded s at ≡ true
  second-padded rows good e =
      less_or_not tag 8
      (λ h. absurd (spoiled h))
      (λ h.
      less_or_not (tag % 8) 6
      (λ w.
      let m = behind-one t in
      let p = at + 2 in
      let rest = onward (λ next. padded_from nothing_inside (m.most - 1) s next) (field_at s p) in
      sym m.whole
      ∙ flag_turn nothing_inside m.most s p (omega (arith, m.enough)) (omega (arith, more)) (field_at s p) refl
      ∙ ap (λ (b : Bool). b || (false || rest)) (sym (second h w) ∙ e))
      (λ w.
      absurd
      (let z : ◌≡◌ {A = Bool} true false =
      sym e ∙ no_flag s (tag % 8) (at + 3) (λ q. absurd (omega arith)) (λ q. absurd (omega arith)) in
      let y : ◌≡◌ {A = ℕ} 0 1 = cc in omega arith)))
    where
      bad : (x : Slots) → bad_slots ≡ x → (checked rows x).good ≡ false
      bad x q = both (λ (y : Slots). y.good ≡ false) (has_required rows x.count) _ _
          (λ _. ap (λ (y : Slots). y.good) (sym q)) (λ _. refl)

      spoiled : tag < 8 → ⊥
      spoiled h =
          let z : ◌≡◌ {A = Bool} true false = sym good ∙ bad (field_list rows s at) (no_tag rows h) in
          let y : ◌≡◌ {A = ℕ} 0 1 = cc in omega arith

-- ---- what the pair says of the whole message

module _ {s : List ℕ} {at first tag value start : ℕ} (t : TwoFields s at first tag value start) where
  two-list : 8 ≤ tag → value_padded s (tag % 8) (at + 3) ≡ list_padded s at
  two-list h =
      marked
      (marks_on (behind-one t.one) (omega (arith, t.inside)) (field_two t h)
      (second t.one t.inside t.tag_is t.tag_short h (wire_low t)) (or_false (value_padded s (tag % 8)
      (at + 3))))
      (omega arith)

  two-flag : value_padded s (tag % 8) (at + 3) ≡ pair_flag s at
  two-flag =
      flag_pair s at t.inside t.one.one_is first t.one.first_is t.one.first_short tag t.tag_is
      t.tag_short

module _ {s : List ℕ} {at n : ℕ} {p : Pair} (h : Held s at n p) where
  says : (at + n ≤ length s) × Found (take (at + n) s) at p
  says = Two.told s at n h.is

  -- of two fields that fill the message the flag is the message's
  pub pair_part : (kind key : ℕ) → p.key ≡ kind * 256 + key → 8 ≤ key → key < 128 →
      pair_padded s at n ≡ part_padded s at n
  pair_part kind key named some short =
      let f = says.1 in
      sym (pair_cut s at n says.0)
      ∙ sym (two-flag f.fields)
      ∙ two-list f.fields (omega (arith, f.key_is, f.fields.tag_short))
      ∙ padded_inside s at (at + n) says.0

-- bytes alone are the value of a tag of one byte
tag_ten : (s : List ℕ) (at : ℕ) → at < length s → get_or s at 0 ≡ 10 → padded_at s (at + 1) ≡ field_padded s at
tag_ten s at h o = quick_flag s at 10 h (sym o) (omega arith) 2 (omega arith) refl (omega arith)

text_listed : (s : List ℕ) (at : ℕ) → text_flag s at ≡ true → list_padded s at ≡ true
unfolding text_flag
text_listed s at =
    both (λ (b : Bool). b ≡ true → list_padded s at ≡ true) (ltb at (length s)) _ _
    (λ i. both (λ (b : Bool). b ≡ true → list_padded s at ≡ true) (eqb (get_or s at 0) 10) _ _
    (λ o e.
    let h = ltb-true at (length s) i in
    first_padded s at h (sym (tag_ten s at h (eqb-true (get_or s at 0) 10 o)) ∙ e))
    (λ _. off))
    (λ _. off)
  where
    off : ◌≡◌ {A = Bool} false true → list_padded s at ≡ true
    off e = absurd (let z : ◌≡◌ {A = ℕ} 0 1 = cc in omega arith)

text_field : (s : List ℕ) (at : ℕ) {start len : ℕ} → Filled s at start len → text_flag s at ≡ field_padded s at
text_field s at f = sym (text_flag_read s at f.tag f.inside) ∙ tag_ten s at f.inside f.tag

-- what a flag that is on says of the bytes
pub record Marks (s : List ℕ) (at : ℕ) : Type 0 where
  pub inside : at + 3 ≤ length s
  pub one : FieldOne s at (get_or s (at + 1) 0)
  pub short : get_or s (at + 2) 0 < 128
  pub value : value_padded s (get_or s (at + 2) 0 % 8) (at + 3) ≡ true

flag_says : (s : List ℕ) (at : ℕ) → pair_flag s at ≡ true → Marks s at
unfolding pair_flag
flag_says s at =
    both (λ (b : Bool). b ≡ true → Marks s at) (ltb (length s) (at + 3)) _ _ (λ _. off)
    (λ l. both (λ (b : Bool). b ≡ true → Marks s at) (eqb (get_or s at 0) 8) _ _
    (λ o. both (λ (b : Bool). b ≡ true → Marks s at) (ltb (get_or s (at + 1) 0) 128) _ _
    (λ f. both (λ (b : Bool). b ≡ true → Marks s at) (ltb (get_or s (at + 2) 0) 128) _ _
    (λ g e.
    let inside = ltb-false (length s) (at + 3) l in
    record {
      inside = inside;
      one =
          record {
            inside = omega (arith, inside);
            one_is = eqb-true (get_or s at 0) 8 o;
            first_is = refl;
            first_short = ltb-true (get_or s (at + 1) 0) 128 f;
          };
      short = ltb-true (get_or s (at + 2) 0) 128 g;
      value = e;
    })
    (λ _. off))
    (λ _. off))
    (λ _. off))
  where
    off : ◌≡◌ {A = Bool} false true → Marks s at
    off e = absurd (let z : ◌≡◌ {A = ℕ} 0 1 = cc in omega arith)

-- what the pair read of a good message, the message's own flag says too
module _ (s : List ℕ) (at n : ℕ) where
  pub pair_absorbed : (rows : List (List ℕ)) → (embedded rows s at n).good ≡ true →
      (pair_padded s at n || part_padded s at n) ≡ part_padded s at n
  pair_absorbed rows good =
      less_or_not (length s) (at + n) (λ h. ap (λ (b : Bool). b || part_padded s at n) (pair_past s at n h))
      (λ h.
      or_within (pair_padded s at n) (part_padded s at n)
      (λ e.
      let m = flag_says (take (at + n) s) at (pair_cut s at n h ∙ e) in
      sym (padded_inside s at (at + n) h)
      ∙ second-padded m.one m.inside refl m.short rows
      (ap (λ (x : Slots). x.good) (part_within rows s at n h) ∙ good) m.value))

  pub text_absorbed : (text_padded s at n || part_padded s at n) ≡ part_padded s at n
  text_absorbed =
      less_or_not (length s) (at + n) (λ h. ap (λ (b : Bool). b || part_padded s at n) (text_flag_past s at n h))
      (λ h.
      or_within (text_padded s at n) (part_padded s at n)
      (λ e.
      sym (padded_inside s at (at + n) h) ∙ text_listed (take (at + n) s) at (text_flag_cut s at n h ∙ e)))

  -- bytes alone
  pub text_part : {p : Part} → text_in s at n ≡ Some p → text_padded s at n ≡ part_padded s at n
  text_part e =
      let f = Alone.told s at n e in
      sym (text_flag_cut s at n f.0)
      ∙ text_field (take (at + n) s) at f.1
      ∙ marked
      (marks_on (marks nothing_inside (take (at + n) s) at false) f.1.inside f.1.field refl
      (or_false (field_padded (take (at + n) s) at)))
      (omega arith)
      ∙ padded_inside s at (at + n) f.0

  -- a type alone
  pub lone_part : {first : ℕ} → Some first ≡ lone_in s at n → part_padded s at n ≡ false
  lone_part {first} p =
      let f = lone_filled s at n p in
      ap (part_padded s at) f.0
      ∙ sym (padded_inside s at (at + 2) f.2)
      ∙ one_list f.1 (length-take-le (at + 2) s f.2)
