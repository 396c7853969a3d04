-- Messages in parts: one part is the message, each part is a good list, and good parts read as their bytes do where
-- these stand one after the other. Assumes nothing.
use Rattle.prelude.proofs.Basics.{ℕ, zero, suc, ◌+◌, ◌<◌, arith, Bool, true, false, ◌&&◌, cond, ◌≡◌, refl, sym, ap}
use Rattle.prelude.proofs.Basics.{subst, ◌∙◌, List, [], ◌∷◌, length, get_or, set, take, drop, length-set, get_or-set_other}
use Rattle.prelude.proofs.Basics.{get_or-set_same, leb, ltb, le-leb, both, yes}
use Rattle.layout.proofs.Names.{field_at, Field, Tail, tail_length, slot_count, no_slots, bad_slots, use_of, noted}
use Rattle.layout.proofs.Names.{on_field, fields_from, fields_onto, has_required, checked, embedded, end_of, part_onto}
use Rattle.layout.proofs.Names.{parts_onto, all_good, joined, Use, Part, Slots}
use Rattle.layout.specs.MergedRules.{OnePart, EachGood, bytes_in, SameFields, MergesAsGuide}
use Rattle.layout.proofs.FieldsLaws.{checked_from, Towards, starts_onto, from_end, ends, goes_on_lem, kept_slot}
use Rattle.layout.proofs.EnoughLaws.{fields_same}
use Rattle.layout.proofs.KeptLaws.{zeros, same_or_not}
use Rattle.layout.proofs.JointLaws.{not_both, Joint, here_length, there_length, j_along, joint_rest, rest_good}
use Rattle.layout.proofs.JointLaws.{first_joint}
use Rattle.std.specs.Prelude.{Option, Some, None}

-- ---- good or not

pub noted_good : (u : Use) (x : Slots) (number v start n : ℕ) → (noted u x number v start n).good ≡ x.good
noted_good Use.Unknown x number v start n = refl
noted_good Use.Counted x number v start n = refl
noted_good Use.Kept x number v start n = refl

-- whether a list is good does not hang on the rows
module _ (rows rows' : List (List ℕ)) (s : List ℕ) where
  field-good : (x y : Slots) → x.good ≡ y.good → (f g : ℕ → Slots → Slots) →
      ((q : ℕ) (x' y' : Slots) → x'.good ≡ y'.good → (f q x').good ≡ (g q y').good) → (z : Option Field) →
      (on_field rows x f z).good ≡ (on_field rows' y g z).good
  field-good x y e f g on (Some r) =
      let u = use_of rows r.number r.wire r.value in
      let w = use_of rows' r.number r.wire r.value in
      on r.next (noted u x r.number r.value r.start r.len) (noted w y r.number r.value r.start r.len)
      (noted_good u x r.number r.value r.start r.len ∙ e ∙ sym (noted_good w y r.number r.value r.start r.len))
  field-good x y e f g on None = refl

  pub from_good : (most at : ℕ) (x y : Slots) → x.good ≡ y.good →
      (fields_from most rows s at x).good ≡ (fields_from most rows' s at y).good
  unfolding fields_from
  from_good zero at x y e = e
  from_good (suc most) at x y e =
      go (ltb at (length s)) _ _
      (field-good x y e (λ next z. fields_from most rows s next z) (λ next z. fields_from most rows' s next z)
      (λ q x' y' e'. from_good most q x' y' e') (field_at s at))
    where
      go : (b : Bool) (a c : Slots) → a.good ≡ c.good → (cond b a x).good ≡ (cond b c y).good
      go true a c h = h
      go false a c h = e

-- a list that is no good holds nothing
abbrev pub Settled : Slots → Type 0
Settled y = y.good ≡ false → y ≡ bad_slots

module _ (rows : List (List ℕ)) (s : List ℕ) where
  field-settled : (x : Slots) → x.good ≡ true → (f : ℕ → Slots → Slots) →
      ((q : ℕ) (y : Slots) → y.good ≡ true → Settled (f q y)) → (z : Option Field) → Settled (on_field rows x f z)
  field-settled x g f on (Some r) =
      let u = use_of rows r.number r.wire r.value in
      on r.next (noted u x r.number r.value r.start r.len) (noted_good u x r.number r.value r.start r.len ∙ g)
  field-settled x g f on None = λ _. refl

  pub from_settled : (most at : ℕ) (x : Slots) → x.good ≡ true → Settled (fields_from most rows s at x)
  unfolding fields_from
  from_settled zero at x g = λ b. not_both g b
  from_settled (suc most) at x g =
      both Settled (ltb at (length s)) _ _
      (λ _. field-settled x g (λ next z. fields_from most rows s next z) (λ q y h. from_settled most q y h)
      (field_at s at))
      (λ _ b. not_both g b)

-- ---- one part

pub part_settled : (rows : List (List ℕ)) (s : List ℕ) (p : Part) (x : Slots) → x.good ≡ true →
    Settled (part_onto rows s p x)
part_settled rows s p x g =
    both Settled (leb (end_of p) (length s)) _ _
    (λ _. from_settled rows (take (end_of p) s) (length (take (end_of p) s)) p.start x g) (λ _ _. refl)

settle : (y : Slots) → Settled y → cond y.good y bad_slots ≡ y
settle y h = go y.good refl
  where
    go : (b : Bool) → y.good ≡ b → cond b y bad_slots ≡ y
    go true e = refl
    go false e = sym (h e)

either_bad : (rows : List (List ℕ)) → bad_slots ≡ checked rows bad_slots
either_bad rows = go (has_required rows bad_slots.count)
  where
    go : (b : Bool) → bad_slots ≡ cond b bad_slots bad_slots
    go true = refl
    go false = refl

pub one_part_lem : OnePart
unfolding parts_onto
one_part_lem rows s p =
    ap (checked rows) (settle (part_onto rows s p no_slots) (part_settled rows s p no_slots refl))
    ∙ go (leb (end_of p) (length s)) (fields_onto rows (take (end_of p) s) p.start no_slots)
  where
    go : (b : Bool) (y : Slots) → checked rows (cond b y bad_slots) ≡ cond b (checked rows y) bad_slots
    go true y = refl
    go false y = sym (either_bad rows)

-- ---- each part is good

-- a part is good behind good slots exactly where it is by itself
module _ (rows : List (List ℕ)) (s : List ℕ) (p : Part) (x : Slots) (g : x.good ≡ true) where
  part-good : (part_onto rows s p x).good ≡ (embedded [] s p.start p.len).good
  unfolding has_required
  part-good =
      go (leb (end_of p) (length s)) _ _
      (from_good rows [] (take (end_of p) s) (length (take (end_of p) s)) p.start x no_slots g)
    where
      go : (b : Bool) (a c : Slots) → a.good ≡ c.good → (cond b a bad_slots).good ≡ (cond b c bad_slots).good
      go true a c h = h
      go false a c h = refl

and_both : {a b : Bool} → a ≡ true → b ≡ true → (a && b) ≡ true
and_both e f = rw (e, f)

onto_good : (rows : List (List ℕ)) (s : List ℕ) (ps : List Part) (x : Slots) → x.good ≡ true →
    (parts_onto rows s ps x).good ≡ true → all_good s ps ≡ true
unfolding parts_onto all_good
onto_good rows s [] x g e = refl
onto_good rows s (p ∷ ps) x g e =
    go (part_onto rows s p x).good refl e (λ h f. onto_good rows s ps (part_onto rows s p x) h f)
  where
    go : (b : Bool) → (part_onto rows s p x).good ≡ b →
        (cond b (parts_onto rows s ps (part_onto rows s p x)) bad_slots).good ≡ true →
        ((part_onto rows s p x).good ≡ true → (parts_onto rows s ps (part_onto rows s p x)).good ≡ true →
        all_good s ps ≡ true) → all_good s (p ∷ ps) ≡ true
    go true h f on = and_both (sym (part-good rows s p x g) ∙ h) (on h f)
    go false h f on = not_both f refl

pub each_good : EachGood
each_good rows s ps e =
    onto_good rows s ps no_slots refl (checked_from rows (parts_onto rows s ps no_slots) e)

-- ---- parts one after the other

-- the same fields, and a place for each
record Same (s t : List ℕ) (x y : Slots) : Type 0 where
  same : SameFields s t x y
  starts : length x.start ≡ slot_count
  starts' : length y.start ≡ slot_count
  lens : length x.len ≡ slot_count

bytes_as : (s : List ℕ) {m n i j : ℕ} → m ≡ n → i ≡ j → take m (drop i s) ≡ take n (drop j s)
bytes_as s {n = n} {i = i} e f = ap (λ (l : ℕ). take l (drop i s)) e ∙ ap (λ (l : ℕ). take n (drop l s)) f

-- no fields have no bytes
no_bytes : (s t : List ℕ) (k : ℕ) → bytes_in t no_slots k ≡ bytes_in s no_slots k
no_bytes s t k =
    bytes_as t (zeros slot_count k) (zeros slot_count k)
    ∙ sym (bytes_as s (zeros slot_count k) (zeros slot_count k))

none_same : (s t : List ℕ) → Same s t no_slots no_slots
none_same s t =
    record {
      same = record { good = refl; count = refl; value = refl; len = refl; bytes = no_bytes s t };
      starts = refl;
      starts' = refl;
      lens = refl;
    }

bad_same : (s t : List ℕ) → SameFields s t bad_slots bad_slots
bad_same s t = record { good = refl; count = refl; value = refl; len = refl; bytes = no_bytes s t }

module _ (rows : List (List ℕ)) {s t : List ℕ} {x y : Slots} (a : Same s t x y) (number w v st st' ln : ℕ)
    (b : take ln (drop st' t) ≡ take ln (drop st s)) where
  noted-same : (u : Use) → use_of rows number w v ≡ u → Same s t (noted u x number v st ln) (noted u y number v st' ln)
  noted-same Use.Unknown e = a
  noted-same Use.Counted e =
      record {
        same =
            record {
              good = a.same.good;
              count = ap (λ (l : List ℕ). set l number (get_or l number 0 + 1)) a.same.count;
              value = a.same.value;
              len = a.same.len;
              bytes = a.same.bytes;
            };
        starts = a.starts;
        starts' = a.starts';
        lens = a.lens;
      }
  noted-same Use.Kept e =
      record {
        same =
            record {
              good = a.same.good;
              count = ap (λ (l : List ℕ). set l number (get_or l number 0 + 1)) a.same.count;
              value = ap (λ (l : List ℕ). set l number v) a.same.value;
              len = ap (λ (l : List ℕ). set l number ln) a.same.len;
              bytes = λ k. same_or_not k number (λ z. here k z) (λ z. other k z);
            };
        starts = length-set x.start number st ∙ a.starts;
        starts' = length-set y.start number st' ∙ a.starts';
        lens = length-set x.len number ln ∙ a.lens;
      }
    where
      slot : number < slot_count
      slot = kept_slot rows number w v (sym e)

      few : length y.len ≡ slot_count
      few = ap length a.same.len ∙ a.lens

      here : (k : ℕ) → k ≡ number →
          bytes_in t (noted Use.Kept y number v st' ln) k ≡ bytes_in s (noted Use.Kept x number v st ln) k
      here k z =
          ap (bytes_in t (noted Use.Kept y number v st' ln)) z
          ∙ bytes_as t (get_or-set_same y.len number ln 0 (omega (arith, few, slot)))
          (get_or-set_same y.start number st' 0 (omega (arith, a.starts', slot)))
          ∙ b
          ∙ sym
          (bytes_as s (get_or-set_same x.len number ln 0 (omega (arith, a.lens, slot)))
          (get_or-set_same x.start number st 0 (omega (arith, a.starts, slot))))
          ∙ ap (bytes_in s (noted Use.Kept x number v st ln)) (sym z)

      other : (k : ℕ) → (k ≡ number → ⊥) →
          bytes_in t (noted Use.Kept y number v st' ln) k ≡ bytes_in s (noted Use.Kept x number v st ln) k
      other k z =
          bytes_as t (get_or-set_other y.len number k ln 0 z) (get_or-set_other y.start number k st' 0 z)
          ∙ a.same.bytes k
          ∙ sym (bytes_as s (get_or-set_other x.len number k ln 0 z) (get_or-set_other x.start number k st 0 z))

-- what is read in t of a part's bytes, up to the place behind them
record Walked (rows : List (List ℕ)) (s t : List ℕ) (xs : Slots) (at : ℕ) (ys : Slots) : Type 0 where
  slots : Slots
  same : Same s t xs slots
  towards : Towards rows t at slots ys

-- the walk through a part, in s and where its bytes stand in t
module _ (rows : List (List ℕ)) {s t : List ℕ} {p : Part} {d : ℕ} {q : List ℕ} (j : Joint s p t d q)
    (xs ys : Slots) where
  abbrev From : ℕ → Type 0
  From i =
      (x y : Slots) →
      Towards rows (take (end_of p) s) (p.start + i) x xs →
      Towards rows t (d + i) y ys → Same s t x y → Walked rows s t xs (d + p.len) ys

  walks : From 0
  walks =
      j_along j From
      (λ x y f g a.
      record {
        slots = y;
        same = subst (λ (z : Slots). Same s t z y) (ends f (omega (arith, here_length j))) a;
        towards = g;
      })
      (λ i number w v st ln next o on x y f g a.
      on (noted (use_of rows number w v) x number v (p.start + st) ln)
      (noted (use_of rows number w v) y number v (d + st) ln)
      (goes_on_lem f (omega (arith, here_length j, o.inside)) o.here (use_of rows number w v) refl)
      (goes_on_lem g (omega (arith, there_length j, o.inside)) o.there (use_of rows number w v) refl)
      (noted-same rows a number w v (p.start + st) (d + st) ln o.bytes (use_of rows number w v) refl))

-- all parts of s from x on, and their bytes in t from y on
joins : (rows : List (List ℕ)) (s t : List ℕ) (ps : List Part) (d : ℕ) (x y : Slots) → all_good s ps ≡ true →
    x.good ≡ true → Same s t x y → Tail t d (joined s ps) → Same s t (parts_onto rows s ps x) (fields_onto rows t d y)
unfolding parts_onto joined all_good
joins rows s t [] d x y e g a k =
    subst (λ (z : Slots). Same s t x z) (sym (from_end (length t) rows t d y (omega (arith, tail_length k)))) a
joins rows s t (p ∷ ps) d x y e g a k =
    subst (λ (z : Slots). Same s t (cond z.good (parts_onto rows s ps z) bad_slots) (fields_onto rows t d y)) whole
    (subst (λ (z : Slots). Same s t z (fields_onto rows t d y)) (yes (parts_onto rows s ps read) bad_slots fine)
    (subst (λ (z : Slots). Same s t (parts_onto rows s ps read) z) rest
    (joins rows s t ps (d + p.len) read walked.slots (rest_good s p ps e) fine walked.same (joint_rest joint))))
  where
    joint : Joint s p t d (joined s ps)
    joint = first_joint s p ps e k

    read : Slots
    read = fields_onto rows (take (end_of p) s) p.start x

    whole : read ≡ part_onto rows s p x
    whole = simp (le-leb (end_of p) (length s) joint.inside)

    fine : read.good ≡ true
    fine = ap (λ (z : Slots). z.good) whole ∙ part-good rows s p x g ∙ joint.good

    walked : Walked rows s t read (d + p.len) (fields_onto rows t d y)
    walked =
        let here : p.start ≡ p.start + 0 = omega arith in
        let there : d ≡ d + 0 = omega arith in
        walks rows joint read (fields_onto rows t d y) x y
        (subst (λ (i : ℕ). Towards rows (take (end_of p) s) i x read) here
        (starts_onto rows (take (end_of p) s) p.start x))
        (subst (λ (i : ℕ). Towards rows t i y (fields_onto rows t d y)) there (starts_onto rows t d y)) a

    rest : fields_onto rows t (d + p.len) walked.slots ≡ fields_onto rows t d y
    rest =
        fields_same rows t (length t) walked.towards.most (d + p.len) walked.slots (omega arith)
        walked.towards.enough
        ∙ walked.towards.whole

checked_same : (rows : List (List ℕ)) (s t : List ℕ) (x y : Slots) → SameFields s t x y →
    SameFields s t (checked rows x) (checked rows y)
checked_same rows s t x y a = go (has_required rows x.count) refl
  where
    go : (b : Bool) → has_required rows x.count ≡ b → SameFields s t (checked rows x) (checked rows y)
    go b e =
        rw (ap (has_required rows) a.count, e) (by b)
      where
        by : (b : Bool) → SameFields s t (cond b x bad_slots) (cond b y bad_slots)
        by true = a
        by false = bad_same s t

pub merges_as_guide : MergesAsGuide
merges_as_guide rows s ps e =
    let t = joined s ps in
    checked_same rows s t (parts_onto rows s ps no_slots) (fields_onto rows t 0 no_slots)
    (joins rows s t ps 0 no_slots no_slots e refl (none_same s t) (record { within = omega arith; is = refl })).same
