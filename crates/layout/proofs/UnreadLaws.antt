-- What a field list does not read: the bytes of a field that has bytes. Assumes nothing.
use Rattle.prelude.proofs.Basics.{ℕ, zero, suc, ◌+◌, ◌≤◌, ◌<◌, arith, Bool, true, false, cond, ◌≡◌, refl, sym, ap}
use Rattle.prelude.proofs.Basics.{subst, ◌∙◌, ◌⊎◌, inl, inr, ⊎_elim, List, length, get_or, set, get_or-set_other}
use Rattle.prelude.proofs.Basics.{get_or-set_same, eqb, ltb, eqb-true, lt-ltb, both}
use Rattle.wire.proofs.AgreeLaws.{Agree, reach, reach_le, field_kept, Tails, tails_later, field_tail}
use Rattle.layout.proofs.Names.{field_at, PastField, Field, field_past, len, number_of, wire_of, is_repeated, row_for}
use Rattle.layout.proofs.Names.{slot_count, takes, no_slots, bad_slots, use_of, noted, on_field, fields_from}
use Rattle.layout.proofs.Names.{field_list, has_required, checked, fields_at, start_of, end_in, Use, Slots}
use Rattle.layout.specs.SameBut.{SameBut}
use Rattle.layout.specs.FieldsRules.{BytesUnread, FieldUnread}
use Rattle.layout.specs.Reaches.{Reaches, stays, passes}
use Rattle.layout.proofs.FieldsLaws.{kept_slot}
use Rattle.layout.proofs.KeptLaws.{same_or_not, zeros, Kept, none_kept, noted_kept, from_kept}
use Rattle.layout.proofs.EnoughLaws.{field_same}
use Rattle.std.specs.Prelude.{Option, Some, None}
use Rattle.wire.specs.Field.{some_field}

-- ---- the same bytes from a place on are the same list from there

pub from_tail : (most : ℕ) (rows : List (List ℕ)) (s t : List ℕ) (p : ℕ) (x : Slots) → Tails s t p →
    fields_from most rows t p x ≡ fields_from most rows s p x
unfolding fields_from
from_tail zero rows s t p x a = refl
from_tail (suc most) rows s t p x a =
    rw (a.size, field_tail s t p a)
    (ap (λ (y : Slots). cond (ltb p (length s)) y x)
    (field_same rows s p x (field_at s p) (field_past s p) (λ next y. fields_from most rows t next y)
    (λ next y. fields_from most rows s next y) (λ q y h. from_tail most rows s t q y (tails_later a q (omega arith)))))

-- ---- what becomes of one field number k

pub counted_repeated : (rows : List (List ℕ)) (number w v : ℕ) → use_of rows number w v ≡ Use.Counted →
    is_repeated (row_for rows number) ≡ true
counted_repeated rows number w v = go (takes (row_for rows number) number w v) (is_repeated (row_for rows number))
  where
    go : (a b : Bool) → cond a (cond b Use.Counted Use.Kept) Use.Unknown ≡ Use.Counted → b ≡ true
    go true true e = refl
    go true false e = absurd (let z : ◌≡◌ {A = ℕ} 0 1 = cc in omega arith)
    go false b e = absurd (let z : ◌≡◌ {A = ℕ} 0 1 = cc in omega arith)

kept_wire : (rows : List (List ℕ)) (number w v : ℕ) → use_of rows number w v ≡ Use.Kept →
    wire_of (row_for rows number) ≡ w
kept_wire rows number w v h = go (eqb (wire_of (row_for rows number)) w) refl
  where
    unknown : eqb (wire_of (row_for rows number)) w ≡ false → takes (row_for rows number) number w v ≡ false
    unknown e =
        both (λ (b : Bool). b ≡ false) (ltb number slot_count) _ _
        (λ _.
        both (λ (b : Bool). b ≡ false) (eqb (number_of (row_for rows number)) number) _ _ (λ _. rw e) (λ _. refl))
        (λ _. refl)

    go : (b : Bool) → eqb (wire_of (row_for rows number)) w ≡ b → wire_of (row_for rows number) ≡ w
    go true e = eqb-true (wire_of (row_for rows number)) w e
    go false e =
        absurd
        (let u : use_of rows number w v ≡ Use.Unknown = rw (unknown e) in
        let z : ◌≡◌ {A = ℕ} 0 1 = cc in
        omega arith)

-- y has of k what x has
record Quiet (k : ℕ) (x y : Slots) : Type 0 where
  count : get_or y.count k 0 ≡ get_or x.count k 0
  start : start_of y k ≡ start_of x k
  end : end_in y k ≡ end_in x k

-- y has k noted at a place
record Here (k w st ln : ℕ) (y : Slots) : Type 0 where
  wire : w ≡ len
  start : start_of y k ≡ st
  end : end_in y k ≡ st + ln

quiet : (k : ℕ) (x : Slots) → Quiet k x x
quiet k x = record { count = refl; start = refl; end = refl }

quiet_then : {k : ℕ} {x y z : Slots} → Quiet k x y → Quiet k y z → Quiet k x z
quiet_then a b = record { count = b.count ∙ a.count; start = b.start ∙ a.start; end = b.end ∙ a.end }

module _ (rows : List (List ℕ)) (k : ℕ) (bytes : wire_of (row_for rows k) ≡ len)
    (once : is_repeated (row_for rows k) ≡ false) where
  noted-told : (n : ℕ) {x : Slots} → Kept n x → (number w v st ln : ℕ) (u : Use) → use_of rows number w v ≡ u →
      Quiet k x (noted u x number v st ln) ⊎ Here k w st ln (noted u x number v st ln)
  noted-told n {x} a number w v st ln Use.Unknown e = inl (quiet k x)
  noted-told n {x} a number w v st ln Use.Counted e =
      inl
      (same_or_not k number
      (λ z.
      absurd
      (let r = ap (λ (m : ℕ). is_repeated (row_for rows m)) z in
      let c = counted_repeated rows number w v e in
      let y : ◌≡◌ {A = ℕ} 0 1 = cc in
      omega arith))
      (λ z.
      record {
        count = get_or-set_other x.count number k (get_or x.count number 0 + 1) 0 z;
        start = refl;
        end = refl;
      }))
  noted-told n {x} a number w v st ln Use.Kept e =
      same_or_not k number
      (λ z.
      let slot = kept_slot rows number w v (sym e) in
      let s-is =
      ap (λ (m : ℕ). get_or (set x.start number st) m 0) z
      ∙ get_or-set_same x.start number st 0 (omega (arith, a.starts)) in
      let l-is =
      ap (λ (m : ℕ). get_or (set x.len number ln) m 0) z
      ∙ get_or-set_same x.len number ln 0 (omega (arith, a.lens)) in
      inr
      (record {
        wire = sym (kept_wire rows number w v e) ∙ ap (λ (m : ℕ). wire_of (row_for rows m)) (sym z) ∙ bytes;
        start = s-is;
        end = omega (arith, s-is, l-is);
      }))
      (λ z.
      let s-is = get_or-set_other x.start number k st 0 z in
      let l-is = get_or-set_other x.len number k ln 0 z in
      inl
      (record {
        count = get_or-set_other x.count number k (get_or x.count number 0 + 1) 0 z;
        start = s-is;
        end = omega (arith, s-is, l-is);
      }))

  -- the rest of a good list has no more of k, or notes it further on
  abbrev Later : ℕ → Slots → Slots → Type 0
  Later p x y = y.good ≡ true → Quiet k x y ⊎ (p < start_of y k)

  module _ (s : List ℕ) where
    field-later : (p : ℕ) (x : Slots) → Kept (length s) x → (more : ℕ → Slots → Slots) →
        ((q : ℕ) (y : Slots) → Kept (length s) y → Later q y (more q y)) → (z : Option Field) → PastField p (length s) z →
        Later p x (on_field rows x more z)
    field-later p x a more m (Some r) h g =
        ⊎_elim
        (λ q.
        ⊎_elim (λ t. inl (quiet_then t q)) (λ t. inr (omega (arith, t.start, q.start, h.0)))
        (noted-told (length s) a r.number r.wire r.value r.start r.len (use_of rows r.number r.wire r.value) refl))
        (λ l. inr (omega (arith, h.2)))
        (m r.next (noted (use_of rows r.number r.wire r.value) x r.number r.value r.start r.len)
        (noted_kept rows (length s) a r.number r.wire r.value r.start r.len (omega arith) (use_of rows r.number r.wire r.value) refl) g)
    field-later p x a more m None h g = absurd (let z : ◌≡◌ {A = ℕ} 0 1 = cc in omega arith)

    from-later : (most p : ℕ) (x : Slots) → Kept (length s) x → Later p x (fields_from most rows s p x)
    unfolding fields_from
    from-later zero p x a = λ g. inl (quiet k x)
    from-later (suc most) p x a =
        both (Later p x) (ltb p (length s)) _ _
        (λ _.
        field-later p x a (λ next y. fields_from most rows s next y) (λ q y b. from-later most q y b) (field_at s p)
        (field_past s p))
        (λ _ g. inl (quiet k x))

-- one turn of a walk
step : (most : ℕ) (rows : List (List ℕ)) (t : List ℕ) (p : ℕ) (x : Slots) {number w v st ln next : ℕ} → p < length t →
    field_at t p ≡ some_field number w v st ln next →
    fields_from (suc most) rows t p x ≡ fields_from most rows t next (noted (use_of rows number w v) x number v st ln)
unfolding fields_from
step most rows t p x h e = rw (lt-ltb p (length t) h, e)

-- two walks through bytes that are the same but for those that k ends up with
module _ (rows : List (List ℕ)) (k : ℕ) (bytes : wire_of (row_for rows k) ≡ len)
    (once : is_repeated (row_for rows k) ≡ false) (s t : List ℕ) where
  abbrev Walk : ℕ → ℕ → Slots → Slots → Type 0
  Walk most p x y =
      y.good ≡ true → p < start_of y k → end_in y k ≤ length s → SameBut s t (start_of y k) (end_in y k) →
      fields_from most rows t p x ≡ y

  field-walk : (most p : ℕ) (x : Slots) → Kept (length s) x → start_of x k ≤ p → (z : Option Field) → field_at s p ≡ z →
      PastField p (length s) z →
      ((q : ℕ) (y : Slots) → Kept (length s) y → start_of y k ≤ q → Walk most q y (fields_from most rows s q y)) →
      Walk (suc most) p x (on_field rows x (λ next y. fields_from most rows s next y) z)
  field-walk most p x a low (Some z) f h on g l n b =
      let u = use_of rows z.number z.wire z.value in
      let y = noted u x z.number z.value z.start z.len in
      let end = fields_from most rows s z.next y in
      let kept = noted_kept rows (length s) a z.number z.wire z.value z.start z.len (omega arith) u refl in
      let told = noted-told rows k bytes once (length s) a z.number z.wire z.value z.start z.len u refl in
      let same : Agree s t p (start_of end k) =
      record {
        here = omega arith;
        there = omega (arith, b.size);
        same = λ i _ j. b.same i (inl j);
      } in
      let there : p < length t = omega (arith, b.size, h.2, h.3) in
      let turn : reach z.wire z.start z.next ≤ start_of end k → fields_from (suc most) rows t p x ≡ fields_from most rows t z.next y =
      λ r. step most rows t p x there (field_kept s t (start_of end k) p same f r (omega (arith, b.size, h.3))) in
      ⊎_elim
      (λ q.
      ⊎_elim (λ d. absurd (omega (arith, d.start, q.start, low)))
      (λ d.
      let two : reach z.wire z.start z.next ≡ z.start = rw d.wire in
      turn (omega (arith, two, q.start, d.start))
      ∙ from_tail most rows s t z.next y
      (record { size = b.size; same = λ i j. b.same i (inr (omega (arith, q.end, d.end, h.1))) }))
      told)
      (λ j.
      turn (omega (arith, reach_le z.wire z.start z.next (omega arith)))
      ∙ on z.next y kept
      (⊎_elim (λ d. omega (arith, d.start, low, h.2)) (λ d. omega (arith, d.start, h.1)) told) g j n b)
      (from-later rows k bytes once s most z.next y kept g)
  field-walk most p x a low None f h on g l n b = absurd (let z : ◌≡◌ {A = ℕ} 0 1 = cc in omega arith)

  walk : (most p : ℕ) (x : Slots) → Kept (length s) x → start_of x k ≤ p → Walk most p x (fields_from most rows s p x)
  unfolding fields_from
  walk zero p x a low = λ g l n b. refl
  walk (suc most) p x a low =
      both (Walk (suc most) p x) (ltb p (length s)) _ _
      (λ _.
      field-walk most p x a low (field_at s p) refl (field_past s p) (λ q y c low'. walk most q y c low'))
      (λ _ g l n b. absurd (omega arith))

-- a good list has what is required
checked_is : (rows : List (List ℕ)) (x : Slots) → (checked rows x).good ≡ true → checked rows x ≡ x
checked_is rows x = both (λ (y : Slots). y.good ≡ true → y ≡ x) (has_required rows x.count) x bad_slots (λ _ _. refl)
    (λ _ g. absurd (let z : ◌≡◌ {A = ℕ} 0 1 = cc in omega arith))

-- a field that occurs stands behind the list's start
pub kept_behind : (rows : List (List ℕ)) (k : ℕ) → wire_of (row_for rows k) ≡ len → is_repeated (row_for rows k) ≡ false →
    (s : List ℕ) (from : ℕ) → (fields_at rows s from).good ≡ true → (get_or (fields_at rows s from).count k 0 ≡ 0 → ⊥) →
    from < start_of (fields_at rows s from) k
kept_behind rows k bytes once s from g some =
    let x = field_list rows s from in
    let is = checked_is rows x g in
    ⊎_elim
    (λ q. absurd (some (ap (λ (y : Slots). get_or y.count k 0) is ∙ q.count ∙ zeros slot_count k)))
    (λ l. omega (arith, ap (λ (y : Slots). start_of y k) is))
    (from-later rows k bytes once s (length s) from no_slots (none_kept (length s))
    (ap (λ (y : Slots). y.good) (sym is) ∙ g))

pub bytes_unread : BytesUnread
bytes_unread rows s t from k bytes once g some b =
    let x = field_list rows s from in
    let is = checked_is rows x g in
    let l = kept_behind rows k bytes once s from g some in
    let same : field_list rows t from ≡ x =
    ap (λ (m : ℕ). fields_from m rows t from no_slots) b.size
    ∙ walk rows k bytes once s t (length s) from no_slots (none_kept (length s)) (omega (arith, zeros slot_count k))
    (ap (λ (y : Slots). y.good) (sym is) ∙ g) (omega (arith, ap (λ (y : Slots). start_of y k) is))
    ((from_kept rows s (length s) from (none_kept (length s))).inside k)
    (subst (λ (y : Slots). SameBut s t (start_of y k) (end_in y k)) is b) in
    ap (checked rows) same

-- ---- a field on the way

field_ahead : (s : List ℕ) (p : ℕ) {i w v st ln after : ℕ} → field_at s p ≡ some_field i w v st ln after → p < after
field_ahead s p {i} {w} {v} {st} {ln} {after} e = (subst (PastField p (length s)) e (field_past s p)).2

none_left : (rows : List (List ℕ)) (s : List ℕ) (p : ℕ) (x : Slots) → fields_from 0 rows s p x ≡ x
unfolding fields_from
none_left rows s p x = refl

pub reaches_later : {s : List ℕ} {p q : ℕ} → Reaches s p q → p ≤ q
reaches_later stays = omega arith
reaches_later {s} {p} (passes e r) = omega (arith, reaches_later r, field_ahead s p e)

-- the bytes of the field at p are other ones: every field on the way to it, and its own tag and length, are the same
module _ (s t : List ℕ) (p number value start n next : ℕ)
    (e : field_at s p ≡ some_field number len value start n next) (b : SameBut s t start (start + n)) where
  inside : PastField p (length s) (some_field number len value start n next)
  inside = subst (PastField p (length s)) e (field_past s p)

  agrees : (q : ℕ) → Agree s t q start
  agrees q =
      record {
        here = omega (arith, inside.1, inside.3);
        there = omega (arith, inside.1, inside.3, b.size);
        same = λ i _ j. b.same i (inl j);
      }

  pub field_itself : field_at t p ≡ some_field number len value start n next
  field_itself = field_kept s t start p (agrees p) e (omega arith) (omega (arith, inside.3, b.size))

  pub field_on_way : (q : ℕ) {i w v st ln after : ℕ} → field_at s q ≡ some_field i w v st ln after → after ≤ p →
      field_at t q ≡ some_field i w v st ln after
  field_on_way q {i} {w} {v} {st} {ln} {after} f h =
      let k = subst (PastField q (length s)) f (field_past s q) in
      field_kept s t start q (agrees q) f (omega (arith, reach_le w st after (omega (arith, k.1)), inside.0))
      (omega (arith, k.3, b.size))

  pub tail_behind : Tails s t next
  tail_behind = record { size = b.size; same = λ i j. b.same i (inr (omega (arith, inside.1))) }

  module _ (rows : List (List ℕ)) where
    pub from_reached : (most : ℕ) {q : ℕ} (x : Slots) → Reaches s q p →
        fields_from most rows t q x ≡ fields_from most rows s q x
    from_reached zero {q} x r = none_left rows t q x ∙ sym (none_left rows s q x)
    from_reached (suc most) x stays =
        step most rows t p x (omega (arith, inside.2, inside.3, b.size)) field_itself
        ∙ from_tail most rows s t next (noted (use_of rows number len value) x number value start n) tail_behind
        ∙ sym (step most rows s p x (omega (arith, inside.2, inside.3)) e)
    from_reached (suc most) {q} x (passes {number = i} {wire = w} {value = v} {start = st} {len = ln} f r) =
        let k = subst (PastField q (length s)) f (field_past s q) in
        step most rows t q x (omega (arith, k.2, k.3, b.size)) (field_on_way q f (reaches_later r))
        ∙ from_reached most (noted (use_of rows i w v) x i v st ln) r
        ∙ sym (step most rows s q x (omega (arith, k.2, k.3)) f)

pub field_unread : FieldUnread
field_unread rows s t from p number value start n next r e b =
    ap (λ (m : ℕ). checked rows (fields_from m rows t from no_slots)) b.size
    ∙ ap (checked rows) (from_reached s t p number value start n next e b rows (length s) no_slots r)
