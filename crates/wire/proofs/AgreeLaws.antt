-- A field that is read in some bytes is read alike in others that have the same bytes there; those of a field with
-- bytes may be others. Assumes nothing.
use Rattle.prelude.proofs.Basics.{ℕ, zero, suc, ◌+◌, ◌-◌, ◌%◌, ◌^◌, ◌≤◌, ◌<◌, arith, Bool, true, false, cond, ◌≡◌, refl}
use Rattle.prelude.proofs.Basics.{sym, ap, subst, ◌∙◌, List, ◌++◌, length, get_or, List·getD-append, length-append, eqb}
use Rattle.prelude.proofs.Basics.{leb, ltb, eqb-true, le-leb, ne_eqb, both}
pub use Rattle.varint.proofs.AgreeLaws.{Agree}
use Rattle.varint.proofs.AgreeLaws.{agree_later}
use Rattle.wire.proofs.Names.{varint_at, Number, KeepsVarint, varint_keeps, little, tag_of, tag_at, of_varint}
use Rattle.wire.proofs.Names.{as_fixed, of_length, value_at, behind, skip_value, and_then, group_field, group_fields}
use Rattle.wire.proofs.Names.{group_end, max_depth, of_value, of_group, field_of, of_tag, field_at, PastTag, PastValue}
use Rattle.wire.proofs.Names.{PastSkip, PastField, Field, Tag, Value}
use Rattle.wire.proofs.ValueLaws.{length_good}
use Rattle.wire.proofs.GroupLaws.{shut}
use Rattle.wire.proofs.PastLaws.{tag_past, value_past, skip_past, tagged_past, group_fields_past, group_past}
use Rattle.wire.proofs.PastLaws.{field_past}
use Rattle.wire.proofs.EnoughLaws.{enough_fields}
use Rattle.std.specs.Prelude.{Option, Some, None}
use Rattle.varint.specs.Number.{some_number}
use Rattle.wire.specs.Field.{some_field}
use Rattle.wire.specs.Tag.{some_tag}
use Rattle.wire.specs.Value.{some_value}

-- the place up to which a field is read: that of its bytes where it has them, else the one behind it
abbrev pub reach : ℕ → ℕ → ℕ → ℕ
reach wire start next = cond (eqb wire 2) start next

-- what is read by m, and ends within the other bytes, is the same
abbrev KeepsTag : ℕ → Option Tag → Option Tag → Type 0
KeepsTag m (Some r) y = r.next ≤ m → y ≡ some_tag r.number r.wire r.next
KeepsTag m None y = Unit {0}

abbrev KeepsValue : ℕ → ℕ → ℕ → Option Value → Option Value → Type 0
KeepsValue w m end (Some r) y =
    reach w r.start r.next ≤ m → r.next ≤ end → y ≡ some_value r.number r.start r.len r.next
KeepsValue w m end None y = Unit {0}

abbrev KeepsSkip : ℕ → Option ℕ → Option ℕ → Type 0
KeepsSkip m (Some next) y = next ≤ m → y ≡ Some next
KeepsSkip m None y = Unit {0}

abbrev pub KeepsField : ℕ → ℕ → Option Field → Option Field → Type 0
KeepsField m end (Some r) y =
    reach r.wire r.start r.next ≤ m → r.next ≤ end → y ≡ some_field r.number r.wire r.value r.start r.len r.next
KeepsField m end None y = Unit {0}

-- two choices by one test
either : {A : Type 0} (P : A → A → Type 0) (b : Bool) {x y u v : A} → (b ≡ true → P x u) → (b ≡ false → P y v) →
    P (cond b x y) (cond b u v)
either P true f g = f refl
either P false f g = g refl

-- ---- tags

abbrev EndsAt : ℕ → Option Tag → Type 0
EndsAt next (Some r) = r.next ≡ next
EndsAt next None = Unit {0}

tag_ends : (v next : ℕ) → EndsAt next (tag_of (some_number v next))
tag_ends v next =
    both (EndsAt next) (ltb v (2 ^ 32)) _ _
    (λ _.
    both (EndsAt next) (ltb v 8) _ _ (λ _. tt) (λ _. both (EndsAt next) (ltb (v % 8) 6) _ _ (λ _. refl) (λ _. tt)))
    (λ _. tt)

tag_of_keeps : (m : ℕ) (x y : Option Number) → KeepsVarint m x y → KeepsTag m (tag_of x) (tag_of y)
tag_of_keeps m (Some g) y k =
    go (tag_of (some_number g.value g.next)) (tag_ends g.value g.next) (λ h. ap tag_of (k h))
  where
    go : (z : Option Tag) → EndsAt g.next z → (g.next ≤ m → tag_of y ≡ z) → KeepsTag m z (tag_of y)
    go (Some r) e f = λ h. f (omega arith)
    go None e f = tt
tag_of_keeps m None y k = tt

other_wire : (w n : ℕ) → eqb w n ≡ true → (n ≡ 2 → ⊥) → eqb w 2 ≡ false
other_wire w n e h = ne_eqb w 2 (λ z. h (sym (eqb-true w n e) ∙ z))

pub reach_le : (w start next : ℕ) → start ≤ next → reach w start next ≤ next
reach_le w start next h = both (λ (k : ℕ). k ≤ next) (eqb w 2) start next (λ _. h) (λ _. omega arith)

module _ (s t : List ℕ) (m : ℕ) where
  tag-keeps : {p : ℕ} → Agree s t p m → KeepsTag m (tag_at s p) (tag_at t p)
  tag-keeps {p} a = tag_of_keeps m (varint_at s p) (varint_at t p) (varint_keeps a)

  -- ---- values

  number-keeps : (w at : ℕ) → eqb w 2 ≡ false → (x y : Option Number) → KeepsVarint m x y →
      KeepsValue w m (length t) (of_varint at x) (of_varint at y)
  number-keeps w at e (Some r) y k = λ h l. ap (of_varint at) (k (rw e at h))
  number-keeps w at e None y k = tt

  little-agrees : (k : ℕ) {at : ℕ} → Agree s t at m → at + k ≤ m → little k t at ≡ little k s at
  unfolding little
  little-agrees zero a h = refl
  little-agrees (suc k) {at} a h =
      rw (a.same at (omega arith) (omega arith), little-agrees k (agree_later a (at + 1) (omega arith)) (omega arith))

  fixed-keeps : (w : ℕ) → eqb w 2 ≡ false → (k : ℕ) {at : ℕ} → Agree s t at m →
      KeepsValue w m (length t) (as_fixed k s at) (as_fixed k t at)
  fixed-keeps w e k {at} a = go (leb (at + k) (length s)) refl
    where
      go : (b : Bool) → leb (at + k) (length s) ≡ b → KeepsValue w m (length t) (as_fixed k s at) (as_fixed k t at)
      go true f =
          rw f (λ h l. rw (le-leb (at + k) (length t) l, little-agrees k a (rw e at h)))
      go false f = rw f tt

  length-keeps : (w : ℕ) → eqb w 2 ≡ true → (x y : Option Number) → KeepsVarint m x y →
      KeepsValue w m (length t) (of_length s x) (of_length t y)
  length-keeps w e (Some r) y k =
      both (λ (z : Option Value). KeepsValue w m (length t) z (of_length t y)) (ltb (length s - r.next) r.value) _ _ (λ _. tt)
      (λ _ h l. ap (of_length t) (k (rw e at h)) ∙ sym (length_good t r.value r.next (omega arith)))
  length-keeps w e None y k = tt

  value_keeps : (w : ℕ) {at : ℕ} → Agree s t at m → KeepsValue w m (length t) (value_at s w at) (value_at t w at)
  value_keeps w {at} a =
      either (KeepsValue w m (length t)) (eqb w 0)
      (λ e.
      number-keeps w at (other_wire w 0 e (λ z. omega arith)) (varint_at s at) (varint_at t at) (varint_keeps a))
      (λ _.
      either (KeepsValue w m (length t)) (eqb w 1) (λ e. fixed-keeps w (other_wire w 1 e (λ z. omega arith)) 8 a)
      (λ _.
      either (KeepsValue w m (length t)) (eqb w 2)
      (λ e. length-keeps w e (varint_at s at) (varint_at t at) (varint_keeps a))
      (λ _.
      either (KeepsValue w m (length t)) (eqb w 5) (λ e. fixed-keeps w (other_wire w 5 e (λ z. omega arith)) 4 a)
      (λ _. tt))))

  -- ---- groups

  behind-keeps : (there : m ≤ length t) (w at : ℕ) (x y : Option Value) → KeepsValue w m (length t) x y →
      PastValue at (length s) x → KeepsSkip m (behind x) (behind y)
  behind-keeps there w at (Some r) y k p =
      λ h. ap behind (k (omega (arith, reach_le w r.start r.next (omega arith))) (omega arith))
  behind-keeps there w at None y k p = tt

  skip-keeps : (w : ℕ) {at : ℕ} → Agree s t at m → KeepsSkip m (skip_value s w at) (skip_value t w at)
  skip-keeps w {at} a =
      behind-keeps a.there w at (value_at s w at) (value_at t w at) (value_keeps w a) (value_past s w at)

  -- going on, where the way on goes forward
  then_keeps : (x y : Option ℕ) (f g : ℕ → Option ℕ) → KeepsSkip m x y →
      ((q : ℕ) → x ≡ Some q → KeepsSkip m (f q) (g q) × PastSkip q (length s) (f q)) →
      KeepsSkip m (and_then x f) (and_then y g)
  then_keeps (Some q) y f g k more = go (f q) (more q refl).0 (more q refl).1
    where
      go : (z : Option ℕ) → KeepsSkip m z (g q) → PastSkip q (length s) z → KeepsSkip m z (and_then y g)
      go (Some r) kz p = λ h. ap (λ (w : Option ℕ). and_then w g) (k (omega arith)) ∙ kz h
      go None kz p = tt
  then_keeps None y f g k more = tt

-- the groups in a group are kept
module _ (s t : List ℕ) (m : ℕ) (number : ℕ) (i j : ℕ → ℕ → Option ℕ)
    (inner-past : (n p : ℕ) → PastSkip p (length s) (i n p))
    (inner : (n p : ℕ) → Agree s t p m → KeepsSkip m (i n p) (j n p)) where
  field-skips : {p : ℕ} → Agree s t p m → (f g : ℕ → Option ℕ) → ((q : ℕ) → PastSkip q (length s) (f q)) →
      ((q : ℕ) → p < q → KeepsSkip m (f q) (g q)) → (x y : Option Tag) → KeepsTag m x y → PastTag p (length s) x →
      KeepsSkip m (group_field i f s number x) (group_field j g t number y)
  field-skips {p} a f g past more (Some x) y k h =
      go (group_field i f s number (some_tag x.number x.wire x.next)) tagged
      (tagged_past i s number inner-past f past x.number x.wire x.next h.1)
    where
      b : Agree s t x.next m
      b = agree_later a x.next (omega arith)

      on : (x' y' : Option ℕ) → KeepsSkip m x' y' → PastSkip x.next (length s) x' → KeepsSkip m (and_then x' f) (and_then y' g)
      on x' y' k' p' = then_keeps s t m x' y' f g k' (λ q e. (more q (further q e), past q))
        where
          further : (q : ℕ) → x' ≡ Some q → p < q
          further q e = let z = subst (PastSkip x.next (length s)) e p' in omega (arith, z.0)

      tagged : KeepsSkip m (group_field i f s number (some_tag x.number x.wire x.next))
          (group_field j g t number (some_tag x.number x.wire x.next))
      tagged =
          either (KeepsSkip m) (eqb x.wire 4) (λ _. either (KeepsSkip m) (eqb x.number number) (λ _ _. refl) (λ _. tt))
          (λ _.
          either (KeepsSkip m) (eqb x.wire 3) (λ _. on (i x.number x.next) (j x.number x.next) (inner x.number x.next b) (inner-past x.number x.next))
          (λ _. on (skip_value s x.wire x.next) (skip_value t x.wire x.next) (skip-keeps s t m x.wire b) (skip_past s x.wire x.next)))

      go : (z : Option ℕ) → KeepsSkip m z (group_field j g t number (some_tag x.number x.wire x.next)) → PastSkip x.next (length s) z →
          KeepsSkip m z (group_field j g t number y)
      go (Some r) kz p' = λ l. ap (group_field j g t number) (k (omega arith)) ∙ kz l
      go None kz p' = tt
  field-skips {p} a f g past more None y k h = tt

  fields-skip : (most : ℕ) {p : ℕ} → Agree s t p m →
      KeepsSkip m (group_fields i most s p number) (group_fields j most t p number)
  unfolding group_fields
  fields-skip zero a = tt
  fields-skip (suc most) {p} a =
      field-skips a (λ q. group_fields i most s q number) (λ q. group_fields j most t q number)
      (group_fields_past i s number inner-past most) (λ q h. fields-skip most (agree_later a q (omega arith)))
      (tag_at s p) (tag_at t p) (tag-keeps s t m a) (tag_past s p)

group_keeps : (s t : List ℕ) (m depth number p : ℕ) → Agree s t p m →
    KeepsSkip m (group_end depth s p number) (group_end depth t p number)
group_keeps s t m zero number p a = rw (shut s p number) tt
group_keeps s t m (suc depth) number p a =
    let most = length s + length t in
    subst (λ (x : Option ℕ). KeepsSkip m x (group_end (suc depth) t p number))
    (enough_fields depth most s p number (omega arith))
    (subst (λ (y : Option ℕ). KeepsSkip m (group_fields (λ n q. group_end depth s q n) most s p number) y)
    (enough_fields depth most t p number (omega arith))
    (fields-skip s t m number (λ n q. group_end depth s q n) (λ n q. group_end depth t q n)
    (λ n q. group_past depth s q n) (λ n q b. group_keeps s t m depth n q b) most a))

-- ---- fields

module _ (s t : List ℕ) (m : ℕ) where
  of_value_keeps : (n w : ℕ) (x y : Option Value) → KeepsValue w m (length t) x y →
      KeepsField m (length t) (of_value n w x) (of_value n w y)
  of_value_keeps n w (Some r) y k = λ h l. ap (of_value n w) (k h l)
  of_value_keeps n w None y k = tt

  of_group_keeps : (n at : ℕ) (x y : Option ℕ) → KeepsSkip m x y → KeepsField m (length t) (of_group n at x) (of_group n at y)
  of_group_keeps n at (Some next) y k = λ h l. ap (of_group n at) (k h)
  of_group_keeps n at None y k = tt

  field_of_keeps : (n w at : ℕ) → Agree s t at m → KeepsField m (length t) (field_of s n w at) (field_of t n w at)
  field_of_keeps n w at a =
      either (KeepsField m (length t)) (eqb w 3)
      (λ _.
      of_group_keeps n at (group_end max_depth s at n) (group_end max_depth t at n) (group_keeps s t m max_depth n at a))
      (λ _. of_value_keeps n w (value_at s w at) (value_at t w at) (value_keeps s t m w a))

  -- what is read of a field goes up to its tag's end at least
  abbrev Behind : ℕ → Option Field → Type 0
  Behind at (Some r) = at ≤ reach r.wire r.start r.next
  Behind at None = Unit {0}

  reach-past : (w at start next : ℕ) → at ≤ start → at ≤ next → at ≤ reach w start next
  reach-past w at start next h g = both (λ (k : ℕ). at ≤ k) (eqb w 2) start next (λ _. h) (λ _. g)

  of_value_behind : (n w at : ℕ) (x : Option Value) → PastValue at (length s) x → Behind at (of_value n w x)
  of_value_behind n w at (Some r) h = reach-past w at r.start r.next h.0 h.2
  of_value_behind n w at None h = tt

  of_group_behind : (n at : ℕ) (x : Option ℕ) → PastSkip at (length s) x → Behind at (of_group n at x)
  of_group_behind n at (Some next) h = h.0
  of_group_behind n at None h = tt

  field_of_behind : (n w at : ℕ) → Behind at (field_of s n w at)
  field_of_behind n w at =
      both (Behind at) (eqb w 3) _ _ (λ _. of_group_behind n at (group_end max_depth s at n) (group_past max_depth s at n))
      (λ _. of_value_behind n w at (value_at s w at) (value_past s w at))

  of_tag_keeps : (p : ℕ) → Agree s t p m → (x y : Option Tag) → KeepsTag m x y → PastTag p (length s) x →
      KeepsField m (length t) (of_tag s x) (of_tag t y)
  of_tag_keeps p a (Some q) y k h =
      go (field_of s q.number q.wire q.next) (field_of_keeps q.number q.wire q.next (agree_later a q.next (omega arith))) (field_of_behind q.number q.wire q.next)
    where
      go : (z : Option Field) → KeepsField m (length t) z (field_of t q.number q.wire q.next) → Behind q.next z →
          KeepsField m (length t) z (of_tag t y)
      go (Some g) kz b = λ r l. ap (of_tag t) (k (omega arith)) ∙ kz r l
      go None kz b = tt
  of_tag_keeps p a None y k h = tt

  pub field_keeps : (p : ℕ) → Agree s t p m → KeepsField m (length t) (field_at s p) (field_at t p)
  unfolding field_at
  field_keeps p a = of_tag_keeps p a (tag_at s p) (tag_at t p) (tag-keeps s t m a) (tag_past s p)

-- what is read of a field lies within the bytes
field_read : (s : List ℕ) (p : ℕ) {n w v start len next : ℕ} → field_at s p ≡ some_field n w v start len next →
    (reach w start next ≤ length s) × (next ≤ length s)
field_read s p {n} {w} {v} {start} {len} {next} e = go (field_past s p)
  where
    go : PastField p (length s) (field_at s p) → (reach w start next ≤ length s) × (next ≤ length s)
    go = rw e (λ h. (omega (arith, reach_le w start next (omega arith)), h.3))

-- the same, of a field that was read
pub field_kept : (s t : List ℕ) (m p : ℕ) → Agree s t p m → {n w v start len next : ℕ} →
    field_at s p ≡ some_field n w v start len next → reach w start next ≤ m → next ≤ length t →
    field_at t p ≡ some_field n w v start len next
field_kept s t m p a {n} {w} {v} {start} {len} {next} e = go (field_keeps s t m p a)
  where
    go : KeepsField m (length t) (field_at s p) (field_at t p) → reach w start next ≤ m → next ≤ length t →
        field_at t p ≡ some_field n w v start len next
    go = rw e (λ k. k)

-- where more bytes follow
pub field_longer : (s q : List ℕ) (p : ℕ) {n w v start len next : ℕ} → field_at s p ≡ some_field n w v start len next →
    field_at (s ++ q) p ≡ some_field n w v start len next
field_longer s q p e =
    let more = length-append s q in
    let read = field_read s p e in
    field_kept s (s ++ q) (length s) p
    (record { here = omega arith; there = omega arith; same = λ i _ h. List·getD-append s q 0 i h }) e read.0
    (omega (arith, read.1))

-- the same bytes from p on
pub record Tails (s t : List ℕ) (p : ℕ) : Type 0 where
  pub size : length t ≡ length s
  pub same : (i : ℕ) → p ≤ i → get_or t i 0 ≡ get_or s i 0

pub tails_later : {s t : List ℕ} {p : ℕ} → Tails s t p → (q : ℕ) → p ≤ q → Tails s t q
tails_later {s} {t} {p} a q h = record { size = a.size; same = λ i g. a.same i (omega arith) }

-- every field from there on is the same, a bad one too
tail_kept : (s t : List ℕ) (p : ℕ) → Tails s t p → {n w v start len next : ℕ} →
    field_at s p ≡ some_field n w v start len next → field_at t p ≡ some_field n w v start len next
tail_kept s t p a {n} {w} {v} {start} {len} {next} e =
    field_kept s t (length s) p
    (record { here = omega arith; there = omega (arith, a.size); same = λ i h _. a.same i h }) e
    (field_read s p e).0 (omega (arith, a.size, (field_read s p e).1))

pub field_tail : (s t : List ℕ) (p : ℕ) → Tails s t p → field_at t p ≡ field_at s p
field_tail s t p a = go (field_at s p) refl
  where
    back : Tails t s p
    back = record { size = sym a.size; same = λ i h. sym (a.same i h) }

    none : field_at s p ≡ None → (y : Option Field) → field_at t p ≡ y → y ≡ None
    none e (Some r) f =
        absurd (let g = tail_kept t s p back f in let z : ◌≡◌ {A = ℕ} 0 1 = cc in omega arith)
    none e None f = refl

    go : (x : Option Field) → field_at s p ≡ x → field_at t p ≡ field_at s p
    go (Some r) e = tail_kept s t p a e ∙ sym e
    go None e = none e (field_at t p) refl ∙ sym e
