-- Parts read alike in bytes that differ elsewhere, or only inside one of their fields. Assumes nothing.
use Rattle.prelude.proofs.Basics.{ℕ, zero, suc, ◌+◌, ◌≤◌, ◌<◌, arith, Bool, true, false, ◌&&◌, cond, ◌≡◌, refl, sym, ap}
use Rattle.prelude.proofs.Basics.{ap₂, subst, ◌∙◌, ◌⊎◌, inl, inr, ⊎_elim, List, [], ◌∷◌, ◌++◌, length, take, get_or, eqb}
use Rattle.prelude.proofs.Basics.{leb, ltb, lt-ltb, length-take, both, eqb-true, less_or_not, get_or-take}
use Rattle.prelude.proofs.Basics.{List·getD-eq-default}
use Rattle.wire.proofs.AgreeLaws.{Tails, tails_later, field_tail}
use Rattle.layout.proofs.Names.{field_at, PastField, Field, field_past, len, no_slots, bad_slots, fields_from}
use Rattle.layout.proofs.Names.{fields_onto, checked, end_of, is_part, part_by, parts_from, parts_of, parts_in}
use Rattle.layout.proofs.Names.{part_onto}
use Rattle.layout.proofs.Names.{parts_onto, Part, Slots}
use Rattle.layout.specs.SameBut.{SameBut}
use Rattle.layout.specs.Reaches.{Reaches, stays, passes}
use Rattle.layout.specs.Merged.{merged}
use Rattle.layout.specs.Unchosen.{PartOf, InnerPart, Apart, Every, InnerUnread}
use Rattle.layout.proofs.UnreadLaws.{from_tail, reaches_later, field_itself, field_on_way, tail_behind}
use Rattle.layout.proofs.UnreadLaws.{from_reached}
use Rattle.layout.proofs.PartsLaws.{by_same}
use Rattle.std.specs.Prelude.{Option, Some, None}
use Rattle.wire.specs.Field.{some_field}

-- ---- lists of parts

pub every_then : (P : Part → Type 0) (xs ys : List Part) → Every P xs → Every P ys → Every P (xs ++ ys)
unfolding Every
every_then P [] ys v w = w
every_then P (x ∷ xs) ys v w = (v.0, every_then P xs ys v.1 w)

pub every_as : (P Q : Part → Type 0) → ((p : Part) → P p → Q p) → (ps : List Part) → Every P ps → Every Q ps
unfolding Every
every_as P Q f [] w = tt
every_as P Q f (p ∷ ps) w = (f p w.0, every_as P Q f ps w.1)

-- ---- the parts of a message, one by one

reaches_on : {s : List ℕ} {p q number wire value start n next : ℕ} → Reaches s p q →
    field_at s q ≡ some_field number wire value start n next → Reaches s p next
reaches_on stays e = passes e stays
reaches_on (passes f r) e = passes f (reaches_on r e)

module _ (k : ℕ) (s : List ℕ) (from : ℕ) (P : Part → Type 0)
    (each : (p : Part) → PartOf k s from p → P p) where
  every-by : (at : ℕ) → Reaches s from at → (more : ℕ → List Part) →
      ((q : ℕ) → Reaches s from q → Every P (more q)) → (z : Option Field) → field_at s at ≡ z → Every P (part_by k more z)
  unfolding Every
  every-by at r more on (Some z) e =
      go (eqb z.number k) refl (eqb z.wire len) refl
    where
      p : Part
      p = record { start = z.start; len = z.len }

      behind : Every P (more z.next)
      behind = on z.next (reaches_on r e)

      go : (a : Bool) → eqb z.number k ≡ a → (b : Bool) → eqb z.wire len ≡ b →
          Every P (cond (a && b) (p ∷ more z.next) (more z.next))
      go true f true g = (
        each p
            (record {
              place = at;
              value = z.value;
              next = z.next;
              reached = r;
              field =
                  e
                  ∙ ap (λ (i : ℕ). some_field i z.wire z.value z.start z.len z.next) (eqb-true z.number k f)
                  ∙ ap (λ (w : ℕ). some_field k w z.value z.start z.len z.next) (eqb-true z.wire len g);
            }),
        behind,
      )
      go true f false g = behind
      go false f b g = behind
  every-by at r more on None e = tt

  every-from : (most at : ℕ) → Reaches s from at → Every P (parts_from most k s at)
  unfolding Every parts_from
  every-from zero at r = tt
  every-from (suc most) at r =
      both (Every P) (ltb at (length s)) _ _
      (λ _. every-by at r (λ next. parts_from most k s next) (λ q. every-from most q) (field_at s at) refl) (λ _. tt)

  pub every_part : Every P (parts_of k s from)
  every_part = every-from (length s) from stays

-- ---- two fields on the way

past : (s : List ℕ) (p : ℕ) {i w v st n next : ℕ} → field_at s p ≡ some_field i w v st n next →
    PastField p (length s) (some_field i w v st n next)
past s p e = subst (PastField p (length s)) e (field_past s p)

abbrev next_in : Option Field → ℕ
next_in (Some f) = f.next
next_in None = 0

abbrev start_in : Option Field → ℕ
start_in (Some f) = f.start
start_in None = 0

abbrev number_in : Option Field → ℕ
number_in (Some f) = f.number
number_in None = 0

abbrev len_in : Option Field → ℕ
len_in (Some f) = f.len
len_in None = 0

-- the same field is read at the same place
next_of : (s : List ℕ) (p : ℕ) {i w v st n next i' w' v' st' n' next' : ℕ} →
    field_at s p ≡ some_field i w v st n next → field_at s p ≡ some_field i' w' v' st' n' next' → next ≡ next'
next_of s p e f = ap next_in (sym e ∙ f)

order : {s : List ℕ} {from p q : ℕ} {i w v st n next : ℕ} → Reaches s from p → Reaches s from q → q < p →
    field_at s q ≡ some_field i w v st n next → next ≤ p
order stays r h e = absurd (omega (arith, reaches_later r))
order {s} {from} (passes f r) stays h e = omega (arith, reaches_later r, next_of s from f e)
order {s} {from} {p} {q} (passes f r) (passes g u) h e =
    order {q = q} r (subst (λ (j : ℕ). Reaches s j q) (next_of s from g f) u) h e

-- they are one, or one lies before the other
module _ {s : List ℕ} {from k j : ℕ} {q p : Part} (a : PartOf k s from q) (b : PartOf j s from p) where
  pub same_or_apart : {A : Type 0} → ((q ≡ p) × (k ≡ j) → A) → (Apart q p → A) → A
  same_or_apart {A} same apart =
      less_or_not a.place b.place
      (λ h.
      apart
      (inr
      (omega (
        arith,
        (past s a.place a.field).1,
        (past s b.place b.field).0,
        order b.reached a.reached h a.field,
      ))))
      (λ h.
      less_or_not b.place a.place
      (λ l.
      apart
      (inl
      (omega (
        arith,
        (past s b.place b.field).1,
        (past s a.place a.field).0,
        order a.reached b.reached l b.field,
      ))))
      (λ l.
      let e : a.place ≡ b.place = omega arith in
      let f = sym a.field ∙ ap (field_at s) e ∙ b.field in
      same (one f, ap number_in f)))
    where
      one : some_field k len a.value q.start q.len a.next
          ≡ some_field j len b.value p.start p.len b.next → q ≡ p
      one f =
          let z : q.start ≡ p.start = ap start_in f in
          let y : q.len ≡ p.len = ap len_in f in
          ap₂ (λ (i n : ℕ). record { start = i; len = n }) z y

-- a part lies within the message
pub part_in : {k : ℕ} {s : List ℕ} {from : ℕ} {p : Part} → PartOf k s from p →
    (from < p.start) × (end_of p ≤ length s)
part_in {k} {s} a =
    let h = past s a.place a.field in
    (omega (arith, reaches_later a.reached, h.0), omega (arith, h.1, h.3))

-- ---- the same bytes from a place on

parts_tail : (most k : ℕ) (s t : List ℕ) (p : ℕ) → Tails s t p → parts_from most k t p ≡ parts_from most k s p
unfolding parts_from
parts_tail zero k s t p a = refl
parts_tail (suc most) k s t p a =
    rw (a.size, field_tail s t p a)
    (ap (λ (ps : List Part). cond (ltb p (length s)) ps [])
    (by_same k s p (field_at s p) (field_past s p) (λ next. parts_from most k t next) (λ next. parts_from most k s next)
    (λ q h. parts_tail most k s t q (tails_later a q (omega arith)))))

-- ---- the bytes of one field are other ones

parts_step : (most k : ℕ) (s : List ℕ) (p : ℕ) {f : Option Field} → p < length s → field_at s p ≡ f →
    parts_from (suc most) k s p ≡ part_by k (λ next. parts_from most k s next) f
unfolding parts_from
parts_step most k s p h e = simp (lt-ltb p (length s) h) (ap (part_by k (λ next. parts_from most k s next)) e)

parts_none : (k : ℕ) (s : List ℕ) (p : ℕ) → parts_from zero k s p ≡ []
unfolding parts_from
parts_none k s p = refl

module _ (s t : List ℕ) (p number value start n next : ℕ)
    (e : field_at s p ≡ some_field number len value start n next) (b : SameBut s t start (start + n)) (k : ℕ) where
  by-more : {xs ys : List Part} (i w st ln : ℕ) → xs ≡ ys →
      cond (is_part k i w) (record { start = st; len = ln } ∷ xs) xs
      ≡ cond (is_part k i w) (record { start = st; len = ln } ∷ ys) ys
  by-more i w st ln h = ap (λ (l : List Part). cond (is_part k i w) (record { start = st; len = ln } ∷ l) l) h

  parts-reached : (most : ℕ) {q : ℕ} → Reaches s q p → parts_from most k t q ≡ parts_from most k s q
  parts-reached zero {q} r = parts_none k t q ∙ sym (parts_none k s q)
  parts-reached (suc most) stays =
      let h = past s p e in
      parts_step most k t p (omega (arith, h.2, h.3, b.size)) (field_itself s t p number value start n next e b)
      ∙ by-more number len start n
      (parts_tail most k s t next (tail_behind s t p number value start n next e b))
      ∙ sym (parts_step most k s p (omega (arith, h.2, h.3)) e)
  parts-reached (suc most) {q} (passes {number = i} {wire = w} {value = v} {start = st} {len = ln} f r) =
      let h = past s q f in
      parts_step most k t q (omega (arith, h.2, h.3, b.size))
      (field_on_way s t p number value start n next e b q f (reaches_later r))
      ∙ by-more i w st ln (parts-reached most r)
      ∙ sym (parts_step most k s q (omega (arith, h.2, h.3)) f)

-- a message whose field holds the bytes that differ
module _ {j : ℕ} {s t : List ℕ} {from : ℕ} {p : Part} (a : PartOf j s from p)
    (b : SameBut s t p.start (end_of p)) where
  pub onto_around : (rows : List (List ℕ)) (x : Slots) → fields_onto rows t from x ≡ fields_onto rows s from x
  onto_around rows x =
      ap (λ (m : ℕ). fields_from m rows t from x) b.size
      ∙ from_reached s t a.place j a.value p.start p.len a.next a.field b rows (length s) x
      a.reached

  pub parts_around : (k : ℕ) → parts_of k t from ≡ parts_of k s from
  parts_around k =
      ap (λ (m : ℕ). parts_from m k t from) b.size
      ∙ parts-reached s t a.place j a.value p.start p.len a.next a.field b k (length s) a.reached

-- ---- a part, in bytes that differ

take_same : (m : ℕ) (s t : List ℕ) (i : ℕ) → length t ≡ length s → (i < m → get_or t i 0 ≡ get_or s i 0) →
    get_or (take m t) i 0 ≡ get_or (take m s) i 0
take_same m s t i e h =
    less_or_not i m (λ l. get_or-take m t i 0 l ∙ h l ∙ sym (get_or-take m s i 0 l))
    (λ l.
    List·getD-eq-default (take m t) 0 (omega (arith, length-take m t))
    ∙ sym (List·getD-eq-default (take m s) 0 (omega (arith, length-take m s))))

pub same_take : {s t : List ℕ} {a e : ℕ} → SameBut s t a e → (m : ℕ) → SameBut (take m s) (take m t) a e
same_take {s} {t} w m =
    record {
      size = omega (arith, length-take m t, length-take m s, w.size);
      same = λ i o. take_same m s t i w.size (λ _. w.same i o);
    }

pub same_wider : {s t : List ℕ} {a e : ℕ} → SameBut s t a e → (c f : ℕ) → c ≤ a → e ≤ f → SameBut s t c f
same_wider {s} {t} {a} {e} w c f h l =
    record {
      size = w.size;
      same = λ i. ⊎_elim (λ j. w.same i (inl (omega arith))) (λ j. w.same i (inr (omega arith)));
    }

-- it reads alike: its fields behind whatever slots, and where the parts inside it stand
pub record ReadsAlike (s t : List ℕ) (q : Part) : Type 0 where
  pub onto : (rows : List (List ℕ)) (x : Slots) → part_onto rows t q x ≡ part_onto rows s q x
  pub inner : (k : ℕ) → parts_of k (take (end_of q) t) q.start ≡ parts_of k (take (end_of q) s) q.start

alike_by : {s t : List ℕ} (q : Part) → length t ≡ length s →
    ((rows : List (List ℕ)) (x : Slots) →
    fields_onto rows (take (end_of q) t) q.start x ≡ fields_onto rows (take (end_of q) s) q.start x) →
    ((k : ℕ) → parts_of k (take (end_of q) t) q.start ≡ parts_of k (take (end_of q) s) q.start) → ReadsAlike s t q
alike_by {s} {t} q size f g =
    record {
      onto = λ rows x.
          ap (λ (m : ℕ). cond (leb (end_of q) m) (fields_onto rows (take (end_of q) t) q.start x) bad_slots) size
          ∙ ap (λ (y : Slots). cond (leb (end_of q) (length s)) y bad_slots) (f rows x);
      inner = g;
    }

-- whose bytes are the same
pub alike_beside : {s t : List ℕ} {a e : ℕ} → SameBut s t a e → (q : Part) → (end_of q ≤ a) ⊎ (e ≤ q.start) →
    ReadsAlike s t q
alike_beside {s} {t} {a} {e} b q apart =
    alike_by q b.size
    (λ rows x.
    ap (λ (m : ℕ). fields_from m rows (take (end_of q) t) q.start x) tails.size
    ∙ from_tail (length (take (end_of q) s)) rows (take (end_of q) s) (take (end_of q) t) q.start x tails)
    (λ k.
    ap (λ (m : ℕ). parts_from m k (take (end_of q) t) q.start) tails.size
    ∙ parts_tail (length (take (end_of q) s)) k (take (end_of q) s) (take (end_of q) t) q.start tails)
  where
    tails : Tails (take (end_of q) s) (take (end_of q) t) q.start
    tails =
        record {
          size = omega (arith, length-take (end_of q) t, length-take (end_of q) s, b.size);
          same = λ i h.
              take_same (end_of q) s t i b.size
              (λ l.
              ⊎_elim (λ d. b.same i (inl (omega arith))) (λ d. b.same i (inr (omega arith))) apart);
        }

-- of which one field holds what differs
pub alike_around : {s t : List ℕ} {j : ℕ} (q p : Part) → PartOf j (take (end_of q) s) q.start p →
    SameBut s t p.start (end_of p) → ReadsAlike s t q
alike_around {s} {t} q p a b =
    alike_by q b.size (onto_around a (same_take b (end_of q))) (parts_around a (same_take b (end_of q)))

-- ---- a message in parts

pub parts_alike : (rows : List (List ℕ)) (s t : List ℕ) (ps : List Part) → Every (ReadsAlike s t) ps → (x : Slots) →
    parts_onto rows t ps x ≡ parts_onto rows s ps x
unfolding Every parts_onto
parts_alike rows s t [] w x = refl
parts_alike rows s t (p ∷ ps) w x =
    ap (λ (y : Slots). cond y.good (parts_onto rows t ps y) bad_slots) (w.0.onto rows x)
    ∙ ap (λ (y : Slots). cond (part_onto rows s p x).good y bad_slots)
    (parts_alike rows s t ps w.1 (part_onto rows s p x))

pub merged_local : (rows : List (List ℕ)) (s t : List ℕ) (ps : List Part) → Every (ReadsAlike s t) ps →
    merged rows t ps ≡ merged rows s ps
merged_local rows s t ps w = ap (checked rows) (parts_alike rows s t ps w no_slots)

inner_alike : (k : ℕ) (s t : List ℕ) (ps : List Part) → Every (ReadsAlike s t) ps →
    parts_in k t ps ≡ parts_in k s ps
unfolding Every parts_in
inner_alike k s t [] w = refl
inner_alike k s t (p ∷ ps) w =
    ap₂ (λ (xs ys : List Part). xs ++ ys) (w.0.inner k) (inner_alike k s t ps w.1)

-- what holds of every part inside each part
pub inner_every : (P : Part → Type 0) (k : ℕ) (s : List ℕ) (ps : List Part) →
    Every (λ p. Every P (parts_of k (take (end_of p) s) p.start)) ps → Every P (parts_in k s ps)
unfolding Every parts_in
inner_every P k s [] w = tt
inner_every P k s (p ∷ ps) w =
    every_then P (parts_of k (take (end_of p) s) p.start) (parts_in k s ps) w.0 (inner_every P k s ps w.1)

-- ---- a part inside a part

module _ {f k : ℕ} {s t : List ℕ} {from : ℕ} {p q : Part} (o : InnerPart f k s from p q)
    (b : SameBut s t q.start (end_of q)) where
  inside : (p.start < q.start) × (end_of q ≤ end_of p)
  inside =
      let h = part_in o.inner in
      (h.0, omega (arith, h.1, length-take (end_of p) s))

  wider : SameBut s t p.start (end_of p)
  wider = same_wider b p.start (end_of p) (omega (arith, inside.0)) inside.1

  -- every part of the outer message is the one, or lies beside it
  alike : (r : Part) → PartOf f s from r → ReadsAlike s t r
  alike r a =
      same_or_apart a o.outer
      (λ e. subst (ReadsAlike s t) (sym e.0) (alike_around p q o.inner b))
      (λ h.
      alike_beside b r
      (⊎_elim (λ d. inr (omega (arith, inside.1))) (λ d. inl (omega (arith, inside.0))) h))

  others : (i : ℕ) → (i ≡ k → ⊥) → (r : Part) → PartOf f s from r →
      Every (Apart q) (parts_of i (take (end_of r) s) r.start)
  others i other r a =
      same_or_apart a o.outer
      (λ e.
      subst (λ (u : Part). Every (Apart q) (parts_of i (take (end_of u) s) u.start)) (sym e.0)
      (every_part i (take (end_of p) s) p.start (Apart q)
      (λ u c. same_or_apart o.inner c (λ same. absurd (other (sym same.1))) (λ h. h))))
      (λ h.
      every_part i (take (end_of r) s) r.start (Apart q)
      (λ u c.
      let l = part_in c in
      ⊎_elim (λ d. inr (omega (arith, inside.1, l.0))) (λ d. inl
      (omega (arith, inside.0, l.1, length-take (end_of r) s))) h))

pub inner_unread : InnerUnread
inner_unread f k s t from p q o b =
    let alikes = every_part f s from (ReadsAlike s t) (alike o b) in
    record {
      own = λ rows. ap (checked rows) (onto_around o.outer (wider o b) rows no_slots);
      parts = parts_around o.outer (wider o b);
      fields = λ rows. merged_local rows s t (parts_of f s from) alikes;
      inner = λ i. inner_alike i s t (parts_of f s from) alikes;
      beside = λ i other.
          inner_every (Apart q) i s (parts_of f s from)
          (every_part f s from (λ r. Every (Apart q) (parts_of i (take (end_of r) s) r.start)) (others o b i other));
    }
