-- Where the parts of a message stand, field by field; and that parts inside good parts are those of the joined bytes.
-- Assumes nothing.
use Rattle.prelude.proofs.Basics.{ℕ, zero, suc, ◌+◌, ◌≤◌, ◌<◌, arith, Bool, true, false, ◌&&◌, cond, ◌≡◌, refl, sym, ap}
use Rattle.prelude.proofs.Basics.{◌∙◌, List, [], ◌∷◌, ◌++◌, append_assoc, length, take, drop, eqb, ltb, le-ltb, lt-ltb}
use Rattle.layout.proofs.Names.{field_at, PastField, Field, field_past, Tail, tail_length, len, end_of, part_by}
use Rattle.layout.proofs.Names.{parts_from, parts_of, parts_in, all_good, joined, Part}
use Rattle.layout.specs.MergedRules.{InnerAsGuide}
use Rattle.layout.proofs.JointLaws.{Joint, here_length, there_length, j_along, joint_rest, rest_good}
use Rattle.layout.proofs.JointLaws.{first_joint}
use Rattle.std.specs.Prelude.{Option, Some, None}

-- ---- fuel that is enough makes no difference

module _ (k : ℕ) (s : List ℕ) where
  pub parts_end : (most p : ℕ) → length s ≤ p → parts_from most k s p ≡ []
  unfolding parts_from
  parts_end zero p h = refl
  parts_end (suc m) p h = simp (le-ltb p (length s) h)

  pub by_same : (at : ℕ) (z : Option Field) → PastField at (length s) z → (f g : ℕ → List Part) →
      ((q : ℕ) → at < q → f q ≡ g q) → part_by k f z ≡ part_by k g z
  by_same at (Some r) h f g e =
      ap
      (λ (ps : List Part). cond (eqb r.number k && eqb r.wire len) (record { start = r.start; len = r.len } ∷ ps) ps)
      (e r.next h.2)
  by_same at None h f g e = refl

  pub parts_same : (m n at : ℕ) → length s ≤ at + m → length s ≤ at + n → parts_from m k s at ≡ parts_from n k s at
  unfolding parts_from
  parts_same zero n at h i = sym (parts_end n at (omega arith))
  parts_same (suc m) zero at h i = parts_end (suc m) at (omega arith)
  parts_same (suc m) (suc n) at h i =
      ap (λ (ps : List Part). cond (ltb at (length s)) ps [])
      (by_same at (field_at s at) (field_past s at) (λ next. parts_from m k s next) (λ next. parts_from n k s next)
      (λ q j. parts_same m n q (omega arith) (omega arith)))

  -- one field, and the parts behind it
  pub parts_on : (p : ℕ) → p < length s → (f : Option Field) → field_at s p ≡ f →
      parts_of k s p ≡ part_by k (λ next. parts_of k s next) f
  unfolding parts_from
  parts_on p h f e = parts_same (length s) (suc (length s)) p (omega arith) (omega arith) ∙ go
    where
      go : parts_from (suc (length s)) k s p ≡ part_by k (λ next. parts_of k s next) f
      go = simp (lt-ltb p (length s) h) (ap (part_by k (λ next. parts_of k s next)) e)

-- ---- their bytes

joined_then : (s : List ℕ) (xs ys : List Part) → joined s (xs ++ ys) ≡ joined s xs ++ joined s ys
unfolding joined
joined_then s [] ys = refl
joined_then s (x ∷ xs) ys =
    ap (λ (l : List ℕ). take x.len (drop x.start s) ++ l) (joined_then s xs ys)
    ∙ sym (append_assoc (take x.len (drop x.start s)) (joined s xs) (joined s ys))

-- one part more, or none, in both
part_joins : (b : Bool) (s t : List ℕ) (n i j : ℕ) (ps qs : List Part) (rest : List ℕ) →
    take n (drop j t) ≡ take n (drop i s) → joined t qs ≡ joined s ps ++ rest →
    joined t (cond b (record { start = j; len = n } ∷ qs) qs)
    ≡ joined s (cond b (record { start = i; len = n } ∷ ps) ps) ++ rest
unfolding joined
part_joins true s t n i j ps qs rest e f =
    ap (λ (l : List ℕ). l ++ joined t qs) e
    ∙ ap (λ (l : List ℕ). take n (drop i s) ++ l) f
    ∙ sym (append_assoc (take n (drop i s)) (joined s ps) rest)
part_joins false s t n i j ps qs rest e f = f

module _ (k : ℕ) {s : List ℕ} {p : Part} {t : List ℕ} {d : ℕ} {q : List ℕ} (j : Joint s p t d q) where
  abbrev From : ℕ → Type 0
  From i =
      joined t (parts_of k t (d + i))
      ≡ joined s (parts_of k (take (end_of p) s) (p.start + i)) ++ joined t (parts_of k t (d + p.len))

  inner : From 0
  unfolding joined
  inner =
      j_along j From
      (ap (λ (ps : List Part). joined s ps ++ joined t (parts_of k t (d + p.len)))
      (sym (parts_end k (take (end_of p) s) (length (take (end_of p) s)) (p.start + p.len)
      (omega (arith, here_length j)))))
      (λ i number w v st ln next o on.
      ap (joined t) (parts_on k t (d + i) (omega (arith, there_length j, o.inside)) _ o.there)
      ∙ part_joins (eqb number k && eqb w len) s t ln (p.start + st) (d + st)
      (parts_of k (take (end_of p) s) (p.start + next)) (parts_of k t (d + next))
      (joined t (parts_of k t (d + p.len))) o.bytes on
      ∙ ap (λ (ps : List Part). joined s ps ++ joined t (parts_of k t (d + p.len)))
      (sym (parts_on k (take (end_of p) s) (p.start + i) (omega (arith, here_length j, o.inside)) _ o.here)))

inner_joins : (k : ℕ) (s t : List ℕ) (ps : List Part) (d : ℕ) → all_good s ps ≡ true → Tail t d (joined s ps) →
    joined s (parts_in k s ps) ≡ joined t (parts_of k t d)
unfolding parts_in joined
inner_joins k s t [] d e h = ap (joined t) (sym (parts_end k t (length t) d (omega (arith, tail_length h))))
inner_joins k s t (p ∷ ps) d e h =
    let j = first_joint s p ps e h in
    let here : p.start + 0 ≡ p.start = omega arith in
    let there : d + 0 ≡ d = omega arith in
    joined_then s (parts_of k (take (end_of p) s) p.start) (parts_in k s ps)
    ∙ ap (λ (l : List ℕ). joined s (parts_of k (take (end_of p) s) p.start) ++ l)
    (inner_joins k s t ps (d + p.len) (rest_good s p ps e) (joint_rest j))
    ∙ sym
    (ap (λ (i : ℕ). joined t (parts_of k t i)) (sym there)
    ∙ inner k j
    ∙ ap (λ (i : ℕ). joined s (parts_of k (take (end_of p) s) i) ++ joined t (parts_of k t (d + p.len))) here)

pub inner_as_guide : InnerAsGuide
inner_as_guide k s ps e = inner_joins k s (joined s ps) ps 0 e (record { within = omega arith; is = refl })
