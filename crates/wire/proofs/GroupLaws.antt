-- Skipping a group, one turn of the loop at a time. Assumes nothing.
use Rattle.prelude.proofs.Basics.{ℕ, zero, suc, ◌+◌, ◌-◌, ◌≤◌, ◌<◌, arith, ◌≡◌, refl, sym, ap, subst, ◌∙◌, List, length}
use Rattle.prelude.proofs.Basics.{take, take-length, eq-eqb, ne_eqb, before_suc}
use Rattle.wire.proofs.Names.{low64, groups_end, tag_of, tag_at, skip_value, and_then, group_field, group_fields}
use Rattle.wire.proofs.Names.{group_end, PastTag, PastSkip, Tag}
use Rattle.wire.proofs.PastLaws.{tag_past, skip_past, group_past}
use Rattle.std.specs.Prelude.{Option, None}
use Rattle.wire.specs.Tag.{some_tag}
use Rattle.std.specs.Prelude.{Option, Some, None}

-- at the end of the bytes there is no tag
pub tag_end : (s : List ℕ) (at : ℕ) → length s ≤ at → tag_at s at ≡ None
tag_end s at h = ap (λ x. tag_of (low64 x)) (groups_end 10 s at h)

-- the fields of a group with `depth - 1` groups left for those in it
abbrev pub rest : ℕ → ℕ → List ℕ → ℕ → ℕ → Option ℕ
rest depth most s p number = group_fields (λ n q. group_end (depth - 1) s q n) most s p number

-- where the loop stands: what is left at p answers for the whole group
pub record Skipping (depth : ℕ) (s : List ℕ) (at number p : ℕ) : Type 0 where
  pub deep : 0 < depth
  pub most : ℕ
  pub enough : length s ≤ p + most
  pub whole : rest depth most s p number ≡ group_end depth s at number

pub shut : (s : List ℕ) (at number : ℕ) → group_end 0 s at number ≡ None
unfolding group_end
shut s at number = refl

opened : (depth : ℕ) (s : List ℕ) (at number : ℕ) → 0 < depth →
    rest depth (length s) s at number ≡ group_end depth s at number
unfolding group_end
opened zero s at number h = absurd (omega arith)
opened (suc d) s at number h =
    ap (λ (k : ℕ). group_fields (λ n q. group_end k s q n) (length s) s at number) (sym (before_suc d))

pub starts : (depth : ℕ) (s : List ℕ) (at number : ℕ) → 0 < depth → Skipping depth s at number at
starts depth s at number h =
    record { deep = h; most = length s; enough = omega arith; whole = opened depth s at number h }

unroll : (inner : ℕ → ℕ → Option ℕ) (most : ℕ) (s : List ℕ) (p number : ℕ) → 0 < most →
    group_fields inner most s p number ≡ group_field inner (λ q. group_fields inner (most - 1) s q number) s number
    (tag_at s p)
unfolding group_fields
unroll inner zero s p number h = absurd (omega arith)
unroll inner (suc m) s p number h =
    ap (λ (k : ℕ). group_field inner (λ q. group_fields inner k s q number) s number (tag_at s p)) (before_suc m)

pub fields_end : (inner : ℕ → ℕ → Option ℕ) (most : ℕ) (s : List ℕ) (p number : ℕ) → length s ≤ p →
    group_fields inner most s p number ≡ None
unfolding group_fields
fields_end inner zero s p number h = refl
fields_end inner (suc m) s p number h = rw (tag_end s p h)

pub unended : {depth : ℕ} {s : List ℕ} {at number p : ℕ} → Skipping depth s at number p → length s ≤ p →
    None ≡ group_end depth s at number
unended {depth} {s} {at} {number} {p} k h =
    sym (fields_end (λ n q. group_end (depth - 1) s q n) k.most s p number h) ∙ k.whole

-- one turn: what stands at the place is read as a tag
pub record Turn (depth : ℕ) (s : List ℕ) (at number p : ℕ) (t : Option Tag) : Type 0 where
  pub state : Skipping depth s at number p
  pub inside : p < length s
  pub tag : tag_at s p ≡ t

abbrev inner : ℕ → List ℕ → ℕ → ℕ → Option ℕ
inner depth s n q = group_end (depth - 1) s q n

module _ {depth : ℕ} {s : List ℕ} {at number p : ℕ} {t : Option Tag} (r : Turn depth s at number p t) where
  abbrev more : ℕ → Option ℕ
  more q = rest depth (r.state.most - 1) s q number

  answers : group_field (inner depth s) more s number t ≡ group_end depth s at number
  answers =
      sym
      (unroll (inner depth s) r.state.most s p number (omega (arith, r.state.enough, r.inside))
      ∙ ap (group_field (inner depth s) more s number) r.tag)
      ∙ r.state.whole

pub no_tag : {depth : ℕ} {s : List ℕ} {at number p : ℕ} → Turn depth s at number p None →
    None ≡ group_end depth s at number
no_tag r = answers r

module _ {depth : ℕ} {s : List ℕ} {at number p n w next : ℕ} (r : Turn depth s at number p (some_tag n w next)) where
  pub ended : w ≡ 4 → n ≡ number → Some next ≡ group_end depth s at number
  ended h g = sym (simp (eq-eqb w 4 h, eq-eqb n number g)) ∙ answers r

  pub misended : w ≡ 4 → (n ≡ number → ⊥) → None ≡ group_end depth s at number
  misended h g = sym (simp (eq-eqb w 4 h, ne_eqb n number g)) ∙ answers r

  next_past : p < next
  next_past = tag-inside (tag_past s p)
    where
      tag-inside : PastTag p (length s) (tag_at s p) → p < next
      tag-inside = rw r.tag (λ h. h.0)

  -- what was skipped from the tag's end on, a group or a value, answers for the group
  pub record Skipped (x : Option ℕ) : Type 0 where
    pub whole : and_then x (more r) ≡ group_end depth s at number
    pub past : PastSkip next (length s) x

  pub into : (w ≡ 4 → ⊥) → w ≡ 3 → Skipped (inner depth s n next)
  into h g =
      record {
        whole = sym (simp (ne_eqb w 4 h, eq-eqb w 3 g)) ∙ answers r;
        past = group_past (depth - 1) s next n;
      }

  pub over : (w ≡ 4 → ⊥) → (w ≡ 3 → ⊥) → Skipped (skip_value s w next)
  over h g = record { whole = sym (simp (ne_eqb w 4 h, ne_eqb w 3 g)) ∙ answers r; past = skip_past s w next }

  -- the bytes were lent anew, and are the same
  lent : (f : List ℕ → Option ℕ) {x : Option ℕ} → Skipped (f s) → x ≡ f (take (length s) s) → Skipped x
  lent f k e = subst Skipped (sym (e ∙ ap f (take-length s))) k

  pub group_lent : (w ≡ 4 → ⊥) → w ≡ 3 → {x : Option ℕ} → x ≡ inner depth (take (length s) s) n next → Skipped x
  group_lent h g = lent (λ (l : List ℕ). inner depth l n next) (into h g)

  pub value_lent : (w ≡ 4 → ⊥) → (w ≡ 3 → ⊥) → {x : Option ℕ} → x ≡ skip_value (take (length s) s) w next → Skipped x
  value_lent h g = lent (λ (l : List ℕ). skip_value l w next) (over h g)

  -- a bad one, or the loop's next place
  module _ {x : Option ℕ} (k : Skipped x) where
    onward : {y : Option ℕ} → x ≡ y → and_then y (more r) ≡ group_end depth s at number
    onward e = ap (λ (y : Option ℕ). and_then y (more r)) (sym e) ∙ k.whole

    pub stops : x ≡ None → None ≡ group_end depth s at number
    stops e = onward e

    pub advances : {q : ℕ} → x ≡ Some q → p < q
    advances {q} e = go (rw e at k.past)
      where
        go : PastSkip next (length s) (Some q) → p < q
        go g = omega (arith, next_past)

    pub goes_on_lem : {q : ℕ} → x ≡ Some q → Skipping depth s at number q
    goes_on_lem e =
        record {
          deep = r.state.deep;
          most = r.state.most - 1;
          enough = omega (arith, r.state.enough, advances e);
          whole = onward e;
        }
