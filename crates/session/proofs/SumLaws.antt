-- Sums, counts and properties over the entries of a table, after an entry is put and after entries are changed.
-- Assumes nothing.
use Rattle.prelude.proofs.Basics.{ℕ, zero, suc, ◌+◌, ◌≤◌, ◌<◌, arith, Bool, true, false, not, ◌&&◌, cond, false≢true}
use Rattle.prelude.proofs.Basics.{◌≡◌, refl, sym, ap, subst, ◌∙◌, List, [], ◌∷◌, ◌++◌, map, length, get_or, set, replicate}
use Rattle.prelude.proofs.Basics.{length-set, eqb, eqb-true, not-true, both, Option, Some, None, option_or}
use native.Mathlib.Nat.{le_refl, le_of_eq}
use Rattle.session.proofs.Names.{first, put, change, changed, sum_by, how_many}
use Rattle.session.specs.Lists.{All}
use Rattle.session.proofs.PlaceLaws.{Passes, Taken, taken, none_from, none_back}
use Rattle.std.proofs.lemmas.Option.{none-some}
use Rattle.session.proofs.PlaceLaws.Taken.{own, new}

-- 1 where a test passes
abbrev pub one : Bool → ℕ
one b = cond b 1 0

pub one_le : (b : Bool) → one b ≤ 1
one_le true = omega arith
one_le false = omega arith

one_of : (b : Bool) → one b + one (not b) ≡ 1
one_of true = omega arith
one_of false = omega arith

pub one_mono : (a b : Bool) → (a ≡ true → b ≡ true) → one a ≤ one b
one_mono true b h = le_of_eq (ap one (sym (h refl)))
one_mono false b h = omega arith

module _ {A : Type 0} where
  pub sum_le : (v w : A → ℕ) → ((x : A) → v x ≤ w x) → (xs : List A) → sum_by v xs ≤ sum_by w xs
  unfolding sum_by
  sum_le v w h [] = omega arith
  sum_le v w h (x ∷ xs) = omega (arith, h x, sum_le v w h xs)

  pub sum_same : (v w : A → ℕ) → ((x : A) → v x ≡ w x) → (xs : List A) → sum_by v xs ≡ sum_by w xs
  unfolding sum_by
  sum_same v w h [] = refl
  sum_same v w h (x ∷ xs) = omega (arith, h x, sum_same v w h xs)

  pub sum_none : (w : A → ℕ) → ((x : A) → w x ≡ 0) → (xs : List A) → sum_by w xs ≡ 0
  unfolding sum_by
  sum_none w h [] = refl
  sum_none w h (x ∷ xs) = omega (arith, h x, sum_none w h xs)

  sum_ones : (w : A → ℕ) → ((x : A) → w x ≡ 1) → (xs : List A) → sum_by w xs ≡ length xs
  unfolding sum_by
  sum_ones w h [] = refl
  sum_ones w h (x ∷ xs) = omega (arith, h x, sum_ones w h xs)

  pub sum_add : (u v : A → ℕ) (xs : List A) → sum_by (λ x. u x + v x) xs ≡ sum_by u xs + sum_by v xs
  unfolding sum_by
  sum_add u v [] = omega arith
  sum_add u v (x ∷ xs) = omega (arith, sum_add u v xs)

  pub sum_map : {B : Type 0} (w : B → ℕ) (f : A → B) (xs : List A) → sum_by w (map f xs) ≡ sum_by (λ x. w (f x)) xs
  unfolding sum_by
  sum_map w f [] = refl
  sum_map w f (x ∷ xs) = ap (λ (m : ℕ). w (f x) + m) (sum_map w f xs)

  pub sum_at : (w : A → ℕ) (d : A) (xs : List A) (i : ℕ) → i < length xs → w (get_or xs i d) ≤ sum_by w xs
  unfolding sum_by
  sum_at w d [] i h = absurd (omega arith)
  sum_at w d (x ∷ xs) zero h = omega arith
  sum_at w d (x ∷ xs) (suc i) h = omega (arith, sum_at w d xs i (omega arith))

  -- an entry x put at i weighs what it weighs, and the entry that was there does not any more
  pub sum_set : (w : A → ℕ) (x d : A) (xs : List A) (i : ℕ) → i < length xs →
      sum_by w (set xs i x) + w (get_or xs i d) ≡ sum_by w xs + w x
  unfolding sum_by
  sum_set w x d [] i h = absurd (omega arith)
  sum_set w x d (y ∷ xs) zero h = omega arith
  sum_set w x d (y ∷ xs) (suc i) h = omega (arith, sum_set w x d xs i (omega arith))

  sum-set-le : (w : A → ℕ) (x : A) (xs : List A) (i : ℕ) → sum_by w (set xs i x) ≤ sum_by w xs + w x
  unfolding sum_by
  sum-set-le w x [] i = omega arith
  sum-set-le w x (y ∷ xs) zero = omega arith
  sum-set-le w x (y ∷ xs) (suc i) = omega (arith, sum-set-le w x xs i)

  pub sum_put_le : (w : A → ℕ) (x : A) (xs : List A) (at : Option ℕ) → sum_by w (put xs at x) ≤ sum_by w xs + w x
  sum_put_le w x xs (Some i) = sum-set-le w x xs i
  sum_put_le w x xs None = omega arith

  pub length_put : (xs : List A) (at : Option ℕ) (x : A) → length (put xs at x) ≡ length xs
  length_put xs (Some i) x = length-set xs i x
  length_put xs None x = refl

  pub sum_replicate : (w : A → ℕ) (n : ℕ) (x : A) → w x ≡ 0 → sum_by w (replicate n x) ≡ 0
  unfolding sum_by
  sum_replicate w zero x h = refl
  sum_replicate w (suc n) x h = omega (arith, h, sum_replicate w n x h)

  -- a test that passes no more often counts no more
  pub count_le : (p q : A → Bool) → ((x : A) → p x ≡ true → q x ≡ true) → (xs : List A) → how_many p xs ≤ how_many q xs
  count_le p q h = sum_le (λ x. one (p x)) (λ x. one (q x)) (λ x. one_mono (p x) (q x) (h x))

  -- what passes is counted
  pub counted : (p : A → Bool) (d : A) (xs : List A) (i : ℕ) → Passes p d xs i → 1 ≤ how_many p xs
  counted p d xs i l = subst (λ (b : Bool). one b ≤ how_many p xs) l.passing
      (sum_at (λ x. one (p x)) d xs i l.inside)

  module _ (p : A → Bool) (f : A → A) where
    -- a property of a changed entry, whether it passed or not
    change-is : (P : A → Type 0) (x : A) → (p x ≡ true → P (f x)) → (p x ≡ false → P x) → P (change p f x)
    change-is P x t g = both P (p x) (f x) x t g

    pub sum_changed_le : (w : A → ℕ) → ((x : A) → p x ≡ true → w (f x) ≤ w x) → (xs : List A) →
        sum_by w (changed p f xs) ≤ sum_by w xs
    sum_changed_le w h xs =
        rw (sum_map w (change p f) xs)
        (sum_le (λ x. w (change p f x)) w (λ x. change-is (λ y. w y ≤ w x) x (h x) (λ e. le_refl (w x))) xs)

    pub sum_changed_same : (w : A → ℕ) → ((x : A) → p x ≡ true → w (f x) ≡ w x) → (xs : List A) →
        sum_by w (changed p f xs) ≡ sum_by w xs
    sum_changed_same w h xs =
        sum_map w (change p f) xs
        ∙ sum_same (λ x. w (change p f x)) w (λ x. change-is (λ y. w y ≡ w x) x (h x) (λ e. refl)) xs

    -- nothing weighs where what passes and what does not weigh nothing
    pub sum_changed_none : (w : A → ℕ) → ((x : A) → p x ≡ true → w (f x) ≡ 0) → ((x : A) → p x ≡ false → w x ≡ 0) →
        (xs : List A) → sum_by w (changed p f xs) ≡ 0
    sum_changed_none w h g xs =
        sum_map w (change p f) xs ∙ sum_none (λ x. w (change p f x)) (λ x. change-is (λ y. w y ≡ 0) x (h x) (g x)) xs

    pub all_changed : (P : A → Type 0) → ((x : A) → p x ≡ true → P x → P (f x)) → (xs : List A) → All P xs →
        All P (changed p f xs)
    unfolding All
    all_changed P h [] l = tt
    all_changed P h (x ∷ xs) l = (change-is P x (λ e. h x e l.0) (λ e. l.0), all_changed P h xs l.1)

  module _ (P : A → Type 0) where
    pub all_set : (x : A) (xs : List A) (i : ℕ) → P x → All P xs → All P (set xs i x)
    unfolding All
    all_set x [] i h l = tt
    all_set x (y ∷ xs) zero h l = (h, l.1)
    all_set x (y ∷ xs) (suc i) h l = (l.0, all_set x xs i h l.1)

    pub all_put : (x : A) (xs : List A) (at : Option ℕ) → P x → All P xs → All P (put xs at x)
    all_put x xs (Some i) h l = all_set x xs i h l
    all_put x xs None h l = l

    pub all_replicate : (n : ℕ) (x : A) → P x → All P (replicate n x)
    unfolding All
    all_replicate zero x h = tt
    all_replicate (suc n) x h = (h, all_replicate n x h)

    pub all_append : (xs ys : List A) → All P xs → All P ys → All P (xs ++ ys)
    unfolding All
    all_append [] ys h g = g
    all_append (x ∷ xs) ys h g = (h.0, all_append xs ys h.1 g)

    pub all_at : (d : A) (xs : List A) (i : ℕ) → i < length xs → All P xs → P (get_or xs i d)
    unfolding All
    all_at d [] i h l = absurd (omega arith)
    all_at d (x ∷ xs) zero h l = l.0
    all_at d (x ∷ xs) (suc i) h l = all_at d xs i (omega arith) l.1

-- entries that are live or not, and have a number: what a table of them counts after a live entry is put
pub and_true : (a b : Bool) → a && b ≡ true → (a ≡ true) × (b ≡ true)
and_true true b e = (refl, e)
and_true false b e = absurd (false≢true e)

module _ {A : Type 0} (live : A → Bool) (num : A → ℕ) where
  abbrev pub has : ℕ → A → Bool
  has k x = live x && eqb (num x) k

  -- an entry has one number
  pub has_other : (x : A) (i k : ℕ) → has i x ≡ true → eqb i k ≡ false → has k x ≡ false
  has_other x i k h e =
      let l = and_true (live x) (eqb (num x) i) h in
      ap (λ b. b && eqb (num x) k) l.0 ∙ ap (λ (n : ℕ). eqb n k) (eqb-true (num x) i l.1) ∙ e

  module _ (d x : A) (lives : live x ≡ true) (xs : List A) where
    abbrev there : Option ℕ
    there = option_or (first (has (num x)) xs 0) (first (λ y. not (live y)) xs 0)

    abbrev before : ℕ → ℕ
    before k = how_many (has k) xs

    abbrev after : ℕ → Option ℕ → ℕ
    after k at = how_many (has k) (put xs at x)

    -- an entry of the number was replaced, or there was none
    data Counts (k : ℕ) (at : Option ℕ) : Type 0 where
      same : after k at ≡ before k → Counts k at
      more : after k at ≡ before k + one (has k x) → before (num x) ≡ 0 → Counts k at

    counts-at : (k i : ℕ) → Taken (has (num x)) (λ y. not (live y)) d xs i → Counts k (Some i)
    counts-at k i (own l) =
        same (omega (arith, sum_set (λ y. one (has k y)) x d xs i l.inside, ap one old))
      where
        facts : (live (get_or xs i d) ≡ true) × (num (get_or xs i d) ≡ num x)
        facts = let h = and_true _ _ l.passing in (h.0, eqb-true _ _ h.1)

        old : has k (get_or xs i d) ≡ has k x
        old = ap (λ b. b && eqb (num (get_or xs i d)) k) (facts.0 ∙ sym lives)
            ∙ ap (λ (n : ℕ). live x && eqb n k) facts.1
    counts-at k i (new l none) =
        more (omega (arith, sum_set (λ y. one (has k y)) x d xs i l.inside, ap one old)) none
      where
        old : has k (get_or xs i d) ≡ false
        old = ap (λ b. b && eqb (num (get_or xs i d)) k) (not-true (live (get_or xs i d)) l.passing)

    counts : (k : ℕ) → Counts k there
    counts k = go there refl
      where
        go : (at : Option ℕ) → there ≡ at → Counts k at
        go (Some i) e = counts-at k i (taken (has (num x)) (λ y. not (live y)) d xs i e)
        go None e = same refl

    pub put_more : (k : ℕ) → before k ≤ after k there
    put_more k = go (counts k)
      where
        go : Counts k there → before k ≤ after k there
        go (same e) = omega arith
        go (more e none) = omega arith

    pub put_once : ((k : ℕ) → before k ≤ 1) → (k : ℕ) → after k there ≤ 1
    put_once once k = go (counts k)
      where
        within : before (num x) ≡ 0 → (b : Bool) → eqb (num x) k ≡ b → before k + one b ≤ 1
        within none true e = let z : num x ≡ k = eqb-true (num x) k e in omega (arith, ap before z)
        within none false e = omega (arith, once k)

        go : Counts k there → after k there ≤ 1
        go (same e) = omega (arith, once k)
        go (more e none) =
            omega (arith, within none (eqb (num x) k) refl, ap one (ap (λ b. b && eqb (num x) k) lives))

-- a new entry has no place exactly where every entry is live and none has its number
module _ {A : Type 0} (live : A → Bool) (num : A → ℕ) (xs : List A) where
  live-or-free : how_many live xs + how_many (λ y. not (live y)) xs ≡ length xs
  live-or-free =
      sym (sum_add (λ y. one (live y)) (λ y. one (not (live y))) xs)
      ∙ sum_ones (λ y. one (live y) + one (not (live y))) each xs
    where
      each : (y : A) → one (live y) + one (not (live y)) ≡ 1
      each y = one_of (live y)

  pub no_place_full : (k : ℕ) → option_or (first (has live num k) xs 0) (first (λ y. not (live y)) xs 0) ≡ None →
      (how_many (has live num k) xs ≡ 0) × (how_many live xs ≡ length xs)
  no_place_full k e = go (first (has live num k) xs 0) refl e
    where
      go : (x : Option ℕ) → first (has live num k) xs 0 ≡ x → option_or x (first (λ y. not (live y)) xs 0) ≡ None →
          (how_many (has live num k) xs ≡ 0) × (how_many live xs ≡ length xs)
      go (Some i) h g = absurd (none-some _ (sym g))
      go None h g =
          (none_from (has live num k) xs 0 h, omega (arith, none_from (λ y. not (live y)) xs 0 g, live-or-free))

  pub full_no_place : (k : ℕ) → how_many (has live num k) xs ≡ 0 → how_many live xs ≡ length xs →
      option_or (first (has live num k) xs 0) (first (λ y. not (live y)) xs 0) ≡ None
  full_no_place k none full =
      ap (λ x. option_or x (first (λ y. not (live y)) xs 0)) (none_back (has live num k) xs 0 none)
      ∙ none_back (λ y. not (live y)) xs 0 (omega (arith, live-or-free))
