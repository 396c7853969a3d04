-- The loops over a table, one turn at a time: a search, a sum, the bits of places, a change in place. Assumes nothing.
use Rattle.prelude.proofs.Basics.{ℕ, zero, suc, ◌+◌, ◌-◌, ◌*◌, ◌^◌, ◌≤◌, ◌<◌, arith, add-one, Bool, true, false, cond}
use Rattle.prelude.proofs.Basics.{◌≡◌, refl, sym, ap, ◌∙◌, List, [], ◌∷◌, map, length, get_or, set, drop}
use denote.Param.Members.{Mut}
use denote.Ref.{Bor}
use Rattle.std.specs.Prelude.{MatchOption}
use Rattle.std.specs.Fn.{CalledAt}
use Rattle.std.specs.Iterator.{FindsItem}
use Rattle.std.specs.declared.ops.Range.{Range}
use Rattle.std.proofs.iter.Yields.{nat_range_steps}
use Rattle.std.proofs.lemmas.Iterator.{first_from_Range}
use Rattle.prelude.proofs.Basics.{less_or_not, subst, add-zero, drop_of_length-le, length-drop, drop-cons, Option, Some, None, option_or}
use Rattle.session.proofs.Names.{first, sum_by, build}
use Rattle.session.specs.Lists.{mask_of}
use Rattle.session.specs.private.Search.{FirstPassing}
use Rattle.session.proofs.BuildLaws.{length_build, get_d_build}

-- what is left of a table past its end, and before it
module _ {A : Type 0} (f : ℕ → A) (n i : ℕ) where
  none_left : n ≤ i → drop i (build f 0 n) ≡ []
  none_left h = drop_of_length-le (build f 0 n) {i = i} (omega (arith, length_build f 0 n))

  one_left : i < n → drop i (build f 0 n) ≡ f i ∷ drop (suc i) (build f 0 n)
  one_left h =
      drop-cons (build f 0 n) i (f i) (omega (arith, length_build f 0 n))
      ∙ ap (λ x. x ∷ drop (suc i) (build f 0 n)) (get_d_build f n i (f i) h)

-- a search from a place on
module _ {A : Type 0} (p : A → Bool) (f : ℕ → A) (n : ℕ) where
  -- places that do not pass are left out
  pub passed : (k from : ℕ) → from + k ≤ n → ((i : ℕ) → from ≤ i → i < from + k → p (f i) ≡ false) →
      first p (drop (from + k) (build f 0 n)) (from + k) ≡ first p (drop from (build f 0 n)) from
  unfolding first
  passed zero from h none = rw add-zero refl
  passed (suc k) from h none =
      let back : suc from + k ≡ from + suc k = omega arith in
      subst (λ (j : ℕ). first p (drop j (build f 0 n)) j ≡ first p (drop from (build f 0 n)) from) back
      (passed k (suc from) (omega arith) (λ i l m. none i (omega arith) (omega arith))
      ∙ sym (rw (one_left f n from (omega arith), none from (omega arith) (omega arith))))

  pub first_is : (from : ℕ) (r : Option ℕ) → FirstPassing p f from n r → r ≡ first p (drop from (build f 0 n)) from
  unfolding first
  first_is from None none =
      less_or_not n from
      (λ h. sym (ap (λ ys. first p ys from) (none_left f n from (omega arith))))
      (λ h. let e : from + (n - from) ≡ n = omega arith in
      sym (ap (λ ys. first p ys n) (none_left f n n (omega arith)))
      ∙ subst (λ (j : ℕ). first p (drop j (build f 0 n)) j ≡ first p (drop from (build f 0 n)) from) e
      (passed (n - from) from (omega arith) (λ i l m. none i l (omega arith))))
  first_is from (Some i) found =
      let e : from + (i - from) ≡ i = omega (arith, found.0) in
      sym (rw (one_left f n i found.1, found.2))
      ∙ subst (λ (j : ℕ). first p (drop j (build f 0 n)) j ≡ first p (drop from (build f 0 n)) from) e
      (passed (i - from) from (omega (arith, found.0, found.1)) (λ k l m. found.3 k l (omega arith)))

-- what `find` over a range gives is the first place that passes
module _ {A F : Type 0} {g : Mut F (Bor ℕ × Unit {0}) Bool} (p : A → Bool) (f : ℕ → A) (from n : ℕ) (u : Range ℕ)
    (test : F) (r : Option ℕ) (ran : FindsItem nat_range_steps g (record { start = from; end = n }) test r u)
    (told : (x : ℕ) (b : Bool) (q : F) → CalledAt g test x b q → (q ≡ test) × (b ≡ p (f x))) where
  pub passes_first : FirstPassing p f from n r
  passes_first =
      first_from_Range _ u test r (λ x. p (f x) ≡ true) (λ x. p (f x) ≡ false) ran
      (λ x q h. sym (told x true q h).1)
      (λ x q h. let t = told x false q h in (t.0, sym t.1))

  pub finds : r ≡ first p (drop from (build f 0 n)) from
  finds = first_is p f n from r passes_first

-- what a search finds comes before another place
pub or_other : (r p q s : Option ℕ) → r ≡ p → MatchOption r (s ≡ q) (λ x. s ≡ Some x) → s ≡ option_or p q
or_other None p q s e h = h ∙ ap (λ x. option_or x q) e
or_other (Some x) p q s e h = h ∙ ap (λ x. option_or x q) e

-- a sum over a table of n entries, each at most `most`, stands at i
pub record Summing {A : Type 0} (v : A → ℕ) (most : ℕ) (f : ℕ → A) (n i sum : ℕ) : Type 0 where
  pub small : sum ≤ i * most
  pub rest : sum + sum_by v (drop i (build f 0 n)) ≡ sum_by v (build f 0 n)

module _ {A : Type 0} {v : A → ℕ} {most : ℕ} {f : ℕ → A} {n : ℕ} where
  pub sums : Summing v most f n 0 0
  sums = record { small = omega arith; rest = omega arith }

  module _ {i sum : ℕ} (l : Summing v most f n i sum) where
    pub summed : n ≤ i → sum ≡ sum_by v (build f 0 n)
    unfolding sum_by
    summed h = omega (arith, rw (none_left f n i h) at l.rest)

    pub sums_on : (r : ℕ) → i < n → r ≡ v (f i) → r ≤ most → Summing v most f n (i + 1) (sum + r)
    unfolding sum_by
    sums_on r h e b =
        record { small = omega arith; rest = rw add-one (omega (arith, rw (one_left f n i h) at l.rest)) }

-- the bits of k places are below 2 ^ k
mask_small : {A : Type 0} (p : A → Bool) (k : ℕ) (xs : List A) → length xs ≤ k → mask_of p xs < 2 ^ k
unfolding mask_of
mask_small p k [] h = pow-positive k
  where
    pow-positive : (k : ℕ) → 0 < 2 ^ k
    pow-positive zero = omega arith
    pow-positive (suc k) = omega (arith, pow-positive k)
mask_small p zero (x ∷ xs) h = absurd (omega arith)
mask_small p (suc k) (x ∷ xs) h = go (p x) (mask_small p k xs (omega arith))
  where
    go : (b : Bool) → mask_of p xs < 2 ^ k → cond b 1 0 + 2 * mask_of p xs < 2 ^ suc k
    go true more = omega arith
    go false more = omega arith

-- the bits of a table's places from i on, of n
pub record Masking {A : Type 0} (p : A → Bool) (f : ℕ → A) (n i mask : ℕ) : Type 0 where
  pub inside : i ≤ n
  pub rest : mask ≡ mask_of p (drop i (build f 0 n))

module _ {A : Type 0} {p : A → Bool} {f : ℕ → A} {n : ℕ} where
  pub masks : Masking p f n n 0
  unfolding mask_of
  masks = record { inside = omega arith; rest = rw (none_left f n n (omega arith)) }

  module _ {i mask : ℕ} (l : Masking p f n i mask) where
    pub masked : i ≤ 0 → mask ≡ mask_of p (build f 0 n)
    masked h = let e : i ≡ 0 = omega arith in l.rest ∙ ap (λ (k : ℕ). mask_of p (drop k (build f 0 n))) e

    few_bits : (k : ℕ) → n ≤ i + k → mask < 2 ^ k
    few_bits k h =
        let left : length (drop i (build f 0 n)) ≤ k = omega (arith, length-drop i (build f 0 n), length_build f 0 n) in
        omega (arith, l.rest, mask_small p k (drop i (build f 0 n)) left)

    -- a number of 64 bits has room for one bit more
    pub mask_room : n ≤ 64 → 0 < i → 2 * mask + 1 < 2 ^ 64
    mask_room few h = omega (arith, few_bits 63 (omega arith))

    pub masks_on : (r : ℕ) → 0 < i → r ≡ cond (p (f (i - 1))) 1 0 → Masking p f n (i - 1) (2 * mask + r)
    unfolding mask_of
    masks_on r h e =
        let back : suc (i - 1) ≡ i = omega arith in
        let one = one_left f n (i - 1) (omega (arith, l.inside)) in
        record {
          inside = omega (arith, l.inside);
          rest = omega (arith, e, l.rest, ap (mask_of p) one, ap (λ (k : ℕ). mask_of p (drop k (build f 0 n))) back);
        }

-- the first i entries are changed by f
unfoldable pub up_to : {A : Type 0} → (A → A) → ℕ → List A → List A
up_to f zero xs = xs
up_to f (suc i) [] = []
up_to f (suc i) (x ∷ xs) = f x ∷ up_to f i xs

module _ {A : Type 0} (f : A → A) where
  pub up_to_none : (xs : List A) → xs ≡ up_to f 0 xs
  unfolding up_to
  up_to_none xs = refl

  -- the entry at i is not changed yet
  pub up_to_at : (i : ℕ) (xs : List A) (d : A) → get_or (up_to f i xs) i d ≡ get_or xs i d
  unfolding up_to
  up_to_at zero xs d = refl
  up_to_at (suc i) [] d = refl
  up_to_at (suc i) (x ∷ xs) d = up_to_at i xs d

  -- a turn with a store
  pub up_to_set : (i : ℕ) (xs : List A) (d : A) → set (up_to f i xs) i (f (get_or xs i d)) ≡ up_to f (suc i) xs
  unfolding up_to
  up_to_set zero [] d = refl
  up_to_set zero (x ∷ xs) d = refl
  up_to_set (suc i) [] d = refl
  up_to_set (suc i) (x ∷ xs) d = ap (λ ys. f x ∷ ys) (up_to_set i xs d)

  -- an entry that f leaves needs no store
  pub up_to_left : (i : ℕ) (xs : List A) (d : A) → f (get_or xs i d) ≡ get_or xs i d → up_to f i xs ≡ up_to f (suc i) xs
  unfolding up_to
  up_to_left zero [] d e = refl
  up_to_left zero (x ∷ xs) d e = ap (λ y. y ∷ xs) (sym e)
  up_to_left (suc i) [] d e = refl
  up_to_left (suc i) (x ∷ xs) d e = ap (λ ys. f x ∷ ys) (up_to_left i xs d e)

  pub up_to_all : (i : ℕ) (xs : List A) → length xs ≤ i → up_to f i xs ≡ map f xs
  unfolding up_to
  up_to_all zero [] h = refl
  up_to_all zero (x ∷ xs) h = absurd (omega arith)
  up_to_all (suc i) [] h = refl
  up_to_all (suc i) (x ∷ xs) h = ap (λ ys. f x ∷ ys) (up_to_all i xs (omega arith))
