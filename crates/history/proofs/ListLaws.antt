-- Sums over parts of a list, and properties of their entries. Assumes nothing.
use Rattle.prelude.proofs.Basics.{ℕ, ◌+◌, ◌≤◌, arith, Bool, true, false, cond, ◌≡◌, refl, ap, List, [], ◌∷◌, ◌++◌, map}
use Rattle.prelude.proofs.Basics.{get_or, set}
use Rattle.session.specs.Lists.{sum_by, how_many, All}
use Rattle.session.proofs.PlaceLaws.{Passes}
use Rattle.session.proofs.SumLaws.{one, sum_set}
use Rattle.history.specs.Tally.{kept}

module _ {A : Type 0} where
  pub sum_append : (w : A → ℕ) (xs ys : List A) → sum_by w (xs ++ ys) ≡ sum_by w xs + sum_by w ys
  unfolding sum_by
  sum_append w [] ys = omega arith
  sum_append w (x ∷ xs) ys = omega (arith, sum_append w xs ys)

  -- the entries that pass a test, and those that do not
  pub sum_kept : (p : A → Bool) (w : A → ℕ) (xs : List A) → sum_by w (kept p xs) ≡ sum_by (λ x. cond (p x) (w x) 0) xs
  unfolding sum_by kept
  sum_kept p w [] = refl
  sum_kept p w (x ∷ xs) = go (p x) (sum_kept p w xs)
    where
      go : (b : Bool) → sum_by w (kept p xs) ≡ sum_by (λ x. cond (p x) (w x) 0) xs →
          sum_by w (cond b (x ∷ kept p xs) (kept p xs)) ≡ cond b (w x) 0 + sum_by (λ x. cond (p x) (w x) 0) xs
      go true e = ap (λ (n : ℕ). w x + n) e
      go false e = omega arith

  pub all_kept : (P : A → Type 0) (p : A → Bool) (xs : List A) → All P xs → All P (kept p xs)
  unfolding All kept
  all_kept P p [] h = tt
  all_kept P p (x ∷ xs) h = go (p x) (all_kept P p xs h.1)
    where
      go : (b : Bool) → All P (kept p xs) → All P (cond b (x ∷ kept p xs) (kept p xs))
      go true l = (h.0, l)
      go false l = l

  -- what is kept passes the test
  pub kept_pass : (p : A → Bool) (xs : List A) → All (λ x. p x ≡ true) (kept p xs)
  unfolding All kept
  kept_pass p [] = tt
  kept_pass p (x ∷ xs) = go (p x) refl (kept_pass p xs)
    where
      go : (b : Bool) → p x ≡ b → All (λ x. p x ≡ true) (kept p xs) →
          All (λ x. p x ≡ true) (cond b (x ∷ kept p xs) (kept p xs))
      go true e l = (e, l)
      go false e l = l

  pub all_map : {B : Type 0} (P : A → Type 0) (Q : B → Type 0) (f : A → B) → ((x : A) → P x → Q (f x)) →
      (xs : List A) → All P xs → All Q (map f xs)
  unfolding All
  all_map P Q f h [] l = tt
  all_map P Q f h (x ∷ xs) l = (h x l.0, all_map P Q f h xs l.1)

  pub all_imp : (P Q : A → Type 0) → ((x : A) → P x → Q x) → (xs : List A) → All P xs → All Q xs
  unfolding All
  all_imp P Q h [] l = tt
  all_imp P Q h (x ∷ xs) l = (h x l.0, all_imp P Q h xs l.1)

  pub all_both : (P Q : A → Type 0) (xs : List A) → All P xs → All Q xs → All (λ x. P x × Q x) xs
  unfolding All
  all_both P Q [] h g = tt
  all_both P Q (x ∷ xs) h g = ((h.0, g.0), all_both P Q xs h.1 g.1)

  -- an entry weighs nothing where all together weigh nothing
  pub all_zero : (w : A → ℕ) (xs : List A) → sum_by w xs ≡ 0 → All (λ x. w x ≡ 0) xs
  unfolding All sum_by
  all_zero w [] e = tt
  all_zero w (x ∷ xs) e = (omega arith, all_zero w xs (omega arith))

  -- two sums are equal where the entries that have a property weigh alike
  pub sum_all : (P : A → Type 0) (v w : A → ℕ) → ((x : A) → P x → v x ≡ w x) → (xs : List A) → All P xs →
      sum_by v xs ≡ sum_by w xs
  unfolding All sum_by
  sum_all P v w h [] l = refl
  sum_all P v w h (x ∷ xs) l = omega (arith, h x l.0, sum_all P v w h xs l.1)

  -- what weighs only entries that pass weighs nothing where none passes
  pub sum_absent : (p : A → Bool) (v : A → ℕ) → ((x : A) → p x ≡ false → v x ≡ 0) → (xs : List A) → how_many p xs ≡ 0 →
      sum_by v xs ≡ 0
  unfolding sum_by
  sum_absent p v h [] e = refl
  sum_absent p v h (x ∷ xs) e = go (p x) refl (λ f. sum_absent p v h xs f)
    where
      go : (b : Bool) → p x ≡ b → (how_many p xs ≡ 0 → sum_by v xs ≡ 0) → v x + sum_by v xs ≡ 0
      go true f more = absurd (omega (arith, ap one f))
      go false f more = omega (arith, h x f, more (omega arith))

  -- and where one passes, what that one weighs
  pub sum_only : (p : A → Bool) (v : A → ℕ) → ((x : A) → p x ≡ false → v x ≡ 0) → (d : A) → p d ≡ false →
      (xs : List A) (i : ℕ) →
      how_many p xs ≤ 1 → Passes p d xs i → sum_by v xs ≡ v (get_or xs i d)
  sum_only p v h d e xs i once l =
      let none : how_many p (set xs i d) ≡ 0 =
      omega (arith, sum_set (λ x. one (p x)) d d xs i l.inside, ap one l.passing, ap one e) in
      omega (arith, sum_set v d d xs i l.inside, h d e, sum_absent p v h (set xs i d) none)
