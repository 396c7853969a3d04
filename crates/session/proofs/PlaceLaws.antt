-- What a search found, and that it found nothing. Assumes nothing.
use Rattle.prelude.proofs.Basics.{ℕ, suc, ◌+◌, ◌<◌, arith, Bool, true, false, cond, ◌≡◌, refl, sym, ap, subst, ◌∙◌}
use Rattle.prelude.proofs.Basics.{List, [], ◌∷◌, length, get_or, Option, Some, None, option_or}
use Rattle.std.proofs.lemmas.Option.{none-some, same_Some}
use Rattle.session.proofs.Names.{first, sum_by, how_many}

-- the entry at a place inside the list passes
pub record Passes {A : Type 0} (p : A → Bool) (d : A) (xs : List A) (i : ℕ) : Type 0 where
  pub inside : i < length xs
  pub passing : p (get_or xs i d) ≡ true

module _ {A : Type 0} (p : A → Bool) where
  abbrev Ahead : A → List A → ℕ → ℕ → Type 0
  Ahead d xs k i = (j : ℕ) × (i ≡ k + j) × Passes p d xs j

  found_from : (d : A) (xs : List A) (k i : ℕ) → first p xs k ≡ Some i → Ahead d xs k i
  unfolding first
  found_from d [] k i e = absurd (none-some _ e)
  found_from d (x ∷ xs) k i e = go (p x) refl (λ g. found_from d xs (suc k) i g) e
    where
      go : (b : Bool) → p x ≡ b → (first p xs (suc k) ≡ Some i → Ahead d xs (suc k) i) →
          cond b (Some k) (first p xs (suc k)) ≡ Some i → Ahead d (x ∷ xs) k i
      go true h more g = (0, omega (arith, same_Some _ _ g), record { inside = omega arith; passing = h })
      go false h more g =
          let l = more g in
          (suc l.0, omega (arith, l.1), record { inside = omega (arith, l.2.inside); passing = l.2.passing })

  pub found : (d : A) (xs : List A) (i : ℕ) → first p xs 0 ≡ Some i → Passes p d xs i
  found d xs i e =
      let l = found_from d xs 0 i e in
      let h : l.0 ≡ i = omega (arith, l.1) in
      subst (λ (j : ℕ). Passes p d xs j) h l.2

  pub none_from : (xs : List A) (k : ℕ) → first p xs k ≡ None → how_many p xs ≡ 0
  unfolding first sum_by
  none_from [] k e = refl
  none_from (x ∷ xs) k e = go (p x) refl (λ g. none_from xs (suc k) g) e
    where
      go : (b : Bool) → p x ≡ b → (first p xs (suc k) ≡ None → how_many p xs ≡ 0) →
          cond b (Some k) (first p xs (suc k)) ≡ None → cond (p x) 1 0 + how_many p xs ≡ 0
      go true h more g = absurd (none-some _ (sym g))
      go false h more g = rw h (omega (arith, more g))

  pub none_back : (xs : List A) (k : ℕ) → how_many p xs ≡ 0 → first p xs k ≡ None
  unfolding first sum_by
  none_back [] k e = refl
  none_back (x ∷ xs) k e = go (p x) refl (λ h. none_back xs (suc k) h) e
    where
      go : (b : Bool) → p x ≡ b → (how_many p xs ≡ 0 → first p xs (suc k) ≡ None) →
          cond (p x) 1 0 + how_many p xs ≡ 0 → cond b (Some k) (first p xs (suc k)) ≡ None
      go true h more e = absurd (omega (arith, ap (λ c. cond {A = ℕ} c 1 0) h))
      go false h more e = more (omega arith)

-- the place that an entry takes holds an entry of its id, or a free one where no entry has its id
module _ {A : Type 0} (p q : A → Bool) (d : A) (xs : List A) where
  pub data Taken (i : ℕ) : Type 0 where
    own : Passes p d xs i → Taken i
    new : Passes q d xs i → how_many p xs ≡ 0 → Taken i

  pub taken : (i : ℕ) → option_or (first p xs 0) (first q xs 0) ≡ Some i → Taken i
  taken i e = go (first p xs 0) refl e
    where
      go : (x : Option ℕ) → first p xs 0 ≡ x → option_or x (first q xs 0) ≡ Some i → Taken i
      go (Some j) h g = own (found p d xs i (h ∙ g))
      go None h g = new (found q d xs i g) (none_from p xs 0 h)
