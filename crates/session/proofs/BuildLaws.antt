-- Lists that are built entry by entry. Assumes nothing.
use Rattle.prelude.proofs.Basics.{ℕ, zero, suc, ◌+◌, ◌≤◌, ◌<◌, arith, ◌≡◌, refl, sym, ap, ◌∙◌, List, [], ◌∷◌, map}
use Rattle.prelude.proofs.Basics.{length, get_or, set, replicate, List·getD-eq-default}
use Rattle.session.proofs.Names.{build}

module _ {A : Type 0} where
  pub length_build : (f : ℕ → A) (k n : ℕ) → length (build f k n) ≡ n
  unfolding build
  length_build f k zero = refl
  length_build f k (suc n) = ap suc (length_build f (suc k) n)

  getD-from : (f : ℕ → A) (k n i : ℕ) (d : A) → i < n → get_or (build f k n) i d ≡ f (k + i)
  unfolding build
  getD-from f k zero i d h = absurd (omega arith)
  getD-from f k (suc n) zero d h = let e : k ≡ k + 0 = omega arith in ap f e
  getD-from f k (suc n) (suc i) d h =
      let e : suc k + i ≡ k + suc i = omega arith in
      getD-from f (suc k) n i d (omega arith) ∙ ap f e

  pub get_d_build : (f : ℕ → A) (n i : ℕ) (d : A) → i < n → get_or (build f 0 n) i d ≡ f i
  get_d_build f n i d h = let e : 0 + i ≡ i = omega arith in getD-from f 0 n i d h ∙ ap f e

  -- past the end stands no entry
  pub get_d_past : (f : ℕ → A) (n i : ℕ) (d : A) → n ≤ i → get_or (build f 0 n) i d ≡ d
  get_d_past f n i d h = List·getD-eq-default (build f 0 n) d (omega (arith, length_build f 0 n))

  -- and none is put there
  pub set_past : (xs : List A) (i : ℕ) (x : A) → length xs ≤ i → set xs i x ≡ xs
  set_past [] i x h = refl
  set_past (y ∷ xs) zero x h = absurd (omega arith)
  set_past (y ∷ xs) (suc i) x h = ap (λ ys. y ∷ ys) (set_past xs i x (omega arith))

  -- the same entries
  same_from : (f g : ℕ → A) (k n : ℕ) → ((j : ℕ) → j < k + n → k ≤ j → g j ≡ f j) → build g k n ≡ build f k n
  unfolding build
  same_from f g k zero h = refl
  same_from f g k (suc n) h =
      ap (λ x. x ∷ build g (suc k) n) (h k (omega arith) (omega arith))
      ∙ ap (λ xs. f k ∷ xs) (same_from f g (suc k) n (λ j a b. h j (omega arith) (omega arith)))

  pub same_build : (f g : ℕ → A) (n : ℕ) → ((j : ℕ) → j < n → g j ≡ f j) → build g 0 n ≡ build f 0 n
  same_build f g n h = same_from f g 0 n (λ j a b. h j (omega arith))

  -- one entry is another
  set-from : (f g : ℕ → A) (k n i : ℕ) (x : A) → i < n → g (k + i) ≡ x →
      ((j : ℕ) → j < k + n → k ≤ j → (j ≡ k + i → ⊥) → g j ≡ f j) → build g k n ≡ set (build f k n) i x
  unfolding build
  set-from f g k zero i x h e o = absurd (omega arith)
  set-from f g k (suc n) zero x h e o =
      let q : k ≡ k + 0 = omega arith in
      ap (λ y. y ∷ build g (suc k) n) (ap g q ∙ e)
      ∙ ap (λ xs. x ∷ xs) (same_from f g (suc k) n (λ j a b. o j (omega arith) (omega arith) (λ z. omega arith)))
  set-from f g k (suc n) (suc i) x h e o =
      let q : suc k + i ≡ k + suc i = omega arith in
      ap (λ y. y ∷ build g (suc k) n) (o k (omega arith) (omega arith) (λ z. omega arith))
      ∙ ap (λ xs. f k ∷ xs)
      (set-from f g (suc k) n i x (omega arith) (ap g q ∙ e)
      (λ j a b c. o j (omega arith) (omega arith) (λ z. c (omega arith))))

  pub set_build : (f g : ℕ → A) (n i : ℕ) (x : A) → i < n → g i ≡ x →
      ((j : ℕ) → j < n → (j ≡ i → ⊥) → g j ≡ f j) → build g 0 n ≡ set (build f 0 n) i x
  set_build f g n i x h e o =
      let q : 0 + i ≡ i = omega arith in
      set-from f g 0 n i x h (ap g q ∙ e) (λ j a b c. o j (omega arith) (λ z. c (omega arith)))

  -- every entry is the same
  pub all_build : (f : ℕ → A) (x : A) (k n : ℕ) → ((j : ℕ) → j < k + n → f j ≡ x) → build f k n ≡ replicate n x
  unfolding build
  all_build f x k zero h = refl
  all_build f x k (suc n) h =
      ap (λ y. y ∷ build f (suc k) n) (h k (omega arith))
      ∙ ap (λ ys. x ∷ ys) (all_build f x (suc k) n (λ j a. h j (omega arith)))

  pub all_map : (x : A) (xs : List A) → replicate (length xs) x ≡ map (λ (y : A). x) xs
  all_map x [] = refl
  all_map x (y ∷ xs) = ap (λ ys. x ∷ ys) (all_map x xs)

  -- entries of equal lists
  pub build_at : (f g : ℕ → A) (n i : ℕ) → i < n → build f 0 n ≡ build g 0 n → f i ≡ g i
  build_at f g n i h e =
      sym (get_d_build f n i (f i) h) ∙ ap (λ xs. get_or xs i (f i)) e ∙ get_d_build g n i (f i) h
