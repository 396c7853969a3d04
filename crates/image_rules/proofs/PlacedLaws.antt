-- The live entries of a table, with their places. Assumes nothing.
use Rattle.prelude.proofs.Basics.{ℕ, zero, suc, ◌+◌, ◌≤◌, ◌<◌, arith, add-zero, Bool, true, false, ◌&&◌, cond}
use Rattle.prelude.proofs.Basics.{◌≡◌, refl, sym, ap, subst, ◌∙◌, List, [], ◌∷◌, ◌++◌, map, length, get_or, set}
use Rattle.prelude.proofs.Basics.{eqb, eq-eqb, ne_eqb}
use Rattle.session.specs.Lists.{All, sum_by, how_many}
use Rattle.session.proofs.SumLaws.{one, sum_same}
use Rattle.image_rules.specs.Listing.{placed}
use Rattle.image_rules.specs.Acceptable.{Rising}

pub rising_from : (limit : ℕ) (ps : List ℕ) {j k : ℕ} → j ≤ k → Rising limit k ps → Rising limit j ps
unfolding Rising
rising_from limit [] h r = tt
rising_from limit (p ∷ ps) h r = (omega (arith, r.0), r.1)

-- the table that entries with rising places make: each at its place, the empty one elsewhere
unfoldable table_of : {A E : Type 0} → (E → A) → (E → ℕ) → A → ℕ → ℕ → List E → List A
table_of make place none zero k es = []
table_of make place none (suc n) k [] = none ∷ table_of make place none n (suc k) []
table_of make place none (suc n) k (e ∷ es) =
    cond (eqb (place e) k) (make e ∷ table_of make place none n (suc k) es)
    (none ∷ table_of make place none n (suc k) (e ∷ es))

module _ {A E : Type 0} (live : A → Bool) (entry : ℕ → A → E) where
  -- under a test, a property of both lists
  cases : (P : List E → Type 0) (k : ℕ) (x : A) (rest : List E) → (live x ≡ true → P (entry k x ∷ rest)) →
      (live x ≡ false → P rest) → P (cond (live x) (entry k x ∷ rest) rest)
  cases P k x rest t f = go (live x) refl
    where
      go : (b : Bool) → live x ≡ b → P (cond b (entry k x ∷ rest) rest)
      go true e = t e
      go false e = f e

  pub placed_sum : (w : E → ℕ) (v : A → ℕ) → ((k : ℕ) (x : A) → w (entry k x) ≡ v x) → (k : ℕ) (xs : List A) →
      sum_by w (placed live entry k xs) ≡ sum_by (λ x. cond (live x) (v x) 0) xs
  unfolding placed sum_by
  placed_sum w v h k [] = refl
  placed_sum w v h k (x ∷ xs) = go (live x) (placed_sum w v h (suc k) xs)
    where
      go : (b : Bool) → sum_by w (placed live entry (suc k) xs) ≡ sum_by (λ x. cond (live x) (v x) 0) xs →
          sum_by w (cond b (entry k x ∷ placed live entry (suc k) xs) (placed live entry (suc k) xs))
          ≡ cond b (v x) 0 + sum_by (λ x. cond (live x) (v x) 0) xs
      go true more = omega (arith, h k x, more)
      go false more = omega (arith, more)

  -- how many of them pass a test that does not ask for the place
  pub placed_many : (q : E → Bool) (p : A → Bool) → ((k : ℕ) (x : A) → q (entry k x) ≡ p x) → (k : ℕ) (xs : List A) →
      how_many q (placed live entry k xs) ≡ how_many (λ x. live x && p x) xs
  placed_many q p h k xs =
      placed_sum (λ e. one (q e)) (λ x. one (p x)) (λ k x. ap one (h k x)) k xs
      ∙ sum_same (λ x. cond (live x) (one (p x)) 0) (λ x. one (live x && p x)) (λ x. each (live x) (p x)) xs
    where
      each : (a b : Bool) → cond a (one b) 0 ≡ one (a && b)
      each true b = refl
      each false b = refl

  pub placed_all : (P : A → Type 0) (Q : E → Type 0) → ((k : ℕ) (x : A) → live x ≡ true → P x → Q (entry k x)) →
      (k : ℕ) (xs : List A) → All P xs → All Q (placed live entry k xs)
  unfolding placed All
  placed_all P Q h k [] l = tt
  placed_all P Q h k (x ∷ xs) l =
      let rest = placed_all P Q h (suc k) xs l.1 in
      cases (All Q) k x (placed live entry (suc k) xs) (λ e. (h k x e l.0, rest)) (λ _. rest)

  pub placed_count : (k : ℕ) (xs : List A) → length (placed live entry k xs) ≡ how_many live xs
  unfolding placed sum_by
  placed_count k [] = refl
  placed_count k (x ∷ xs) = go (live x) (placed_count (suc k) xs)
    where
      go : (b : Bool) → length (placed live entry (suc k) xs) ≡ how_many live xs →
          length (cond b (entry k x ∷ placed live entry (suc k) xs) (placed live entry (suc k) xs))
          ≡ one b + how_many live xs
      go true more = omega (arith, more)
      go false more = omega (arith, more)

  pub placed_none : (k : ℕ) (xs : List A) → how_many live xs ≡ 0 → placed live entry k xs ≡ []
  placed_none k xs e = empty (placed live entry k xs) (placed_count k xs ∙ e)
    where
      empty : (es : List E) → length es ≡ 0 → es ≡ []
      empty [] e = refl
      empty (x ∷ es) e = absurd (omega arith)

  -- an entry stored where it and all behind it are free is the last one
  pub placed_last : (d x : A) → live x ≡ true → (k : ℕ) (xs : List A) (p : ℕ) → p < length xs →
      ((i : ℕ) → p ≤ i → live (get_or xs i d) ≡ false) →
      placed live entry k (set xs p x) ≡ placed live entry k xs ++ (entry (k + p) x ∷ [])
  unfolding placed sum_by
  placed_last d x h k [] p within free = absurd (omega arith)
  placed_last d x h k (y ∷ xs) zero within free =
      ap (λ (b : Bool). cond b (entry k x ∷ rest) rest) h
      ∙ ap (λ (l : List E). entry k x ∷ l) none
      ∙ ap (λ (n : ℕ). entry n x ∷ []) (sym (add-zero k))
      ∙ ap (λ (l : List E). l ++ (entry (k + 0) x ∷ [])) (sym none)
      ∙ ap (λ (b : Bool). cond b (entry k y ∷ rest) rest ++ (entry (k + 0) x ∷ [])) (sym (free 0 (omega arith)))
    where
      rest : List E
      rest = placed live entry (suc k) xs

      dead : (ys : List A) → ((i : ℕ) → live (get_or ys i d) ≡ false) → how_many live ys ≡ 0
      dead [] f = refl
      dead (z ∷ ys) f = omega (arith, ap one (f 0), dead ys (λ i. f (suc i)))

      none : rest ≡ []
      none = placed_none (suc k) xs (dead xs (λ i. free (suc i) (omega arith)))
  placed_last d x h k (y ∷ xs) (suc p) within free =
      go (live y) (placed_last d x h (suc k) xs p (omega arith) (λ i g. free (suc i) (omega arith)))
    where
      sum : suc k + p ≡ k + suc p
      sum = omega arith

      go : (b : Bool) →
          placed live entry (suc k) (set xs p x) ≡ placed live entry (suc k) xs ++ (entry (suc k + p) x ∷ []) →
          cond b (entry k y ∷ placed live entry (suc k) (set xs p x)) (placed live entry (suc k) (set xs p x))
          ≡ cond b (entry k y ∷ placed live entry (suc k) xs) (placed live entry (suc k) xs)
          ++ (entry (k + suc p) x ∷ [])
      go true more =
          ap (λ (l : List E). entry k y ∷ l)
          (more ∙ ap (λ (n : ℕ). placed live entry (suc k) xs ++ (entry n x ∷ [])) sum)
      go false more = more ∙ ap (λ (n : ℕ). placed live entry (suc k) xs ++ (entry n x ∷ [])) sum

  module _ (place : E → ℕ) (there : (k : ℕ) (x : A) → place (entry k x) ≡ k) where
    pub placed_rising : (limit k : ℕ) (xs : List A) → k + length xs ≤ limit →
        Rising limit k (map place (placed live entry k xs))
    unfolding placed Rising
    placed_rising limit k [] h = tt
    placed_rising limit k (x ∷ xs) h =
        let rest = placed live entry (suc k) xs in
        let more = placed_rising limit (suc k) xs (omega arith) in
        cases (λ es. Rising limit k (map place es)) k x rest
        (λ _. (
          omega (arith, there k x),
          (
            omega (arith, there k x),
            subst (λ (n : ℕ). Rising limit (suc n) (map place rest)) (sym (there k x)) more,
          ),
        ))
        (λ _. rising_from limit (map place rest) (omega arith) more)

    -- a table whose free places are empty is made by its live entries
    module _ (make : E → A) (none : A) where
      skips : (limit n k : ℕ) (es : List E) → Rising limit (suc k) (map place es) →
          table_of make place none (suc n) k es ≡ none ∷ table_of make place none n (suc k) es
      unfolding table_of Rising
      skips limit n k [] h = refl
      skips limit n k (e ∷ es) h =
          ap (λ (b : Bool). cond b (make e ∷ table_of make place none n (suc k) es)
          (none ∷ table_of make place none n (suc k) (e ∷ es)))
          (ne_eqb (place e) k (λ z. omega (arith, h.0)))

      abbrev Own : A → Type 0
      Own x = (live x ≡ false → x ≡ none) × (live x ≡ true → (k : ℕ) → make (entry k x) ≡ x)

      made : (k : ℕ) (xs : List A) → All Own xs →
          table_of make place none (length xs) k (placed live entry k xs) ≡ xs
      unfolding placed All table_of
      made k [] l = refl
      made k (x ∷ xs) l = go (live x) refl (made (suc k) xs l.1)
        where
          n : ℕ
          n = length xs

          rest : List E
          rest = placed live entry (suc k) xs

          taken : table_of make place none (suc n) k (entry k x ∷ rest)
              ≡ make (entry k x) ∷ table_of make place none n (suc k) rest
          taken =
              ap (λ (b : Bool). cond b (make (entry k x) ∷ table_of make place none n (suc k) rest)
              (none ∷ table_of make place none n (suc k) (entry k x ∷ rest)))
              (eq-eqb (place (entry k x)) k (there k x))

          go : (b : Bool) → live x ≡ b → table_of make place none n (suc k) rest ≡ xs →
              table_of make place none (suc n) k (cond b (entry k x ∷ rest) rest) ≡ x ∷ xs
          go true e more =
              taken
              ∙ ap (λ y. y ∷ table_of make place none n (suc k) rest) (l.0.1 e k)
              ∙ ap (λ (ys : List A). x ∷ ys) more
          go false e more =
              skips (suc k + n) n k rest (placed_rising (suc k + n) (suc k) xs (omega arith))
              ∙ ap (λ y. y ∷ table_of make place none n (suc k) rest) (sym (l.0.0 e))
              ∙ ap (λ (ys : List A). x ∷ ys) more

      -- so two of them with the same live entries are the same
      pub placed_same : (xs ys : List A) → length xs ≡ length ys → All Own xs → All Own ys →
          placed live entry 0 xs ≡ placed live entry 0 ys → xs ≡ ys
      placed_same xs ys long p q e =
          sym (made 0 xs p)
          ∙ ap (λ (n : ℕ). table_of make place none n 0 (placed live entry 0 xs)) long
          ∙ ap (λ (es : List E). table_of make place none (length ys) 0 es) e
          ∙ made 0 ys q
