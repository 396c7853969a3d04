-- Where at most one entry passes a test, a change of the first that passes is a change of all that pass. Assumes
-- nothing.
use Rattle.prelude.proofs.Basics.{ℕ, zero, suc, ◌≤◌, arith, Bool, true, false, cond, ◌≡◌, refl, sym, ap, List, [], ◌∷◌}
use Rattle.prelude.proofs.Basics.{get_or, set, Option, Some, None}
use Rattle.session.proofs.Names.{first, put, entry_at, changed, sum_by, how_many}
use Rattle.session.proofs.PlaceLaws.{Passes, found, none_from}
use Rattle.session.proofs.SumLaws.{one, counted}

module _ {A : Type 0} (p : A → Bool) (f : A → A) where
  pub none_changed : (xs : List A) → how_many p xs ≡ 0 → changed p f xs ≡ xs
  unfolding sum_by
  none_changed [] e = refl
  none_changed (x ∷ xs) e = go (p x) refl (λ g. none_changed xs g)
    where
      go : (b : Bool) → p x ≡ b → (how_many p xs ≡ 0 → changed p f xs ≡ xs) → cond b (f x) x ∷ changed p f xs ≡ x ∷ xs
      go true h more = absurd (omega (arith, ap one h))
      go false h more = ap (λ ys. x ∷ ys) (more (omega arith))

  module _ (d : A) where
    -- an entry put where the only one that passes stands
    pub put_changed : (y : A) (xs : List A) (i : ℕ) → how_many p xs ≤ 1 → Passes p d xs i →
        set (changed p f xs) i y ≡ set xs i y
    unfolding sum_by
    put_changed y [] i once l = refl
    put_changed y (x ∷ xs) zero once l = ap (λ ys. y ∷ ys) (none_changed xs (omega (arith, ap one l.passing)))
    put_changed y (x ∷ xs) (suc i) once l = go (p x) refl (λ g. put_changed y xs i g rest)
      where
        rest : Passes p d xs i
        rest = record { inside = omega (arith, l.inside); passing = l.passing }

        go : (b : Bool) → p x ≡ b → (how_many p xs ≤ 1 → set (changed p f xs) i y ≡ set xs i y) →
            cond b (f x) x ∷ set (changed p f xs) i y ≡ x ∷ set xs i y
        go true h more = absurd (omega (arith, ap one h, counted p d xs i rest))
        go false h more = ap (λ ys. x ∷ ys) (more (omega (arith, ap one h)))

    -- the change of the only one that passes, made where it stands
    at-changed : (xs : List A) (i : ℕ) → how_many p xs ≤ 1 → Passes p d xs i →
        set xs i (f (get_or xs i d)) ≡ changed p f xs
    unfolding sum_by
    at-changed [] i once l = refl
    at-changed (x ∷ xs) zero once l = go (p x) l.passing
      where
        go : (b : Bool) → b ≡ true → f x ∷ xs ≡ cond b (f x) x ∷ changed p f xs
        go true h = ap (λ ys. f x ∷ ys) (sym (none_changed xs (omega (arith, ap one l.passing))))
        go false h = absurd (omega (arith, ap one h))
    at-changed (x ∷ xs) (suc i) once l = go (p x) refl (λ g. at-changed xs i g rest)
      where
        rest : Passes p d xs i
        rest = record { inside = omega (arith, l.inside); passing = l.passing }

        go : (b : Bool) → p x ≡ b → (how_many p xs ≤ 1 → set xs i (f (get_or xs i d)) ≡ changed p f xs) →
            x ∷ set xs i (f (get_or xs i d)) ≡ cond b (f x) x ∷ changed p f xs
        go true h more = absurd (omega (arith, ap one h, counted p d xs i rest))
        go false h more = ap (λ ys. x ∷ ys) (more (omega (arith, ap one h)))

    pub first_changed : (xs : List A) → how_many p xs ≤ 1 →
        put xs (first p xs 0) (f (entry_at xs (first p xs 0) d)) ≡ changed p f xs
    first_changed xs once = go (first p xs 0) refl
      where
        go : (at : Option ℕ) → first p xs 0 ≡ at → put xs at (f (entry_at xs at d)) ≡ changed p f xs
        go (Some i) e = at-changed xs i once (found p d xs i e)
        go None e = sym (none_changed xs (none_from p xs 0 e))
