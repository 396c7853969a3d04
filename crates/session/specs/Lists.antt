-- What the rules of a table say of a list: the first place that passes a test, an entry put at a place, the entries
-- that pass changed, a sum over the entries, the places that pass as bits.
use Rattle.std.specs.Prelude.{ℕ, suc, ◌+◌, ◌*◌, Bool, true, cond, List, [], ◌∷◌, map, get_or, set, Option, Some, None}

module _ {A : Type 0} where
  -- the first place whose entry passes, counted from k
  unfoldable pub first : (A → Bool) → List A → ℕ → Option ℕ
  first p [] k = None
  first p (x ∷ xs) k = let rest = first p xs (suc k) in cond (p x) (Some k) rest

  -- the entry x at a place
  abbrev pub put : List A → Option ℕ → A → List A
  put xs (Some i) x = set xs i x
  put xs None x = xs

  -- the entry at a place, d where there is none
  abbrev pub entry_at : List A → Option ℕ → A → A
  entry_at xs (Some i) d = get_or xs i d
  entry_at xs None d = d

  -- f of an entry that passes
  abbrev pub change : (A → Bool) → (A → A) → A → A
  change p f x = cond (p x) (f x) x

  abbrev pub changed : (A → Bool) → (A → A) → List A → List A
  changed p f xs = map (change p f) xs

  abbrev pub always : A → Bool
  always x = true

  unfoldable pub sum_by : (A → ℕ) → List A → ℕ
  sum_by w [] = 0
  sum_by w (x ∷ xs) = w x + sum_by w xs

  -- every entry has a property
  unfoldable pub All : (A → Type 0) → List A → Type 0
  All P [] = Unit {0}
  All P (x ∷ xs) = P x × All P xs

  -- how many entries pass
  abbrev pub how_many : (A → Bool) → List A → ℕ
  how_many p xs = sum_by (λ x. cond (p x) 1 0) xs

  -- the places whose entries pass, as bits: the lowest is that of the first place
  unfoldable pub mask_of : (A → Bool) → List A → ℕ
  mask_of p [] = 0
  mask_of p (x ∷ xs) = cond (p x) 1 0 + 2 * mask_of p xs
