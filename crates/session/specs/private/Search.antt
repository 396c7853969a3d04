-- What a search computes on the way: a block of ids.
use Rattle.std.specs.Prelude.{ℕ, zero, suc, ◌*◌, ◌/◌, ◌≤◌, ◌<◌, Bool, true, false, ◌||◌, ◌≡◌, List, eqb, Option, MatchOption}
use Rattle.session.specs.Tables.{max_stmts}
use Rattle.session.specs.Words.{stmt_in}

-- the ids of statements that a search compares at once
abbrev pub block_ids : ℕ
block_ids = 16

abbrev pub blocks : ℕ
blocks = max_stmts / block_ids

-- whether one of n statements from a place on has the id, live or not
unfoldable pub any_in : ℕ → List ℕ → ℕ → ℕ → Bool
any_in id w at zero = false
any_in id w at (suc n) = eqb (stmt_in w at).id id || any_in id w (suc at) n

-- the first of the places from `from` to n that pass, or none
abbrev pub FirstPassing : {A : Type 0} → (A → Bool) → (ℕ → A) → ℕ → ℕ → Option ℕ → Type 0
FirstPassing p f from n r =
    MatchOption r ((k : ℕ) → from ≤ k → k < n → p (f k) ≡ false)
    (λ i. (from ≤ i) × (i < n) × (p (f i) ≡ true) × ((k : ℕ) → from ≤ k → k < i → p (f k) ≡ false))

-- the first block that has an id
abbrev pub FirstBlock : ℕ → List ℕ → Option ℕ → Type 0
FirstBlock id w r = FirstPassing (λ b. any_in id w (block_ids * b) block_ids) (λ b. b) 0 blocks r
