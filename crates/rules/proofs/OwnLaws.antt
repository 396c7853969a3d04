-- An id that is live finds its own place, another the lowest free one; what an Open and a Fetch without fetch_rows
-- send. Assumes nothing.
use Rattle.prelude.proofs.Basics.{Option, Some, None}
use Rattle.prelude.proofs.Basics.{Option, Some, None, option_or, is_none}
use Rattle.prelude.proofs.Basics.{ℕ, zero, suc, ◌+◌, ◌<◌, arith, Bool, true, false, not, ◌&&◌, cond, false≢true}
use Rattle.prelude.proofs.Basics.{and-false, ◌≡◌, refl, ap, ◌∙◌, List, [], ◌∷◌, length, get_or, not-false, not-true}
use Rattle.session.specs.declared.Stmt.{Stmt}
use Rattle.session.specs.Tables.{live_cursor}
use Rattle.std.proofs.lemmas.Option.{none-some, same_Some}
use Rattle.rules.proofs.Names.{prepare, open', stmt_of, cursor_of, entry_at, first, no_stmt}
use Rattle.rules.proofs.Names.{no_cursor, is_live_stmt, is_live_cursor, is_stmt, free_stmt, is_cursor, free_cursor}
use Rattle.rules.proofs.Names.{stmt_at, cursor_at, stmt_place, cursor_place, Cursor, found, is_a}
use Rattle.rules.proofs.Names.{open_count, row_count}
use Rattle.rules.specs.Rows.{remaining, fetch_count}
use Rattle.rules.specs.StepRules.{OwnPlace, LowestPlace, SendsUnasked}

-- the place of a live entry is its own
stmt_own : (ts : List Stmt) (own : Option ℕ) → is_live_stmt (entry_at ts own no_stmt) ≡ true → (other : Option ℕ) →
    is_none (option_or own other) ≡ false
stmt_own ts (Some i) e other = refl
stmt_own ts None e other = absurd (false≢true e)

cursor_own : (cs : List Cursor) (own : Option ℕ) → is_live_cursor (entry_at cs own no_cursor) ≡ true → (other : Option ℕ) →
    is_none (option_or own other) ≡ false
cursor_own cs (Some i) e other = refl
cursor_own cs None e other = absurd (false≢true e)

none_full : (b c : Bool) → c ≡ false → (b && c) ≡ false
none_full b c e = ap (λ (x : Bool). b && x) e ∙ and-false b

pub own_place : OwnPlace
own_place s q = (
  λ e. none_full (is_a prepare q) (is_none (stmt_place s (stmt_of q)))
      (stmt_own s.stmts (stmt_at s (stmt_of q)) e (first free_stmt s.stmts 0)),
  λ e.
      none_full (is_a open' q) (is_none (cursor_place s (cursor_of q)))
      (cursor_own s.cursors (cursor_at s (cursor_of q)) e (first free_cursor s.cursors 0)),
)

-- what stands before the first that passes does not pass
module _ {A : Type 0} (p : A → Bool) (d : A) where
  before-first : (xs : List A) (k i j : ℕ) → first p xs k ≡ Some i → k + j < i → p (get_or xs j d) ≡ false
  unfolding first
  before-first [] k i j e h = absurd (none-some _ e)
  before-first (x ∷ xs) k i zero e h = go (p x) refl e
    where
      go : (b : Bool) → p x ≡ b → cond b (Some k) (first p xs (suc k)) ≡ Some i → p x ≡ false
      go true f g = absurd (omega (arith, same_Some _ _ g))
      go false f g = f
  before-first (x ∷ xs) k i (suc j) e h = go (p x) (λ g. before-first xs (suc k) i j g (omega arith)) e
    where
      go : (b : Bool) → (first p xs (suc k) ≡ Some i → p (get_or xs j d) ≡ false) →
          cond b (Some k) (first p xs (suc k)) ≡ Some i → p (get_or xs j d) ≡ false
      go true more g = absurd (omega (arith, same_Some _ _ g))
      go false more g = more g

-- where no entry has the id
lowest : {A : Type 0} (p live : A → Bool) (d : A) (xs : List A) (i : ℕ) → first p xs 0 ≡ None →
    option_or (first p xs 0) (first (λ x. not (live x)) xs 0) ≡ Some i →
    (i < length xs) × (live (get_or xs i d) ≡ false) × ((j : ℕ) → j < i → live (get_or xs j d) ≡ true)
lowest p live d xs i none e =
    let f = rw none at e in
    let here = found (λ x. not (live x)) d xs i f in (
      here.inside,
      not-true _ here.passing,
      λ j h. not-false _ (before-first (λ x. not (live x)) d xs 0 i j f (omega arith)),
    )

pub lowest_place : LowestPlace
lowest_place s id i = (
  λ none e. lowest (is_stmt id) is_live_stmt no_stmt s.stmts i none e,
  λ none e. lowest (is_cursor id) is_live_cursor no_cursor s.cursors i none e,
)

open_unasked : (rows : Option ℕ) (reported : ℕ) → rows ≡ None → open_count rows reported ≡ 0
open_unasked rows reported e = rw e (omega arith)

fetch_unasked : (c : Cursor) (rows : Option ℕ) → rows ≡ None → fetch_count c rows ≡ remaining c
fetch_unasked c rows e = rw e (omega arith)

pub sends_unasked : SendsUnasked
unfolding row_count
sends_unasked s r = (
  λ o e. open_unasked o.rows r.rows e,
  λ f e. fetch_unasked (live_cursor s f.cursor)
      f.rows e,
)
