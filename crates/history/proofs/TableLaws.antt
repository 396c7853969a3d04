-- What the cursor table weighs after an accepted message, under every weight, and what openings weigh. Assumes nothing.
use Rattle.prelude.proofs.Basics.{ℕ, ◌+◌, ◌≤◌, arith, Bool, true, false, not, ◌&&◌, cond, true≢false, ◌≡◌, refl, sym}
use Rattle.prelude.proofs.Basics.{◌∙◌, List, get_or, set, eqb, not-true, both, Option, Some, None, option_or, is_none}
use Rattle.session.specs.declared.Cursor.{Cursor}
use Rattle.session.specs.Lists.{first, sum_by, how_many, put, changed, change}
use Rattle.session.specs.Entry.{no_cursor, new_cursor, is_live_cursor, is_cursor, free_cursor, raise}
use Rattle.session.specs.Tables.{ends}
use Rattle.session.proofs.PlaceLaws.{Taken, taken}
use Rattle.session.proofs.PlaceLaws.Taken.{own, new}
use Rattle.session.proofs.SumLaws.{sum_same, sum_map, sum_add, sum_set, and_true}
use Rattle.history.specs.Tally.{Opening, sent}
use Rattle.history.proofs.ListLaws.{sum_absent, sum_only}

-- a weight of an entry
abbrev pub Weight : Type 0
Weight = Cursor → ℕ

-- live cursors alone weigh
abbrev pub weigh : Weight → Cursor → ℕ
weigh w c = cond (is_live_cursor c) (w c) 0

abbrev pub table : Weight → List Cursor → ℕ
table w cs = sum_by (weigh w) cs

-- an opening as the cursor that it is in the table, and what openings weigh
abbrev pub as_cursor : Opening → Cursor
as_cursor o = new_cursor o.cursor o.stmt (o.first + o.rows) (o.first + sent o)

abbrev pub openings : Weight → List Opening → ℕ
openings w os = sum_by (λ o. w (as_cursor o)) os

-- nothing where a test of the ids passes; nothing where it does not
abbrev pub off : (ℕ → ℕ → Bool) → Weight → Weight
off p w c = cond (not (p c.id c.stmt)) (w c) 0

abbrev pub on : (ℕ → ℕ → Bool) → Weight → Weight
on p w c = cond (p c.id c.stmt) (w c) 0

-- ---- endings

module _ (p : Cursor → Bool) (q : ℕ → ℕ → Bool) (w : Weight)
    (agree : (c : Cursor) → is_live_cursor c ≡ true → p c ≡ q c.id c.stmt) where
  gone : (c : Cursor) → p c ≡ true → (l : Bool) → is_live_cursor c ≡ l → 0 ≡ weigh (off q w) c
  gone c t true e = rw (e, sym (agree c e) ∙ t)
  gone c t false e = rw e

  stays : (c : Cursor) → p c ≡ false → (l : Bool) → is_live_cursor c ≡ l → weigh w c ≡ weigh (off q w) c
  stays c t true e = rw (e, sym (agree c e) ∙ t)
  stays c t false e = rw e

  ends-one : (c : Cursor) → weigh w (change p (λ c. no_cursor) c) ≡ weigh (off q w) c
  ends-one c =
      both (λ x. weigh w x ≡ weigh (off q w) c) (p c) no_cursor c (λ t. gone c t (is_live_cursor c) refl)
      (λ t. stays c t (is_live_cursor c) refl)

  pub ends_weigh : (cs : List Cursor) → table w (ends p cs) ≡ table (off q w) cs
  ends_weigh cs =
      sum_map (weigh w) (change p (λ c. no_cursor)) cs
      ∙ sum_same (λ c. weigh w (change p (λ c. no_cursor) c)) (weigh (off q w)) ends-one cs

-- ---- an opening

module _ (q : ℕ → ℕ → Bool) (w : Weight) where
  split_one : (c : Cursor) → weigh (off q w) c + weigh (on q w) c ≡ weigh w c
  split_one c = go (is_live_cursor c) (q c.id c.stmt) (w c)
    where
      go : (l b : Bool) (n : ℕ) → cond l (cond (not b) n 0) 0 + cond l (cond b n 0) 0 ≡ cond l n 0
      go true true n = omega arith
      go true false n = omega arith
      go false b n = omega arith

  -- what ends and what does not
  pub split : (cs : List Cursor) → table (off q w) cs + table (on q w) cs ≡ table w cs
  split cs =
      sym (sum_add (weigh (off q w)) (weigh (on q w)) cs)
      ∙ sum_same (λ c. weigh (off q w) c + weigh (on q w) c) (weigh w) split_one cs

-- the cursor of an id is what a test of the ids takes
module _ (q : ℕ → ℕ → Bool) (id : ℕ) (own-id : (k stmt : ℕ) → q k stmt ≡ eqb k id) (w : Weight) where
  pub unless_own : (c : Cursor) → is_cursor id c ≡ false → weigh (on q w) c ≡ 0
  unless_own c e = go (is_live_cursor c) refl (eqb c.id id) (own-id c.id c.stmt) e
    where
      go : (l : Bool) → is_live_cursor c ≡ l → (b : Bool) → q c.id c.stmt ≡ b → (l && b) ≡ false →
          weigh (on q w) c ≡ 0
      go true f true g z = absurd (true≢false z)
      go true f false g z = rw (f, g)
      go false f b g z = rw f

  own-weigh : (c : Cursor) → is_cursor id c ≡ true → weigh (on q w) c ≡ weigh w c
  own-weigh c e = rw (own-id c.id c.stmt, (and_true (is_live_cursor c) (eqb c.id id) e).1)

  module _ (cs : List Cursor) (once : how_many (is_cursor id) cs ≤ 1) (stmt rows sent : ℕ) where
    abbrev opening : Cursor
    opening = new_cursor id stmt rows sent

    open_at : (i : ℕ) → Taken (is_cursor id) free_cursor no_cursor cs i →
        table w (set cs i opening) ≡ table (off q w) cs + w (new_cursor id stmt rows sent)
    open_at i (own l) =
        omega (
          arith,
          sum_set (weigh w) opening no_cursor cs i l.inside,
          sum_only (is_cursor id) (weigh (on q w)) unless_own no_cursor refl cs i once l,
          own-weigh (get_or cs i no_cursor) l.passing,
          split q w cs,
        )
    open_at i (new l none) =
        omega (
          arith,
          sum_set (weigh w) opening no_cursor cs i l.inside,
          sum_absent (is_cursor id) (weigh (on q w)) unless_own cs none,
          free,
          split q w cs,
        )
      where
        free : weigh w (get_or cs i no_cursor) ≡ 0
        free = rw (not-true (is_live_cursor (get_or cs i no_cursor)) l.passing)

    pub open_weigh : (at : Option ℕ) → option_or (first (is_cursor id) cs 0) (first free_cursor cs 0) ≡ at →
        is_none at ≡ false →
        table w (put cs at opening) ≡ table (off q w) cs + w (new_cursor id stmt rows sent)
    open_weigh (Some i) e z = open_at i (taken (is_cursor id) free_cursor no_cursor cs i e)
    open_weigh None e z = absurd (true≢false z)

-- ---- a fetch

-- the cursor of an id sends n rows more, and no more than it has
abbrev pub plus : ℕ → ℕ → Weight → Weight
plus k n w c = cond (eqb c.id k) (w (raise n c)) (w c)

module _ (k n : ℕ) (w : Weight) where
  raise-one : (c : Cursor) → weigh w (change (is_cursor k) (raise n) c) ≡ weigh (plus k n w) c
  raise-one c =
      both (λ y. weigh w y ≡ weigh (plus k n w) c) (is_cursor k c) (raise n c) c
      (λ t. rw (and_true (is_live_cursor c) (eqb c.id k) t).1)
      (λ t. left (is_live_cursor c) refl (eqb c.id k) refl t)
    where
      left : (l : Bool) → is_live_cursor c ≡ l → (b : Bool) → eqb c.id k ≡ b → (l && b) ≡ false →
          weigh w c ≡ weigh (plus k n w) c
      left true e true f t = absurd (true≢false t)
      left true e false f t = rw (e, f)
      left false e b f t = rw e

  pub fetch_weigh : (cs : List Cursor) → table w (changed (is_cursor k) (raise n) cs) ≡ table (plus k n w) cs
  fetch_weigh cs =
      sum_map (weigh w) (change (is_cursor k) (raise n)) cs
      ∙ sum_same (λ c. weigh w (change (is_cursor k) (raise n) c)) (weigh (plus k n w)) raise-one cs
