-- An entry read and put at a place, inside the table and past it. Assumes nothing.
use Rattle.prelude.proofs.Basics.{Option, Some, None, unwrap_or}
use Rattle.prelude.proofs.Basics.{ℕ, ◌≤◌, ◌<◌, arith, ◌≡◌, refl, sym, ap, ◌∙◌, List, get_or, set}
use native.Mathlib.Nat.{le_refl}
use Rattle.session.proofs.Names.{put, entry_at, no_cursor, with_sent, max_cursors, build, cursor_in, cursors_in}
use Rattle.session.proofs.BuildLaws.{length_build, get_d_build, get_d_past, set_past}

module _ {A : Type 0} (f : ℕ → A) (n : ℕ) where
  -- no place is as one past the end
  past_end : (i : ℕ) (x : A) → n ≤ i → set (build f 0 n) i x ≡ build f 0 n
  past_end i x h = set_past (build f 0 n) i x (omega (arith, length_build f 0 n))

  put-index : (x : A) (place : Option ℕ) → set (build f 0 n) (unwrap_or place n) x ≡ put (build f 0 n) place x
  put-index x (Some i) = refl
  put-index x None = past_end n x (le_refl n)

  read-index : (d : A) (place : Option ℕ) → get_or (build f 0 n) (unwrap_or place n) d ≡ entry_at (build f 0 n) place d
  read-index d (Some i) = refl
  read-index d None = get_d_past f n n d (le_refl n)

  module _ (place : Option ℕ) (i : ℕ) (e : i ≡ unwrap_or place n) where
    pub put_there : (x : A) → set (build f 0 n) i x ≡ put (build f 0 n) place x
    put_there x = ap (λ (k : ℕ). set (build f 0 n) k x) e ∙ put-index x place

    pub put_past : (x : A) → n ≤ i → build f 0 n ≡ put (build f 0 n) place x
    put_past x h = sym (past_end i x h) ∙ put_there x

    pub read_there : (d : A) → i < n → f i ≡ entry_at (build f 0 n) place d
    read_there d h = sym (get_d_build f n i d h) ∙ ap (λ (k : ℕ). get_or (build f 0 n) k d) e ∙ read-index d place

    pub read_past : (d : A) → n ≤ i → d ≡ entry_at (build f 0 n) place d
    read_past d h = sym (get_d_past f n i d h) ∙ ap (λ (k : ℕ). get_or (build f 0 n) k d) e ∙ read-index d place

-- the rows sent of a cursor
pub sent_there : (w : List ℕ) (place : Option ℕ) (i sent : ℕ) → i ≡ unwrap_or place max_cursors → i < max_cursors →
    set (cursors_in w) i (with_sent (cursor_in w i) sent)
    ≡ put (cursors_in w) place (with_sent (entry_at (cursors_in w) place no_cursor) sent)
sent_there w place i sent e h =
    ap (λ c. set (cursors_in w) i (with_sent c sent)) (read_there (cursor_in w) max_cursors place i e no_cursor h)
    ∙ put_there (cursor_in w) max_cursors place i e (with_sent (entry_at (cursors_in w) place no_cursor) sent)
