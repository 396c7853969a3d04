-- Cursors that end, one turn at a time. Assumes nothing.
use Rattle.prelude.proofs.Basics.{ℕ, ◌+◌, ◌-◌, ◌≤◌, ◌<◌, min, arith, add-one, Bool, true, false, cond, ◌≡◌, sym, ap}
use Rattle.prelude.proofs.Basics.{◌∙◌, List, get_or, set, Option}
use Rattle.session.proofs.Names.{entry_at, change, Session, with_cursors, no_cursor, with_sent, max_cursors, ended_by}
use Rattle.session.proofs.Names.{fetched_at, cursor_in, cursors_in, session_of, Cursor}
use Rattle.session.specs.Tables.{stored_cursor}
use Rattle.session.proofs.BuildLaws.{length_build, get_d_build}
use Rattle.session.proofs.LoopLaws.{up_to, up_to_none, up_to_at, up_to_set, up_to_left, up_to_all}

abbrev over : (Cursor → Bool) → Cursor → Cursor
over p = change p (λ c. no_cursor)

-- the cursors before i that pass have ended
pub record Ending (p : Cursor → Bool) (w₀ : List ℕ) (i : ℕ) (w : List ℕ) : Type 0 where
  pub state : session_of w ≡ with_cursors (session_of w₀) (up_to (over p) i (cursors_in w₀))

pub begins : (p : Cursor → Bool) (w : List ℕ) → Ending p w 0 w
begins p w = record { state = ap (with_cursors (session_of w)) (up_to_none (over p) (cursors_in w)) }

module _ {p : Cursor → Bool} {w₀ w : List ℕ} {i : ℕ} (l : Ending p w₀ i w) where
  pub all_ended : max_cursors ≤ i → session_of w ≡ ended_by p (session_of w₀)
  all_ended h =
      let long = length_build (cursor_in w₀) 0 max_cursors in
      l.state ∙ ap (with_cursors (session_of w₀)) (up_to_all (over p) i (cursors_in w₀) (omega (arith, long)))

  module _ (inside : i < max_cursors) where
    abbrev old : Cursor
    old = get_or (cursors_in w₀) i no_cursor

    -- the cursor at i is as it was
    as-was : cursor_in w i ≡ old
    as-was =
        sym (get_d_build (cursor_in w) max_cursors i no_cursor inside)
        ∙ ap (λ s. get_or s.cursors i no_cursor) l.state
        ∙ up_to_at (over p) i (cursors_in w₀) no_cursor

    result : (b : Bool) → p (cursor_in w i) ≡ b → over p old ≡ cond b no_cursor old
    result b e = ap (λ x. cond x no_cursor old) (ap p (sym as-was) ∙ e)

    pub ends_it : (w' : List ℕ) → p (cursor_in w i) ≡ true →
        session_of w' ≡ with_cursors (session_of w) (set (cursors_in w) i no_cursor) → Ending p w₀ (i + 1) w'
    ends_it w' e g =
        record {
          state =
              g
              ∙ ap (λ s. with_cursors s (set s.cursors i no_cursor)) l.state
              ∙ ap (λ c. with_cursors (session_of w₀) (set (up_to (over p) i (cursors_in w₀)) i c)) (sym (result true e))
              ∙ ap (with_cursors (session_of w₀)) (rw add-one (up_to_set (over p) i (cursors_in w₀) no_cursor));
        }

    pub leaves_it : p (cursor_in w i) ≡ false → Ending p w₀ (i + 1) w
    leaves_it e =
        let left = up_to_left (over p) i (cursors_in w₀) no_cursor (result false e) in
        record { state = l.state ∙ ap (with_cursors (session_of w₀)) (rw add-one left) }

-- the number of rows sent is the one that `raise` says
pub raises : (s : Session) (place : Option ℕ) (count n : ℕ) (c : Cursor) → c ≡ entry_at s.cursors place no_cursor →
    n ≡ c.sent + min count (c.rows - c.sent) →
    stored_cursor s place (with_sent (entry_at s.cursors place no_cursor) n) ≡ fetched_at s place count
raises s place count n c e f =
    ap (λ (m : ℕ). stored_cursor s place (with_sent (entry_at s.cursors place no_cursor) m))
    (f ∙ ap (λ x. x.sent + min count (x.rows - x.sent)) e)
