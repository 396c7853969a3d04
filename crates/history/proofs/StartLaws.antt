-- The openings that the tally starts from are the live cursors of the session. Assumes nothing.
use Rattle.prelude.proofs.Basics.{ℕ, zero, suc, ◌+◌, ◌≤◌, arith, Bool, true, false, cond, false≢true, ◌≡◌, refl, ap}
use Rattle.prelude.proofs.Basics.{◌∙◌}
use Rattle.session.specs.declared.Cursor.{Cursor}
use Rattle.session.specs.Session.{Session, flag}
use Rattle.session.specs.Lists.{All, sum_by}
use Rattle.session.specs.Entry.{new_cursor, is_live_cursor}
use Rattle.session.specs.Sound.{ProperCursor, Sound}
use Rattle.session.proofs.SumLaws.{sum_map}
use Rattle.history.specs.Tally.{kept}
use Rattle.history.specs.Start.{opening_of, start_of, StartsEmpty, Continues, StartsAtCursors}
use Rattle.history.specs.History.{Proper}
use Rattle.history.proofs.ListLaws.{sum_kept, sum_all, all_kept, all_map, all_imp}
use Rattle.history.proofs.OpeningLaws.{nothing_sent}
use Rattle.history.proofs.TableLaws.{Weight, weigh, table, as_cursor, openings}

pub starts_empty : StartsEmpty
unfolding kept
starts_empty = refl

-- ---- a live cursor

continues : (c : Cursor) → ProperCursor c → Continues c
continues c p = record { from = refl; to = omega (arith, p.within) }

flag_one : (n : ℕ) → n ≤ 1 → flag n ≡ true → 1 ≡ n
flag_one zero h e = absurd (false≢true e)
flag_one (suc n) h e = omega arith

-- its opening is the cursor again: none of the rows left is sent, and its flag is 1
is_cursor_lem : (c : Cursor) → ProperCursor c → is_live_cursor c ≡ true → as_cursor (opening_of c) ≡ c
unfolding sum_by
is_cursor_lem c p e =
    let none : c.sent + 0 ≡ c.sent = omega arith in
    ap (λ (n : ℕ). new_cursor c.id c.stmt n (c.sent + 0)) (continues c p).to
    ∙ ap (new_cursor c.id c.stmt c.rows) none
    ∙ ap (λ (n : ℕ). record { id = c.id; stmt = c.stmt; rows = c.rows; sent = c.sent; live = n })
    (flag_one c.live p.flagged e)

-- ---- the whole table

pub start_weighs : (s : Session) → Sound s → (w : Weight) → openings w (start_of s).live ≡ table w s.cursors
start_weighs s h w =
    sum_map (λ o. w (as_cursor o)) opening_of (kept is_live_cursor s.cursors)
    ∙ sum_kept is_live_cursor (λ c. w (as_cursor (opening_of c))) s.cursors
    ∙ sum_all ProperCursor (λ c. cond (is_live_cursor c) (w (as_cursor (opening_of c))) 0) (weigh w) each s.cursors
    h.cursors_proper
  where
    each : (c : Cursor) → ProperCursor c → cond (is_live_cursor c) (w (as_cursor (opening_of c))) 0 ≡ weigh w c
    each c p = go (is_live_cursor c) (is_cursor_lem c p)
      where
        go : (b : Bool) → (b ≡ true → as_cursor (opening_of c) ≡ c) →
            cond b (w (as_cursor (opening_of c))) 0 ≡ cond b (w c) 0
        go true e = ap w (e refl)
        go false e = refl

live_proper : (s : Session) → Sound s → All ProperCursor (kept is_live_cursor s.cursors)
live_proper s h = all_kept ProperCursor is_live_cursor s.cursors h.cursors_proper

pub start_proper : (s : Session) → Sound s → All Proper (start_of s).live
start_proper s h =
    all_map ProperCursor Proper opening_of (λ c p. nothing_sent _ _ _ _) (kept is_live_cursor s.cursors)
    (live_proper s h)

pub starts_at_cursors : StartsAtCursors
unfolding sum_by
starts_at_cursors s h =
    record {
      each = all_imp ProperCursor Continues continues (kept is_live_cursor s.cursors) (live_proper s h);
      total =
          omega (
            arith,
            sum_map (λ o. o.rows) opening_of (kept is_live_cursor s.cursors),
            sum_kept is_live_cursor (λ c. (opening_of c).rows) s.cursors,
          );
    }
