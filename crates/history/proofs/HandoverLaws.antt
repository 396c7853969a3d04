-- What is reached is sound, so its image gives it back. Assumes nothing.
use Rattle.prelude.proofs.Basics.{ℕ, suc, ◌+◌, ◌≤◌, arith, Bool, true, false, cond, ◌≡◌, refl, sym, ap, subst, ◌∙◌}
use Rattle.prelude.proofs.Basics.{List, [], ◌∷◌, map}
use Rattle.session.specs.declared.Cursor.{Cursor}
use Rattle.session.specs.Session.{Session}
use Rattle.session.specs.Entry.{is_live_cursor}
use Rattle.session.specs.Tables.{fresh}
use Rattle.session.specs.Lists.{All}
use Rattle.session.specs.Sound.{Sound}
use Rattle.session.specs.Words.{session_of}
use Rattle.session.proofs.TableLaws.{fresh_sound}
use Rattle.session.proofs.WordLaws.{nothing_lost}
use Rattle.image_rules.specs.declared.CursorEntry.{CursorEntry}
use Rattle.image_rules.specs.Numbers.{bytes_of}
use Rattle.image_rules.specs.Acceptable.{Rules}
use Rattle.image_rules.specs.Listing.{Listing, placed, cursor_entry}
use Rattle.image_rules.specs.Image.{numbers_in}
use Rattle.image_rules.specs.Restore.{Reading, restored_by, reading_of, restore_of}
use Rattle.image_rules.proofs.ImageLaws.{just_these_entries, keeps_rules, round_trips, accepted_sound}
use Rattle.history.specs.Tally.{Tally, kept}
use Rattle.history.specs.Start.{opening_of, start_of}
use Rattle.history.specs.Run.{Input, run, leaves}
use Rattle.history.specs.History.{Kept, state_by}
use Rattle.history.specs.Calls.{state_after}
use Rattle.history.specs.Handover.{Reachable, StepsReach, ReachableKeeps, GivenBack, GoesOn, opening_in}
use Rattle.history.specs.Handover.{start_in, EndsAtReported, Demand3Restored, Demand3RestoredExported, SameWords}
use Rattle.history.specs.Handover.Reachable.{begins, steps, restores}
use Rattle.history.proofs.HistoryLaws.{demand_3_from, sound_from}
use Rattle.history.proofs.CallLaws.{demand_3_exported_from}

-- ---- what is reached

run_reaches : (is : List Input) (s : Session) → Reachable s → Reachable (leaves s (run s is))
unfolding run leaves
run_reaches [] s h = h
run_reaches (i ∷ is) s h = run_reaches is _ (steps i h)

pub steps_reach : StepsReach
steps_reach is = run_reaches is fresh begins

-- a restore leaves what an accepted image gives, or the session as it was
restored_sound : (s : Session) (image : List ℕ) → Sound s → Sound (restore_of s image).session
restored_sound s image h = go (reading_of image) refl
  where
    go : (r : Reading) → reading_of image ≡ r → Sound (restore_of s image).session
    go (Reading.read y end) e = accepted_sound s image (ap (λ r. (restored_by s r).reason) e)
    go Reading.broken e = subst Sound (sym (ap (λ r. (restored_by s r).session) e)) h

step_sound : (s : Session) (i : Input) → Sound s → Sound (leaves s (run s (i ∷ [])))
step_sound s i h = sound_from s h (i ∷ [])

reached_sound : (s : Session) → Reachable s → Sound s
unfolding run leaves
reached_sound s begins = fresh_sound
reached_sound s (steps {s = t} i h) = step_sound t i (reached_sound t h)
reached_sound s (restores {s = t} image h) = restored_sound t image (reached_sound t h)

pub reachable_keeps : ReachableKeeps
reachable_keeps s h = let k = reached_sound s h in record { tables = k; image = keeps_rules s k }

pub given_back : GivenBack
given_back before s h = round_trips before s (reached_sound s h)

pub goes_on_lem : GoesOn
goes_on_lem before s h later = ap (λ r. run r.session later) (given_back before s h)

-- ---- demand 3

listed_openings : (k : ℕ) (cs : List Cursor) →
    map opening_of (kept is_live_cursor cs) ≡ map opening_in (placed is_live_cursor cursor_entry k cs)
unfolding kept placed
listed_openings k [] = refl
listed_openings k (c ∷ cs) = go (is_live_cursor c) (listed_openings (suc k) cs)
  where
    go : (b : Bool) →
        map opening_of (kept is_live_cursor cs) ≡ map opening_in (placed is_live_cursor cursor_entry (suc k) cs) →
        map opening_of (cond b (c ∷ kept is_live_cursor cs) (kept is_live_cursor cs))
        ≡ map opening_in (cond b (cursor_entry k c ∷ placed is_live_cursor cursor_entry (suc k) cs)
        (placed is_live_cursor cursor_entry (suc k) cs))
    go true more = ap (λ os. opening_of c ∷ os) more
    go false more = more

-- the restored session's cursors are those that the image lists
starts_at_image : (before : Session) (m : Listing) → Rules m →
    start_of (restore_of before (bytes_of (numbers_in m))).session ≡ start_in m
starts_at_image before m h =
    ap (λ os. record { live = os; ended = []; strays = 0 })
    (listed_openings 0 _
    ∙ ap (λ x. map opening_in x.cursors) (just_these_entries before m h).entries)

ends_at : (es : List CursorEntry) → All (λ e. e.sent ≤ e.rows) es →
    All (λ e. (opening_in e).first + (opening_in e).rows ≡ e.rows) es
unfolding All
ends_at [] h = tt
ends_at (e ∷ es) h = (omega (arith, h.0), ends_at es h.1)

pub ends_at_reported : EndsAtReported
ends_at_reported m h = ends_at m.cursors h.within

pub demand_3_restored : Demand3Restored
demand_3_restored before m h later =
    let s = (restore_of before (bytes_of (numbers_in m))).session in
    subst (λ (t : Tally). Kept (state_by t s later)) (starts_at_image before m h)
    (demand_3_from s (just_these_entries before m h).sound later)

pub demand_3_restored_exported : Demand3RestoredExported
demand_3_restored_exported words m h reason after r calls called =
    subst (λ (t : Tally). Kept (state_after t after calls))
    (ap start_of r.session ∙ starts_at_image (session_of words) m h)
    (demand_3_exported_from after
    (subst Sound (sym r.session) (just_these_entries (session_of words) m h).sound) calls called)

pub same_words : SameWords
same_words words before long h reason after long' r =
    let g = given_back (session_of before) (session_of words) h in
    record {
      accepted = r.answer ∙ ap (λ x. x.reason) g;
      same = nothing_lost after words long' long (r.session ∙ ap (λ x. x.session) g);
    }
