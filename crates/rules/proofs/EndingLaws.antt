-- The tables go by the list of endings. Assumes nothing.
use Rattle.prelude.proofs.Basics.{ℕ, Bool, true, false, ◌&&◌, ◌||◌, cond, and-false, ◌≡◌, refl, sym, ap, ◌∙◌, List, []}
use Rattle.prelude.proofs.Basics.{◌∷◌, set, eqb, Option, Some, None}
use mathlib.Core.Bool.{and-true, or-false}
use mathlib.Core.Path.{fun_ext}
use Rattle.message.specs.declared.request.Request.TheVariants.{Reset, SessionClose, Prepare, Execute, Deallocate, Open}
use Rattle.message.specs.declared.request.Request.TheVariants.{Close, Fetch}
use Rattle.session.specs.Lists.{All, changed, always}
use Rattle.session.specs.Entry.{on_stmt}
use Rattle.session.specs.Tables.{ends}
use Rattle.session.specs.Sound.{ProperCursor}
use Rattle.session.proofs.SumLaws.{sum_none}
use Rattle.session.proofs.OnceLaws.{none_changed, put_changed}
use Rattle.session.proofs.TableLaws.{fetched_as}
use Rattle.rules.proofs.Names.{put, Session, no_cursor, new_cursor, is_live_cursor, is_cursor, free_cursor, raise}
use Rattle.rules.proofs.Names.{cursor_place, Sound, Cursor, Taken, taken, one, cursors_full_lem, new, own}
use Rattle.rules.proofs.Names.{row_count, ends_it, session_after, Report}
use Rattle.rules.specs.StepRules.{EndsAsListed}

ends_same : (p q : Cursor → Bool) → ((c : Cursor) → p c ≡ q c) → (cs : List Cursor) → ends p cs ≡ ends q cs
ends_same p q h cs = ap (λ t. ends t cs) (fun_ext h)

-- a free place is empty, so that it makes no difference whether it ends
all_end : (cs : List Cursor) → All ProperCursor cs → ends always cs ≡ ends is_live_cursor cs
unfolding All
all_end [] h = refl
all_end (c ∷ cs) h = go (is_live_cursor c) refl (all_end cs h.1)
  where
    go : (b : Bool) → is_live_cursor c ≡ b → ends always cs ≡ ends is_live_cursor cs →
        no_cursor ∷ ends always cs ≡ cond b no_cursor c ∷ ends is_live_cursor cs
    go true e more = ap (λ ds. no_cursor ∷ ds) more
    go false e more = ap (λ d. d ∷ ends always cs) (sym (h.0.empty e)) ∙ ap (λ ds. c ∷ ds) more

or_twice : (b : Bool) → b ≡ (b || false || false)
or_twice true = refl
or_twice false = refl

pub on_stmt_lem : (k : ℕ) (c : Cursor) → on_stmt k c ≡ (is_live_cursor c && (eqb c.stmt k || false || false))
on_stmt_lem k c = ap (λ b. is_live_cursor c && b) (or_twice (eqb c.stmt k))

pub of_id : (k : ℕ) (c : Cursor) → is_cursor k c ≡ (is_live_cursor c && (eqb c.id k || false))
of_id k c = ap (λ b. is_live_cursor c && b) (sym (or-false (eqb c.id k)))

module _ (s : Session) (r : Report) (sound : Sound s) where
  nothing_ends : ends (λ c. is_live_cursor c && false) s.cursors ≡ s.cursors
  nothing_ends =
      none_changed (λ c. is_live_cursor c && false) (λ c. no_cursor) s.cursors
      (sum_none (λ c. one (is_live_cursor c && false)) (λ c. ap one (and-false (is_live_cursor c))) s.cursors)

  opened-listed : (id : ℕ) (at : Option ℕ) → cursor_place s id ≡ at → (c : Cursor) →
      put s.cursors at c ≡ put (ends (is_cursor id) s.cursors) at c
  opened-listed id (Some i) e c = go (taken (is_cursor id) free_cursor no_cursor s.cursors i e)
    where
      go : Taken (is_cursor id) free_cursor no_cursor s.cursors i →
          set s.cursors i c ≡ set (ends (is_cursor id) s.cursors) i c
      go (own l) = sym (put_changed (is_cursor id) (λ c. no_cursor) no_cursor c s.cursors i (sound.cursor_once id) l)
      go (new l none) = ap (λ cs. set cs i c) (sym (none_changed (is_cursor id) (λ c. no_cursor) s.cursors none))
  opened-listed id None e c =
      sym (none_changed (is_cursor id) (λ c. no_cursor) s.cursors (cursors_full_lem s id e).0)

  all_listed : ends always s.cursors ≡ ends (λ c. is_live_cursor c && true) s.cursors
  all_listed = all_end s.cursors sound.cursors_proper
      ∙ ends_same is_live_cursor (λ c. is_live_cursor c && true) (λ c. sym (and-true (is_live_cursor c))) s.cursors

  by-stmt : (k : ℕ) → ends (on_stmt k) s.cursors ≡ ends (λ c. is_live_cursor c && (eqb c.stmt k || false || false))
      s.cursors
  by-stmt k = ends_same (on_stmt k) (λ c. is_live_cursor c && (eqb c.stmt k || false || false)) (on_stmt_lem k) s.cursors

  by-id : (k : ℕ) → ends (is_cursor k) s.cursors ≡ ends (λ c. is_live_cursor c && (eqb c.id k || false)) s.cursors
  by-id k = ends_same (is_cursor k) (λ c. is_live_cursor c && (eqb c.id k || false)) (of_id k) s.cursors

pub ends_as_listed : EndsAsListed
unfolding session_after ends_it
ends_as_listed s Reset r sound = all_listed s r sound
ends_as_listed s SessionClose r sound = all_listed s r sound
ends_as_listed s (Prepare p) r sound = by-stmt s r sound p.stmt
ends_as_listed s (Execute x) r sound = by-stmt s r sound x.stmt
ends_as_listed s (Deallocate stmt) r sound = by-stmt s r sound stmt
ends_as_listed s (Open o) r sound =
    let c = new_cursor o.cursor o.execute.stmt r.rows (row_count s (Open o) r) in
    opened-listed s r sound o.cursor (cursor_place s o.cursor) refl c
    ∙ ap (λ cs. put cs (cursor_place s o.cursor) c) (by-id s r sound o.cursor)
ends_as_listed s (Close cursor) r sound = by-id s r sound cursor
ends_as_listed s (Fetch f) r sound =
    let n = row_count s (Fetch f) r in
    ap (λ x. x.cursors) (fetched_as sound f.cursor n)
    ∙ ap (changed (is_cursor f.cursor) (raise n)) (sym (nothing_ends s r sound))
