-- What each request touches: the places that were searched, and the bits of the one test by which it ends cursors.
-- Assumes nothing.
use Rattle.prelude.proofs.Basics.{ℕ, arith, Bool, false, cond, and-false, ◌≡◌, refl, sym, ap, ◌∙◌, List, [], ◌∷◌}
use Rattle.prelude.proofs.Basics.{Option, None}
use mathlib.Core.Bool.{and-true}
use mathlib.Core.Path.{fun_ext}
use Rattle.session.specs.Lists.{mask_of}
use Rattle.rules.specs.Ending.{ends_it}
use Rattle.rules.specs.Inspect.{own_stmt, own_cursor, ends_at, touches_of, touches_in}
use Rattle.rules.proofs.EndingLaws.{on_stmt_lem, of_id}
use Rattle.keeper.proofs.Names.{Execute, Fetch, Frame, Open, Prepare, Request, Session, is_live_cursor, is_cursor}
use Rattle.keeper.proofs.Names.{on_stmt, stmt_at, cursor_at, stmt_place, cursor_place, Cursor, look_of, touches}
use Rattle.keeper.proofs.Names.{Look, Touches}

mask_same : (p q : Cursor → Bool) → ((c : Cursor) → p c ≡ q c) → (cs : List Cursor) → mask_of p cs ≡ mask_of q cs
mask_same p q h cs = ap (λ t. mask_of t cs) (fun_ext h)

mask_none : (p : Cursor → Bool) → ((c : Cursor) → p c ≡ false) → (cs : List Cursor) → 0 ≡ mask_of p cs
unfolding mask_of
mask_none p h [] = refl
mask_none p h (c ∷ cs) = omega (arith, ap (λ b. cond {A = ℕ} b 1 0) (h c), mask_none p h cs)

nowhere : ◌≡◌ {A = Option ℕ} None None
nowhere = refl

-- the two places and the bits, each as it was found
found : {a a' b b' : Option ℕ} {m m' : ℕ} → a ≡ a' → b ≡ b' → m ≡ m' → touches a b m ≡ touches a' b' m'
found {a} {a'} {b} {b'} {m} e f g =
    ap (λ x. touches x b m) e ∙ ap (λ x. touches a' x m) f ∙ ap (λ (n : ℕ). touches a' b' n) g

module _ (s : Session) where
  pub reset_touches : {m : ℕ} → m ≡ mask_of is_live_cursor s.cursors →
      touches None None m ≡ touches_of s Request.Reset
  unfolding own_stmt own_cursor ends_at ends_it
  reset_touches e =
      found nowhere nowhere (e ∙ mask_same is_live_cursor _ (λ c. sym (and-true (is_live_cursor c))) s.cursors)

  pub session_close_touches : touches_of s Request.Reset ≡ touches_of s Request.SessionClose
  unfolding own_stmt own_cursor ends_at ends_it
  session_close_touches = refl

  pub prepare_touches : (p : Prepare) {a : Option ℕ} → a ≡ stmt_place s p.stmt →
      touches a None (mask_of (on_stmt p.stmt) s.cursors) ≡ touches_of s (Request.Prepare p)
  unfolding own_stmt own_cursor ends_at ends_it
  prepare_touches p e = found e nowhere (mask_same (on_stmt p.stmt) _ (on_stmt_lem p.stmt) s.cursors)

  pub execute_touches : (x : Execute) {a : Option ℕ} → a ≡ stmt_at s x.stmt →
      touches a None (mask_of (on_stmt x.stmt) s.cursors) ≡ touches_of s (Request.Execute x)
  unfolding own_stmt own_cursor ends_at ends_it
  execute_touches x e = found e nowhere (mask_same (on_stmt x.stmt) _ (on_stmt_lem x.stmt) s.cursors)

  pub deallocate_touches : (stmt : ℕ) {a : Option ℕ} → a ≡ stmt_at s stmt →
      touches a None (mask_of (on_stmt stmt) s.cursors) ≡ touches_of s (Request.Deallocate stmt)
  unfolding own_stmt own_cursor ends_at ends_it
  deallocate_touches stmt e = found e nowhere (mask_same (on_stmt stmt) _ (on_stmt_lem stmt) s.cursors)

  pub open_touches : (o : Open) {a b : Option ℕ} {m : ℕ} → a ≡ stmt_at s o.execute.stmt →
      b ≡ cursor_place s o.cursor → m ≡ mask_of (is_cursor o.cursor) s.cursors →
      touches a b m ≡ touches_of s (Request.Open o)
  unfolding own_stmt own_cursor ends_at ends_it
  open_touches o e f g = found e f (g ∙ mask_same (is_cursor o.cursor) _ (of_id o.cursor) s.cursors)

  pub close_touches : (cursor : ℕ) {b : Option ℕ} {m : ℕ} → b ≡ cursor_at s cursor →
      m ≡ mask_of (is_cursor cursor) s.cursors → touches None b m ≡ touches_of s (Request.Close cursor)
  unfolding own_stmt own_cursor ends_at ends_it
  close_touches cursor f g = found nowhere f (g ∙ mask_same (is_cursor cursor) _ (of_id cursor) s.cursors)

  pub fetch_touches : (f : Fetch) {b : Option ℕ} → b ≡ cursor_at s f.cursor →
      touches None b 0 ≡ touches_of s (Request.Fetch f)
  unfolding own_stmt own_cursor ends_at ends_it
  fetch_touches f e = found nowhere e (mask_none _ (λ c. and-false (is_live_cursor c)) s.cursors)

-- the request, and the frame, that was matched
pub as_request : (s : Session) (q : Request) {p : Request} {l : Look} {t : Touches} → q ≡ p →
    (l ≡ look_of s (Frame.Good 0 p)) × (t ≡ touches_of s p) → (l ≡ look_of s (Frame.Good 0 q)) × (t ≡ touches_of s q)
as_request s q e g = (g.0 ∙ ap (λ y. look_of s (Frame.Good 0 y)) (sym e), g.1 ∙ ap (touches_of s) (sym e))

pub as_frame : (s : Session) (x : Frame) {y : Frame} {l : Look} {t : Touches} → x ≡ y →
    (l ≡ look_of s y) × (t ≡ touches_in s y) → (l ≡ look_of s x) × (t ≡ touches_in s x)
as_frame s x e g = (g.0 ∙ ap (look_of s) (sym e), g.1 ∙ ap (touches_in s) (sym e))
