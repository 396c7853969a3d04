-- The rules of specs/InspectRules.antt hold: bits by the list of cursors, places by what a search found, and endings by
-- the list that the tables go by. Assumes nothing.
use Rattle.prelude.proofs.Basics.{Option, Some, None, option_or, unwrap_or, is_none}
use Rattle.prelude.proofs.Basics.{ℕ, zero, suc, ◌+◌, ◌*◌, ◌/◌, ◌%◌, ◌≤◌, ◌<◌, arith, Bool, true, false, not, ◌&&◌, cond}
use Rattle.prelude.proofs.Basics.{true≢false, false≢true, and-false, ◌≡◌, refl, sym, ap, subst, ◌∙◌, List, [], ◌∷◌, map}
use Rattle.prelude.proofs.Basics.{length, get_or, set, eqb, eq-eqb, ne_eqb, not-false}
use mathlib.Core.Bool.{or-false}
use Rattle.protocol.specs.Reason as Reason
use Rattle.message.specs.declared.request.Open.{Open as Opening}
use Rattle.message.specs.declared.request.Fetch.{Fetch as Fetching}
use Rattle.message.specs.declared.request.Request.TheVariants.{Reset, SessionClose, Prepare, Execute, Deallocate, Open}
use Rattle.message.specs.declared.request.Request.TheVariants.{Close, Fetch}
use Rattle.session.specs.Lists.{change, sum_by, mask_of}
use Rattle.session.specs.Entry.{new_stmt}
use Rattle.session.proofs.PlaceLaws.{Passes}
use Rattle.session.proofs.SumLaws.{counted}
use Rattle.rules.proofs.Names.{open', fetch, frame_of, Request, put, entry_at, how_many, first, Session}
use Rattle.rules.proofs.Names.{no_stmt, no_cursor, new_cursor, is_live_stmt, is_live_cursor, is_stmt, free_stmt, is_cursor}
use Rattle.rules.proofs.Names.{free_cursor, raise, stmt_at, cursor_at, cursor_place, Sound, Cursor, found}
use Rattle.rules.proofs.Names.{Taken, taken, one, new, own, is_a, row_count, ends_it, session_after, Report}
use Rattle.rules.specs.Ending.{ends_cursor, cursors_left}
use Rattle.rules.specs.Inspect.{own_stmt, own_cursor, no_stmt_place, no_cursor_place, ends_at}
use Rattle.rules.specs.InspectRules.{bit, stmt_there, cursor_there, BitsTold, SameOpening, EndsAndKeeps, EndsTold}
use Rattle.rules.specs.InspectRules.{Stands, PlacesTold}
use Rattle.rules.proofs.RefusalLaws.{Looked}
use Rattle.rules.proofs.StepLaws.{step_has}
use Rattle.rules.proofs.EndingLaws.{ends_as_listed}
use Rattle.rules.proofs.SendLaws.{good_same}

-- ---- entries at a place

module _ {A : Type 0} (d : A) where
  map-there : (f : A → A) → f d ≡ d → (xs : List A) (i : ℕ) → get_or (map f xs) i d ≡ f (get_or xs i d)
  map-there f e [] i = sym e
  map-there f e (x ∷ xs) zero = refl
  map-there f e (x ∷ xs) (suc i) = map-there f e xs i

  set_there : (xs : List A) (i : ℕ) (x : A) → i < length xs → get_or (set xs i x) i d ≡ x
  set_there [] i x h = absurd (omega arith)
  set_there (y ∷ xs) zero x h = refl
  set_there (y ∷ xs) (suc i) x h = set_there xs i x (omega arith)

  -- an entry was there before, or is the one that was put
  set-has : (P : A → Type 0) (xs : List A) (i j : ℕ) (x : A) → (j ≡ i → P x) → P (get_or xs i d) →
      P (get_or (set xs j x) i d)
  set-has P [] i j x f h = h
  set-has P (y ∷ xs) zero zero x f h = f refl
  set-has P (y ∷ xs) zero (suc j) x f h = h
  set-has P (y ∷ xs) (suc i) zero x f h = h
  set-has P (y ∷ xs) (suc i) (suc j) x f h = set-has P xs i j x (λ e. f (ap suc e)) h

  put_has : (P : A → Type 0) (xs : List A) (i : ℕ) (at : Option ℕ) (x : A) → (at ≡ Some i → P x) → P (get_or xs i d) →
      P (get_or (put xs at x) i d)
  put_has P xs i (Some j) x f h = set-has P xs i j x (λ e. f (ap Some e)) h
  put_has P xs i None x f h = h

  module _ (p : A → Bool) (empty : p d ≡ false) where
    -- an entry that passes stands inside
    inside : (xs : List A) (i : ℕ) → p (get_or xs i d) ≡ true → i < length xs
    inside [] i e = absurd (true≢false (sym e ∙ empty))
    inside (x ∷ xs) zero e = omega arith
    inside (x ∷ xs) (suc i) e = omega (arith, inside xs i e)

    -- the only one that passes is found
    only-from : (xs : List A) (i k : ℕ) → how_many p xs ≤ 1 → p (get_or xs i d) ≡ true → first p xs k ≡ Some (k + i)
    unfolding first sum_by
    only-from [] i k once e = absurd (true≢false (sym e ∙ empty))
    only-from (x ∷ xs) zero k once e = let z : k ≡ k + 0 = omega arith in rw e (ap Some z)
    only-from (x ∷ xs) (suc i) k once e = go (p x) refl (only-from xs i (suc k))
      where
        there : Passes p d xs i
        there = record { inside = inside xs i e; passing = e }

        go : (b : Bool) → p x ≡ b →
            (how_many p xs ≤ 1 → p (get_or xs i d) ≡ true → first p xs (suc k) ≡ Some (suc k + i)) →
            cond b (Some k) (first p xs (suc k)) ≡ Some (k + suc i)
        go true h more = absurd (omega (arith, ap one h, counted p d xs i there))
        go false h more =
            let z : suc k + i ≡ k + suc i = omega arith in
            more (omega (arith, ap one h)) e ∙ ap Some z

    only : (xs : List A) (i : ℕ) → how_many p xs ≤ 1 → p (get_or xs i d) ≡ true → first p xs 0 ≡ Some i
    only xs i once e = let z : 0 + i ≡ i = omega arith in only-from xs i 0 once e ∙ ap Some z

  -- where a search found a live entry, one stands that passes
  stands : (p live : A → Bool) → live d ≡ false → (xs : List A) (n : ℕ) →
      live (entry_at xs (first p xs 0) d) ≡ true → p (get_or xs (unwrap_or (first p xs 0) n) d) ≡ true
  stands p live e xs n h = go (first p xs 0) refl h
    where
      go : (at : Option ℕ) → first p xs 0 ≡ at → live (entry_at xs at d) ≡ true → p (get_or xs (unwrap_or at n) d) ≡ true
      go (Some i) f g = (found p d xs i f).passing
      go None f g = absurd (true≢false (sym g ∙ e))

  -- where an entry was put, it stands
  put-stands : (p free : A → Bool) (x : A) → p x ≡ true → (xs : List A) (n : ℕ) →
      is_none (option_or (first p xs 0) (first free xs 0)) ≡ false →
      p (get_or (put xs (option_or (first p xs 0) (first free xs 0)) x)
      (unwrap_or (option_or (first p xs 0) (first free xs 0)) n) d) ≡ true
  put-stands p free x e xs n h = go (option_or (first p xs 0) (first free xs 0)) refl h
    where
      room : (i : ℕ) → Taken p free d xs i → i < length xs
      room i (own l) = l.inside
      room i (new l none) = l.inside

      go : (at : Option ℕ) → option_or (first p xs 0) (first free xs 0) ≡ at → is_none at ≡ false →
          p (get_or (put xs at x) (unwrap_or at n) d) ≡ true
      go (Some i) f g = ap p (set_there xs i x (room i (taken p free d xs i f))) ∙ e
      go None f g = absurd (true≢false g)

  -- where an entry is put, what was live has its id: it stands at the id's own place, or at a free one
  over-own : (p live free : A → Bool) → ((x : A) → p x ≡ true → live x ≡ p x) →
      ((x : A) → free x ≡ true → live x ≡ p x) → (xs : List A) (n : ℕ) →
      is_none (option_or (first p xs 0) (first free xs 0)) ≡ false →
      let x = get_or xs (unwrap_or (option_or (first p xs 0) (first free xs 0)) n) d in live x ≡ p x
  over-own p live free f g xs n h = go (option_or (first p xs 0) (first free xs 0)) refl h
    where
      there : (i : ℕ) → Taken p free d xs i → live (get_or xs i d) ≡ p (get_or xs i d)
      there i (own l) = f (get_or xs i d) l.passing
      there i (new l none) = g (get_or xs i d) l.passing

      go : (at : Option ℕ) → option_or (first p xs 0) (first free xs 0) ≡ at → is_none at ≡ false →
          live (get_or xs (unwrap_or at n) d) ≡ p (get_or xs (unwrap_or at n) d)
      go (Some i) e k = there i (taken p free d xs i e)
      go None e k = absurd (true≢false k)

-- an entry that passes is live, a free one is not and does not pass
both_hold : (b q : Bool) → b && q ≡ true → b ≡ b && q
both_hold true q e = sym e
both_hold false q e = refl

neither : (b q : Bool) → not b ≡ true → b ≡ b && q
neither true q e = absurd (false≢true e)
neither false q e = refl

-- ---- the bits

no_bit : (i : ℕ) → bit 0 i ≡ false
unfolding bit
no_bit zero = refl
no_bit (suc i) = no_bit i

lowest : (b : Bool) (m : ℕ) → eqb ((cond b 1 0 + 2 * m) % 2) 1 ≡ b
lowest true m = eq-eqb ((1 + 2 * m) % 2) 1 (omega arith)
lowest false m = ne_eqb ((0 + 2 * m) % 2) 1 (λ e. omega arith)

above : (b : Bool) (m : ℕ) → (cond b 1 0 + 2 * m) / 2 ≡ m
above true m = omega arith
above false m = omega arith

bit_there : {A : Type 0} (p : A → Bool) (d : A) → p d ≡ false → (xs : List A) (i : ℕ) →
    bit (mask_of p xs) i ≡ p (get_or xs i d)
unfolding bit mask_of
bit_there p d e [] i = no_bit i ∙ sym e
bit_there p d e (x ∷ xs) zero = lowest (p x) (mask_of p xs)
bit_there p d e (x ∷ xs) (suc i) =
    ap (λ (m : ℕ). bit m i) (above (p x) (mask_of p xs)) ∙ bit_there p d e xs i

pub bits_told : BitsTold
unfolding ends_at
bits_told s q i = bit_there (ends_cursor q) no_cursor refl s.cursors i

-- ---- the endings

left_there : (s : Session) (q : Request) (i : ℕ) →
    get_or (cursors_left s q) i no_cursor ≡ cond (bit (ends_at s q) i) no_cursor (cursor_there s i)
left_there s q i =
    map-there no_cursor (change (ends_cursor q) (λ c. no_cursor)) refl s.cursors i
    ∙ ap (λ b. cond b no_cursor (cursor_there s i)) (sym (bits_told s q i))

-- a request that only ends cursors
only_ends : (s : Session) (q : Request) (after : Session) (i : ℕ) → after.cursors ≡ cursors_left s q →
    is_a open' q ≡ false → is_a fetch q ≡ false → EndsAndKeeps s q after i
only_ends s q after i e opens fetches =
    let there : cursor_there after i ≡ cond (bit (ends_at s q) i) no_cursor (cursor_there s i) =
    ap (λ cs. get_or cs i no_cursor) e ∙ left_there s q i in
    let chosen : (b : Bool) → bit (ends_at s q) i ≡ b → cursor_there after i ≡ cond b no_cursor (cursor_there s i) =
    λ b f. there ∙ ap (λ x. cond x no_cursor (cursor_there s i)) f in
    record {
      ended = λ f _. chosen true f;
      replaced = λ _ f. absurd (true≢false (sym f ∙ opens));
      kept = λ f _. chosen false f;
      others = λ f _. chosen false f;
      fetched = λ f. absurd (true≢false (sym f ∙ fetches));
    }

opens : (s : Session) (o : Opening) (r : Report) (i : ℕ) → Sound s →
    EndsAndKeeps s (Open o) (session_after s (Open o) r) i
unfolding session_after ends_it own_cursor
opens s o r i sound =
    record {
      ended = λ _ f. absurd (true≢false f);
      replaced = λ f _. ap (λ at. option_or at (first free_cursor s.cursors 0)) (own-found f);
      kept = λ _ f. absurd (true≢false f);
      others = λ _ f.
          put_has no_cursor (λ c. c ≡ cursor_there s i) s.cursors i (cursor_place s o.cursor) _
          (λ e. absurd (f e)) refl;
      fetched = λ f. absurd (false≢true f);
    }
  where
    its-id : bit (ends_at s (Open o)) i ≡ true → is_cursor o.cursor (cursor_there s i) ≡ true
    its-id f =
        ap (λ b. is_live_cursor (cursor_there s i) && b) (sym (or-false (eqb (cursor_there s i).id o.cursor)))
        ∙ sym (bits_told s (Open o) i) ∙ f

    own-found : bit (ends_at s (Open o)) i ≡ true → cursor_at s o.cursor ≡ Some i
    own-found f =
        only no_cursor (is_cursor o.cursor) refl s.cursors i (sound.cursor_once o.cursor) (its-id f)

same : (c : Cursor) → SameOpening c c
same c = record { id = refl; stmt = refl; rows = refl; live = refl }

raised : (count : ℕ) (c : Cursor) → SameOpening c (raise count c)
raised count c = record { id = refl; stmt = refl; rows = refl; live = refl }

fetches : (s : Session) (f : Fetching) (r : Report) (i : ℕ) → EndsAndKeeps s (Fetch f) (session_after s (Fetch f) r) i
unfolding session_after ends_it own_cursor
fetches s f r i =
    record {
      ended = λ e _. absurd (true≢false (sym e ∙ bits_told s (Fetch f) i ∙ and-false (is_live_cursor (cursor_there s i))));
      replaced = λ _ e. absurd (false≢true e);
      kept = λ _ e. absurd (true≢false e);
      others = λ _ e.
          put_has no_cursor (λ c. c ≡ cursor_there s i) s.cursors i (cursor_at s f.cursor) _
          (λ at. absurd (e at)) refl;
      fetched = λ _.
          put_has no_cursor (SameOpening (cursor_there s i)) s.cursors i (cursor_at s f.cursor) _
          (λ at. subst (λ place. SameOpening (cursor_there s i) (raise n (entry_at s.cursors place no_cursor))) (sym at)
          (raised n (cursor_there s i)))
          (same (cursor_there s i));
    }
  where
    n : ℕ
    n = row_count s (Fetch f) r

ends_and_keeps : (s : Session) (q : Request) (r : Report) (i : ℕ) → Sound s → EndsAndKeeps s q (session_after s q r) i
ends_and_keeps s Reset r i sound =
    only_ends s Reset (session_after s Reset r) i (ends_as_listed s Reset r sound) refl refl
ends_and_keeps s SessionClose r i sound =
    only_ends s SessionClose (session_after s SessionClose r) i (ends_as_listed s SessionClose r sound) refl refl
ends_and_keeps s (Prepare p) r i sound =
    only_ends s (Prepare p) (session_after s (Prepare p) r) i (ends_as_listed s (Prepare p) r sound) refl refl
ends_and_keeps s (Execute x) r i sound =
    only_ends s (Execute x) (session_after s (Execute x) r) i (ends_as_listed s (Execute x) r sound) refl refl
ends_and_keeps s (Deallocate stmt) r i sound =
    only_ends s (Deallocate stmt) (session_after s (Deallocate stmt) r) i
    (ends_as_listed s (Deallocate stmt) r sound) refl refl
ends_and_keeps s (Open o) r i sound = opens s o r i sound
ends_and_keeps s (Close cursor) r i sound =
    only_ends s (Close cursor) (session_after s (Close cursor) r) i (ends_as_listed s (Close cursor) r sound) refl refl
ends_and_keeps s (Fetch f) r i sound = fetches s f r i

pub ends_told : EndsTold
ends_told s frame r buffer used q sound e =
    step_has (λ y. y.answer.reason ≡ Reason.accepted → (i : ℕ) → EndsAndKeeps s q y.session i) s (frame_of frame) r
    buffer
    (λ _ z. absurd (omega arith))
    (λ used' p _ t _ i.
    subst (λ v. EndsAndKeeps s v (session_after s p r) i) (good_same (sym t.good ∙ e))
    (ends_and_keeps s p r i sound))
    (λ _ some z. absurd (some z))

-- ---- the places

-- a live entry of an id, where a search for it looked
stmt_stands : (s : Session) (id n : ℕ) → not (is_live_stmt (entry_at s.stmts (stmt_at s id) no_stmt)) ≡ false →
    is_stmt id (stmt_there s (unwrap_or (stmt_at s id) n)) ≡ true
stmt_stands s id n h = stands no_stmt (is_stmt id) is_live_stmt refl s.stmts n (not-false _ h)

cursor_stands : (s : Session) (id n : ℕ) → not (is_live_cursor (entry_at s.cursors (cursor_at s id) no_cursor)) ≡ false →
    is_cursor id (cursor_there s (unwrap_or (cursor_at s id) n)) ≡ true
cursor_stands s id n h = stands no_cursor (is_cursor id) is_live_cursor refl s.cursors n (not-false _ h)

standing : (s : Session) (q : Request) (r : Report) → Looked s q → Stands s q (session_after s q r)
unfolding session_after own_stmt own_cursor
standing s Reset r l =
    record {
      stmt = λ e. absurd (false≢true e);
      cursor = λ e. absurd (false≢true e);
      prepared = λ e. absurd (false≢true e);
      opened = λ e. absurd (false≢true e);
      over_stmt = λ e. absurd (false≢true e);
      over_cursor = λ e. absurd (false≢true e);
    }
standing s SessionClose r l =
    record {
      stmt = λ e. absurd (false≢true e);
      cursor = λ e. absurd (false≢true e);
      prepared = λ e. absurd (false≢true e);
      opened = λ e. absurd (false≢true e);
      over_stmt = λ e. absurd (false≢true e);
      over_cursor = λ e. absurd (false≢true e);
    }
standing s (Prepare p) r l =
    record {
      stmt = λ e. absurd (false≢true e);
      cursor = λ e. absurd (false≢true e);
      prepared = λ _.
          put-stands no_stmt (is_stmt p.stmt) free_stmt (new_stmt p.stmt r.placeholders)
          (eq-eqb p.stmt p.stmt refl)
          s.stmts no_stmt_place l.stmt_placed;
      opened = λ e. absurd (false≢true e);
      over_stmt = λ _.
          over-own no_stmt (is_stmt p.stmt) is_live_stmt free_stmt
          (λ t. both_hold (is_live_stmt t) (eqb t.id p.stmt))
          (λ t. neither (is_live_stmt t) (eqb t.id p.stmt)) s.stmts no_stmt_place l.stmt_placed;
      over_cursor = λ e. absurd (false≢true e);
    }
standing s (Execute x) r l =
    record {
      stmt = λ _. stmt_stands s x.stmt no_stmt_place l.stmt_live;
      cursor = λ e. absurd (false≢true e);
      prepared = λ e. absurd (false≢true e);
      opened = λ e. absurd (false≢true e);
      over_stmt = λ e. absurd (false≢true e);
      over_cursor = λ e. absurd (false≢true e);
    }
standing s (Deallocate stmt) r l =
    record {
      stmt = λ _. stmt_stands s (stmt) no_stmt_place l.stmt_live;
      cursor = λ e. absurd (false≢true e);
      prepared = λ e. absurd (false≢true e);
      opened = λ e. absurd (false≢true e);
      over_stmt = λ e. absurd (false≢true e);
      over_cursor = λ e. absurd (false≢true e);
    }
standing s (Open o) r l =
    record {
      stmt = λ _. stmt_stands s o.execute.stmt no_stmt_place l.stmt_live;
      cursor = λ e. absurd (false≢true e);
      prepared = λ e. absurd (false≢true e);
      opened = λ _.
          put-stands no_cursor (is_cursor o.cursor) free_cursor
          (new_cursor o.cursor o.execute.stmt r.rows (row_count s (Open o) r))
          (eq-eqb o.cursor o.cursor refl) s.cursors no_cursor_place l.cursor_placed;
      over_stmt = λ e. absurd (false≢true e);
      over_cursor = λ _.
          over-own no_cursor (is_cursor o.cursor) is_live_cursor free_cursor
          (λ c. both_hold (is_live_cursor c) (eqb c.id o.cursor))
          (λ c. neither (is_live_cursor c) (eqb c.id o.cursor)) s.cursors no_cursor_place l.cursor_placed;
    }
standing s (Close cursor) r l =
    record {
      stmt = λ e. absurd (false≢true e);
      cursor = λ _. cursor_stands s (cursor) no_cursor_place l.cursor_live;
      prepared = λ e. absurd (false≢true e);
      opened = λ e. absurd (false≢true e);
      over_stmt = λ e. absurd (false≢true e);
      over_cursor = λ e. absurd (false≢true e);
    }
standing s (Fetch f) r l =
    record {
      stmt = λ e. absurd (false≢true e);
      cursor = λ _. cursor_stands s f.cursor no_cursor_place l.cursor_live;
      prepared = λ e. absurd (false≢true e);
      opened = λ e. absurd (false≢true e);
      over_stmt = λ e. absurd (false≢true e);
      over_cursor = λ e. absurd (false≢true e);
    }

pub places_told : PlacesTold
places_told s frame r buffer used q e =
    step_has (λ y. y.answer.reason ≡ Reason.accepted → Stands s q y.session) s (frame_of frame) r buffer
    (λ _ z. absurd (omega arith))
    (λ used' p _ t _.
    subst (λ v. Stands s v (session_after s p r)) (good_same (sym t.good ∙ e)) (standing s p r t.look))
    (λ _ some z. absurd (some z))
