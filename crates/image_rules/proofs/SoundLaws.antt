-- A sound session lists what keeps the rules of an image, and is determined by what it lists. Assumes nothing.
use Rattle.prelude.proofs.Basics.{ℕ, zero, suc, ◌≤◌, arith, Bool, true, false, ◌&&◌, false≢true}
use Rattle.prelude.proofs.Basics.{◌≡◌, refl, sym, ap, ◌∙◌, List, [], ◌∷◌, eqb, eq-eqb}
use Rattle.session.specs.declared.Stmt.{Stmt}
use Rattle.session.specs.declared.Cursor.{Cursor}
use Rattle.session.specs.Session.{Session, flag, is_closed, with_stmts, with_cursors, with_spare, with_closed}
use Rattle.session.specs.Lists.{All, sum_by, how_many}
use Rattle.session.specs.Entry.{no_stmt, no_cursor, new_stmt, new_cursor, is_live_stmt, is_live_cursor, is_stmt, is_cursor}
use Rattle.session.specs.Entry.{on_stmt}
use Rattle.session.specs.Tables.{max_stmts, max_cursors}
use Rattle.session.specs.Sound.{ProperStmt, ProperCursor, Sound}
use Rattle.session.proofs.SumLaws.{one, one_le}
use Rattle.image_rules.specs.Listing.{stmt_entry, cursor_entry, stmts_of, cursors_of, listing_of}
use Rattle.image_rules.specs.Acceptable.{stmts_with, cursors_with, cursors_on, Rules}
use Rattle.image_rules.proofs.PlacedLaws.{placed_many, placed_all, placed_none, placed_rising, placed_same}

-- ---- the counts of the entries are those of the tables

pub stmts_with_lem : (id : ℕ) (s : Session) → stmts_with id (stmts_of s) ≡ how_many (is_stmt id) s.stmts
stmts_with_lem id s =
    placed_many is_live_stmt stmt_entry (λ e. eqb e.id id) (λ t. eqb t.id id) (λ k t. refl) 0 s.stmts

pub cursors_with_lem : (id : ℕ) (s : Session) → cursors_with id (cursors_of s) ≡ how_many (is_cursor id) s.cursors
cursors_with_lem id s =
    placed_many is_live_cursor cursor_entry (λ e. eqb e.id id) (λ c. eqb c.id id) (λ k c. refl) 0 s.cursors

pub cursors_on_lem : (stmt : ℕ) (s : Session) → cursors_on stmt (cursors_of s) ≡ how_many (on_stmt stmt) s.cursors
cursors_on_lem stmt s =
    placed_many is_live_cursor cursor_entry (λ e. eqb e.stmt stmt) (λ c. eqb c.stmt stmt) (λ k c. refl) 0
    s.cursors

-- each live cursor is counted on its own statement
own_counted : (cs all : List Cursor) → ((k : ℕ) → how_many (on_stmt k) cs ≤ how_many (on_stmt k) all) →
    All (λ c. is_live_cursor c ≡ true → 1 ≤ how_many (on_stmt c.stmt) all) cs
unfolding All sum_by
own_counted [] all h = tt
own_counted (c ∷ cs) all h = (
  λ e.
      let on : on_stmt c.stmt c ≡ true =
      ap (λ b. b && eqb c.stmt c.stmt) e ∙ eq-eqb c.stmt c.stmt refl in
      omega (arith, ap one on, h c.stmt),
  own_counted cs all (λ k. omega (arith, h k)),
)

closed_one : (b : Bool) → one b ≡ 1 → b ≡ true
closed_one true e = refl
closed_one false e = absurd (omega arith)

pub sound_keeps : (s : Session) → Sound s → Rules (listing_of s)
sound_keeps s h =
    record {
      flag = one_le (is_closed s);
      stmt_places =
          placed_rising is_live_stmt stmt_entry (λ e. e.place) (λ k t. refl) max_stmts 0 s.stmts
          (omega (arith, h.stmt_places));
      cursor_places =
          placed_rising is_live_cursor cursor_entry (λ e. e.place) (λ k c. refl) max_cursors 0 s.cursors
          (omega (arith, h.cursor_places));
      stmt_ids = λ id. omega (arith, stmts_with_lem id s, h.stmt_once id);
      cursor_ids = λ id. omega (arith, cursors_with_lem id s, h.cursor_once id);
      stmts_small =
          placed_all is_live_stmt stmt_entry ProperStmt _ (λ k t e p. (p.id, p.placeholders)) 0 s.stmts
          h.stmts_proper;
      cursors_small =
          placed_all is_live_cursor cursor_entry ProperCursor _ (λ k c e p. (p.id, (p.stmt, p.rows))) 0 s.cursors
          h.cursors_proper;
      on_listed =
          placed_all is_live_cursor cursor_entry
          (λ c. is_live_cursor c ≡ true → 1 ≤ how_many (on_stmt c.stmt) s.cursors) _
          (λ k c e p. omega (arith, p e, h.carries c.stmt, stmts_with_lem c.stmt s)) 0 s.cursors
          (own_counted s.cursors s.cursors (λ k. omega arith));
      not_two = λ stmt. omega (arith, cursors_on_lem stmt s, h.carries stmt, h.stmt_once stmt);
      within =
          placed_all is_live_cursor cursor_entry ProperCursor _ (λ k c e p. p.within) 0 s.cursors
          h.cursors_proper;
      shut = λ e.
          let l = h.shut (closed_one (is_closed s) e) in (
            placed_none is_live_stmt stmt_entry 0 s.stmts l.0,
            placed_none is_live_cursor cursor_entry 0 s.cursors l.1,
          );
    }

-- ---- two sound sessions with the same listing are one

live_one : (n : ℕ) → flag n ≡ true → n ≤ 1 → 1 ≡ n
live_one zero e h = absurd (false≢true e)
live_one (suc n) e h = omega arith

pub flag_one : (n : ℕ) → n ≤ 1 → one (flag n) ≡ n
flag_one zero h = refl
flag_one (suc zero) h = refl
flag_one (suc (suc n)) h = absurd (omega arith)

stmt_own : (t : Stmt) → ProperStmt t →
    (is_live_stmt t ≡ false → t ≡ no_stmt) × (is_live_stmt t ≡ true → (k : ℕ) → new_stmt t.id t.placeholders ≡ t)
stmt_own t p = (
  p.empty,
  λ e k.
      ap (λ (n : ℕ). record { id = t.id; placeholders = t.placeholders; live = n })
      (live_one t.live e p.flagged),
)

cursor_own : (c : Cursor) → ProperCursor c →
    (is_live_cursor c ≡ false → c ≡ no_cursor)
    × (is_live_cursor c ≡ true → (k : ℕ) → new_cursor c.id c.stmt c.rows c.sent ≡ c)
cursor_own c p = (
  p.empty,
  λ e k.
      ap (λ (n : ℕ). record { id = c.id; stmt = c.stmt; rows = c.rows; sent = c.sent; live = n })
      (live_one c.live e p.flagged),
)

pub all_as : {A : Type 0} (P Q : A → Type 0) → ((x : A) → P x → Q x) → (xs : List A) → All P xs → All Q xs
unfolding All
all_as P Q h [] l = tt
all_as P Q h (x ∷ xs) l = (h x l.0, all_as P Q h xs l.1)

module _ (s s' : Session) (h : Sound s) (h' : Sound s') (e : listing_of s ≡ listing_of s') where
  same-stmts : s.stmts ≡ s'.stmts
  same-stmts =
      placed_same is_live_stmt stmt_entry (λ e. e.place) (λ k t. refl) (λ e. new_stmt e.id e.placeholders) no_stmt
      s.stmts s'.stmts (h.stmt_places ∙ sym h'.stmt_places)
      (all_as ProperStmt _ stmt_own s.stmts h.stmts_proper)
      (all_as ProperStmt _ stmt_own s'.stmts h'.stmts_proper) (ap (λ m. m.stmts) e)

  same-cursors : s.cursors ≡ s'.cursors
  same-cursors =
      placed_same is_live_cursor cursor_entry (λ e. e.place) (λ k c. refl)
      (λ e. new_cursor e.id e.stmt e.rows e.sent) no_cursor
      s.cursors s'.cursors (h.cursor_places ∙ sym h'.cursor_places)
      (all_as ProperCursor _ cursor_own s.cursors h.cursors_proper)
      (all_as ProperCursor _ cursor_own s'.cursors h'.cursors_proper) (ap (λ m. m.cursors) e)

  same-closed : s.closed ≡ s'.closed
  same-closed =
      sym (flag_one s.closed h.flagged) ∙ ap (λ m. m.closed) e ∙ flag_one s'.closed h'.flagged

  pub same_session : s ≡ s'
  same_session =
      ap (with_stmts s) same-stmts
      ∙ ap (with_cursors (with_stmts s s'.stmts)) same-cursors
      ∙ ap (with_spare (with_cursors (with_stmts s s'.stmts) s'.cursors)) (h.unused ∙ sym h'.unused)
      ∙ ap (with_closed (with_spare (with_cursors (with_stmts s s'.stmts) s'.cursors) s'.spare)) same-closed
