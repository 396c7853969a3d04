-- Every operation keeps a session sound. Assumes nothing.
use Rattle.prelude.proofs.Basics.{ℕ, ◌+◌, ◌≤◌, arith, le_trans, Bool, true, false, not, ◌&&◌, true≢false, false≢true}
use Rattle.prelude.proofs.Basics.{◌≡◌, refl, sym, ap, subst, ◌∙◌, List, length, get_or, set, eqb, eq-eqb, eqb-true}
use Rattle.prelude.proofs.Basics.{Option, Some, None}
use lib.ListN.{length-map, length-replicate}
use Rattle.session.proofs.Names.{put, entry_at, changed, how_many, Session, with_stmts, with_cursors, with_closed}
use Rattle.session.proofs.Names.{no_stmt, no_cursor, new_stmt, is_live_stmt, is_live_cursor, is_stmt, max_stmts}
use Rattle.session.proofs.Names.{max_cursors, fresh, ended_by, reset, max_number, Cursor, Stmt}
use Rattle.session.specs.Session.{is_closed}
use Rattle.session.specs.Lists.{always}
use Rattle.session.specs.Entry.{new_cursor, is_cursor, on_stmt, raise}
use Rattle.session.specs.Tables.{stmt_at, cursor_on, stmt_place, cursor_place, stmt_count, cursor_count, live_stmt}
use Rattle.session.specs.Tables.{carried, ends, ended, ended_on, prepared, freed, opened, fetched, closed_now}
use Rattle.session.specs.Sound.{max_placeholders, ProperStmt, ProperCursor, Sound, Openable}
use Rattle.session.proofs.OnceLaws.{first_changed}
use Rattle.session.proofs.PlaceLaws.{found, none_from}
use Rattle.session.proofs.SumLaws.{one, sum_le, sum_add, sum_set, sum_put_le, length_put, sum_replicate}
use Rattle.session.proofs.SumLaws.{count_le, counted, sum_changed_le, sum_changed_same, sum_changed_none}
use Rattle.session.proofs.SumLaws.{all_changed, all_put, all_replicate, and_true, has_other, put_more, put_once}
use Rattle.session.proofs.SumLaws.{no_place_full, full_no_place}

empty_stmt : ProperStmt no_stmt
empty_stmt = record { empty = λ e. refl; flagged = omega arith; id = omega arith; placeholders = omega arith }

empty_cursor : ProperCursor no_cursor
empty_cursor =
    record {
      empty = λ e. refl;
      flagged = omega arith;
      id = omega arith;
      stmt = omega arith;
      rows = omega arith;
      within = omega arith;
    }

-- a test that the empty cursor fails passes no more cursors after an ending
ends_less : (p q : Cursor → Bool) → q no_cursor ≡ false → (cs : List Cursor) → how_many q (ends p cs) ≤ how_many q cs
ends_less p q e cs =
    sum_changed_le p (λ c. no_cursor) (λ c. one (q c)) (λ c h. omega (arith, ap one e)) cs

pub fresh_sound : Sound fresh
fresh_sound =
    record {
      stmt_places = length-replicate max_stmts no_stmt;
      cursor_places = length-replicate max_cursors no_cursor;
      stmts_proper = all_replicate ProperStmt max_stmts no_stmt empty_stmt;
      cursors_proper = all_replicate ProperCursor max_cursors no_cursor empty_cursor;
      stmt_once = λ k. omega (arith, sum_replicate (λ t. one (is_stmt k t)) max_stmts no_stmt refl);
      cursor_once = λ k. omega (arith, sum_replicate (λ c. one (is_cursor k c)) max_cursors no_cursor refl);
      carries = λ k. omega (arith, sum_replicate (λ c. one (on_stmt k c)) max_cursors no_cursor refl);
      unused = refl;
      flagged = omega arith;
      shut = λ e. absurd (false≢true e);
    }

-- a live cursor on a statement has an id, or another one
own_or_other : (a b e : Bool) → one (a && b) ≤ one (a && e) + one (a && b && not e)
own_or_other false b e = omega arith
own_or_other true false e = omega arith
own_or_other true true true = omega arith
own_or_other true true false = omega arith

new_own : (b e : Bool) → e ≡ true → b && not e ≡ false
new_own true e h = ap not h
new_own false e h = refl

-- the live entry of an id is counted
pub stmt_live : (s : Session) (id : ℕ) → is_live_stmt (live_stmt s id) ≡ true → 1 ≤ how_many (is_stmt id) s.stmts
stmt_live s id e = go (stmt_at s id) refl
  where
    go : (x : Option ℕ) → stmt_at s id ≡ x → 1 ≤ how_many (is_stmt id) s.stmts
    go (Some i) h = counted (is_stmt id) no_stmt s.stmts i (found (is_stmt id) no_stmt s.stmts i h)
    go None h = absurd (false≢true (sym (ap (λ x. is_live_stmt (entry_at s.stmts x no_stmt)) h) ∙ e))

-- a table has no place for an id exactly where it is full and the id is not among its live ones
pub stmts_full_lem : (s : Session) (id : ℕ) → stmt_place s id ≡ None →
    (how_many (is_stmt id) s.stmts ≡ 0) × (stmt_count s ≡ length s.stmts)
stmts_full_lem s id = no_place_full is_live_stmt (λ t. t.id) s.stmts id

pub full_stmts : (s : Session) (id : ℕ) → how_many (is_stmt id) s.stmts ≡ 0 → stmt_count s ≡ length s.stmts →
    stmt_place s id ≡ None
full_stmts s id = full_no_place is_live_stmt (λ t. t.id) s.stmts id

pub cursors_full_lem : (s : Session) (id : ℕ) → cursor_place s id ≡ None →
    (how_many (is_cursor id) s.cursors ≡ 0) × (cursor_count s ≡ length s.cursors)
cursors_full_lem s id = no_place_full is_live_cursor (λ c. c.id) s.cursors id

pub full_cursors : (s : Session) (id : ℕ) → how_many (is_cursor id) s.cursors ≡ 0 →
    cursor_count s ≡ length s.cursors → cursor_place s id ≡ None
full_cursors s id = full_no_place is_live_cursor (λ c. c.id) s.cursors id

-- the numbers of a cursor that is opened
pub record Small (id stmt rows : ℕ) : Type 0 where
  pub id_small : id ≤ max_number
  pub stmt_small : stmt ≤ max_number
  pub rows_small : rows ≤ max_number

-- an ending leaves no cursor that passes
pub none_on : (s : Session) (stmt : ℕ) → how_many (on_stmt stmt) (ends (on_stmt stmt) s.cursors) ≡ 0
none_on s stmt =
    sum_changed_none (on_stmt stmt) (λ c. no_cursor) (λ c. one (on_stmt stmt c)) (λ c h. refl) (λ c h. ap one h)
    s.cursors

module _ {s : Session} (sound : Sound s) where
  -- any ending
  pub ended_by_sound : (p : Cursor → Bool) → Sound (ended_by p s)
  ended_by_sound p =
      record {
        stmt_places = sound.stmt_places;
        cursor_places = length-map s.cursors _ ∙ sound.cursor_places;
        stmts_proper = sound.stmts_proper;
        cursors_proper = all_changed p (λ c. no_cursor) ProperCursor (λ c e l. empty_cursor) s.cursors
            sound.cursors_proper;
        stmt_once = sound.stmt_once;
        cursor_once = λ k. le_trans (ends_less p (is_cursor k) refl s.cursors) (sound.cursor_once k);
        carries = λ k. le_trans (ends_less p (on_stmt k) refl s.cursors) (sound.carries k);
        unused = sound.unused;
        flagged = sound.flagged;
        shut = λ e. let l = sound.shut e in (l.0, omega (arith, l.1, ends_less p is_live_cursor refl s.cursors));
      }

  pub ended_sound : (id : ℕ) → Sound (ended s id)
  ended_sound id = ended_by_sound (is_cursor id)

  pub ended_on_sound : (stmt : ℕ) → Sound (ended_on s stmt)
  ended_on_sound stmt = ended_by_sound (on_stmt stmt)

  -- a statement is stored in an open session
  module _ (id placeholders : ℕ) (unclosed : is_closed s ≡ false) (few : placeholders ≤ max_placeholders)
      (small : id ≤ max_number) where
    abbrev stored : Stmt
    stored = new_stmt id placeholders

    stored-sound : Sound (with_stmts s (put s.stmts (stmt_place s id) stored))
    stored-sound =
        record {
          stmt_places = length_put s.stmts (stmt_place s id) stored ∙ sound.stmt_places;
          cursor_places = sound.cursor_places;
          stmts_proper =
              all_put ProperStmt stored s.stmts (stmt_place s id)
              (record { empty = λ e. absurd (true≢false e); flagged = omega arith; id = small; placeholders = few })
              sound.stmts_proper;
          cursors_proper = sound.cursors_proper;
          stmt_once = put_once is_live_stmt (λ t. t.id) no_stmt stored refl s.stmts sound.stmt_once;
          cursor_once = sound.cursor_once;
          carries = λ k. le_trans (sound.carries k) (put_more is_live_stmt (λ t. t.id) no_stmt stored refl s.stmts k);
          unused = sound.unused;
          flagged = sound.flagged;
          shut = λ e. absurd (true≢false (sym e ∙ unclosed));
        }

  -- a statement that carries no cursor is freed
  module _ (id : ℕ) (none : how_many (on_stmt id) s.cursors ≡ 0) where
    abbrev left : List Stmt
    left = changed (is_stmt id) (λ t. no_stmt) s.stmts

    fewer : (q : Stmt → Bool) → q no_stmt ≡ false → how_many q left ≤ how_many q s.stmts
    fewer q e = sum_changed_le (is_stmt id) (λ t. no_stmt) (λ t. one (q t)) (λ t h. omega (arith, ap one e)) s.stmts

    still-carried : (k : ℕ) (b : Bool) → eqb id k ≡ b → how_many (on_stmt k) s.cursors ≤ how_many (is_stmt k) left
    still-carried k true e =
        let z : id ≡ k = eqb-true id k e in
        omega (arith, ap (λ (n : ℕ). how_many (on_stmt n) s.cursors) z)
    still-carried k false e =
        let kept : how_many (is_stmt k) left ≡ how_many (is_stmt k) s.stmts =
        sum_changed_same (is_stmt id) (λ t. no_stmt) (λ t. one (is_stmt k t))
        (λ t h. ap one (sym (has_other is_live_stmt (λ t. t.id) t id k h e))) s.stmts in
        omega (arith, sound.carries k)

    freed-sound-on : Sound (with_stmts s left)
    freed-sound-on =
        record {
          stmt_places = length-map s.stmts _ ∙ sound.stmt_places;
          cursor_places = sound.cursor_places;
          stmts_proper = all_changed (is_stmt id) (λ t. no_stmt) ProperStmt (λ t e l. empty_stmt) s.stmts
              sound.stmts_proper;
          cursors_proper = sound.cursors_proper;
          stmt_once = λ k. le_trans (fewer (is_stmt k) refl) (sound.stmt_once k);
          cursor_once = sound.cursor_once;
          carries = λ k. still-carried k (eqb id k) refl;
          unused = sound.unused;
          flagged = sound.flagged;
          shut = λ e. let l = sound.shut e in (omega (arith, l.0, fewer is_live_stmt refl), l.1);
        }

  -- the freed statement is the only one of its id
  pub freed_as : (id : ℕ) → put s.stmts (stmt_at s id) no_stmt ≡ changed (is_stmt id) (λ t. no_stmt) s.stmts
  freed_as id = first_changed (is_stmt id) (λ t. no_stmt) no_stmt s.stmts (sound.stmt_once id)

  -- a fetch: the cursor is the only one of its id
  module _ (id count : ℕ) where
    pub fetched_as : fetched s id count ≡ with_cursors s (changed (is_cursor id) (raise count) s.cursors)
    fetched_as =
        ap (with_cursors s) (first_changed (is_cursor id) (raise count) no_cursor s.cursors (sound.cursor_once id))

    raise-proper : (c : Cursor) → is_cursor id c ≡ true → ProperCursor c → ProperCursor (raise count c)
    raise-proper c e l =
        record {
          empty = λ h. absurd (true≢false (sym (and_true (is_live_cursor c) (eqb c.id id) e).0 ∙ h));
          flagged = l.flagged;
          id = l.id;
          stmt = l.stmt;
          rows = l.rows;
          within = omega (arith, l.within);
        }

    same_count : (q : Cursor → Bool) → ((c : Cursor) → q (raise count c) ≡ q c) →
        how_many q (changed (is_cursor id) (raise count) s.cursors) ≡ how_many q s.cursors
    same_count q h = sum_changed_same (is_cursor id) (raise count) (λ c. one (q c)) (λ c e. ap one (h c)) s.cursors

    raised-sound : Sound (with_cursors s (changed (is_cursor id) (raise count) s.cursors))
    raised-sound =
        record {
          stmt_places = sound.stmt_places;
          cursor_places = length-map s.cursors _ ∙ sound.cursor_places;
          stmts_proper = sound.stmts_proper;
          cursors_proper = all_changed (is_cursor id) (raise count) ProperCursor raise-proper s.cursors
              sound.cursors_proper;
          stmt_once = sound.stmt_once;
          cursor_once = λ k. omega (arith, sound.cursor_once k, same_count (is_cursor k) (λ c. refl));
          carries = λ k. omega (arith, sound.carries k, same_count (on_stmt k) (λ c. refl));
          unused = sound.unused;
          flagged = sound.flagged;
          shut = λ e. let l = sound.shut e in (l.0, omega (arith, l.1, same_count is_live_cursor (λ c. refl)));
        }

    pub fetched_sound : Sound (fetched s id count)
    fetched_sound = subst Sound (sym fetched_as) raised-sound

  -- everything ends
  no-stmt : (q : Stmt → Bool) → q no_stmt ≡ false → how_many q (changed always (λ t. no_stmt) s.stmts) ≡ 0
  no-stmt q e = sum_changed_none always (λ t. no_stmt) (λ t. one (q t)) (λ t h. ap one e)
      (λ t h. absurd (true≢false h)) s.stmts

  no-cursor : (q : Cursor → Bool) → q no_cursor ≡ false → how_many q (ends always s.cursors) ≡ 0
  no-cursor q e = sum_changed_none always (λ c. no_cursor) (λ c. one (q c)) (λ c h. ap one e)
      (λ c h. absurd (true≢false h)) s.cursors

  emptied-sound : (closed : ℕ) → closed ≤ 1 → Sound (with_closed (reset s) closed)
  emptied-sound closed h =
      record {
        stmt_places = length-map s.stmts _ ∙ sound.stmt_places;
        cursor_places = length-map s.cursors _ ∙ sound.cursor_places;
        stmts_proper = all_changed always (λ t. no_stmt) ProperStmt (λ t e l. empty_stmt) s.stmts sound.stmts_proper;
        cursors_proper = all_changed always (λ c. no_cursor) ProperCursor (λ c e l. empty_cursor) s.cursors
            sound.cursors_proper;
        stmt_once = λ k. omega (arith, no-stmt (is_stmt k) refl);
        cursor_once = λ k. omega (arith, no-cursor (is_cursor k) refl);
        carries = λ k. omega (arith, no-cursor (on_stmt k) refl);
        unused = refl;
        flagged = h;
        shut = λ e. (no-stmt is_live_stmt refl, no-cursor is_live_cursor refl);
      }

  pub reset_sound : Sound (reset s)
  reset_sound = emptied-sound s.closed sound.flagged

  pub closed_now_sound : Sound (closed_now s)
  closed_now_sound = emptied-sound 1 (omega arith)

  -- a cursor is opened
  module _ (id stmt rows sent : ℕ) (can : Openable s id stmt) (few : sent ≤ rows) (small : Small id stmt rows) where
    abbrev new : Cursor
    new = new_cursor id stmt rows sent

    -- a live cursor on the statement, of another id
    abbrev other : Cursor → Bool
    other c = on_stmt stmt c && not (eqb c.id id)

    other-on : (c : Cursor) → other c ≡ true → on_stmt stmt c ≡ true
    other-on c h = (and_true (on_stmt stmt c) (not (eqb c.id id)) h).0

    -- the statement carries at most one cursor, which has the id
    no_other : how_many other s.cursors ≡ 0
    no_other = go (cursor_on s stmt) refl
      where
        go : (x : Option ℕ) → cursor_on s stmt ≡ x → how_many other s.cursors ≡ 0
        go (Some i) h =
            let l = found (on_stmt stmt) no_cursor s.cursors i h in
            let c : Cursor = get_or s.cursors i no_cursor in
            let it : carried s stmt ≡ c = ap (λ x. entry_at s.cursors x no_cursor) h in
            let alive : is_live_cursor c ≡ true = (and_true (is_live_cursor c) (eqb c.stmt stmt) l.passing).0 in
            let named : c.id ≡ id = sym (ap (λ y. y.id) it) ∙ can.sole (ap is_live_cursor it ∙ alive) in
            let own : other c ≡ false = ap (λ b. b && not (eqb c.id id)) l.passing
            ∙ ap not (eq-eqb c.id id named) in
            omega (
              arith,
              sum_set (λ y. one (on_stmt stmt y)) no_cursor no_cursor s.cursors i l.inside,
              sum_set (λ y. one (other y)) no_cursor no_cursor s.cursors i l.inside,
              count_le other (on_stmt stmt) other-on (set s.cursors i no_cursor),
              ap one l.passing,
              ap one own,
              sound.carries stmt,
              sound.stmt_once stmt,
            )
        go None h =
            omega (arith, none_from (on_stmt stmt) s.cursors 0 h, count_le other (on_stmt stmt) other-on s.cursors)

    abbrev now : List Cursor
    now = put s.cursors (cursor_place s id) new

    once : (k : ℕ) → how_many (is_cursor k) now ≤ 1
    once = put_once is_live_cursor (λ c. c.id) no_cursor new refl s.cursors sound.cursor_once

    one_on : how_many (on_stmt stmt) now ≤ 1
    one_on =
        omega (
          arith,
          sum_le (λ c. one (on_stmt stmt c)) (λ c. one (is_cursor id c) + one (other c))
              (λ c. own_or_other (is_live_cursor c) (eqb c.stmt stmt) (eqb c.id id)) now,
          sum_add (λ c. one (is_cursor id c)) (λ c. one (other c)) now,
          once id,
          sum_put_le (λ c. one (other c)) new s.cursors (cursor_place s id),
          ap one (new_own (eqb stmt stmt) (eqb id id) (eq-eqb id id refl)),
          no_other,
        )

    still-on : (k : ℕ) (b : Bool) → eqb stmt k ≡ b → how_many (on_stmt k) now ≤ how_many (is_stmt k) s.stmts
    still-on k true e =
        subst (λ (n : ℕ). how_many (on_stmt n) now ≤ how_many (is_stmt n) s.stmts) (eqb-true stmt k e)
        (le_trans one_on (stmt_live s stmt can.live))
    still-on k false e =
        omega (
          arith,
          sum_put_le (λ c. one (on_stmt k c)) new s.cursors (cursor_place s id),
          ap one e,
          sound.carries
              k,
        )

    pub opened_sound : Sound (opened s id stmt rows sent)
    opened_sound =
        record {
          stmt_places = sound.stmt_places;
          cursor_places = length_put s.cursors (cursor_place s id) new ∙ sound.cursor_places;
          stmts_proper = sound.stmts_proper;
          cursors_proper =
              all_put ProperCursor new s.cursors (cursor_place s id)
              (record {
                empty = λ e. absurd (true≢false e);
                flagged = omega arith;
                id = small.id_small;
                stmt = small.stmt_small;
                rows = small.rows_small;
                within = few;
              })
              sound.cursors_proper;
          stmt_once = sound.stmt_once;
          cursor_once = once;
          carries = λ k. still-on k (eqb stmt k) refl;
          unused = sound.unused;
          flagged = sound.flagged;
          shut = λ e. absurd (omega (
            arith,
            (sound.shut e).0,
            stmt_live s stmt can.live,
            count_le (is_stmt stmt)
                is_live_stmt (λ t h. (and_true (is_live_stmt t) (eqb t.id stmt) h).0) s.stmts,
          ));
        }

module _ {s : Session} (sound : Sound s) where
  pub prepared_sound : (id placeholders : ℕ) → is_closed s ≡ false → placeholders ≤ max_placeholders → id ≤ max_number →
      Sound (prepared s id placeholders)
  prepared_sound id placeholders h few small = stored-sound (ended_on_sound sound id) id placeholders h few small

  pub freed_sound : (id : ℕ) → Sound (freed s id)
  freed_sound id =
      subst (λ ts. Sound (with_stmts (ended_on s id) ts)) (sym (freed_as sound id))
      (freed-sound-on (ended_on_sound sound id) id (none_on s id))
