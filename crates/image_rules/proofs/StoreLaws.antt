-- A session that takes an entry of an image stays sound and lists it behind the others. Assumes nothing.
use Rattle.prelude.proofs.Basics.{is_none, is_some}
use Rattle.prelude.proofs.Basics.{ℕ, zero, suc, ◌+◌, ◌≤◌, ◌<◌, arith, zero-add, Bool, true, false, ◌&&◌}
use Rattle.prelude.proofs.Basics.{true≢false, false≢true, ◌≡◌, refl, sym, ap, ◌∙◌, List, [], ◌∷◌, ◌++◌}
use Rattle.prelude.proofs.Basics.{append-nil, append_assoc, map, length, get_or, set, length-set, Option, Some, None}
use Rattle.prelude.proofs.Basics.{get_or-set_other, eqb, leb, ltb, eq-eqb, eqb-true, leb-true, ltb-true, le-leb, lt-ltb}
use Rattle.session.specs.declared.Stmt.{Stmt}
use Rattle.session.specs.declared.Cursor.{Cursor}
use Rattle.session.specs.Session.{Session, is_closed}
use Rattle.session.specs.Lists.{All, first, sum_by, how_many}
use Rattle.session.specs.Entry.{no_stmt, no_cursor, new_stmt, new_cursor, is_live_stmt, is_live_cursor, is_stmt, is_cursor}
use Rattle.session.specs.Entry.{on_stmt}
use Rattle.session.specs.Tables.{max_stmts, max_cursors}
use Rattle.session.specs.Sound.{max_number, max_placeholders, ProperStmt, ProperCursor, Sound}
use Rattle.session.proofs.PlaceLaws.{found, none_from, none_back}
use Rattle.session.proofs.SumLaws.{one, sum_set, all_set, and_true, counted, count_le}
use Rattle.image_rules.specs.declared.StmtEntry.{StmtEntry}
use Rattle.image_rules.specs.declared.CursorEntry.{CursorEntry}
use Rattle.image_rules.specs.Listing.{stmt_entry, cursor_entry, stmts_of, cursors_of}
use Rattle.image_rules.specs.Acceptable.{Rising, stmts_with, cursors_with, cursors_on}
use Rattle.image_rules.specs.Restore.{stmt_table, cursor_table}
use Rattle.image_rules.specs.Image.{stmt_numbers, cursor_numbers}
use Rattle.image_rules.proofs.NumberLaws.{Fits}
use Rattle.image_rules.proofs.PlacedLaws.{placed_last}
use Rattle.image_rules.proofs.EntryLaws.{Taken, with_all}

-- ---- a table with a live entry stored at a free place

module _ {A : Type 0} (live : A → Bool) (d : A) (xs : List A) (p : ℕ) (x : A) (within : p < length xs)
    (free : live (get_or xs p d) ≡ false) where
  -- it counts once more under its own number
  pub counts_new : (num : A → ℕ) → live x ≡ true → (k : ℕ) →
      how_many (λ y. live y && eqb (num y) k) (set xs p x)
      ≡ how_many (λ y. live y && eqb (num y) k) xs + one (eqb (num x) k)
  counts_new num lives k =
      omega (
        arith,
        sum_set (λ y. one (live y && eqb (num y) k)) x d xs p within,
        ap (λ b. one (b && eqb (num (get_or xs p d)) k)) free,
        ap (λ b. one (b && eqb (num x) k)) lives,
      )

  -- and what is behind it stays free
  pub free_behind : (next : ℕ) → next ≤ p → ((i : ℕ) → next ≤ i → live (get_or xs i d) ≡ false) →
      (i : ℕ) → suc p ≤ i → live (get_or (set xs p x) i d) ≡ false
  free_behind next h f i g = ap live (get_or-set_other xs p i x d (λ e. omega arith)) ∙ f i (omega arith)

-- no entry is live where none is counted
pub none_live : {A : Type 0} (live : A → Bool) (d : A) → live d ≡ false → (xs : List A) → how_many live xs ≡ 0 →
    (i : ℕ) → live (get_or xs i d) ≡ false
unfolding sum_by
none_live live d e [] h i = e
none_live live d e (x ∷ xs) h zero = off (live x) (omega arith)
  where
    off : (b : Bool) → one b ≡ 0 → b ≡ false
    off true h = absurd (omega arith)
    off false h = refl
none_live live d e (x ∷ xs) h (suc i) = none_live live d e xs (omega arith) i

-- ---- what a lookup found, by what is counted

module _ {A : Type 0} (p : A → Bool) (xs : List A) where
  none-zero : is_none (first p xs 0) ≡ true → how_many p xs ≡ 0
  none-zero e = go (first p xs 0) refl e
    where
      go : (x : Option ℕ) → first p xs 0 ≡ x → is_none x ≡ true → how_many p xs ≡ 0
      go (Some i) f g = absurd (false≢true g)
      go None f g = none_from p xs 0 f

  pub zero_none : how_many p xs ≡ 0 → is_none (first p xs 0) ≡ true
  zero_none e = ap is_none (none_back p xs 0 e)

  some-found : 1 ≤ how_many p xs → is_some (first p xs 0) ≡ true
  some-found h = go (first p xs 0) refl
    where
      go : (x : Option ℕ) → first p xs 0 ≡ x → is_some x ≡ true
      go (Some i) f = refl
      go None f = absurd (omega (arith, none_from p xs 0 f))

  found_some : (d : A) → is_some (first p xs 0) ≡ true → 1 ≤ how_many p xs
  found_some d e = go (first p xs 0) refl e
    where
      go : (x : Option ℕ) → first p xs 0 ≡ x → is_some x ≡ true → 1 ≤ how_many p xs
      go (Some i) f g = counted p d xs i (found p d xs i f)
      go None f g = absurd (false≢true g)

pub and_both : {a b : Bool} → a ≡ true → b ≡ true → a && b ≡ true
and_both {a} {b} e f = ap (λ (c : Bool). c && b) e ∙ f

-- an entry that is taken has a place of its table
pub stmt_inside : (next : ℕ) (e : StmtEntry) (x : Session) → stmt_table.takes next e x ≡ true → e.place < max_stmts
stmt_inside next e x h =
    let a = and_true _ _ h in
    ltb-true e.place max_stmts (and_true (leb next e.place) (ltb e.place max_stmts) a.0).1

pub cursor_inside : (next : ℕ) (e : CursorEntry) (x : Session) → cursor_table.takes next e x ≡ true →
    e.place < max_cursors
cursor_inside next e x h =
    let a = and_true _ _ h in
    ltb-true e.place max_cursors (and_true (leb next e.place) (ltb e.place max_cursors) a.0).1

-- ---- statements

-- what is asked of a session that takes a statement
pub record TakesStmt (next : ℕ) (e : StmtEntry) (x : Session) : Type 0 where
  pub behind : next ≤ e.place
  pub inside : e.place < max_stmts
  pub small : e.id ≤ max_number
  pub few : e.placeholders ≤ max_placeholders
  pub new : how_many (is_stmt e.id) x.stmts ≡ 0

takes_stmt : (next : ℕ) (e : StmtEntry) (x : Session) → All Fits (stmt_numbers e) → stmt_table.takes next e x ≡ true →
    TakesStmt next e x
unfolding All
takes_stmt next e x fit h =
    let a = and_true _ _ h in
    let r = and_true (leb next e.place) (ltb e.place max_stmts) a.0 in
    let b = and_true _ _ a.1 in
    record {
      behind = leb-true next e.place r.0;
      inside = ltb-true e.place max_stmts r.1;
      small = fit.1.0;
      few = leb-true e.placeholders max_placeholders b.0;
      new = none-zero (is_stmt e.id) x.stmts b.1;
    }

stmt_takes : (next : ℕ) (e : StmtEntry) (x : Session) → TakesStmt next e x → stmt_table.takes next e x ≡ true
stmt_takes next e x h =
    and_both (and_both (le-leb next e.place h.behind) (lt-ltb e.place max_stmts h.inside))
    (and_both (le-leb e.placeholders max_placeholders h.few) (zero_none (is_stmt e.id) x.stmts h.new))

-- a session that has taken all entries below a place
pub record TakingStmts (next : ℕ) (x : Session) : Type 0 where
  pub sound : Sound x
  pub unclosed : is_closed x ≡ false
  pub free : (i : ℕ) → next ≤ i → is_live_stmt (get_or x.stmts i no_stmt) ≡ false

module _ (next : ℕ) (e : StmtEntry) (x : Session) (g : TakingStmts next x) (h : TakesStmt next e x) where
  abbrev new_stmts : List Stmt
  new_stmts = set x.stmts e.place (new_stmt e.id e.placeholders)

  stmt-within : e.place < length x.stmts
  stmt-within = omega (arith, h.inside, g.sound.stmt_places)

  stmt-counts : (k : ℕ) → how_many (is_stmt k) new_stmts ≡ how_many (is_stmt k) x.stmts + one (eqb e.id k)
  stmt-counts k =
      counts_new is_live_stmt no_stmt x.stmts e.place (new_stmt e.id e.placeholders) stmt-within
      (g.free e.place h.behind) (λ t. t.id) refl k

  stmt_once : (k : ℕ) (b : Bool) → eqb e.id k ≡ b → how_many (is_stmt k) new_stmts ≤ 1
  stmt_once k true f =
      let z : e.id ≡ k = eqb-true e.id k f in
      omega (arith, stmt-counts k, ap one f, h.new, ap (λ (n : ℕ). how_many (is_stmt n) x.stmts) z)
  stmt_once k false f = omega (arith, stmt-counts k, ap one f, g.sound.stmt_once k)

  pub stmt_taken : TakingStmts (suc e.place) (stmt_table.taken e x)
  stmt_taken =
      record {
        sound =
            record {
              stmt_places = length-set x.stmts e.place _ ∙ g.sound.stmt_places;
              cursor_places = g.sound.cursor_places;
              stmts_proper =
                  all_set ProperStmt (new_stmt e.id e.placeholders) x.stmts e.place
                  (record {
                    empty = λ f. absurd (true≢false f);
                    flagged = omega arith;
                    id = h.small;
                    placeholders = h.few;
                  })
                  g.sound.stmts_proper;
              cursors_proper = g.sound.cursors_proper;
              stmt_once = λ k. stmt_once k (eqb e.id k) refl;
              cursor_once = g.sound.cursor_once;
              carries = λ k. omega (arith, stmt-counts k, g.sound.carries k);
              unused = g.sound.unused;
              flagged = g.sound.flagged;
              shut = λ f. absurd (true≢false (sym f ∙ g.unclosed));
            };
        unclosed = g.unclosed;
        free =
            free_behind is_live_stmt no_stmt x.stmts e.place (new_stmt e.id e.placeholders) stmt-within
            (g.free e.place h.behind) next h.behind g.free;
      }

  pub stmt_listed : stmts_of (stmt_table.taken e x) ≡ stmts_of x ++ (e ∷ [])
  stmt_listed =
      placed_last is_live_stmt stmt_entry no_stmt (new_stmt e.id e.placeholders) refl 0 x.stmts e.place
      stmt-within (λ i f. g.free i (omega (arith, h.behind)))
      ∙ ap (λ (n : ℕ). stmts_of x ++ (record { place = n; id = e.id; placeholders = e.placeholders } ∷ []))
      (zero-add e.place)

-- what has come of a session that took statements
pub record TookStmts (es : List StmtEntry) (x y : Session) : Type 0 where
  pub sound : Sound y
  pub stmts : stmts_of y ≡ stmts_of x ++ es
  pub cursors : y.cursors ≡ x.cursors
  pub closed : y.closed ≡ x.closed

pub stmts_taken : (es : List StmtEntry) (next : ℕ) (x : Session) → TakingStmts next x →
    All (λ e. All Fits (stmt_numbers e)) es → Taken stmt_table next es x → TookStmts es x (with_all stmt_table es x)
unfolding Taken with_all All
stmts_taken [] next x g fit h =
    record { sound = g.sound; stmts = sym (append-nil (stmts_of x)); cursors = refl; closed = refl }
stmts_taken (e ∷ es) next x g fit h =
    let t = takes_stmt next e x fit.0 h.0 in
    let more = stmts_taken es (suc e.place) (stmt_table.taken e x) (stmt_taken next e x g t) fit.1 h.1 in
    record {
      sound = more.sound;
      stmts =
          more.stmts
          ∙ ap (λ (l : List StmtEntry). l ++ es) (stmt_listed next e x g t)
          ∙ append_assoc (stmts_of x) (e ∷ []) es;
      cursors = more.cursors;
      closed = more.closed;
    }

-- entries that keep the rules are taken
pub record StmtsAhead (next : ℕ) (es : List StmtEntry) (x : Session) : Type 0 where
  pub rising : Rising max_stmts next (map (λ e. e.place) es)
  pub once : (id : ℕ) → how_many (is_stmt id) x.stmts + stmts_with id es ≤ 1
  pub small : All (λ e. (e.id ≤ max_number) × (e.placeholders ≤ max_placeholders)) es

pub stmts_take : (es : List StmtEntry) (next : ℕ) (x : Session) → TakingStmts next x → StmtsAhead next es x →
    Taken stmt_table next es x
unfolding Taken Rising sum_by All
stmts_take [] next x g h = tt
stmts_take (e ∷ es) next x g h = (
  stmt_takes next e x t,
  stmts_take es (suc e.place) (stmt_table.taken e x) (stmt_taken next e x g t)
      (record {
        rising = h.rising.1.1;
        once = λ id. omega (arith, h.once id, stmt-counts next e x g t id);
        small = h.small.1;
      }),
)
  where
    t : TakesStmt next e x
    t =
        record {
          behind = h.rising.0;
          inside = h.rising.1.0;
          small = h.small.0.0;
          few = h.small.0.1;
          new = omega (arith, h.once e.id, ap one (eq-eqb e.id e.id refl));
        }

-- ---- cursors

-- what is asked of a session that takes a cursor
pub record TakesCursor (next : ℕ) (e : CursorEntry) (x : Session) : Type 0 where
  pub behind : next ≤ e.place
  pub inside : e.place < max_cursors
  pub small : e.id ≤ max_number
  pub stmt_small : e.stmt ≤ max_number
  pub rows_small : e.rows ≤ max_number
  pub within : e.sent ≤ e.rows
  pub live : 1 ≤ how_many (is_stmt e.stmt) x.stmts
  pub new : how_many (is_cursor e.id) x.cursors ≡ 0
  pub sole : how_many (on_stmt e.stmt) x.cursors ≡ 0

takes_cursor : (next : ℕ) (e : CursorEntry) (x : Session) → All Fits (cursor_numbers e) →
    cursor_table.takes next e x ≡ true → TakesCursor next e x
unfolding All
takes_cursor next e x fit h =
    let a = and_true _ _ h in
    let r = and_true (leb next e.place) (ltb e.place max_cursors) a.0 in
    let b = and_true _ _ a.1 in
    let c = and_true _ _ b.1 in
    let d = and_true _ _ c.1 in
    record {
      behind = leb-true next e.place r.0;
      inside = ltb-true e.place max_cursors r.1;
      small = fit.1.0;
      stmt_small = fit.1.1.0;
      rows_small = fit.1.1.1.0;
      within = leb-true e.sent e.rows b.0;
      live = found_some (is_stmt e.stmt) x.stmts no_stmt c.0;
      new = none-zero (is_cursor e.id) x.cursors d.0;
      sole = none-zero (on_stmt e.stmt) x.cursors d.1;
    }

cursor_takes : (next : ℕ) (e : CursorEntry) (x : Session) → TakesCursor next e x → cursor_table.takes next e x ≡ true
cursor_takes next e x h =
    and_both (and_both (le-leb next e.place h.behind) (lt-ltb e.place max_cursors h.inside))
    (and_both (le-leb e.sent e.rows h.within)
    (and_both (some-found (is_stmt e.stmt) x.stmts h.live)
    (and_both (zero_none (is_cursor e.id) x.cursors h.new)
    (zero_none (on_stmt e.stmt) x.cursors h.sole))))

pub record TakingCursors (next : ℕ) (x : Session) : Type 0 where
  pub sound : Sound x
  pub free : (i : ℕ) → next ≤ i → is_live_cursor (get_or x.cursors i no_cursor) ≡ false

module _ (next : ℕ) (e : CursorEntry) (x : Session) (g : TakingCursors next x) (h : TakesCursor next e x) where
  abbrev new : Cursor
  new = new_cursor e.id e.stmt e.rows e.sent

  abbrev new_cursors : List Cursor
  new_cursors = set x.cursors e.place new

  cursor-within : e.place < length x.cursors
  cursor-within = omega (arith, h.inside, g.sound.cursor_places)

  cursor-counts : (num : Cursor → ℕ) (k : ℕ) →
      how_many (λ c. is_live_cursor c && eqb (num c) k) new_cursors
      ≡ how_many (λ c. is_live_cursor c && eqb (num c) k) x.cursors + one (eqb (num new) k)
  cursor-counts num k =
      counts_new is_live_cursor no_cursor x.cursors e.place new cursor-within (g.free e.place h.behind) num
      refl k

  cursor-once : (k : ℕ) (b : Bool) → eqb e.id k ≡ b → how_many (is_cursor k) new_cursors ≤ 1
  cursor-once k true f =
      let z : e.id ≡ k = eqb-true e.id k f in
      omega (
        arith,
        cursor-counts (λ c. c.id) k,
        ap one f,
        h.new,
        ap (λ (n : ℕ). how_many (is_cursor n) x.cursors) z,
      )
  cursor-once k false f = omega (arith, cursor-counts (λ c. c.id) k, ap one f, g.sound.cursor_once k)

  still-carried : (k : ℕ) (b : Bool) → eqb e.stmt k ≡ b →
      how_many (on_stmt k) new_cursors ≤ how_many (is_stmt k) x.stmts
  still-carried k true f =
      let z : e.stmt ≡ k = eqb-true e.stmt k f in
      omega (
        arith,
        cursor-counts (λ c. c.stmt) k,
        ap one f,
        h.sole,
        h.live,
        ap (λ (n : ℕ). how_many (on_stmt n) x.cursors) z,
        ap (λ (n : ℕ). how_many (is_stmt n) x.stmts) z,
      )
  still-carried k false f = omega (arith, cursor-counts (λ c. c.stmt) k, ap one f, g.sound.carries k)

  -- its statement is live, so the session is not closed
  open-still : is_closed x ≡ true → ⊥
  open-still f =
      omega (
        arith,
        (g.sound.shut f).0,
        h.live,
        count_le (is_stmt e.stmt) is_live_stmt (λ t l. (and_true (is_live_stmt t) (eqb t.id e.stmt) l).0) x.stmts,
      )

  cursor-taken : TakingCursors (suc e.place) (cursor_table.taken e x)
  cursor-taken =
      record {
        sound =
            record {
              stmt_places = g.sound.stmt_places;
              cursor_places = length-set x.cursors e.place _ ∙ g.sound.cursor_places;
              stmts_proper = g.sound.stmts_proper;
              cursors_proper =
                  all_set ProperCursor new x.cursors e.place
                  (record {
                    empty = λ f. absurd (true≢false f);
                    flagged = omega arith;
                    id = h.small;
                    stmt = h.stmt_small;
                    rows = h.rows_small;
                    within = h.within;
                  })
                  g.sound.cursors_proper;
              stmt_once = g.sound.stmt_once;
              cursor_once = λ k. cursor-once k (eqb e.id k) refl;
              carries = λ k. still-carried k (eqb e.stmt k) refl;
              unused = g.sound.unused;
              flagged = g.sound.flagged;
              shut = λ f. absurd (open-still f);
            };
        free =
            free_behind is_live_cursor no_cursor x.cursors e.place new cursor-within
            (g.free e.place h.behind) next h.behind g.free;
      }

  cursor-listed : cursors_of (cursor_table.taken e x) ≡ cursors_of x ++ (e ∷ [])
  cursor-listed =
      placed_last is_live_cursor cursor_entry no_cursor new refl 0 x.cursors e.place cursor-within
      (λ i f. g.free i (omega (arith, h.behind)))
      ∙ ap (λ (n : ℕ). cursors_of x
      ++ (record { place = n; id = e.id; stmt = e.stmt; rows = e.rows; sent = e.sent } ∷ []))
      (zero-add e.place)

-- what has come of a session that took cursors
pub record TookCursors (es : List CursorEntry) (x y : Session) : Type 0 where
  pub sound : Sound y
  pub cursors : cursors_of y ≡ cursors_of x ++ es
  pub stmts : y.stmts ≡ x.stmts
  pub closed : y.closed ≡ x.closed

pub cursors_taken : (es : List CursorEntry) (next : ℕ) (x : Session) → TakingCursors next x →
    All (λ e. All Fits (cursor_numbers e)) es → Taken cursor_table next es x →
    TookCursors es x (with_all cursor_table es x)
unfolding Taken with_all All
cursors_taken [] next x g fit h =
    record { sound = g.sound; cursors = sym (append-nil (cursors_of x)); stmts = refl; closed = refl }
cursors_taken (e ∷ es) next x g fit h =
    let t = takes_cursor next e x fit.0 h.0 in
    let more = cursors_taken es (suc e.place) (cursor_table.taken e x) (cursor-taken next e x g t) fit.1 h.1 in
    record {
      sound = more.sound;
      cursors =
          more.cursors
          ∙ ap (λ (l : List CursorEntry). l ++ es) (cursor-listed next e x g t)
          ∙ append_assoc (cursors_of x) (e ∷ []) es;
      stmts = more.stmts;
      closed = more.closed;
    }

-- entries that keep the rules are taken
pub record CursorsAhead (next : ℕ) (es : List CursorEntry) (x : Session) : Type 0 where
  pub rising : Rising max_cursors next (map (λ e. e.place) es)
  pub once : (id : ℕ) → how_many (is_cursor id) x.cursors + cursors_with id es ≤ 1
  pub upon : (stmt : ℕ) → how_many (on_stmt stmt) x.cursors + cursors_on stmt es ≤ 1
  pub small : All (λ e. (e.id ≤ max_number) × ((e.stmt ≤ max_number) × (e.rows ≤ max_number))) es
  pub within : All (λ e. e.sent ≤ e.rows) es
  pub on_listed : All (λ e. 1 ≤ how_many (is_stmt e.stmt) x.stmts) es

pub cursors_take : (es : List CursorEntry) (next : ℕ) (x : Session) → TakingCursors next x → CursorsAhead next es x →
    Taken cursor_table next es x
unfolding Taken Rising sum_by All
cursors_take [] next x g h = tt
cursors_take (e ∷ es) next x g h = (
  cursor_takes next e x t,
  cursors_take es (suc e.place) (cursor_table.taken e x) (cursor-taken next e x g t)
      (record {
        rising = h.rising.1.1;
        once = λ id. omega (arith, h.once id, cursor-counts next e x g t (λ c. c.id) id);
        upon = λ stmt. omega (arith, h.upon stmt, cursor-counts next e x g t (λ c. c.stmt) stmt);
        small = h.small.1;
        within = h.within.1;
        on_listed = h.on_listed.1;
      }),
)
  where
    t : TakesCursor next e x
    t =
        record {
          behind = h.rising.0;
          inside = h.rising.1.0;
          small = h.small.0.0;
          stmt_small = h.small.0.1.0;
          rows_small = h.small.0.1.1;
          within = h.within.0;
          live = h.on_listed.0;
          new = omega (arith, h.once e.id, ap one (eq-eqb e.id e.id refl));
          sole = omega (arith, h.upon e.stmt, ap one (eq-eqb e.stmt e.stmt refl));
        }
