-- The session that words hold: read at a place, after a store, and lost by none. Assumes nothing.
use Rattle.prelude.proofs.Basics.{ℕ, ◌+◌, ◌*◌, ◌≤◌, ◌<◌, arith, ◌≡◌, refl, sym, ap, ◌∙◌, List, [], ◌∷◌, map, length}
use Rattle.prelude.proofs.Basics.{set, replicate, List·getD-eq-default, length-set, get_or-set_other, get_or-set_same, sets}
use Rattle.prelude.proofs.Basics.{less_or_not, ◌++◌, drop, get_or-drop, List·getD-append}
use Rattle.std.proofs.lemmas.List.{get_or-append_right}
use lib.ListN.{length-replicate, get_or-replicate}
use lib.Seq.{ext_get_or}
use Rattle.session.proofs.Names.{Session, with_stmts, with_cursors, with_closed, no_stmt, no_cursor, with_sent}
use Rattle.session.proofs.Names.{max_stmts, max_cursors, fresh, reset, closed_at, word_count, build, word, stmt_in}
use Rattle.session.proofs.Names.{cursor_in, cursors_in, session_of, Cursor, Stmt}
use Rattle.session.specs.Tables.{cursor_words, cursor_fields, spare_words, no_spare}
use Rattle.session.specs.Words.{stmt_words, stmt_rows, cursor_rows, spare_in, stmts_in, spares_in, NothingLost}
use Rattle.session.proofs.BuildLaws.{length_build, same_build, set_build, all_build, all_map, build_at}
use Rattle.session.proofs.RowLaws.{stored, stored_sets, sets_before, sets_after, row, same_row, row_words}
use Rattle.session.proofs.RowLaws.{row_here, row_there, rows_same}

-- an entry by its row
abbrev stmt_of : ℕ → List ℕ → Stmt
stmt_of id r = record { id = id; placeholders = word r 0; live = word r 1 }

abbrev cursor_of : List ℕ → Cursor
cursor_of r = record { id = word r 0; stmt = word r 1; rows = word r 2; sent = word r 3; live = word r 4 }

abbrev stmt_at : ℕ → ℕ
stmt_at i = stmt_rows + stmt_words * i

abbrev cursor_at : ℕ → ℕ
cursor_at i = cursor_rows + cursor_words * i

abbrev stmt_row : List ℕ → ℕ → List ℕ
stmt_row w i = row w (stmt_at i) stmt_words

-- the fields of a cursor; its row may be wider
abbrev cursor_row : List ℕ → ℕ → List ℕ
cursor_row w i = row w (cursor_at i) cursor_fields

stmt_in_lem : (w : List ℕ) (i : ℕ) → stmt_in w i ≡ stmt_of (word w i) (stmt_row w i)
unfolding build
stmt_in_lem w i =
    let e : stmt_at i ≡ stmt_at i + 0 = omega arith in
    ap (λ (k : ℕ). record { id = word w i; placeholders = word w k; live = word w (stmt_at i + 1) }) e

cursor_in_lem : (w : List ℕ) (i : ℕ) → cursor_in w i ≡ cursor_of (cursor_row w i)
unfolding build
cursor_in_lem w i =
    let e : cursor_at i ≡ cursor_at i + 0 = omega arith in
    ap
    (λ (k : ℕ).
    record {
      id = word w k;
      stmt = word w (cursor_at i + 1);
      rows = word w (cursor_at i + 2);
      sent = word w (cursor_at i + 3);
      live = word w (cursor_at i + 4);
    })
    e

-- entries whose words are the same
module _ (w w' : List ℕ) where
  same_stmt : (j : ℕ) → word w' j ≡ word w j → stmt_row w' j ≡ stmt_row w j → stmt_in w' j ≡ stmt_in w j
  same_stmt j e f =
      stmt_in_lem w' j
      ∙ ap (λ (n : ℕ). stmt_of n (stmt_row w' j)) e
      ∙ ap (stmt_of (word w j)) f
      ∙ sym (stmt_in_lem w j)

  same-cursor : (j : ℕ) → cursor_row w' j ≡ cursor_row w j → cursor_in w' j ≡ cursor_in w j
  same-cursor j e = cursor_in_lem w' j ∙ ap cursor_of e ∙ sym (cursor_in_lem w j)

  -- tables whose words are the same
  same-stmts : ((k : ℕ) → k < cursor_rows → word w' k ≡ word w k) → stmts_in w' ≡ stmts_in w
  same-stmts h =
      same_build (stmt_in w) (stmt_in w') max_stmts
      (λ j b. same_stmt j (h j (omega arith)) (same_row w w' (stmt_at j) stmt_words (λ k c d. h k (omega arith))))

  same-cursors : ((k : ℕ) → cursor_rows ≤ k → k < closed_at → word w' k ≡ word w k) → cursors_in w' ≡ cursors_in w
  same-cursors h =
      same_build (cursor_in w) (cursor_in w') max_cursors
      (λ j b. same-cursor j (same_row w w' (cursor_at j) cursor_fields (λ k c d. h k (omega arith) (omega arith))))

  same-spares : ((k : ℕ) → cursor_rows ≤ k → k < closed_at → word w' k ≡ word w k) → spares_in w' ≡ spares_in w
  same-spares h =
      same_build (spare_in w) (spare_in w') max_cursors
      (λ j b. same_row w w' (cursor_at j + cursor_fields) spare_words (λ k c d. h k (omega arith) (omega arith)))

-- a session by its parts
abbrev of : List Stmt → List Cursor → List (List ℕ) → ℕ → Session
of ts cs rs b = record { stmts = ts; cursors = cs; spare = rs; closed = b }

by_parts : (w : List ℕ) (ts : List Stmt) (cs : List Cursor) (rs : List (List ℕ)) (b : ℕ) → stmts_in w ≡ ts →
    cursors_in w ≡ cs → spares_in w ≡ rs → word w closed_at ≡ b → session_of w ≡ of ts cs rs b
by_parts w ts cs rs b e f g h =
    ap (λ x. of x (cursors_in w) (spares_in w) (word w closed_at)) e
    ∙ ap (λ x. of ts x (spares_in w) (word w closed_at)) f
    ∙ ap (λ x. of ts cs x (word w closed_at)) g
    ∙ ap (of ts cs rs) h

-- words written within the fields of one cursor
module _ (w : List ℕ) (i : ℕ) (long : length w ≡ word_count) (inside : i < max_cursors) where
  module _ (o : ℕ) (vs : List ℕ) (fits : o + length vs ≤ cursor_fields) where
    abbrev now : List ℕ
    now = sets w (cursor_at i + o) vs

    other-cursor : (j : ℕ) → (j ≡ i → ⊥) → cursor_in now j ≡ cursor_in w j
    other-cursor j n =
        let there = row_there cursor_rows cursor_words i o vs w (omega arith) j n in
        same-cursor w now j
        (same_row w now (cursor_at j) cursor_fields
        (λ k b d. row_words now w (cursor_at j) cursor_words there k b (omega arith)))

    all-spares : spares_in now ≡ spares_in w
    all-spares =
        same_build (spare_in w) (spare_in now) max_cursors
        (λ j h.
        same_row w now (cursor_at j + cursor_fields) spare_words
        (λ k b d.
        less_or_not j i
        (λ l. sets_before vs w (cursor_at i + o) k (omega arith))
        (λ l. sets_after vs w (cursor_at i + o) k (omega arith))))

    row-stored : (c : Cursor) → cursor_of (sets (cursor_row w i) o vs) ≡ c →
        session_of now ≡ with_cursors (session_of w) (set (cursors_in w) i c)
    row-stored c e =
        by_parts now (stmts_in w) (set (cursors_in w) i c) (spares_in w) (word w closed_at)
        (same-stmts w now (λ k h. sets_before vs w (cursor_at i + o) k (omega arith)))
        (set_build (cursor_in w) (cursor_in now) max_cursors i c inside
        (cursor_in_lem now i ∙ ap cursor_of (row_here (cursor_at i) cursor_fields o vs w fits (omega arith)) ∙ e)
        (λ j h n. other-cursor j n))
        all-spares
        (sets_after vs w (cursor_at i + o) closed_at (omega arith))

  -- all fields
  pub cursor_stored : (c : Cursor) →
      session_of (stored w (cursor_at i) c.id (c.stmt ∷ c.rows ∷ c.sent ∷ c.live ∷ []))
      ≡ with_cursors (session_of w) (set (cursors_in w) i c)
  unfolding build
  cursor_stored c =
      let vs = c.stmt ∷ c.rows ∷ c.sent ∷ c.live ∷ [] in
      let e : cursor_at i ≡ cursor_at i + 0 = omega arith in
      ap session_of (stored_sets w (cursor_at i) c.id vs)
      ∙ ap (λ (k : ℕ). session_of (sets w k (c.id ∷ vs))) e
      ∙ row-stored 0 (c.id ∷ vs) (omega arith) c refl

  -- one word of it
  pub sent_stored : (sent : ℕ) →
      session_of (set w (cursor_at i + 3) sent)
      ≡ with_cursors (session_of w) (set (cursors_in w) i (with_sent (cursor_in w i) sent))
  unfolding build
  sent_stored sent =
      row-stored 3 (sent ∷ []) (omega arith) (with_sent (cursor_in w i) sent)
      (ap (λ c. with_sent c sent) (sym (cursor_in_lem w i)))

-- a statement: its id, and its row
module _ (w : List ℕ) (i : ℕ) (t : Stmt) (long : length w ≡ word_count) (inside : i < max_stmts) where
  abbrev named : List ℕ
  named = set w i t.id

  abbrev both : List ℕ
  both = sets named (stmt_at i + 0) (t.placeholders ∷ t.live ∷ [])

  kept-past : (k : ℕ) → cursor_rows ≤ k → word both k ≡ word w k
  kept-past k h =
      sets_after (t.placeholders ∷ t.live ∷ []) named (stmt_at i + 0) k (omega arith)
      ∙ get_or-set_other w i k t.id 0 (λ e. omega arith)

  kept-id : (k : ℕ) → k < stmt_rows → word both k ≡ word named k
  kept-id k h = sets_before (t.placeholders ∷ t.live ∷ []) named (stmt_at i + 0) k (omega arith)

  own : stmt_in both i ≡ t
  unfolding build
  own =
      stmt_in_lem both i
      ∙ ap (λ (n : ℕ). stmt_of n (stmt_row both i)) (kept-id i inside ∙ get_or-set_same w i t.id 0 (omega arith))
      ∙ ap (stmt_of t.id)
      (row_here (stmt_at i) stmt_words 0 (t.placeholders ∷ t.live ∷ []) named (omega arith)
      (omega (arith, length-set w i t.id)))

  other : (j : ℕ) → j < max_stmts → (j ≡ i → ⊥) → stmt_in both j ≡ stmt_in w j
  other j h n =
      same_stmt w both j
      (kept-id j h ∙ get_or-set_other w i j t.id 0 n)
      (row_there stmt_rows stmt_words i 0 (t.placeholders ∷ t.live ∷ []) named (omega arith) j n
      ∙ same_row w named (stmt_at j) stmt_words (λ k b d. get_or-set_other w i k t.id 0 (λ e. omega arith)))

  pub stmt_stored : session_of (stored (set w i t.id) (stmt_at i) t.placeholders (t.live ∷ []))
      ≡ with_stmts (session_of w) (set (stmts_in w) i t)
  stmt_stored =
      let e : stmt_at i ≡ stmt_at i + 0 = omega arith in
      ap session_of (stored_sets named (stmt_at i) t.placeholders (t.live ∷ []))
      ∙ ap (λ (k : ℕ). session_of (sets named k (t.placeholders ∷ t.live ∷ []))) e
      ∙ by_parts both (set (stmts_in w) i t) (cursors_in w) (spares_in w) (word w closed_at)
      (set_build (stmt_in w) (stmt_in both) max_stmts i t inside own other)
      (same-cursors w both (λ k b d. kept-past k b))
      (same-spares w both (λ k b d. kept-past k b))
      (kept-past closed_at (omega arith))

pub closed_stored : (w : List ℕ) (b : ℕ) → length w ≡ word_count →
    session_of (set w closed_at b) ≡ with_closed (session_of w) b
closed_stored w b long =
    by_parts (set w closed_at b) (stmts_in w) (cursors_in w) (spares_in w) b
    (same-stmts w (set w closed_at b) (λ k h. get_or-set_other w closed_at k b 0 (λ e. omega arith)))
    (same-cursors w (set w closed_at b) (λ k h g. get_or-set_other w closed_at k b 0 (λ e. omega arith)))
    (same-spares w (set w closed_at b) (λ k h g. get_or-set_other w closed_at k b 0 (λ e. omega arith)))
    (get_or-set_same w closed_at b 0 (omega arith))

-- words of which those before the flag are 0
module _ (w : List ℕ) (none : (k : ℕ) → k < closed_at → word w k ≡ 0) where
  no-stmts : stmts_in w ≡ replicate max_stmts no_stmt
  no-stmts =
      all_build (stmt_in w) no_stmt 0 max_stmts
      (λ j h. rw (none j (omega arith), none (stmt_at j) (omega arith), none (stmt_at j + 1) (omega arith)) refl)

  no-cursors : cursors_in w ≡ replicate max_cursors no_cursor
  unfolding build
  no-cursors =
      all_build (cursor_in w) no_cursor 0 max_cursors
      (λ j h.
      cursor_in_lem w j
      ∙ ap cursor_of
      (all_build (λ p. word w (cursor_at j + p)) 0 0 cursor_fields (λ p g. none (cursor_at j + p) (omega arith))))

  no-spares : spares_in w ≡ no_spare
  no-spares =
      all_build (spare_in w) (replicate spare_words 0) 0 max_cursors
      (λ j h.
      all_build (λ p. word w (cursor_at j + cursor_fields + p)) 0 0 spare_words
      (λ p g. none (cursor_at j + cursor_fields + p) (omega arith)))

  pub wiped : (w₀ : List ℕ) → word w closed_at ≡ word w₀ closed_at → session_of w ≡ reset (session_of w₀)
  wiped w₀ e = by_parts w _ _ no_spare (word w₀ closed_at) (no-stmts ∙ ts) (no-cursors ∙ cs) no-spares e
    where
      many : {A : Type 0} (x : A) (xs : List A) (n : ℕ) → length xs ≡ n → replicate n x ≡ map (λ (y : A). x) xs
      many x xs n h = ap (λ (m : ℕ). replicate m x) (sym h) ∙ all_map x xs

      ts : replicate max_stmts no_stmt ≡ map (λ (t : Stmt). no_stmt) (stmts_in w₀)
      ts = many no_stmt (stmts_in w₀) max_stmts (length_build (stmt_in w₀) 0 max_stmts)

      cs : replicate max_cursors no_cursor ≡ map (λ (c : Cursor). no_cursor) (cursors_in w₀)
      cs = many no_cursor (cursors_in w₀) max_cursors (length_build (cursor_in w₀) 0 max_cursors)

-- words that are all 0 hold a fresh session
word_zero : (n k : ℕ) → word (replicate n 0) k ≡ 0
word_zero n k =
    less_or_not k n
    (λ h. get_or-replicate n k 0 0 h)
    (λ h. List·getD-eq-default (replicate n 0) 0 (omega (arith, length-replicate {A = ℕ} n 0)))

pub holds_fresh : (n : ℕ) → session_of (replicate n 0) ≡ fresh
holds_fresh n =
    let none : (k : ℕ) → k < closed_at → word (replicate n 0) k ≡ 0 = λ k h. word_zero n k in
    by_parts (replicate n 0) (replicate max_stmts no_stmt) (replicate max_cursors no_cursor) no_spare 0
    (no-stmts (replicate n 0) none)
    (no-cursors (replicate n 0) none)
    (no-spares (replicate n 0) none)
    (word_zero n closed_at)

-- zeros in front of the flag
pub zeros_in_front : (w : List ℕ) → session_of (replicate closed_at 0 ++ drop closed_at w) ≡ reset (session_of w)
zeros_in_front w =
    let zeros : List ℕ = replicate closed_at 0 in
    let long = length-replicate {A = ℕ} closed_at 0 in
    wiped (zeros ++ drop closed_at w)
    (λ k b. List·getD-append zeros (drop closed_at w) 0 k (omega (arith, long)) ∙ get_or-replicate closed_at k 0 0 b)
    w
    (get_or-append_right zeros (drop closed_at w) closed_at closed_at 0 long (omega arith)
    ∙ get_or-drop closed_at w 0 0)

-- a row by its entry
abbrev of_stmt : Stmt → List ℕ
of_stmt t = t.placeholders ∷ t.live ∷ []

abbrev of_cursor : Cursor → List ℕ
of_cursor c = c.id ∷ c.stmt ∷ c.rows ∷ c.sent ∷ c.live ∷ []

stmt_row_lem : (w : List ℕ) (i : ℕ) → stmt_row w i ≡ of_stmt (stmt_in w i)
unfolding build
stmt_row_lem w i = ap of_stmt (sym (stmt_in_lem w i))

cursor_row_lem : (w : List ℕ) (i : ℕ) → cursor_row w i ≡ of_cursor (cursor_in w i)
unfolding build
cursor_row_lem w i = ap of_cursor (sym (cursor_in_lem w i))

module _ (w w' : List ℕ) (same : session_of w ≡ session_of w') where
  stmts-at : (i : ℕ) → i < max_stmts → stmt_in w i ≡ stmt_in w' i
  stmts-at i h = build_at (stmt_in w) (stmt_in w') max_stmts i h (ap (λ s. s.stmts) same)

  cursors-at : (i : ℕ) → i < max_cursors → cursor_in w i ≡ cursor_in w' i
  cursors-at i h = build_at (cursor_in w) (cursor_in w') max_cursors i h (ap (λ s. s.cursors) same)

  stmt-rows : (i : ℕ) → i < max_stmts → stmt_row w i ≡ stmt_row w' i
  stmt-rows i h = stmt_row_lem w i ∙ ap of_stmt (stmts-at i h) ∙ sym (stmt_row_lem w' i)

  spares-at : (i : ℕ) → i < max_cursors → spare_in w i ≡ spare_in w' i
  spares-at i h = build_at (spare_in w) (spare_in w') max_cursors i h (ap (λ s. s.spare) same)

  -- the fields, then what is spare
  cursor_rows_lem : (i : ℕ) → i < max_cursors → row w (cursor_at i) cursor_words ≡ row w' (cursor_at i) cursor_words
  cursor_rows_lem i h =
      let fields = cursor_row_lem w i ∙ ap of_cursor (cursors-at i h) ∙ sym (cursor_row_lem w' i) in
      same_row w' w (cursor_at i) cursor_words
      (λ k b c.
      less_or_not k (cursor_at i + cursor_fields)
      (λ d. row_words w w' (cursor_at i) cursor_fields fields k b d)
      (λ d. row_words w w' (cursor_at i + cursor_fields) spare_words (spares-at i h) k d (omega arith)))

  each_word : (k : ℕ) → k < word_count → word w k ≡ word w' k
  each_word k h =
      less_or_not k stmt_rows (λ b. ap (λ t. t.id) (stmts-at k b))
      (λ b.
      less_or_not k cursor_rows (λ c. rows_same stmt_rows stmt_words max_stmts w w' (omega arith) stmt-rows k b c)
      (λ c.
      less_or_not k closed_at (λ d. rows_same cursor_rows cursor_words max_cursors w w' (omega arith) cursor_rows_lem k c d)
      (λ d. last (omega arith))))
    where
      last : k ≡ closed_at → word w k ≡ word w' k
      last e = ap (λ (j : ℕ). word w j) e ∙ ap (λ s. s.closed) same ∙ ap (λ (j : ℕ). word w' j) (sym e)

pub nothing_lost : NothingLost
nothing_lost w w' h g e = ext_get_or 0 w w' (h ∙ sym g) (λ k b. each_word w w' e k (omega arith))
