-- What is read is what was listed, both ways. Assumes nothing.
use Rattle.prelude.proofs.Basics.{ℕ, zero, suc, ◌+◌, ◌-◌, ◌≤◌, arith, Bool, true, false, not, ◌&&◌, ◌||◌}
use Rattle.prelude.proofs.Basics.{cond, ◌≡◌, refl, sym, ap, subst, ◌∙◌, ◌⊎◌, inl, inr, ⊎_elim}
use Rattle.prelude.proofs.Basics.{List, [], ◌∷◌, ◌++◌, append-nil, map, length, drop, length-append}
use Rattle.prelude.proofs.Basics.{drop_of_length-le, eqb, leb, eq-eqb, eqb-true, leb-true, le-leb, both}
use lib.ListN.{length-map}
use Rattle.protocol.specs.Reason as Reason
use Rattle.session.specs.declared.Cursor.{Cursor}
use Rattle.session.specs.Session.{Session, is_closed}
use Rattle.session.specs.Lists.{All, how_many}
use Rattle.session.specs.Entry.{no_stmt, no_cursor, is_live_stmt, is_live_cursor, is_stmt, is_cursor, on_stmt}
use Rattle.session.specs.Tables.{max_stmts, max_cursors, fresh, closed_now, stmt_count, cursor_count}
use Rattle.session.specs.Sound.{max_number, max_placeholders, Sound}
use Rattle.session.proofs.SumLaws.{one, sum_replicate, count_le, and_true}
use Rattle.session.proofs.TableLaws.{fresh_sound, closed_now_sound}
use Rattle.image_rules.specs.declared.StmtEntry.{StmtEntry}
use Rattle.image_rules.specs.declared.CursorEntry.{CursorEntry}
use Rattle.image_rules.specs.Numbers.{bytes_of, Front, front_at}
use Rattle.image_rules.specs.Listing.{Listing, stmt_entry, cursor_entry, stmts_of, cursors_of}
use Rattle.image_rules.specs.Listing.{placed, listing_of}
use Rattle.image_rules.specs.Image.{form, stmt_numbers, cursor_numbers, joined, numbers_in, image_of}
use Rattle.image_rules.specs.Acceptable.{Rising, stmts_with, Rules}
use Rattle.image_rules.specs.Restore.{Reading, on_front, on_read, entries_at, stmt_table, cursor_table, begun}
use Rattle.image_rules.specs.Restore.{nth, head_good, cursors_at, reading_of, restored_by, restore_of}
use Rattle.image_rules.specs.ImageRules.{AcceptedExactly, JustTheseEntries, RefusedAsItWas, KeepsRules}
use Rattle.image_rules.specs.ImageRules.{RoundTrips, AcceptedSound}
use Rattle.image_rules.proofs.NumberLaws.{Fits, bytes_append, behind_it, reads, Fronts, Tells, front_tells}
use Rattle.image_rules.proofs.EntryLaws.{Lawful, Taken, with_all, entries_read, Listed, Lists, entries_list}
use Rattle.image_rules.proofs.PlacedLaws.{placed_none}
use Rattle.image_rules.proofs.SoundLaws.{stmts_with_lem, flag_one, all_as, sound_keeps, same_session}
use Rattle.image_rules.proofs.StoreLaws.{and_both, none_live, TakingStmts, TookStmts, stmts_taken, StmtsAhead}
use Rattle.image_rules.proofs.StoreLaws.{stmts_take}
use Rattle.image_rules.proofs.StoreLaws.{TakingCursors, TookCursors, cursors_taken, cursors_take}

-- ---- the two tables

stmt_lawful : Lawful stmt_table stmt_numbers
stmt_lawful = record { long = λ e. refl; back = λ e. refl; forth = forth }
  where
    forth : (ns : List ℕ) → length ns ≡ 3 → stmt_numbers (stmt_table.entry ns) ≡ ns
    forth (a ∷ b ∷ c ∷ []) e = refl
    forth [] e = absurd (omega arith)
    forth (a ∷ []) e = absurd (omega arith)
    forth (a ∷ b ∷ []) e = absurd (omega arith)
    forth (a ∷ b ∷ c ∷ d ∷ ns) e = absurd (omega arith)

cursor_lawful : Lawful cursor_table cursor_numbers
cursor_lawful = record { long = λ e. refl; back = λ e. refl; forth = forth }
  where
    forth : (ns : List ℕ) → length ns ≡ 5 → cursor_numbers (cursor_table.entry ns) ≡ ns
    forth (a ∷ b ∷ c ∷ d ∷ e ∷ []) h = refl
    forth [] h = absurd (omega arith)
    forth (a ∷ []) h = absurd (omega arith)
    forth (a ∷ b ∷ []) h = absurd (omega arith)
    forth (a ∷ b ∷ c ∷ []) h = absurd (omega arith)
    forth (a ∷ b ∷ c ∷ d ∷ []) h = absurd (omega arith)
    forth (a ∷ b ∷ c ∷ d ∷ e ∷ f ∷ ns) h = absurd (omega arith)

-- ---- numbers of acceptable entries fit

rising_few : (limit from : ℕ) (ps : List ℕ) → Rising limit from ps → length ps ≤ limit - from
unfolding Rising
rising_few limit from [] h = omega arith
rising_few limit from (p ∷ ps) h = omega (arith, h.0, h.1.0, rising_few limit (suc p) ps h.1.1)

stmts_fit : (from : ℕ) (es : List StmtEntry) → Rising max_stmts from (map (λ e. e.place) es) →
    All (λ e. (e.id ≤ max_number) × (e.placeholders ≤ max_placeholders)) es → All (λ e. All Fits (stmt_numbers e)) es
unfolding Rising All
stmts_fit from [] r h = tt
stmts_fit from (e ∷ es) r h = (
  (omega (arith, r.1.0), (omega (arith, h.0.0), (omega (arith, h.0.1), tt))),
  stmts_fit (suc e.place) es r.1.1 h.1,
)

cursors_fit : (from : ℕ) (es : List CursorEntry) → Rising max_cursors from (map (λ e. e.place) es) →
    All (λ e. (e.id ≤ max_number) × ((e.stmt ≤ max_number) × (e.rows ≤ max_number))) es →
    All (λ e. e.sent ≤ e.rows) es → All (λ e. All Fits (cursor_numbers e)) es
unfolding Rising All
cursors_fit from [] r h w = tt
cursors_fit from (e ∷ es) r h w = (
  (
    omega (arith, r.1.0),
    (
      omega (arith, h.0.0),
      (omega (arith, h.0.1.0), (omega (arith, h.0.1.1), (omega (arith, h.0.1.1, w.0), tt))),
    ),
  ),
  cursors_fit (suc e.place) es r.1.1 h.1 w.1,
)

-- ---- the bytes of a listing, part by part

image_parts : (m : Listing) →
    bytes_of (numbers_in m)
    ≡ bytes_of (form ∷ m.closed ∷ length m.stmts ∷ [])
    ++ (bytes_of (joined stmt_numbers m.stmts)
    ++ (bytes_of (length m.cursors ∷ []) ++ (bytes_of (joined cursor_numbers m.cursors) ++ [])))
image_parts m =
    bytes_append (form ∷ m.closed ∷ length m.stmts ∷ []) (stmts ++ (second ++ cursors))
    ∙ ap (λ (l : List ℕ). bytes_of (form ∷ m.closed ∷ length m.stmts ∷ []) ++ l)
    (bytes_append stmts (second ++ cursors)
    ∙ ap (λ (l : List ℕ). bytes_of stmts ++ l)
    (bytes_append second cursors ∙ ap (λ (l : List ℕ). bytes_of second ++ l) (sym (append-nil (bytes_of cursors)))))
  where
    stmts : List ℕ
    stmts = joined stmt_numbers m.stmts

    second : List ℕ
    second = length m.cursors ∷ []

    cursors : List ℕ
    cursors = joined cursor_numbers m.cursors

-- ---- one of two tests passes

either_one : (a b : Bool) → (a ≡ true) ⊎ (b ≡ true) → a || b ≡ true
either_one a b (inl e) = ap (λ (c : Bool). c || b) e
either_one true b (inr e) = refl
either_one false b (inr e) = e

one_either : (a b : Bool) → a || b ≡ true → (a ≡ true) ⊎ (b ≡ true)
one_either true b e = inl refl
one_either false b e = inr e

-- ---- a session without entries

begun_is : (P : Session → Type 0) → P fresh → P (closed_now fresh) → (c : ℕ) → P (begun c)
begun_is P a b c = both P (eqb c 0) fresh (closed_now fresh) (λ _. a) (λ _. b)

begun_sound : (c : ℕ) → Sound (begun c)
begun_sound = begun_is Sound fresh_sound (closed_now_sound fresh_sound)

begun_closed : (c : ℕ) → c ≤ 1 → (begun c).closed ≡ c
begun_closed zero h = refl
begun_closed (suc zero) h = refl
begun_closed (suc (suc c)) h = absurd (omega arith)

begun_stmts : (c : ℕ) → stmt_count (begun c) ≡ 0
begun_stmts =
    begun_is (λ s. stmt_count s ≡ 0) (sum_replicate (λ t. one (is_live_stmt t)) max_stmts no_stmt refl)
    ((closed_now_sound fresh_sound).shut refl).0

begun_cursors : (c : ℕ) → cursor_count (begun c) ≡ 0
begun_cursors =
    begun_is (λ s. cursor_count s ≡ 0) (sum_replicate (λ c. one (is_live_cursor c)) max_cursors no_cursor refl)
    ((closed_now_sound fresh_sound).shut refl).1

-- so no id is live in it
pub begun_none : (c id : ℕ) → how_many (is_stmt id) (begun c).stmts ≡ 0
begun_none c id =
    omega (arith, count_le (is_stmt id) is_live_stmt (λ t e. (and_true _ _ e).0) (begun c).stmts, begun_stmts c)

pub begun_no_cursor : (c id : ℕ) → how_many (is_cursor id) (begun c).cursors ≡ 0
begun_no_cursor c id =
    omega (arith, count_le (is_cursor id) is_live_cursor (λ t e. (and_true _ _ e).0) (begun c).cursors, begun_cursors c)

pub begun_none_on : (c id : ℕ) → how_many (on_stmt id) (begun c).cursors ≡ 0
begun_none_on c id =
    omega (arith, count_le (on_stmt id) is_live_cursor (λ t e. (and_true _ _ e).0) (begun c).cursors, begun_cursors c)

-- ---- what comes of the entries of a listing

module _ (m : Listing) (flagged : m.closed ≤ 1) (open-or : (m.closed ≡ 0) ⊎ (m.stmts ≡ [])) where
  abbrev x₀ : Session
  x₀ = begun m.closed

  abbrev x₁ : Session
  x₁ = with_all stmt_table m.stmts x₀

  abbrev x₂ : Session
  x₂ = with_all cursor_table m.cursors x₁

  taking-stmts : m.closed ≡ 0 → TakingStmts 0 x₀
  taking-stmts e =
      record {
        sound = begun_sound m.closed;
        unclosed = ap (λ (c : ℕ). is_closed (begun c)) e;
        free = λ i h. none_live is_live_stmt no_stmt refl x₀.stmts (begun_stmts m.closed) i;
      }

  took-none : (es : List StmtEntry) → es ≡ [] → TookStmts es x₀ (with_all stmt_table es x₀)
  unfolding with_all
  took-none [] e =
      record {
        sound = begun_sound m.closed;
        stmts = sym (append-nil (stmts_of x₀));
        cursors = refl;
        closed = refl;
      }
  took-none (e ∷ es) f = absurd (let z : ◌≡◌ {A = ℕ} 0 1 = cc in omega arith)

  took-stmts : All (λ e. All Fits (stmt_numbers e)) m.stmts → Taken stmt_table 0 m.stmts x₀ →
      TookStmts m.stmts x₀ x₁
  took-stmts fit h = go open-or
    where
      go : (m.closed ≡ 0) ⊎ (m.stmts ≡ []) → TookStmts m.stmts x₀ x₁
      go (inl e) = stmts_taken m.stmts 0 x₀ (taking-stmts e) fit h
      go (inr e) = took-none m.stmts e

  taking-cursors : TookStmts m.stmts x₀ x₁ → TakingCursors 0 x₁
  taking-cursors t =
      record {
        sound = t.sound;
        free = λ i h.
            none_live is_live_cursor no_cursor refl x₁.cursors
            (ap (how_many is_live_cursor) t.cursors ∙ begun_cursors m.closed) i;
      }

  record Whole : Type 0 where
    sound : Sound x₂
    same : listing_of x₂ ≡ m

  whole : TookStmts m.stmts x₀ x₁ → TookCursors m.cursors x₁ x₂ → Whole
  whole t u =
      record {
        sound = u.sound;
        same =
            ap (λ (c : ℕ). record { closed = one (not (eqb c 0)); stmts = stmts_of x₂; cursors = cursors_of x₂ })
            (u.closed ∙ t.closed ∙ begun_closed m.closed flagged)
            ∙ ap (λ (c : ℕ). record { closed = c; stmts = stmts_of x₂; cursors = cursors_of x₂ })
            (flag_one m.closed flagged)
            ∙ ap (λ (es : List StmtEntry). record { closed = m.closed; stmts = es; cursors = cursors_of x₂ }) stmts
            ∙ ap (λ (es : List CursorEntry). record { closed = m.closed; stmts = m.stmts; cursors = es }) cursors;
      }
    where
      stmts : stmts_of x₂ ≡ m.stmts
      stmts =
          ap (placed is_live_stmt stmt_entry 0) u.stmts
          ∙ t.stmts
          ∙ ap (λ (es : List StmtEntry). es ++ m.stmts)
          (placed_none is_live_stmt stmt_entry 0 x₀.stmts (begun_stmts m.closed))

      cursors : cursors_of x₂ ≡ m.cursors
      cursors =
          u.cursors
          ∙ ap (λ (es : List CursorEntry). es ++ m.cursors)
          (ap (placed is_live_cursor cursor_entry 0) t.cursors
          ∙ placed_none is_live_cursor cursor_entry 0 x₀.cursors (begun_cursors m.closed))

  taken-whole : All (λ e. All Fits (stmt_numbers e)) m.stmts → Taken stmt_table 0 m.stmts x₀ →
      All (λ e. All Fits (cursor_numbers e)) m.cursors → Taken cursor_table 0 m.cursors x₁ → Whole
  taken-whole fit h fit' k =
      let t = took-stmts fit h in whole t (cursors_taken m.cursors 0 x₁ (taking-cursors t) fit' k)

-- ---- a listing that keeps the rules is read

module _ (m : Listing) (h : Rules m) where
  open-or : (m.closed ≡ 0) ⊎ (m.stmts ≡ [])
  open-or = go m.closed refl
    where
      go : (c : ℕ) → m.closed ≡ c → (m.closed ≡ 0) ⊎ (m.stmts ≡ [])
      go zero e = inl e
      go (suc zero) e = inr (h.shut e).0
      go (suc (suc c)) e = absurd (omega (arith, h.flag))

  stmts-ahead : StmtsAhead 0 m.stmts (x₀ m h.flag open-or)
  stmts-ahead =
      record {
        rising = h.stmt_places;
        once = λ id. omega (arith, h.stmt_ids id, begun_none m.closed id);
        small = h.stmts_small;
      }

  took-all : (es : List StmtEntry) → es ≡ [] → Taken stmt_table 0 es (begun m.closed)
  unfolding Taken
  took-all [] e = tt
  took-all (e ∷ es) f = absurd (let z : ◌≡◌ {A = ℕ} 0 1 = cc in omega arith)

  stmts-small : All (λ e. All Fits (stmt_numbers e)) m.stmts
  stmts-small = stmts_fit 0 m.stmts h.stmt_places h.stmts_small

  cursors-small : All (λ e. All Fits (cursor_numbers e)) m.cursors
  cursors-small = cursors_fit 0 m.cursors h.cursor_places h.cursors_small h.within

  stmts-in : Taken stmt_table 0 m.stmts (begun m.closed)
  stmts-in = go open-or
    where
      go : (m.closed ≡ 0) ⊎ (m.stmts ≡ []) → Taken stmt_table 0 m.stmts (begun m.closed)
      go (inl e) = stmts_take m.stmts 0 (begun m.closed) (taking-stmts m h.flag open-or e) stmts-ahead
      go (inr e) = took-all m.stmts e

  abbrev y₁ : Session
  y₁ = with_all stmt_table m.stmts (begun m.closed)

  abbrev y₂ : Session
  y₂ = with_all cursor_table m.cursors y₁

  took : TookStmts m.stmts (begun m.closed) y₁
  took = took-stmts m h.flag open-or stmts-small stmts-in

  no-cursor : (q : Cursor → Bool) → ((c : Cursor) → q c ≡ true → is_live_cursor c ≡ true) →
      how_many q y₁.cursors ≡ 0
  no-cursor q f =
      omega (
        arith,
        count_le q is_live_cursor f y₁.cursors,
        ap (how_many is_live_cursor) took.cursors,
        begun_cursors m.closed,
      )

  on-listed : (k : ℕ) → stmts_with k m.stmts ≡ how_many (is_stmt k) y₁.stmts
  on-listed k =
      ap (λ (es : List StmtEntry). stmts_with k (es ++ m.stmts))
      (sym (placed_none is_live_stmt stmt_entry 0 (begun m.closed).stmts (begun_stmts m.closed)))
      ∙ ap (stmts_with k) (sym took.stmts)
      ∙ stmts_with_lem k y₁

  cursors-in : Taken cursor_table 0 m.cursors y₁
  cursors-in =
      cursors_take m.cursors 0 y₁ (taking-cursors m h.flag open-or took)
      (record {
        rising = h.cursor_places;
        once = λ id. omega (arith, h.cursor_ids id, no-cursor (is_cursor id) (λ c e. (and_true _ _ e).0));
        upon = λ stmt. omega (arith, h.not_two stmt, no-cursor (on_stmt stmt) (λ c e. (and_true _ _ e).0));
        small = h.cursors_small;
        within = h.within;
        on_listed =
            all_as _ (λ e. 1 ≤ how_many (is_stmt e.stmt) y₁.stmts)
            (λ e l. omega (arith, on-listed e.stmt)) m.cursors h.on_listed;
      })

  -- ---- its bytes

  abbrev image : List ℕ
  image = bytes_of (numbers_in m)

  abbrev head : List ℕ
  head = form ∷ m.closed ∷ length m.stmts ∷ []

  abbrev second : List ℕ
  second = length m.cursors ∷ []

  abbrev stmt_bytes : List ℕ
  stmt_bytes = bytes_of (joined stmt_numbers m.stmts)

  abbrev cursor_bytes : List ℕ
  cursor_bytes = bytes_of (joined cursor_numbers m.cursors)

  at_head : drop 0 image ≡ bytes_of head ++ (stmt_bytes ++ (bytes_of second ++ (cursor_bytes ++ [])))
  at_head = image_parts m

  abbrev a₁ : ℕ
  a₁ = 0 + length (bytes_of head)

  abbrev a₂ : ℕ
  a₂ = a₁ + length stmt_bytes

  abbrev a₃ : ℕ
  a₃ = a₂ + length (bytes_of second)

  abbrev a₄ : ℕ
  a₄ = a₃ + length cursor_bytes

  at-end : eqb a₄ (length image) ≡ true
  at-end =
      eq-eqb a₄ (length image)
      (omega (
        arith,
        ap length at_head,
        length-append (bytes_of head) (stmt_bytes ++ (bytes_of second ++ (cursor_bytes ++ []))),
        length-append stmt_bytes (bytes_of second ++ (cursor_bytes ++ [])),
        length-append (bytes_of second) (cursor_bytes ++ []),
        length-append cursor_bytes [],
      ))

  head-fits : All Fits head
  unfolding All
  head-fits = (
    omega arith,
    (
      omega (arith, h.flag),
      (
        omega (
          arith,
          rising_few max_stmts 0 (map (λ e. e.place) m.stmts) h.stmt_places,
          length-map m.stmts (λ e. e.place),
        ),
        tt,
      ),
    ),
  )

  second_fits : All Fits second
  unfolding All
  second_fits = (
    omega (
      arith,
      rising_few max_cursors 0 (map (λ e. e.place) m.cursors) h.cursor_places,
      length-map m.cursors (λ e. e.place),
    ),
    tt,
  )

  head_is : head_good head ≡ true
  head_is = and_both (le-leb m.closed 1 h.flag) (go open-or)
    where
      go : (m.closed ≡ 0) ⊎ (m.stmts ≡ []) → eqb m.closed 0 || eqb (length m.stmts) 0 ≡ true
      go (inl e) = either_one (eqb m.closed 0) (eqb (length m.stmts) 0) (inl (eq-eqb m.closed 0 e))
      go (inr e) =
          either_one (eqb m.closed 0) (eqb (length m.stmts) 0) (inr (eq-eqb (length m.stmts) 0 (ap length e)))

  at-stmts : drop a₁ image ≡ stmt_bytes ++ (bytes_of second ++ (cursor_bytes ++ []))
  at-stmts = behind_it image (bytes_of head) _ 0 at_head

  at_second : drop a₂ image ≡ bytes_of second ++ (cursor_bytes ++ [])
  at_second = behind_it image stmt_bytes _ a₁ at-stmts

  cursors-read : cursors_at image a₂ y₁ ≡ Reading.read y₂ a₄
  unfolding cursors_at
  cursors-read =
      ap (λ f. on_front f (λ ns after. on_read (entries_at cursor_table (nth ns 0) 0 image after y₁) last))
      (reads second image a₂ (cursor_bytes ++ []) second_fits at_second)
      ∙ ap (λ r. on_read r last)
      (entries_read cursor_table cursor_numbers cursor_lawful m.cursors 0 image a₃ [] y₁ cursors-small
      (behind_it image (bytes_of second) (cursor_bytes ++ []) a₂ at_second) cursors-in)
      ∙ ap (λ (b : Bool). cond b (Reading.read y₂ a₄) Reading.broken) at-end
    where
      last : Session → ℕ → Reading
      last y end = cond (eqb end (length image)) (Reading.read y end) Reading.broken

  pub reading_is : reading_of image ≡ Reading.read y₂ a₄
  unfolding reading_of
  reading_is =
      ap (λ f. on_front f (λ ns at. cond (head_good ns)
      (on_read (entries_at stmt_table (nth ns 2) 0 image at (begun (nth ns 1))) (λ x after. cursors_at image after x))
      Reading.broken)) (reads head image 0 _ head-fits at_head)
      ∙ ap (λ (b : Bool). cond b
      (on_read (entries_at stmt_table (length m.stmts) 0 image a₁ (begun m.closed))
      (λ x after. cursors_at image after x)) Reading.broken) head_is
      ∙ ap (λ r. on_read r (λ x after. cursors_at image after x))
      (entries_read stmt_table stmt_numbers stmt_lawful m.stmts 0 image a₁ _ (begun m.closed) stmts-small
      at-stmts stmts-in)
      ∙ cursors-read

-- ---- what is read was listed, by a listing that keeps the rules

record Accepted (s : List ℕ) (y : Session) : Type 0 where
  listing : Listing
  bytes : bytes_of (numbers_in listing) ≡ s
  rules : Rules listing
  same : listing_of y ≡ listing
  sound : Sound y

abbrev Says : List ℕ → Reading → Type 0
Says s (Reading.read y end) = Accepted s y
Says s Reading.broken = Unit {0}

module _ (s : List ℕ) where
  abbrev StmtsRead : ℕ → ℕ → ℕ → Session → ℕ → Type 0
  StmtsRead closed count at x after = Listed stmt_table stmt_numbers stmt_lawful count 0 s at (begun closed) x after

  abbrev CursorsRead : ℕ → ℕ → Session → Session → ℕ → Type 0
  CursorsRead count at x y end = Listed cursor_table cursor_numbers cursor_lawful count 0 s at x y end

  accepted-by : (closed stmts cursors at after behind end : ℕ) (x y : Session) →
      Fronts 3 s 0 (form ∷ closed ∷ stmts ∷ []) at → closed ≤ 1 → (closed ≡ 0) ⊎ (stmts ≡ 0) →
      StmtsRead closed stmts at x after → Fronts 1 s after (cursors ∷ []) behind →
      CursorsRead cursors behind x y end → end ≡ length s → Accepted s y
  accepted-by closed stmts cursors at after behind end x y f flagged or l g k e =
      record {
        listing = m;
        bytes = sym all;
        rules = subst Rules w.same (sound_keeps (x₂ m flagged open-or') w.sound);
        same = ap listing_of here ∙ w.same;
        sound = subst Sound (sym here) w.sound;
      }
    where
      m : Listing
      m = record { closed = closed; stmts = l.entries; cursors = k.entries }

      empty : (es : List StmtEntry) → length es ≡ 0 → es ≡ []
      empty [] h = refl
      empty (e ∷ es) h = absurd (omega arith)

      open-or' : (closed ≡ 0) ⊎ (l.entries ≡ [])
      open-or' = ⊎_elim (λ h. inl h) (λ h. inr (empty l.entries (l.counted ∙ h))) or

      here : y ≡ x₂ m flagged open-or'
      here = k.session ∙ ap (with_all cursor_table k.entries) l.session

      w : Whole m flagged open-or'
      w =
          taken-whole m flagged open-or' l.fit l.taken k.fit
          (subst (Taken cursor_table 0 k.entries) l.session k.taken)

      none_left : drop end s ≡ []
      none_left = let past : length s ≤ end = omega arith in drop_of_length-le s past

      all : s ≡ bytes_of (numbers_in m)
      all =
          f.bytes
          ∙ ap (λ (l : List ℕ). bytes_of (form ∷ closed ∷ stmts ∷ []) ++ l)
          (l.bytes
          ∙ ap (λ (b : List ℕ). bytes_of (joined stmt_numbers l.entries) ++ b)
          (g.bytes
          ∙ ap (λ (b : List ℕ). bytes_of (cursors ∷ []) ++ b)
          (k.bytes ∙ ap (λ (b : List ℕ). bytes_of (joined cursor_numbers k.entries) ++ b) none_left)))
          ∙ ap (λ (n : ℕ). bytes_of (form ∷ closed ∷ n ∷ [])
          ++ (bytes_of (joined stmt_numbers l.entries)
          ++ (bytes_of (cursors ∷ []) ++ (bytes_of (joined cursor_numbers k.entries) ++ [])))) (sym l.counted)
          ∙ ap (λ (n : ℕ). bytes_of (form ∷ closed ∷ length l.entries ∷ [])
          ++ (bytes_of (joined stmt_numbers l.entries)
          ++ (bytes_of (n ∷ []) ++ (bytes_of (joined cursor_numbers k.entries) ++ [])))) (sym k.counted)
          ∙ sym (image_parts m)

  -- from the second count on
  cursors-say : (closed stmts at after : ℕ) (x : Session) → Fronts 3 s 0 (form ∷ closed ∷ stmts ∷ []) at → closed ≤ 1 →
      (closed ≡ 0) ⊎ (stmts ≡ 0) → StmtsRead closed stmts at x after → Says s (cursors_at s after x)
  unfolding cursors_at
  cursors-say closed stmts at after x f flagged or l =
      go (front_at 1 s after) (front_tells 1 s after l.within)
    where
      last : Session → ℕ → Reading
      last y end = cond (eqb end (length s)) (Reading.read y end) Reading.broken

      done : (n behind : ℕ) → Fronts 1 s after (n ∷ []) behind → (r : Reading) →
          Lists cursor_table cursor_numbers cursor_lawful n 0 s behind x r → Says s (on_read r last)
      done n behind g (Reading.read y end) k =
          both (Says s) (eqb end (length s)) (Reading.read y end) Reading.broken
          (λ e. accepted-by closed stmts n at after behind end x y f flagged or l g k (eqb-true end (length s) e))
          (λ _. tt)
      done n behind g Reading.broken k = tt

      go : (r : Front) → Tells 1 s after r →
          Says s (on_front r (λ ns behind. on_read (entries_at cursor_table (nth ns 0) 0 s behind x) last))
      go (Front.numbers (n ∷ []) behind) g =
          done n behind g (entries_at cursor_table n 0 s behind x)
          (entries_list cursor_table cursor_numbers cursor_lawful n 0 s behind x g.within)
      go (Front.numbers [] behind) g = absurd (omega (arith, g.count))
      go (Front.numbers (n ∷ m ∷ ns) behind) g = absurd (omega (arith, g.count))
      go Front.broken g = tt

  -- the whole
  reading-says : Says s (reading_of s)
  unfolding reading_of
  reading-says = go (front_at 3 s 0) (front_tells 3 s 0 (omega arith))
    where
      on : (closed stmts at : ℕ) → Fronts 3 s 0 (form ∷ closed ∷ stmts ∷ []) at → closed ≤ 1 →
          (closed ≡ 0) ⊎ (stmts ≡ 0) → (r : Reading) →
          Lists stmt_table stmt_numbers stmt_lawful stmts 0 s at (begun closed) r →
          Says s (on_read r (λ x after. cursors_at s after x))
      on closed stmts at f flagged or (Reading.read x after) l = cursors-say closed stmts at after x f flagged or l
      on closed stmts at f flagged or Reading.broken l = tt

      headed : (a closed stmts at : ℕ) → Fronts 3 s 0 (a ∷ closed ∷ stmts ∷ []) at →
          eqb a form && (leb closed 1 && (eqb closed 0 || eqb stmts 0)) ≡ true →
          Says s (on_read (entries_at stmt_table stmts 0 s at (begun closed)) (λ x after. cursors_at s after x))
      headed a closed stmts at f h =
          let p = and_true _ _ h in
          let q = and_true _ _ p.1 in
          let or = one_either (eqb closed 0) (eqb stmts 0) q.1 in
          on closed stmts at
          (subst (λ (n : ℕ). Fronts 3 s 0 (n ∷ closed ∷ stmts ∷ []) at) (eqb-true a form p.0) f)
          (leb-true closed 1 q.0)
          (⊎_elim (λ e. inl (eqb-true closed 0 e)) (λ e. inr (eqb-true stmts 0 e)) or)
          (entries_at stmt_table stmts 0 s at (begun closed))
          (entries_list stmt_table stmt_numbers stmt_lawful stmts 0 s at (begun closed) f.within)

      go : (r : Front) → Tells 3 s 0 r →
          Says s (on_front r (λ ns at. cond (head_good ns)
          (on_read (entries_at stmt_table (nth ns 2) 0 s at (begun (nth ns 1))) (λ x after. cursors_at s after x))
          Reading.broken))
      go (Front.numbers (a ∷ closed ∷ stmts ∷ []) at) f =
          both (Says s) (head_good (a ∷ closed ∷ stmts ∷ []))
          (on_read (entries_at stmt_table stmts 0 s at (begun closed)) (λ x after. cursors_at s after x)) Reading.broken
          (λ h. headed a closed stmts at f h) (λ _. tt)
      go (Front.numbers [] at) f = absurd (omega (arith, f.count))
      go (Front.numbers (a ∷ []) at) f = absurd (omega (arith, f.count))
      go (Front.numbers (a ∷ b ∷ []) at) f = absurd (omega (arith, f.count))
      go (Front.numbers (a ∷ b ∷ c ∷ d ∷ ns) at) f = absurd (omega (arith, f.count))
      go Front.broken f = tt

-- ---- the theorems

module _ (before : Session) (image : List ℕ) where
  accepted-says : (restore_of before image).reason ≡ Reason.accepted → Accepted image (restore_of before image).session
  accepted-says e = go (reading_of image) (reading-says image) e
    where
      go : (r : Reading) → Says image r → (restored_by before r).reason ≡ Reason.accepted →
          Accepted image (restored_by before r).session
      go (Reading.read y end) h f = h
      go Reading.broken h f = absurd (omega arith)

given_back : (before : Session) (m : Listing) (h : Rules m) →
    restore_of before (bytes_of (numbers_in m)) ≡ record { reason = Reason.accepted; session = y₂ m h }
given_back before m h = ap (restored_by before) (reading_is m h)

whole_of : (m : Listing) (h : Rules m) → Whole m h.flag (open-or m h)
whole_of m h =
    taken-whole m h.flag (open-or m h) (stmts-small m h) (stmts-in m h) (cursors-small m h) (cursors-in m h)

pub accepted_exactly : AcceptedExactly
accepted_exactly before image =
    record {
      only = λ e.
          let a = accepted-says before image e in
          record {
            numbers = numbers_in a.listing;
            shortest = a.bytes;
            acceptable = record { listing = a.listing; layout = refl; rules = a.rules };
          };
      always = λ i.
          let m = i.acceptable.listing in
          let e : bytes_of (numbers_in m) ≡ image = ap bytes_of i.acceptable.layout ∙ i.shortest in
          ap (λ (b : List ℕ). (restore_of before b).reason) (sym e)
          ∙ ap (λ r. r.reason) (given_back before m i.acceptable.rules);
    }

pub just_these_entries : JustTheseEntries
just_these_entries before m h =
    let w = whole_of m h in
    let e = ap (λ r. r.session) (given_back before m h) in
    record {
      accepted = ap (λ r. r.reason) (given_back before m h);
      entries = ap listing_of e ∙ w.same;
      sound = subst Sound (sym e) w.sound;
      again = ap image_of e ∙ ap (λ x. bytes_of (numbers_in x)) w.same;
    }

pub refused_as_it_was : RefusedAsItWas
refused_as_it_was before image h = go (reading_of image) h
  where
    go : (r : Reading) → ((restored_by before r).reason ≡ Reason.accepted → ⊥) →
        ((restored_by before r).reason ≡ Reason.bad_image) × ((restored_by before r).session ≡ before)
    go (Reading.read y end) h = absurd (h refl)
    go Reading.broken h = (refl, refl)

pub keeps_rules : KeepsRules
keeps_rules = sound_keeps

pub round_trips : RoundTrips
round_trips before s h =
    let w = whole_of (listing_of s) (sound_keeps s h) in
    given_back before (listing_of s) (sound_keeps s h)
    ∙ ap (λ (y : Session). record { reason = Reason.accepted; session = y })
    (same_session _ s w.sound h w.same)

pub accepted_sound : AcceptedSound
accepted_sound before image e = (accepted-says before image e).sound
