-- How long an image is at most: the tables put their places one behind the other, each a few bytes. Assumes nothing.
use Rattle.prelude.proofs.Basics.{ℕ, zero, suc, ◌+◌, ◌*◌, ◌≤◌, ◌<◌, arith, add-zero, zero-add, Bool, true, false, cond}
use Rattle.prelude.proofs.Basics.{◌≡◌, refl, sym, ap, subst, ◌∙◌, List, [], ◌∷◌, ◌++◌, append-nil, append_assoc}
use Rattle.prelude.proofs.Basics.{length, get_or, length-append, both}
use Rattle.varint.specs.Shortest.{varint_bytes}
use Rattle.varint.proofs.ShortestLaws.{shortest_at_most}
use Rattle.session.specs.declared.Stmt.{Stmt}
use Rattle.session.specs.declared.Cursor.{Cursor}
use Rattle.session.specs.Session.{Session, is_closed}
use Rattle.session.specs.Lists.{All, sum_by, how_many}
use Rattle.session.specs.Entry.{is_live_stmt, is_live_cursor}
use Rattle.session.specs.Tables.{max_stmts, max_cursors, stmt_count, cursor_count}
use Rattle.session.specs.Words.{build, stmt_in, cursor_in, session_of}
use Rattle.session.proofs.BuildLaws.{length_build}
use Rattle.session.proofs.SumLaws.{one_le}
use Rattle.image_rules.specs.Numbers.{bytes_of}
use Rattle.image_rules.specs.Listing.{placed, stmt_entry, cursor_entry, stmts_of, cursors_of, listing_of}
use Rattle.image_rules.specs.Image.{form, joined, stmt_numbers, cursor_numbers, image_of, max_image}
use Rattle.image_rules.specs.Image.{most_number}
use Rattle.image_rules.specs.private.Parts.{place_bytes, stmt_bytes_at, cursor_bytes_at, stmt_bytes, cursor_bytes}
use Rattle.image_rules.specs.Image.{most_stmt, most_cursor}
use Rattle.image_rules.specs.ImageRules.{ImageFits}
use Rattle.image_rules.proofs.NumberLaws.{Fits, bytes_append}
use Rattle.image_rules.proofs.PlacedLaws.{placed_count}

-- ---- the places of a table, one behind the other

-- the bytes of the places before n
unfoldable pub places_to : (ℕ → List ℕ) → ℕ → List ℕ
places_to g zero = []
places_to g (suc n) = places_to g n ++ g n

module _ {A E : Type 0} (live : A → Bool) (entry : ℕ → A → E) (numbers : E → List ℕ) (f : ℕ → A) where
  abbrev here : ℕ → List ℕ
  here k = place_bytes live entry numbers k (f k)

  abbrev listed : ℕ → List A → List ℕ
  listed k xs = bytes_of (joined numbers (placed live entry k xs))

  listed-first : (k : ℕ) (xs : List A) → listed k (f k ∷ xs) ≡ here k ++ listed (suc k) xs
  unfolding placed joined
  listed-first k xs = go (live (f k))
    where
      rest : List E
      rest = placed live entry (suc k) xs

      go : (b : Bool) →
          bytes_of (joined numbers (cond b (entry k (f k) ∷ rest) rest))
          ≡ cond b (bytes_of (numbers (entry k (f k)))) [] ++ listed (suc k) xs
      go true = bytes_append (numbers (entry k (f k))) (joined numbers rest)
      go false = refl

  places-from : (k n : ℕ) → places_to here k ++ listed k (build f k n) ≡ places_to here (k + n)
  unfolding places_to build placed joined bytes_of
  places-from k zero = append-nil (places_to here k) ∙ ap (places_to here) (sym (add-zero k))
  places-from k (suc n) =
      let e : suc k + n ≡ k + suc n = omega arith in
      ap (λ (l : List ℕ). places_to here k ++ l) (listed-first k (build f (suc k) n))
      ∙ sym (append_assoc (places_to here k) (here k) (listed (suc k) (build f (suc k) n)))
      ∙ places-from (suc k) n
      ∙ ap (places_to here) e

  -- a table's bytes are those of its places
  pub table_places : (n : ℕ) → places_to here n ≡ listed 0 (build f 0 n)
  unfolding places_to
  table_places n = sym (places-from 0 n ∙ ap (places_to here) (zero-add n))

-- ---- the parts of an image, one behind the other

pub image_parts : (s : Session) {closed stmts cursors : ℕ} → closed ≡ (listing_of s).closed → stmts ≡ stmt_count s →
    cursors ≡ cursor_count s →
    varint_bytes form
    ++ (varint_bytes closed ++ (varint_bytes stmts ++ (stmt_bytes s ++ (varint_bytes cursors ++ cursor_bytes s))))
    ≡ image_of s
unfolding bytes_of
image_parts s e f g =
    rw (
      e,
      f ∙ sym (placed_count is_live_stmt stmt_entry 0 s.stmts),
      g ∙ sym (placed_count is_live_cursor cursor_entry 0 s.cursors),
      bytes_append (joined stmt_numbers (stmts_of s)) (length (cursors_of s) ∷ joined cursor_numbers (cursors_of s)),
    )

-- ---- their lengths

-- a number below this takes one byte
abbrev byte_limit : ℕ
byte_limit = 128

one_byte_lem : (n : ℕ) → n < byte_limit → length (varint_bytes n) ≤ 1
one_byte_lem n h = shortest_at_most 10 0 n h

numbers_short : (ns : List ℕ) → All Fits ns → length (bytes_of ns) ≤ length ns * most_number
unfolding bytes_of All
numbers_short [] h = omega arith
numbers_short (n ∷ ns) h =
    rw length-append (omega (arith, shortest_at_most 10 4 n (omega (arith, h.0)), numbers_short ns h.1))

entry_short : (place : ℕ) (ns : List ℕ) → place < byte_limit → All Fits ns →
    length (bytes_of (place ∷ ns)) ≤ 1 + length ns * most_number
unfolding bytes_of
entry_short place ns h small = rw length-append (omega (arith, one_byte_lem place h, numbers_short ns small))

pub stmt_short : (place : ℕ) (t : Stmt) → place < max_stmts → Fits t.id → Fits t.placeholders →
    length (stmt_bytes_at place t) ≤ most_stmt
unfolding All
stmt_short place t h a b =
    both (λ (l : List ℕ). length l ≤ most_stmt) (is_live_stmt t) _ _
    (λ _. entry_short place (t.id ∷ t.placeholders ∷ []) (omega arith) (a, (b, tt))) (λ _. omega arith)

pub cursor_short : (place : ℕ) (c : Cursor) → place < max_cursors → Fits c.id → Fits c.stmt → Fits c.rows →
    Fits c.sent → length (cursor_bytes_at place c) ≤ most_cursor
unfolding All
cursor_short place c h a b d e =
    both (λ (l : List ℕ). length l ≤ most_cursor) (is_live_cursor c) _ _
    (λ _. entry_short place (c.id ∷ c.stmt ∷ c.rows ∷ c.sent ∷ []) (omega arith) (a, (b, (d, (e, tt)))))
    (λ _. omega arith)

-- no more are counted than there are
few : {A : Type 0} (p : A → Bool) (xs : List A) → how_many p xs ≤ length xs
unfolding sum_by
few p [] = omega arith
few p (x ∷ xs) = omega (arith, one_le (p x), few p xs)

pub image_short : (w : List ℕ) → length (stmt_bytes (session_of w)) ≤ max_stmts * most_stmt →
    length (cursor_bytes (session_of w)) ≤ max_cursors * most_cursor → length (image_of (session_of w)) ≤ max_image
image_short w a b =
    let s = session_of w in
    let stmts : stmt_count s ≤ max_stmts =
    omega (arith, few is_live_stmt s.stmts, length_build (stmt_in w) 0 max_stmts) in
    let cursors : cursor_count s ≤ max_cursors =
    omega (arith, few is_live_cursor s.cursors, length_build (cursor_in w) 0 max_cursors) in
    subst (λ (l : List ℕ). length l ≤ max_image) (image_parts s refl refl refl)
    (simp length-append
    (omega (
      arith,
      one_byte_lem form (omega arith),
      one_byte_lem (listing_of s).closed (omega (arith, one_le (is_closed s))),
      one_byte_lem (stmt_count s) (omega arith),
      one_byte_lem (cursor_count s) (omega arith),
    )))

-- ---- of any words of 32 bits

places_short : (g : ℕ → List ℕ) (most n : ℕ) → ((k : ℕ) → k < n → length (g k) ≤ most) →
    length (places_to g n) ≤ n * most
unfolding places_to
places_short g most zero h = omega arith
places_short g most (suc n) h =
    rw length-append (omega (arith, places_short g most n (λ k a. h k (omega arith)), h n (omega arith)))

small_word : (w : List ℕ) → All Fits w → (k : ℕ) → Fits (get_or w k 0)
unfolding All
small_word [] h k = omega arith
small_word (n ∷ w) h zero = h.0
small_word (n ∷ w) h (suc k) = small_word w h.1 k

pub image_fits : ImageFits
image_fits w small =
    image_short w
    (rw (sym (table_places is_live_stmt stmt_entry stmt_numbers (stmt_in w) max_stmts))
    (places_short (λ k. stmt_bytes_at k (stmt_in w k)) most_stmt max_stmts
    (λ k h. stmt_short k (stmt_in w k) h (word _) (word _))))
    (rw (sym (table_places is_live_cursor cursor_entry cursor_numbers (cursor_in w) max_cursors))
    (places_short (λ k. cursor_bytes_at k (cursor_in w k)) most_cursor max_cursors
    (λ k h. cursor_short k (cursor_in w k) h (word _) (word _) (word _) (word _))))
  where
    word : (k : ℕ) → Fits (get_or w k 0)
    word = small_word w small
