-- Entries taken one by one, and what is asked of each. Assumes nothing.
use Rattle.prelude.proofs.Basics.{ℕ, zero, suc, ◌+◌, ◌-◌, ◌*◌, ◌≤◌, ◌<◌, arith, add-zero, add-one, Bool, true, false}
use Rattle.prelude.proofs.Basics.{◌&&◌, cond, ◌≡◌, refl, sym, ap, ◌∙◌, List, ◌++◌, length, get_or, take, drop, get_or-take}
use Rattle.prelude.proofs.Basics.{get_or-drop, take_at, drop_at, leb, ltb, le-leb, leb-true, lt-leb, ltb-true, not}
use Rattle.prelude.proofs.Basics.{drop-drop, before_suc, both, Option, Some, None, is_none, is_some}
use native.Mathlib.Nat.{mul-zero, mul-suc}
use Rattle.session.specs.Session.{Session}
use Rattle.session.specs.Tables.{max_stmts, max_cursors}
use Rattle.session.proofs.SumLaws.{and_true}
use Rattle.image_rules.specs.declared.StmtEntry.{StmtEntry}
use Rattle.image_rules.specs.declared.CursorEntry.{CursorEntry}
use Rattle.image_rules.specs.Numbers.{Front, front_at}
use Rattle.image_rules.specs.Image.{stmt_width, cursor_width}
use Rattle.image_rules.specs.Restore.{Reading, on_front, Table, entries_at, rises, stmt_table, cursor_table}
use Rattle.image.specs.private.Ends.{front_to}
use Rattle.image.proofs.NumberLaws.{ahead_all, all_broken, all_more, join_front, front_split, Long, front_long}

-- ---- a place

pub rises_early : (limit next place : ℕ) → place < next → leb next place ≡ rises limit next place
rises_early limit next place h =
    lt-leb next place h ∙ sym (ap (λ (b : Bool). b && ltb place limit) (lt-leb next place h))

pub rises_by : (limit next place : ℕ) → next ≤ place → ltb place limit ≡ rises limit next place
rises_by limit next place h = sym (ap (λ (b : Bool). b && ltb place limit) (le-leb next place h))

-- ---- the entries of a table, from their numbers

unfoldable pub entries_of : {E : Type 0} → Table E → ℕ → ℕ → List ℕ → ℕ → Session → Reading
entries_of t zero next ns end x = Reading.read x end
entries_of t (suc count) next ns end x =
    let e = t.entry (take t.width ns) in
    let rest = entries_of t count (suc (t.place e)) (drop t.width ns) end (t.taken e x) in
    cond (t.takes next e x) rest Reading.broken

abbrev pub from_front : {E : Type 0} → Table E → ℕ → ℕ → Session → Front → Reading
from_front t count next x (Front.numbers ns end) = entries_of t count next ns end x
from_front t count next x Front.broken = Reading.broken

neither : (b : Bool) → cond b Reading.broken Reading.broken ≡ Reading.broken
neither true = refl
neither false = refl

-- one entry more has its width of numbers more
one_wider : (w count : ℕ) → w * suc count ≡ w + w * count
one_wider w count = omega (arith, mul-suc w count)

-- the numbers of all entries may be read first
pub entries_from : {E : Type 0} (t : Table E) (count next : ℕ) (s : List ℕ) (at : ℕ) (x : Session) →
    entries_at t count next s at x ≡ from_front t count next x (front_at (t.width * count) s at)
unfolding entries_at entries_of front_at
entries_from t zero next s at x = ap (λ (k : ℕ). from_front t 0 next x (front_at k s at)) (sym (mul-zero t.width))
entries_from t (suc count) next s at x =
    go (front_at t.width s at) (front_long t.width s at) (λ m n y. entries_from t count m s n y)
    ∙ ap (from_front t (suc count) next x) (sym split)
  where
    more : ℕ → Front
    more mid = front_at (t.width * count) s mid

    split : front_at (t.width * suc count) s at ≡ join_front (front_at t.width s at) more
    split = ap (λ (k : ℕ). front_at k s at) (one_wider t.width count) ∙ front_split t.width (t.width * count) s at

    on : (ns : List ℕ) (mid : ℕ) → length ns ≡ t.width → (f : Front) →
        entries_at t count (suc (t.place (t.entry ns))) s mid (t.taken (t.entry ns) x)
        ≡ from_front t count (suc (t.place (t.entry ns))) (t.taken (t.entry ns) x) f →
        cond (t.takes next (t.entry ns) x)
        (entries_at t count (suc (t.place (t.entry ns))) s mid (t.taken (t.entry ns) x)) Reading.broken
        ≡ from_front t (suc count) next x (ahead_all ns f)
    on ns mid l (Front.numbers ms end) e =
        ap (λ r. cond (t.takes next (t.entry ns) x) r Reading.broken) e
        ∙ ap (λ (h : List ℕ). cond (t.takes next (t.entry h) x)
        (entries_of t count (suc (t.place (t.entry h))) ms end (t.taken (t.entry h) x)) Reading.broken)
        (sym (take_at ns ms t.width l))
        ∙ ap (λ (b : List ℕ). cond (t.takes next (t.entry (take t.width (ns ++ ms))) x)
        (entries_of t count (suc (t.place (t.entry (take t.width (ns ++ ms))))) b end
        (t.taken (t.entry (take t.width (ns ++ ms))) x)) Reading.broken)
        (sym (drop_at ns ms t.width l))
        ∙ ap (from_front t (suc count) next x) (sym (all_more ns ms end))
    on ns mid l Front.broken e =
        ap (λ r. cond (t.takes next (t.entry ns) x) r Reading.broken) e
        ∙ neither (t.takes next (t.entry ns) x)
        ∙ ap (from_front t (suc count) next x) (sym (all_broken ns))

    go : (f : Front) → Long t.width f →
        ((m n : ℕ) (y : Session) → entries_at t count m s n y ≡ from_front t count m y (front_at (t.width * count) s n)) →
        on_front f (λ ns after. cond (t.takes next (t.entry ns) x)
        (entries_at t count (suc (t.place (t.entry ns))) s after (t.taken (t.entry ns) x)) Reading.broken)
        ≡ from_front t (suc count) next x (join_front f more)
    go (Front.numbers ns mid) l ih =
        on ns mid l (more mid) (ih (suc (t.place (t.entry ns))) mid (t.taken (t.entry ns) x))
    go Front.broken l ih = refl

-- more entries than places are not taken
pub entries_few : {E : Type 0} (t : Table E) (limit : ℕ) →
    ((next : ℕ) (e : E) (x : Session) → t.takes next e x ≡ true → (next ≤ t.place e) × (t.place e < limit)) →
    (count next : ℕ) (s : List ℕ) (at : ℕ) (x : Session) → next ≤ limit → limit < next + count →
    Reading.broken ≡ entries_at t count next s at x
unfolding entries_at
entries_few t limit inside zero next s at x l h = absurd (omega arith)
entries_few t limit inside (suc count) next s at x l h =
    go (front_at t.width s at) (λ m n y a b. entries_few t limit inside count m s n y a b)
  where
    go : (f : Front) →
        ((m n : ℕ) (y : Session) → m ≤ limit → limit < m + count → Reading.broken ≡ entries_at t count m s n y) →
        Reading.broken
        ≡ on_front f (λ ns after. cond (t.takes next (t.entry ns) x)
        (entries_at t count (suc (t.place (t.entry ns))) s after (t.taken (t.entry ns) x)) Reading.broken)
    go (Front.numbers ns after) more =
        both (λ r. Reading.broken ≡ r) (t.takes next (t.entry ns) x)
        (entries_at t count (suc (t.place (t.entry ns))) s after (t.taken (t.entry ns) x)) Reading.broken
        (λ e. let p = inside next (t.entry ns) x e in
        more (suc (t.place (t.entry ns))) after (t.taken (t.entry ns) x) (omega arith) (omega arith)) (λ _. refl)
    go Front.broken more = refl

-- ---- one entry more, and the end

module _ {E : Type 0} (t : Table E) (count next : ℕ) (ns : List ℕ) (end : ℕ) (x : Session) (e : E)
    (read : e ≡ t.entry (take t.width ns)) (some : 0 < count) where
  abbrev one_entry : E → Reading
  one_entry e =
      cond (t.takes next e x) (entries_of t (count - 1) (suc (t.place e)) (drop t.width ns) end (t.taken e x))
      Reading.broken

  unroll : one_entry e ≡ entries_of t count next ns end x
  unfolding entries_of
  unroll = ap one_entry read ∙ go count some
    where
      go : (n : ℕ) → 0 < n →
          cond (t.takes next (t.entry (take t.width ns)) x)
          (entries_of t (n - 1) (suc (t.place (t.entry (take t.width ns)))) (drop t.width ns) end
          (t.taken (t.entry (take t.width ns)) x)) Reading.broken
          ≡ entries_of t n next ns end x
      go zero h = absurd (omega arith)
      go (suc n) h =
          ap (λ (m : ℕ). cond (t.takes next (t.entry (take t.width ns)) x)
          (entries_of t m (suc (t.place (t.entry (take t.width ns)))) (drop t.width ns) end
          (t.taken (t.entry (take t.width ns)) x)) Reading.broken) (sym (before_suc n))

  pub entries_refuse : t.takes next e x ≡ false → Reading.broken ≡ entries_of t count next ns end x
  entries_refuse h =
      sym (ap (λ (b : Bool). cond b
      (entries_of t (count - 1) (suc (t.place e)) (drop t.width ns) end (t.taken e x)) Reading.broken) h)
      ∙ unroll

  pub entries_go_on : t.takes next e x ≡ true → {y : Session} → y ≡ t.taken e x → {rest : List ℕ} →
      drop t.width ns ≡ rest →
      entries_of t (count - 1) (t.place e + 1) rest end y ≡ entries_of t count next ns end x
  entries_go_on h g {rest} d =
      ap (λ z. entries_of t (count - 1) (t.place e + 1) rest end z) g
      ∙ ap (λ (l : List ℕ). entries_of t (count - 1) (t.place e + 1) l end (t.taken e x)) (sym d)
      ∙ ap (λ (n : ℕ). entries_of t (count - 1) n (drop t.width ns) end (t.taken e x)) (add-one (t.place e))
      ∙ sym (ap (λ (b : Bool). cond b
      (entries_of t (count - 1) (suc (t.place e)) (drop t.width ns) end (t.taken e x)) Reading.broken) h)
      ∙ unroll

pub entries_end : {E : Type 0} (t : Table E) (count next : ℕ) (ns : List ℕ) (end : ℕ) (x : Session) → count ≤ 0 →
    Reading.read x end ≡ entries_of t count next ns end x
unfolding entries_of
entries_end t zero next ns end x h = refl
entries_end t (suc n) next ns end x h = absurd (omega arith)

-- what is left of the numbers of `count` entries behind the first i
abbrev pub behind : {E : Type 0} → Table E → ℕ → List ℕ → ℕ → List ℕ
behind t count ns i = drop (t.width * i) (take (t.width * count) ns)

-- the loop over the entries of a table: i of them are taken, and what is left gives the whole
pub record Taking {E : Type 0} (t : Table E) (count : ℕ) (ns : List ℕ) (end : ℕ) (whole : Reading) (i next : ℕ)
    (x : Session) : Type 0 where
  pub rest : entries_of t (count - i) next (behind t count ns i) end x ≡ whole

module _ {E : Type 0} {t : Table E} {count : ℕ} {ns : List ℕ} {end : ℕ} {whole : Reading} where
  pub taking_starts : {x : Session} → entries_of t count 0 (take (t.width * count) ns) end x ≡ whole →
      Taking t count ns end whole 0 0 x
  taking_starts {x} h =
      let a : count - 0 ≡ count = omega arith in
      record {
        rest =
            ap (λ (n : ℕ). entries_of t n 0 (behind t count ns 0) end x) a
            ∙ ap (λ (n : ℕ). entries_of t count 0 (drop n (take (t.width * count) ns)) end x) (mul-zero t.width)
            ∙ h;
      }

  module _ {i next : ℕ} {x : Session} (l : Taking t count ns end whole i next x) where
    pub taking_ends : count ≤ i → Reading.read x end ≡ whole
    taking_ends h = entries_end t (count - i) next (behind t count ns i) end x (omega arith) ∙ l.rest

    module _ (h : i < count) (e : E) (read : e ≡ t.entry (take t.width (behind t count ns i))) where
      pub taking_refuses : t.takes next e x ≡ false → Reading.broken ≡ whole
      taking_refuses f =
          entries_refuse t (count - i) next (behind t count ns i) end x e read (omega arith) f ∙ l.rest

      pub taking_goes_on : t.takes next e x ≡ true → {y : Session} → y ≡ t.taken e x →
          Taking t count ns end whole (i + 1) (t.place e + 1) y
      taking_goes_on f {y} put =
          let a : count - i - 1 ≡ count - (i + 1) = omega arith in
          let b : t.width * i + t.width ≡ t.width * (i + 1) = omega arith in
          record {
            rest =
                ap (λ (n : ℕ). entries_of t n (t.place e + 1) (behind t count ns (i + 1)) end y) (sym a)
                ∙ entries_go_on t (count - i) next (behind t count ns i) end x e read (omega arith) f put
                (drop-drop t.width (t.width * i) (take (t.width * count) ns)
                ∙ ap (λ (n : ℕ). drop n (take (t.width * count) ns)) b)
                ∙ l.rest;
          }

-- ---- what was read

pub front_broken : (r : Option ℕ) (ns : List ℕ) {f : Front} → r ≡ None → front_to r ns ≡ f → Front.broken ≡ f
front_broken r ns e f = sym (ap (λ x. front_to x ns) e) ∙ f

pub front_at_lem : (r : Option ℕ) (ns : List ℕ) {f : Front} {next : ℕ} → r ≡ Some next → front_to r ns ≡ f →
    Front.numbers ns next ≡ f
front_at_lem r ns e f = sym (ap (λ x. front_to x ns) e) ∙ f

-- the entry that the numbers from a place of an array on make
abbrev pub stmt_from : List ℕ → ℕ → StmtEntry
stmt_from ns i = record { place = get_or ns i 0; id = get_or ns (i + 1) 0; placeholders = get_or ns (i + 2) 0 }

abbrev pub cursor_from : List ℕ → ℕ → CursorEntry
cursor_from ns i =
    record {
      place = get_or ns i 0;
      id = get_or ns (i + 1) 0;
      stmt = get_or ns (i + 2) 0;
      rows = get_or ns (i + 3) 0;
      sent = get_or ns (i + 4) 0;
    }

-- of the n that were read, the k from i on
module _ (k i n : ℕ) (ns : List ℕ) where
  abbrev cut : List ℕ
  cut = take k (drop i (take n ns))

  number_at : (j : ℕ) → j < k → i + j < n → get_or ns (i + j) 0 ≡ get_or cut j 0
  number_at j h g =
      sym (get_or-take k (drop i (take n ns)) j 0 h ∙ get_or-drop i (take n ns) j 0 ∙ get_or-take n ns (i + j) 0 g)

  first-at : 0 < k → i < n → get_or ns i 0 ≡ get_or cut 0 0
  first-at h g = ap (λ (m : ℕ). get_or ns m 0) (sym (add-zero i)) ∙ number_at 0 h (omega arith)

pub stmt_entry_lem : (ns : List ℕ) (i n : ℕ) → i + stmt_width ≤ n →
    stmt_from ns i ≡ stmt_table.entry (take stmt_width (drop i (take n ns)))
stmt_entry_lem ns i n h =
    ap (λ (m : ℕ). of m (get_or ns (i + 1) 0) (get_or ns (i + 2) 0)) (first-at 3 i n ns (omega arith) (omega arith))
    ∙ ap (λ (m : ℕ). of (t 0) m (get_or ns (i + 2) 0)) (number_at 3 i n ns 1 (omega arith) (omega arith))
    ∙ ap (λ (m : ℕ). of (t 0) (t 1) m) (number_at 3 i n ns 2 (omega arith) (omega arith))
  where
    t : ℕ → ℕ
    t j = get_or (cut 3 i n ns) j 0

    of : ℕ → ℕ → ℕ → StmtEntry
    of place id placeholders = record { place = place; id = id; placeholders = placeholders }

pub cursor_entry_lem : (ns : List ℕ) (i n : ℕ) → i + cursor_width ≤ n →
    cursor_from ns i ≡ cursor_table.entry (take cursor_width (drop i (take n ns)))
cursor_entry_lem ns i n h =
    ap (λ (m : ℕ). of m (u 1) (u 2) (u 3) (u 4)) (first-at 5 i n ns (omega arith) (omega arith))
    ∙ ap (λ (m : ℕ). of (t 0) m (u 2) (u 3) (u 4)) (number_at 5 i n ns 1 (omega arith) (omega arith))
    ∙ ap (λ (m : ℕ). of (t 0) (t 1) m (u 3) (u 4)) (number_at 5 i n ns 2 (omega arith) (omega arith))
    ∙ ap (λ (m : ℕ). of (t 0) (t 1) (t 2) m (u 4)) (number_at 5 i n ns 3 (omega arith) (omega arith))
    ∙ ap (λ (m : ℕ). of (t 0) (t 1) (t 2) (t 3) m) (number_at 5 i n ns 4 (omega arith) (omega arith))
  where
    t : ℕ → ℕ
    t j = get_or (cut 5 i n ns) j 0

    u : ℕ → ℕ
    u j = get_or ns (i + j) 0

    of : ℕ → ℕ → ℕ → ℕ → ℕ → CursorEntry
    of place id stmt rows sent = record { place = place; id = id; stmt = stmt; rows = rows; sent = sent }

-- ---- tests in turn

pub and_off : {a : Bool} (b : Bool) → a ≡ false → false ≡ (a && b)
and_off b e = sym (ap (λ (c : Bool). c && b) e)

pub and_on : {a b c : Bool} → a ≡ true → c ≡ b → c ≡ (a && b)
and_on {b = b} e f = f ∙ sym (ap (λ (d : Bool). d && b) e)

-- a search found nothing
pub not_found : {A : Type 0} (x : Option A) (r : Bool) → is_some x ≡ not r → r ≡ is_none x
not_found x true e = sym (ap not e)
not_found x false e = sym (ap not e)

-- ---- the place of an entry that is taken

pub stmt_places : (next : ℕ) (e : StmtEntry) (x : Session) → stmt_table.takes next e x ≡ true →
    (next ≤ e.place) × (e.place < max_stmts)
stmt_places next e x h =
    let a = and_true _ _ h in
    let r = and_true (leb next e.place) (ltb e.place max_stmts) a.0 in
    (leb-true next e.place r.0, ltb-true e.place max_stmts r.1)

pub cursor_places : (next : ℕ) (e : CursorEntry) (x : Session) → cursor_table.takes next e x ≡ true →
    (next ≤ e.place) × (e.place < max_cursors)
cursor_places next e x h =
    let a = and_true _ _ h in
    let r = and_true (leb next e.place) (ltb e.place max_cursors) a.0 in
    (leb-true next e.place r.0, ltb-true e.place max_cursors r.1)

-- ---- all numbers were read, or not

module _ {E : Type 0} (t : Table E) (count : ℕ) (s : List ℕ) (at : ℕ) (x : Session) where
  pub all_there : (ns : List ℕ) (end : ℕ) → Front.numbers ns end ≡ front_at (t.width * count) s at →
      entries_of t count 0 ns end x ≡ entries_at t count 0 s at x
  all_there ns end e = ap (from_front t count 0 x) e ∙ sym (entries_from t count 0 s at x)

  pub not_there : Front.broken ≡ front_at (t.width * count) s at → Reading.broken ≡ entries_at t count 0 s at x
  not_there e = ap (from_front t count 0 x) e ∙ sym (entries_from t count 0 s at x)
