-- Entries of a table: those that a session takes one after the other are read from their bytes, and what is read are
-- such entries. Assumes nothing.
use Rattle.prelude.proofs.Basics.{ℕ, zero, suc, ◌+◌, ◌≤◌, arith, add-zero, Bool, true, cond, ◌≡◌, refl, sym, ap, subst}
use Rattle.prelude.proofs.Basics.{◌∙◌, List, [], ◌∷◌, ◌++◌, append_assoc, length, drop}
use Rattle.prelude.proofs.Basics.{length-append, both}
use Rattle.session.specs.Session.{Session}
use Rattle.session.specs.Lists.{All}
use Rattle.image_rules.specs.Numbers.{bytes_of, Front, front_at}
use Rattle.image_rules.specs.Image.{joined}
use Rattle.image_rules.specs.Restore.{Reading, on_front, Table, entries_at}
use Rattle.image_rules.proofs.NumberLaws.{Fits, bytes_append, behind_it, reads, Fronts, Tells, front_tells}

-- the numbers of an entry make it, and no other numbers do
pub record Lawful {E : Type 0} (t : Table E) (numbers : E → List ℕ) : Type 0 where
  pub long : (e : E) → length (numbers e) ≡ t.width
  pub back : (e : E) → t.entry (numbers e) ≡ e
  pub forth : (ns : List ℕ) → length ns ≡ t.width → numbers (t.entry ns) ≡ ns

-- a session takes the entries, each behind the one before
unfoldable pub Taken : {E : Type 0} → Table E → ℕ → List E → Session → Type 0
Taken t next [] x = Unit {0}
Taken t next (e ∷ es) x = (t.takes next e x ≡ true) × Taken t (suc (t.place e)) es (t.taken e x)

-- and this is what it then is
unfoldable pub with_all : {E : Type 0} → Table E → List E → Session → Session
with_all t [] x = x
with_all t (e ∷ es) x = with_all t es (t.taken e x)

module _ {E : Type 0} (t : Table E) (numbers : E → List ℕ) (law : Lawful t numbers) where
  abbrev listed : List E → List ℕ
  listed es = bytes_of (joined numbers es)

  listed_cons : (e : E) (es q : List ℕ) → bytes_of (numbers e ++ es) ++ q ≡ bytes_of (numbers e) ++ (bytes_of es ++ q)
  listed_cons e es q =
      ap (λ (l : List ℕ). l ++ q) (bytes_append (numbers e) es) ∙ append_assoc (bytes_of (numbers e)) (bytes_of es) q

  abbrev step : ℕ → ℕ → List ℕ → Session → E → ℕ → Reading
  step count next s x e after =
      cond (t.takes next e x) (entries_at t count (suc (t.place e)) s after (t.taken e x)) Reading.broken

  -- ---- entries that are taken are read

  pub entries_read : (es : List E) (next : ℕ) (s : List ℕ) (at : ℕ) (q : List ℕ) (x : Session) →
      All (λ e. All Fits (numbers e)) es → drop at s ≡ listed es ++ q → Taken t next es x →
      entries_at t (length es) next s at x ≡ Reading.read (with_all t es x) (at + length (listed es))
  unfolding entries_at Taken with_all All joined bytes_of
  entries_read [] next s at q x fit e h = ap (Reading.read x) (sym (add-zero at))
  entries_read (e ∷ es) next s at q x fit k h =
      ap (λ y. on_front y (λ ns after. step (length es) next s x (t.entry ns) after)) front
      ∙ ap (λ y. step (length es) next s x y after) (law.back e)
      ∙ ap (λ (b : Bool). cond b (entries_at t (length es) (suc (t.place e)) s after (t.taken e x)) Reading.broken)
      h.0
      ∙ entries_read es (suc (t.place e)) s after q (t.taken e x) fit.1
      (behind_it s (bytes_of (numbers e)) (listed es ++ q) at here) h.1
      ∙ ap (Reading.read (with_all t es (t.taken e x))) sum
    where
      after : ℕ
      after = at + length (bytes_of (numbers e))

      here : drop at s ≡ bytes_of (numbers e) ++ (listed es ++ q)
      here = k ∙ listed_cons e (joined numbers es) q

      front : front_at t.width s at ≡ Front.numbers (numbers e) after
      front =
          subst (λ (n : ℕ). front_at n s at ≡ Front.numbers (numbers e) after) (law.long e)
          (reads (numbers e) s at (listed es ++ q) fit.0 here)

      sum : after + length (listed es) ≡ at + length (bytes_of (numbers e ++ joined numbers es))
      sum =
          omega (
            arith,
            ap length (bytes_append (numbers e) (joined numbers es)),
            length-append (bytes_of (numbers e)) (listed es),
          )

  -- ---- what is read are entries that are taken

  pub record Listed (count next : ℕ) (s : List ℕ) (at : ℕ) (x y : Session) (after : ℕ) : Type 0 where
    pub entries : List E
    pub counted : length entries ≡ count
    pub bytes : drop at s ≡ listed entries ++ drop after s
    pub fit : All (λ e. All Fits (numbers e)) entries
    pub taken : Taken t next entries x
    pub session : y ≡ with_all t entries x
    pub within : after ≤ length s

  abbrev pub Lists : ℕ → ℕ → List ℕ → ℕ → Session → Reading → Type 0
  Lists count next s at x (Reading.read y after) = Listed count next s at x y after
  Lists count next s at x Reading.broken = Unit {0}

  one_more : (count next : ℕ) (s : List ℕ) (at : ℕ) (x : Session) (ns : List ℕ) (after : ℕ) →
      Fronts t.width s at ns after → t.takes next (t.entry ns) x ≡ true → (r : Reading) →
      Lists count (suc (t.place (t.entry ns))) s after (t.taken (t.entry ns) x) r → Lists (suc count) next s at x r
  unfolding Taken with_all joined All
  one_more count next s at x ns after f h (Reading.read y end) l =
      record {
        entries = t.entry ns ∷ l.entries;
        counted = ap suc l.counted;
        bytes =
            f.bytes
            ∙ ap (λ (b : List ℕ). bytes_of ns ++ b) l.bytes
            ∙ ap (λ (m : List ℕ). bytes_of m ++ (listed l.entries ++ drop end s)) (sym (law.forth ns f.count))
            ∙ sym (listed_cons (t.entry ns) (joined numbers l.entries) (drop end s));
        fit = (subst (All Fits) (sym (law.forth ns f.count)) f.fit, l.fit);
        taken = (h, l.taken);
        session = l.session;
        within = l.within;
      }
  one_more count next s at x ns after f h Reading.broken l = tt

  pub entries_list : (count next : ℕ) (s : List ℕ) (at : ℕ) (x : Session) → at ≤ length s →
      Lists count next s at x (entries_at t count next s at x)
  unfolding entries_at Taken with_all joined bytes_of All
  entries_list zero next s at x h =
      record { entries = []; counted = refl; bytes = refl; fit = tt; taken = tt; session = refl; within = h }
  entries_list (suc count) next s at x h =
      go (front_at t.width s at) (front_tells t.width s at h) (λ m n y k. entries_list count m s n y k)
    where
      go : (f : Front) → Tells t.width s at f →
          ((m n : ℕ) (y : Session) → n ≤ length s → Lists count m s n y (entries_at t count m s n y)) →
          Lists (suc count) next s at x (on_front f (λ ns after. step count next s x (t.entry ns) after))
      go (Front.numbers ns after) l more =
          let e = t.entry ns in
          let rest = entries_at t count (suc (t.place e)) s after (t.taken e x) in
          both (Lists (suc count) next s at x) (t.takes next e x) rest Reading.broken
          (λ k. one_more count next s at x ns after l k rest (more (suc (t.place e)) after (t.taken e x) l.within))
          (λ _. tt)
      go Front.broken l more = tt
