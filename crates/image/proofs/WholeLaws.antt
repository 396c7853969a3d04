-- The parts of an image, read in turn, are the whole. Assumes nothing.
use Rattle.prelude.proofs.Basics.{ℕ, arith, Bool, true, false, cond, ◌≡◌, refl, sym, ap, ◌∙◌}
use Rattle.prelude.proofs.Basics.{List, [], ◌∷◌, length, get_or, take, get_or-take, eqb, eq-eqb, ne_eqb}
use Rattle.prelude.proofs.Basics.{Option, Some, None, is_some, true≢false, false≢true}
use Rattle.std.specs.Bool.{then_some}
use Rattle.protocol.specs.Reason as Reason
use Rattle.session.specs.Session.{Session}
use Rattle.session.specs.Tables.{fresh, closed_now}
use Rattle.image_rules.specs.Numbers.{Front, front_at}
use Rattle.image_rules.specs.Restore.{Reading, on_front, on_read, entries_at, nth, stmt_table, cursor_table, begun}
use Rattle.image_rules.specs.Restore.{head_width, head_good, cursors_at, reading_of, restored_by, restore_of}
use Rattle.image.specs.private.Ends.{read_to}

-- ---- the result of a part

pub read_broken : (r : Option ℕ) (x : Session) {f : Reading} → r ≡ None → read_to r x ≡ f → Reading.broken ≡ f
read_broken r x e f = sym (ap (λ y. read_to y x) e) ∙ f

pub read_at : (r : Option ℕ) (x : Session) {f : Reading} {next : ℕ} → r ≡ Some next → read_to r x ≡ f →
    Reading.read x next ≡ f
read_at r x e f = sym (ap (λ y. read_to y x) e) ∙ f

-- ---- the cursors

module _ (s : List ℕ) (at : ℕ) (x : Session) where
  abbrev last : Session → ℕ → Reading
  last y end = cond (eqb end (length s)) (Reading.read y end) Reading.broken

  pub rest_broken : Front.broken ≡ front_at 1 s at → Reading.broken ≡ cursors_at s at x
  unfolding cursors_at
  rest_broken e = ap (λ f. on_front f (λ ns after. on_read (entries_at cursor_table (nth ns 0) 0 s after x) last)) e

  module _ (ns : List ℕ) (after : ℕ) (front : Front.numbers (take 1 ns) after ≡ front_at 1 s at) where
    rest-is : on_read (entries_at cursor_table (get_or ns 0 0) 0 s after x) last ≡ cursors_at s at x
    unfolding cursors_at
    rest-is =
        ap (λ (n : ℕ). on_read (entries_at cursor_table n 0 s after x) last) (sym (get_or-take 1 ns 0 0 (omega arith)))
        ∙ ap (λ f. on_front f (λ ns after. on_read (entries_at cursor_table (nth ns 0) 0 s after x) last)) front

    pub rest_refused : Reading.broken ≡ entries_at cursor_table (get_or ns 0 0) 0 s after x →
        Reading.broken ≡ cursors_at s at x
    rest_refused e = ap (λ r. on_read r last) e ∙ rest-is

    pub rest_read : (y : Session) (end : ℕ) → Reading.read y end ≡ entries_at cursor_table (get_or ns 0 0) 0 s after x →
        (r : Option ℕ) → r ≡ then_some (eqb end (length s)) end → read_to r y ≡ cursors_at s at x
    rest_read y end e r g = ap (λ z. read_to z y) g ∙ go (eqb end (length s)) ∙ ap (λ z. on_read z last) e ∙ rest-is
      where
        go : (b : Bool) → read_to (then_some b end) y ≡ cond b (Reading.read y end) Reading.broken
        go true = refl
        go false = refl

-- ---- the head

pub begun_open : (closed : ℕ) → closed ≡ 0 → fresh ≡ begun closed
begun_open closed e = sym (ap (λ (b : Bool). cond b fresh (closed_now fresh)) (eq-eqb closed 0 e))

pub begun_shut : (closed : ℕ) → (closed ≡ 0 → ⊥) → closed_now fresh ≡ begun closed
begun_shut closed h = sym (ap (λ (b : Bool). cond b fresh (closed_now fresh)) (ne_eqb closed 0 h))

-- ---- the whole

abbrev pub head_in : List ℕ → List ℕ
head_in ns = get_or ns 0 0 ∷ get_or ns 1 0 ∷ get_or ns 2 0 ∷ []

module _ (s : List ℕ) where
  abbrev parts : List ℕ → ℕ → Reading
  parts ns at =
      cond (head_good ns)
      (on_read (entries_at stmt_table (nth ns 2) 0 s at (begun (nth ns 1))) (λ x after. cursors_at s after x))
      Reading.broken

  pub whole_broken : Front.broken ≡ front_at head_width s 0 → Reading.broken ≡ reading_of s
  unfolding reading_of
  whole_broken e = ap (λ f. on_front f parts) e

  module _ (ns : List ℕ) (at : ℕ) (front : Front.numbers (take head_width ns) at ≡ front_at head_width s 0) where
    head_in_lem : head_in ns ≡ head_in (take head_width ns)
    head_in_lem =
        ap (λ (n : ℕ). n ∷ get_or ns 1 0 ∷ get_or ns 2 0 ∷ []) (sym (get_or-take 3 ns 0 0 (omega arith)))
        ∙ ap (λ (n : ℕ). get_or (take 3 ns) 0 0 ∷ n ∷ get_or ns 2 0 ∷ []) (sym (get_or-take 3 ns 1 0 (omega arith)))
        ∙ ap (λ (n : ℕ). get_or (take 3 ns) 0 0 ∷ get_or (take 3 ns) 1 0 ∷ n ∷ []) (sym (get_or-take 3 ns 2 0 (omega arith)))

    whole_is : parts (head_in ns) at ≡ reading_of s
    unfolding reading_of
    whole_is = ap (λ (l : List ℕ). parts l at) head_in_lem ∙ ap (λ f. on_front f parts) front

    pub whole_head : head_good (head_in ns) ≡ false → Reading.broken ≡ reading_of s
    whole_head h =
        sym (ap (λ (b : Bool). cond b
        (on_read (entries_at stmt_table (get_or ns 2 0) 0 s at (begun (get_or ns 1 0))) (λ x after. cursors_at s after x))
        Reading.broken) h)
        ∙ whole_is

    module _ (good : head_good (head_in ns) ≡ true) where
      stmts-is :
          on_read (entries_at stmt_table (get_or ns 2 0) 0 s at (begun (get_or ns 1 0))) (λ x after. cursors_at s after x)
          ≡ reading_of s
      stmts-is =
          sym (ap (λ (b : Bool). cond b
          (on_read (entries_at stmt_table (get_or ns 2 0) 0 s at (begun (get_or ns 1 0))) (λ x after. cursors_at s after x))
          Reading.broken) good)
          ∙ whole_is

      module _ (x : Session) (e : x ≡ begun (get_or ns 1 0)) where
        from : {f : Reading} → f ≡ entries_at stmt_table (get_or ns 2 0) 0 s at x →
            on_read f (λ x after. cursors_at s after x) ≡ reading_of s
        from g =
            ap (λ r. on_read r (λ x after. cursors_at s after x))
            (g ∙ ap (λ y. entries_at stmt_table (get_or ns 2 0) 0 s at y) e)
            ∙ stmts-is

        pub whole_refused : Reading.broken ≡ entries_at stmt_table (get_or ns 2 0) 0 s at x → Reading.broken ≡ reading_of s
        whole_refused g = from g

        pub whole_read : (y : Session) (after : ℕ) →
            Reading.read y after ≡ entries_at stmt_table (get_or ns 2 0) 0 s at x → {f : Reading} →
            f ≡ cursors_at s after y → f ≡ reading_of s
        whole_read y after g h = h ∙ from g

-- ---- the answer

module _ (before x : Session) (s : List ℕ) where
  pub accepted_is : (r : Option ℕ) → read_to r x ≡ reading_of s → is_some r ≡ true →
      (Reason.accepted ≡ (restore_of before s).reason) × (x ≡ (restore_of before s).session)
  accepted_is (Some end) e f = (ap (λ r. (restored_by before r).reason) e, ap (λ r. (restored_by before r).session) e)
  accepted_is None e f = absurd (false≢true f)

  pub refused_is : (r : Option ℕ) → read_to r x ≡ reading_of s → is_some r ≡ false →
      (Reason.bad_image ≡ (restore_of before s).reason) × (before ≡ (restore_of before s).session)
  refused_is (Some end) e f = absurd (true≢false f)
  refused_is None e f = (ap (λ r. (restored_by before r).reason) e, ap (λ r. (restored_by before r).session) e)
