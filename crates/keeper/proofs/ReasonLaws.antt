-- The refusals of a request and of an engine report, case by case. Assumes nothing.
use Rattle.prelude.proofs.Basics.{ℕ, ◌≤◌, ◌<◌, Bool, true, false, not, ◌&&◌, cond, ◌≡◌, refl, sym, ap, ◌∙◌, [], ◌∷◌, eqb}
use Rattle.prelude.proofs.Basics.{Option, is_none, ltb, eq-eqb, eqb-true, le-leb, le-ltb, lt-leb, lt-ltb, ne_eqb, yes, no as without}
use Rattle.protocol.specs.Reason as Reason
use Rattle.args.specs.declared.arguments.Arguments.{Arguments}
use Rattle.session.specs.Session.{flag}
use Rattle.session.specs.Tables.{cursor_on, live_stmt, carried}
use Rattle.rules.specs.Refusal.{refusal}
use Rattle.keeper.proofs.Names.{Execute, Open, Request, entry_at, Session, no_stmt, no_cursor, is_live_stmt}
use Rattle.keeper.proofs.Names.{is_live_cursor, stmt_at, cursor_place, Cursor}
use Rattle.keeper.proofs.Names.{Stmt, first_of}
use Rattle.keeper.specs.private.Reasons.{binding_reason, cursor_reason, fetch_reason, request_reason, or_else, unless}

-- ---- two refusals, a flag

pub or_else_first : (first next : ℕ) → (first ≡ Reason.accepted → ⊥) → first ≡ or_else first next
or_else_first first next h = without next first (ne_eqb first Reason.accepted h)

pub or_else_next : (first next : ℕ) → first ≡ Reason.accepted → next ≡ or_else first next
or_else_next first next h = yes next first (eq-eqb first Reason.accepted h)

pub dead : (live : ℕ) {n reason : ℕ} → n ≡ unless (flag live) reason → (n ≡ 0 → ⊥) → (live ≡ 0) × (n ≡ reason)
dead live {n} {reason} e some = go (eqb live 0) refl e
  where
    go : (b : Bool) → eqb live 0 ≡ b → n ≡ cond (not b) 0 reason → (live ≡ 0) × (n ≡ reason)
    go true f g = (eqb-true live 0 f, g)
    go false f g = absurd (some g)

pub alive : (live : ℕ) {reason : ℕ} → Reason.accepted ≡ unless (flag live) reason → (reason ≡ 0 → ⊥) → live ≡ 0 → ⊥
alive live {reason} e some z = some (sym (e ∙ rw z))

-- ---- a statement that arguments are bound to

module _ (t : Stmt) (a : Arguments) where
  pub binding_dead : t.live ≡ 0 → Reason.no_stmt ≡ binding_reason t a
  unfolding binding_reason
  binding_dead e = rw e

  module _ (live : t.live ≡ 0 → ⊥) where
    pub binding_kind : (a.kind ≡ 0 → ⊥) → Reason.not_scalar ≡ binding_reason t a
    unfolding binding_reason
    binding_kind k = rw (ne_eqb t.live 0 live, ne_eqb a.kind 0 k)

    pub binding_few : a.kind ≡ 0 → a.count < t.placeholders → Reason.few_arguments ≡ binding_reason t a
    unfolding binding_reason
    binding_few k h = rw (ne_eqb t.live 0 live, k, lt-ltb a.count t.placeholders h)

    pub binding_right : a.kind ≡ 0 → t.placeholders ≤ a.count → Reason.accepted ≡ binding_reason t a
    unfolding binding_reason
    binding_right k h = rw (ne_eqb t.live 0 live, k, le-ltb a.count t.placeholders h)

-- ---- a cursor to open, a cursor that is to send rows

module _ (id : ℕ) (c : Cursor) (place : Option ℕ) where
  pub opening_other : (c.live ≡ 0 → ⊥) → (c.id ≡ id → ⊥) → Reason.other_cursor ≡ cursor_reason id c place
  unfolding cursor_reason
  opening_other live h = rw (ne_eqb c.live 0 live, ne_eqb c.id id h)

  -- no other cursor is carried: the place decides
  opening-by : (is_live_cursor c && not (eqb c.id id)) ≡ false →
      unless (not (is_none place)) Reason.cursors_full ≡ cursor_reason id c place
  unfolding cursor_reason
  opening-by e = turn (is_none place) ∙ without Reason.other_cursor _ e
    where
      turn : (full : Bool) → unless (not full) Reason.cursors_full ≡ cond full Reason.cursors_full Reason.accepted
      turn true = refl
      turn false = refl

  pub opening_none : c.live ≡ 0 → unless (not (is_none place)) Reason.cursors_full ≡ cursor_reason id c place
  opening_none e = opening-by (rw e)

  pub opening_same : c.id ≡ id → unless (not (is_none place)) Reason.cursors_full ≡ cursor_reason id c place
  opening_same e = opening-by (rw (eq-eqb c.id id e) (go (is_live_cursor c)))
    where
      go : (b : Bool) → (b && false) ≡ false
      go true = refl
      go false = refl

module _ (c : Cursor) where
  pub fetch_dead : c.live ≡ 0 → Reason.no_cursor ≡ fetch_reason c
  unfolding fetch_reason
  fetch_dead e = rw e

  module _ (live : c.live ≡ 0 → ⊥) where
    pub fetch_sent : c.rows ≤ c.sent → Reason.all_sent ≡ fetch_reason c
    unfolding fetch_reason
    fetch_sent h = rw (ne_eqb c.live 0 live, le-leb c.rows c.sent h)

    pub fetch_more : c.sent < c.rows → Reason.accepted ≡ fetch_reason c
    unfolding fetch_reason
    fetch_more h = rw (ne_eqb c.live 0 live, lt-leb c.rows c.sent h)

-- ---- an Execute, an Open

-- the statement that was looked up: where it stands, and what stands there
module _ (s : Session) (x : Execute) (place : Option ℕ) (t : Stmt) (n : ℕ) (p : place ≡ stmt_at s x.stmt)
    (e : t ≡ entry_at s.stmts place no_stmt) (h : n ≡ binding_reason t x.args) where
  bound : n ≡ binding_reason (live_stmt s x.stmt) x.args
  bound =
      h
      ∙ ap (λ (y : Stmt). binding_reason y x.args) (e ∙ ap (λ (k : Option ℕ). entry_at s.stmts k no_stmt) p)

  pub execute_bound : n ≡ request_reason s (Request.Execute x)
  unfolding request_reason binding_reason
  execute_bound = bound

-- the first of three tests that holds, else of two more, is the first of all five
first_split : (a b c d e : Bool) →
    or_else
    (first_of (refusal Reason.no_stmt a ∷ refusal Reason.not_scalar b ∷ refusal Reason.few_arguments c ∷ []))
    (first_of (refusal Reason.other_cursor d ∷ refusal Reason.cursors_full e ∷ []))
    ≡ first_of
    (refusal Reason.no_stmt a
    ∷ refusal Reason.not_scalar b
    ∷ refusal Reason.few_arguments c
    ∷ refusal Reason.other_cursor d
    ∷ refusal Reason.cursors_full e
    ∷ [])
first_split true b c d e = refl
first_split false true c d e = refl
first_split false false true d e = refl
first_split false false false d e = refl

module _ (s : Session) (o : Open) where
  abbrev binding_of : ℕ
  binding_of = binding_reason (live_stmt s o.execute.stmt) o.execute.args

  abbrev opening_of : ℕ
  opening_of = cursor_reason o.cursor (carried s o.execute.stmt) (cursor_place s o.cursor)

  open-split : or_else binding_of opening_of ≡ request_reason s (Request.Open o)
  unfolding request_reason binding_reason cursor_reason
  open-split =
      let t = live_stmt s o.execute.stmt in
      let c = carried s o.execute.stmt in
      first_split
      (not (is_live_stmt t))
      (not (eqb o.execute.args.kind 0))
      (ltb o.execute.args.count t.placeholders)
      (is_live_cursor c && not (eqb c.id o.cursor))
      (is_none (cursor_place s o.cursor))

module _ (s : Session) (o : Open) (place : Option ℕ) (t : Stmt) (n : ℕ) (p : place ≡ stmt_at s o.execute.stmt)
    (e : t ≡ entry_at s.stmts place no_stmt) (h : n ≡ binding_reason t o.execute.args) where
  open-from : or_else n (opening_of s o) ≡ request_reason s (Request.Open o)
  open-from = ap (λ (k : ℕ). or_else k (opening_of s o)) (bound s o.execute place t n p e h) ∙ open-split s o

  pub open_bound : (n ≡ Reason.accepted → ⊥) → n ≡ request_reason s (Request.Open o)
  open_bound r = or_else_first n (opening_of s o) r ∙ open-from

  -- the cursor that the statement carries, and the place that the new one takes
  pub open_carried : n ≡ Reason.accepted → (on taken : Option ℕ) (c : Cursor) (m : ℕ) →
      on ≡ cursor_on s o.execute.stmt → c ≡ entry_at s.cursors on no_cursor →
      taken ≡ cursor_place s o.cursor → m ≡ cursor_reason o.cursor c taken →
      m ≡ request_reason s (Request.Open o)
  open_carried r on taken c m q f g l =
      l
      ∙ ap (λ (y : Cursor). cursor_reason o.cursor y taken)
      (f ∙ ap (λ (k : Option ℕ). entry_at s.cursors k no_cursor) q)
      ∙ ap (cursor_reason o.cursor (carried s o.execute.stmt)) g
      ∙ or_else_next n (opening_of s o) r
      ∙ open-from
