-- Bytes in which one argument reads alike mean the same message. Assumes nothing.
use Rattle.prelude.proofs.Basics.{ℕ, ◌+◌, ◌-◌, ◌≤◌, ◌<◌, arith, Bool, true, false, cond, ◌≡◌, refl, sym, ap, ap₂}
use Rattle.prelude.proofs.Basics.{subst, ◌∙◌, ◌⊎◌, inl, inr, ⊎_elim, List, [], ◌∷◌, length, take, length-take-le, eqb}
use Rattle.prelude.proofs.Basics.{leb, leb-true, both, Ok, Err}
use Rattle.protocol.specs.Client as Client
use Rattle.protocol.specs.Reason as Reason
use Rattle.layout.specs.Unchosen.{InnerPart, Every, Unread}
use Rattle.layout.proofs.UnreadPartsLaws.{every_part, part_in, same_wider, inner_every, inner_unread}
use Rattle.args.specs.UnreadRules.{OneField}
use Rattle.args.proofs.ArgumentsLaws.{together_kept}
use Rattle.args.proofs.UnreadLaws.{one_inside, one_cut, cut_start, one_embedded, one_list}
use Rattle.message.proofs.Names.{Argument, stmt_execute, open_stmt, rows_of, fields_at, embedded, value_of, low32}
use Rattle.message.proofs.Names.{end_of, parts_of, parts_in, merged, Part, Slots, arguments_at, no_arguments}
use Rattle.message.proofs.Names.{bad_arguments, together, type_in, Arguments, take_size, head_of, args_of, payload}
use Rattle.message.proofs.Names.{twice, optional_of, reset_frame, session_close_frame, deallocate_frame, close_frame}
use Rattle.message.proofs.Names.{fetch_frame, arguments_within, execute_in, execute_frame, executes_good, open_by}
use Rattle.message.proofs.Names.{open_parts, execute_parts, open_frame, body_in, bodies_good, prepare_by, stmt_parts}
use Rattle.message.proofs.Names.{prepare_frame, frame_in, of_head, frame_of, used_of, PartsInside, stmt_in, HeadResult}
use Rattle.message.proofs.Names.{Execute, Frame, Request}
use Rattle.message.specs.Operation as Operation
use Rattle.message.specs.UnreadRules.{ArgumentUnread}
use Rattle.message.proofs.WithinLaws.{execute_good_inv, every_frame, frame_within}
use Rattle.message.proofs.UsedLaws.{uses_all}
use Rattle.message.proofs.BehindLaws.{head_same}
use Rattle.message.proofs.UnchosenLaws.{shape, prepare_in, frame_shape, same_frame}

-- ---- arguments in n bytes from a place on

-- good ones stand there
within_place : (s : List ℕ) (at n : ℕ) → (arguments_within s at n).good ≡ true →
    ((arguments_within s at n).start ≡ at) × ((arguments_within s at n).end ≡ at + n)
unfolding arguments_within
within_place s at n =
    both P (leb (at + n) (length s)) _ _
    (λ e g.
    let k = together_kept (no_arguments at (length (take (at + n) s))) (arguments_at (take (at + n) s) at) g in
    (k.0, k.1 ∙ length-take-le (at + n) s (leb-true (at + n) (length s) e)))
    (λ _ g. absurd (let z : ◌≡◌ {A = ℕ} 0 1 = cc in omega arith))
  where
    P : Arguments → Type 0
    P y = y.good ≡ true → (y.start ≡ at) × (y.end ≡ at + n)

module _ (s t : List ℕ) (at n : ℕ) (o : OneField s t at (at + n)) where
  one_within : arguments_within t at n ≡ arguments_within s at n
  unfolding arguments_within
  one_within =
      rw o.same.size
      (ap (λ (a : Arguments). cond (leb (at + n) (length s)) a bad_arguments)
      (ap₂ (λ (k : ℕ) (l : List Argument). together (no_arguments at k) l) (take_size (at + n) s t o.same.size)
      (one_list s t at n o)))

  one-execute : execute_in t at n ≡ execute_in s at n
  unfolding execute_in
  one-execute = rw (one_embedded s t at n o (rows_of Client.execute), one_within)

  one-body : (operation : ℕ) → body_in t operation at n ≡ body_in s operation at n
  unfolding body_in
  one-body operation =
      rw (one_embedded s t at n o (rows_of stmt_execute), one_embedded s t at n o [], one_within)

execute_place : (s : List ℕ) (at n : ℕ) → (execute_in s at n).args.good ≡ true →
    ((execute_in s at n).args.start ≡ at) × ((execute_in s at n).args.end ≡ at + n)
unfolding execute_in
execute_place s at n g =
    let h = execute_good_inv (embedded (rows_of Client.execute) s at n) (arguments_within s at n) g in
    let k = within_place s at n (ap (λ (a : Arguments). a.good) (sym h.1) ∙ g) in
    (ap (λ (a : Arguments). a.start) h.1 ∙ k.0, ap (λ (a : Arguments). a.end) h.1 ∙ k.1)

body_place : (s : List ℕ) (t at n : ℕ) → (body_in s t at n).good ≡ true →
    (((body_in s t at n).start ≡ at) × ((body_in s t at n).end ≡ at + n)) ⊎ ((body_in s t at n).end ≡ 0)
unfolding body_in
body_place s t at n =
    both P (eqb t Operation.stmt_execute) _ _
    (λ _.
    both P (embedded (rows_of stmt_execute) s at n).good _ _ (λ _ g. inl (within_place s at n g))
    (λ _ g. absurd (let z : ◌≡◌ {A = ℕ} 0 1 = cc in omega arith)))
    (λ _.
    both P (embedded [] s at n).good _ _ (λ _ _. inr refl)
    (λ _ g. absurd (let z : ◌≡◌ {A = ℕ} 0 1 = cc in omega arith)))
  where
    P : Arguments → Type 0
    P y = y.good ≡ true → ((y.start ≡ at) × (y.end ≡ at + n)) ⊎ (y.end ≡ 0)

-- ---- what a good frame came of

frame_inv : (a b c : Bool) (n kind used : ℕ) (p q : Request) →
    cond a (cond b (cond c (Frame.Good n p) (Frame.BadPayload n kind)) (Frame.BadPayload n kind))
    (Frame.BadPayload n kind)
    ≡ Frame.Good used q → (a ≡ true) × (b ≡ true) × (c ≡ true) × (p ≡ q)
frame_inv true true true n kind used p q e = (refl, refl, refl, cc)
frame_inv true true false n kind used p q e = absurd (let z : ◌≡◌ {A = ℕ} 0 1 = cc in omega arith)
frame_inv true false c n kind used p q e = absurd (let z : ◌≡◌ {A = ℕ} 0 1 = cc in omega arith)
frame_inv false b c n kind used p q e = absurd (let z : ◌≡◌ {A = ℕ} 0 1 = cc in omega arith)

-- a body that stands twice gives no request
twice_inv : (b : Bool) (n kind used : ℕ) (q : Request) → twice n kind b ≡ Frame.Good used q → ⊥
twice_inv true n kind used q e = let z : ◌≡◌ {A = ℕ} 0 1 = cc in omega arith
twice_inv false n kind used q e = let z : ◌≡◌ {A = ℕ} 0 1 = cc in omega arith

module _ (f g : List ℕ) where
  one-as : {a b a' b' : ℕ} → a ≡ a' → b ≡ b' → OneField f g a b → OneField f g a' b'
  one-as {a} {b} {a'} {b'} e e' o = subst (λ (k : ℕ). OneField f g a' k) e' (subst (λ (k : ℕ). OneField f g k b) e o)

  -- no field stands in no bytes
  no_one : {a b : ℕ} → OneField f g a b → b ≡ 0 → ⊥
  no_one o z = omega (arith, (one_inside o).0, (one_inside o).1)

  -- where x is a request, and f and g differ in one of its fields, y is the same frame, and the payload's bytes differ
  abbrev Same : Frame → Frame → Type 0
  Same x y =
      (used : ℕ) (q : Request) → x ≡ Frame.Good used q → (o : OneField f g (args_of q).start (args_of q).end) →
      (y ≡ x) × (payload < o.start)

  -- a request without arguments
  bare-one : (n kind : ℕ) (b : Bool) (p : Request) (y : Frame) → (args_of p).end ≡ 0 →
      Same (cond b (Frame.Good n p) (Frame.BadPayload n kind)) y
  bare-one n kind b p y z used q e o =
      absurd
      (no_one o (ap (λ (r : Request). (args_of r).end) (sym (frame_inv true true b n kind used p q e).3) ∙ z))

  exec_shape : ℕ → Execute → Frame
  exec_shape n x = cond x.args.good (Frame.Good n (Request.Execute x)) (Frame.BadPayload n Client.execute)

  execute_one : Same (execute_frame f) (execute_frame g)
  unfolding execute_frame exec_shape
  execute_one used q e o =
      let n = length f - payload in
      let x = execute_in f payload n in
      let inv = frame_inv true true x.args.good (length f) Client.execute used (Request.Execute x) q e in
      let args = ap args_of (sym inv.3) in
      let place = execute_place f payload n inv.2 in
      let at = ap (λ (a : Arguments). a.start) args ∙ place.0 in
      let o' = one-as at (ap (λ (a : Arguments). a.end) args ∙ place.1) o in (
        ap₂ exec_shape o.same.size
            (ap (λ (k : ℕ). execute_in g payload (k - payload)) o.same.size ∙ one-execute f g payload n o'),
        omega (arith, at, (one_inside o).0),
      )

-- ---- a part inside a part of the payload

-- the only part in field k of the parts in field f
module _ (f k : ℕ) (s : List ℕ) where
  record InnerOf (q : Part) : Type 0 where
    part : Part
    is : InnerPart f k s payload part q

  inner-parts : Every InnerOf (parts_in k s (parts_of f s payload))
  inner-parts =
      inner_every InnerOf k s (parts_of f s payload)
      (every_part f s payload (λ p. Every InnerOf (parts_of k (take (end_of p) s) p.start))
      (λ p a.
      every_part k (take (end_of p) s) p.start InnerOf
      (λ q b. record { part = p; is = record { outer = a; inner = b } })))

  only_part : {q : Part} → parts_in k s (parts_of f s payload) ≡ q ∷ [] → InnerOf q
  unfolding Every
  only_part e = (subst (Every InnerOf) e inner-parts).0

  -- where it lies, and what other bytes in it leave as it is
  module _ (t : List ℕ) (q : Part) (o : OneField s t q.start (end_of q))
      (e : parts_in k s (parts_of f s payload) ≡ q ∷ []) where
    only-in : payload < o.start
    only-in =
        let i = only_part e in
        omega (arith, (part_in i.is.outer).0, (part_in i.is.inner).0, (one_inside o).0)

    only-unread : Unread f k s t payload q
    only-unread =
        let i = one_inside o in
        inner_unread f k s t payload (only_part e).part q (only_part e).is
        (same_wider o.same q.start (end_of q) (omega (arith, i.0)) i.1)

-- ---- an Open

abbrev open_in : List ℕ → Slots
open_in s = fields_at (rows_of Client.open') s payload

unfoldable open_shape : ℕ → Slots → Bool → Frame → Frame
open_shape n x good body =
    cond x.good (cond good body (Frame.BadPayload n Client.open')) (Frame.BadPayload n Client.open')

abbrev opens_by : List ℕ → Slots → List Part → Frame
opens_by s x es = open_by s (value_of x 1) (optional_of x 5) es

open_shape_lem : (s : List ℕ) →
    open_frame s
    ≡ open_shape (length s) (open_in s) (merged (rows_of open_stmt) s (open_parts s)).good
    (opens_by s (open_in s) (execute_parts s))
unfolding open_frame open_shape
open_shape_lem s = refl

-- the body of a good frame
body_inv : (a b : Bool) (n kind used : ℕ) (p : Frame) (q : Request) →
    cond a (cond b p (Frame.BadPayload n kind)) (Frame.BadPayload n kind) ≡ Frame.Good used q → p ≡ Frame.Good used q
body_inv true true n kind used p q e = e
body_inv true false n kind used p q e = absurd (let z : ◌≡◌ {A = ℕ} 0 1 = cc in omega arith)
body_inv false b n kind used p q e = absurd (let z : ◌≡◌ {A = ℕ} 0 1 = cc in omega arith)

module _ (f g : List ℕ) where
  -- the Executes of f, which stand there once
  open_by_lem : (es : List Part) → execute_parts f ≡ es → (used : ℕ) (q : Request) →
      opens_by f (open_in f) es ≡ Frame.Good used q → (o : OneField f g (args_of q).start (args_of q).end) →
      (open_frame g ≡ open_frame f) × (payload < o.start)
  unfolding one-as
  open_by_lem [] is used q e o = absurd (let z : ◌≡◌ {A = ℕ} 0 1 = cc in omega arith)
  open_by_lem (r ∷ (s ∷ es)) is used q e o =
      absurd (twice_inv (executes_good f (r ∷ (s ∷ es))) (length f) Client.open' used q e)
  open_by_lem (r ∷ []) is used q e o =
      let a = execute_in f r.start r.len in
      let inv = frame_inv true true a.args.good (length f) Client.open' used _ q e in
      let args = ap args_of (sym inv.3) in
      let place = execute_place f r.start r.len inv.2 in
      let at = ap (λ (b : Arguments). b.start) args ∙ place.0 in
      let o' = one-as f g at (ap (λ (b : Arguments). b.end) args ∙ place.1) o in
      let u = only-unread 4 2 f g r o' is in
      let x = open_in f in (
        open_shape_lem g
            ∙ ap
            (λ (z : Slots).
            open_shape (length g) z (merged (rows_of open_stmt) g (open_parts g)).good (opens_by g z (execute_parts g)))
            (u.own (rows_of Client.open'))
            ∙ ap (λ (y : Slots). open_shape (length g) x y.good (opens_by g x (execute_parts g)))
            (ap (merged (rows_of open_stmt) g) (u.parts 4) ∙ u.fields (rows_of open_stmt))
            ∙ ap (λ (es : List Part). open_shape (length g) x (stmt_good f) (opens_by g x es))
            (ap (parts_in 2 g) (u.parts 4) ∙ u.inner 2 ∙ is)
            ∙ ap₂ (λ (n : ℕ) (y : Execute). open_shape n x (stmt_good f) (opened n x r y)) o.same.size
            (one-execute f g r.start r.len o')
            ∙ ap (λ (es : List Part). open_shape (length f) x (stmt_good f) (opens_by f x es)) (sym is)
            ∙ sym (open_shape_lem f),
        only-in 4 2 f g r o' is,
      )
    where
      stmt_good : List ℕ → Bool
      stmt_good l = (merged (rows_of open_stmt) l (open_parts l)).good

      opened : ℕ → Slots → Part → Execute → Frame
      opened n x body y =
          cond y.args.good
          (Frame.Good n
          (Request.Open
          (record { cursor = low32 (value_of x 1); rows = optional_of x 5; body = body; execute = y })))
          (Frame.BadPayload n Client.open')

  open-one : Same f g (open_frame f) (open_frame g)
  unfolding open_shape
  open-one used q e o =
      open_by_lem (execute_parts f) refl used q
      (body_inv (open_in f).good (merged (rows_of open_stmt) f (open_parts f)).good (length f) Client.open' used _ q
      (sym (open_shape_lem f) ∙ e))
      o

-- ---- a Prepare

module _ (f g : List ℕ) where
  -- the bodies of f, one of which stands there
  prepare-by : (bs : List Part) →
      parts_in (Operation.field_of (type_in (stmt_in f))) f (stmt_parts f) ≡ bs → (used : ℕ) (q : Request) →
      prepare_by f (value_of (prepare_in f) 1) (type_in (stmt_in f)) bs ≡ Frame.Good used q →
      (o : OneField f g (args_of q).start (args_of q).end) →
      (prepare_frame g ≡ prepare_frame f) × (payload < o.start)
  unfolding one-as
  prepare-by [] is used q e o = absurd (let z : ◌≡◌ {A = ℕ} 0 1 = cc in omega arith)
  prepare-by (r ∷ (s ∷ bs)) is used q e o =
      absurd (twice_inv (bodies_good f (type_in (stmt_in f)) (r ∷ (s ∷ bs))) (length f) Client.prepare used q e)
  prepare-by (r ∷ []) is used q e o =
      let t = type_in (stmt_in f) in
      let k = Operation.field_of t in
      let id = value_of (prepare_in f) 1 in
      let a = body_in f t r.start r.len in
      let inv = frame_inv true true a.good (length f) Client.prepare used _ q e in
      let args = ap args_of (sym inv.3) in
      ⊎_elim
      (λ place.
      let at = ap (λ (b : Arguments). b.start) args ∙ place.0 in
      let o' = one-as f g at (ap (λ (b : Arguments). b.end) args ∙ place.1) o in
      let u = only-unread 2 k f g r o' is in (
        same_frame u o.same.size
            (ap (prepare_by g id t) is
            ∙ ap₂ (λ (n : ℕ) (b : Arguments). prepared n id t r b) o.same.size
            (one-body f g r.start r.len o' t)
            ∙ ap (prepare_by f id t) (sym is)),
        only-in 2 k f g r o' is,
      ))
      (λ z. absurd (no_one f g o (ap (λ (b : Arguments). b.end) args ∙ z)))
      (body_place f t r.start r.len inv.2)
    where
      prepared : ℕ → ℕ → ℕ → Part → Arguments → Frame
      prepared n id t body b =
          cond b.good
          (Frame.Good n (Request.Prepare (record { stmt = low32 id; operation = t; body = body; args = b })))
          (Frame.BadPayload n Client.prepare)

  prepare-one : Same f g (prepare_frame f) (prepare_frame g)
  unfolding shape
  prepare-one used q e o =
      prepare-by (parts_in (Operation.field_of (type_in (stmt_in f))) f (stmt_parts f)) refl used q
      (body_inv (prepare_in f).good (stmt_in f).good (length f) Client.prepare used _ q (sym (frame_shape f) ∙ e)) o

-- ---- every frame

module _ (f g : List ℕ) where
  reset-one : Same f g (reset_frame f) (reset_frame g)
  unfolding reset_frame
  reset-one = bare-one f g (length f) Client.reset (fields_at [] f payload).good Request.Reset (reset_frame g) refl

  close-session-one : Same f g (session_close_frame f) (session_close_frame g)
  unfolding session_close_frame
  close-session-one =
      bare-one f g (length f) Client.session_close (fields_at [] f payload).good Request.SessionClose
      (session_close_frame g) refl

  deallocate-one : Same f g (deallocate_frame f) (deallocate_frame g)
  unfolding deallocate_frame
  deallocate-one =
      bare-one f g (length f) Client.deallocate (fields_at (rows_of Client.deallocate) f payload).good _
      (deallocate_frame g) refl

  close-one : Same f g (close_frame f) (close_frame g)
  unfolding close_frame
  close-one =
      bare-one f g (length f) Client.close (fields_at (rows_of Client.close) f payload).good _ (close_frame g) refl

  fetch-one : Same f g (fetch_frame f) (fetch_frame g)
  unfolding fetch_frame
  fetch-one =
      bare-one f g (length f) Client.fetch (fields_at (rows_of Client.fetch) f payload).good _ (fetch_frame g) refl

  either : (b : Bool) {x y u v : Frame} → Same f g x u → Same f g y v → Same f g (cond b x y) (cond b u v)
  either true p q = p
  either false p q = q

  kind-one : (kind : ℕ) → Same f g (frame_in f kind) (frame_in g kind)
  unfolding frame_in
  kind-one kind =
      either (eqb kind Client.reset) reset-one
      (either (eqb kind Client.session_close) close-session-one
      (either (eqb kind Client.prepare) (prepare-one f g)
      (either (eqb kind Client.execute) (execute_one f g)
      (either (eqb kind Client.deallocate) deallocate-one
      (either (eqb kind Client.open') (open-one f g)
      (either (eqb kind Client.close) close-one
      (either (eqb kind Client.fetch) fetch-one
      (λ used q e o. absurd (let z : ◌≡◌ {A = ℕ} 0 1 = cc in omega arith)))))))))

head_one : (s t : List ℕ) (used : ℕ) (q : Request) (h : HeadResult) → head_of s ≡ h → of_head s h ≡ Frame.Good used q →
    OneField s t (args_of q).start (args_of q).end → of_head t (head_of t) ≡ of_head s h
head_one s t used q (Ok h) e g o =
    let end = h.end in
    let kind = h.kind in
    let within = frame_within s (sym e) in
    let w = every_frame (take end s) PartsInside (λ _. tt) (λ _. tt) tt (λ r i. i) kind in
    let i = subst PartsInside g w in
    let u = sym (ap used_of g) ∙ uses_all (take end s) kind ∙ length-take-le end s within in
    let cut : (args_of q).end ≤ end = omega (arith, i.args) in
    let c = kind-one (take end s) (take end t) kind used q g (one_cut o end cut) in
    ap (of_head t)
    (head_same s t (omega (arith, o.same.size))
    (λ j l _. o.same.same j (inl (omega (arith, c.1, cut_start o end cut))))
    (λ z. let y = sym e ∙ z in let v : ◌≡◌ {A = ℕ} 0 1 = cc in omega arith)
    ∙ e)
    ∙ c.0
head_one s t used q (Err reason) e g o = absurd (refused (eqb (Reason.number_of reason) Reason.bad_length) g)
  where
    refused : (b : Bool) → cond b Frame.BadLength Frame.NotAllThere ≡ Frame.Good used q → ⊥
    refused true z = let v : ◌≡◌ {A = ℕ} 0 1 = cc in omega arith
    refused false z = let v : ◌≡◌ {A = ℕ} 0 1 = cc in omega arith

pub argument_unread : ArgumentUnread
unfolding frame_of
argument_unread s t used q g o = head_one s t used q (head_of s) refl g o
