-- A body that a Prepare's type does not choose is not read. Assumes nothing.
use Rattle.prelude.proofs.Basics.{ℕ, ◌+◌, ◌≤◌, ◌<◌, arith, Bool, true, false, ◌&&◌, cond, ◌≡◌, refl, sym, ap, ap₂, ◌∙◌}
use Rattle.prelude.proofs.Basics.{inl, inr, ⊎_elim, List, [], ◌∷◌, length, get_or, take, length-take-le, leb, leb-true}
use Rattle.protocol.specs.Client as Client
use Rattle.layout.specs.SameBut.{SameBut}
use Rattle.layout.specs.Unchosen.{Apart, Every, Unread}
use Rattle.layout.proofs.UnreadPartsLaws.{every_as, part_in, same_take, ReadsAlike, alike_beside, merged_local}
use Rattle.layout.proofs.UnreadPartsLaws.{inner_unread}
use Rattle.args.proofs.UnreadLaws.{take_same, embedded_local, arguments_local}
use Rattle.message.proofs.Names.{Argument, prepare_stmt, stmt_execute, rows_of, fields_at, value_of, low32, end_of}
use Rattle.message.proofs.Names.{parts_in, merged, Part, Slots, arguments_at, no_arguments, together}
use Rattle.message.proofs.Names.{type_in, Arguments, take_size, payload, twice, arguments_within, arguments_good}
use Rattle.message.proofs.Names.{body_in, bodies_good, prepare_by, stmt_parts, prepare_frame, frame_in, of_head}
use Rattle.message.proofs.Names.{frame_of}
use Rattle.message.proofs.Names.{stmt_in, Frame, Request}
use Rattle.message.specs.Operation as Operation
use Rattle.message.specs.UnreadRules.{UnchosenUnread}
use Rattle.message.proofs.BehindLaws.{head_same}

-- ---- a body with the same bytes

module _ (s t : List ℕ) (at n : ℕ) (size : length t ≡ length s)
    (same : (i : ℕ) → at ≤ i → i < at + n → get_or t i 0 ≡ get_or s i 0) where
  within-local : arguments_within t at n ≡ arguments_within s at n
  unfolding arguments_within
  within-local = go (leb (at + n) (length s)) refl
    where
      list : at + n ≤ length s → arguments_at (take (at + n) t) at ≡ arguments_at (take (at + n) s) at
      list h =
          arguments_local (take (at + n) s) (take (at + n) t) at
          (record {
            size = take_size (at + n) s t size;
            same = λ i g. take_same (at + n) s t i size (λ l. same i g l);
          })
          (omega (arith, length-take-le (at + n) s h))

      go : (b : Bool) → leb (at + n) (length s) ≡ b → arguments_within t at n ≡ arguments_within s at n
      go true e =
          rw (size, e)
          (ap₂ (λ (k : ℕ) (l : List Argument). together (no_arguments at k) l) (take_size (at + n) s t size)
          (list (leb-true (at + n) (length s) e)))
      go false e = rw (size, e)

  body-local : (operation : ℕ) → body_in t operation at n ≡ body_in s operation at n
  unfolding body_in
  body-local operation =
      rw (
        embedded_local (rows_of stmt_execute) s t at n size same,
        embedded_local [] s t at n size same,
        within-local,
      )

-- ---- bodies in other bytes

-- one body, or several, that stand beside what differs
module _ {s t : List ℕ} (q : Part) (b : SameBut s t q.start (end_of q)) where
  good-local : (ps : List Part) → Every (Apart q) ps → arguments_good t ps ≡ arguments_good s ps
  unfolding arguments_good Every
  good-local [] w = refl
  good-local (p ∷ ps) w =
      ap₂ ◌&&◌
      (ap (λ (a : Arguments). a.good)
      (within-local s t p.start p.len b.size
      (λ i h l. ⊎_elim (λ d. b.same i (inl (omega arith))) (λ d. b.same i (inr (omega arith))) w.0)))
      (good-local ps w.1)

  alike : (ps : List Part) → Every (Apart q) ps → Every (ReadsAlike s t) ps
  alike ps w = every_as (Apart q) (ReadsAlike s t) (λ p d. alike_beside b p d) ps w

  bodies-local : (operation : ℕ) (bs : List Part) → Every (Apart q) bs →
      bodies_good t operation bs ≡ bodies_good s operation bs
  unfolding bodies_good
  bodies-local operation bs w =
      rw (
        merged_local (rows_of stmt_execute) s t bs (alike bs w),
        merged_local [] s t bs (alike bs w),
        good-local bs w,
      )

  by-local : (id operation : ℕ) (bs : List Part) → Every (Apart q) bs →
      prepare_by t id operation bs ≡ prepare_by s id operation bs
  unfolding Every
  by-local id operation [] w = ap (λ (n : ℕ). Frame.BadPayload n Client.prepare) b.size
  by-local id operation (c ∷ []) w =
      ap₂
      (λ (n : ℕ) (a : Arguments).
      cond a.good
      (Frame.Good n
      (Request.Prepare (record { stmt = low32 id; operation = operation; body = c; args = a })))
      (Frame.BadPayload n Client.prepare))
      b.size
      (body-local s t c.start c.len b.size
      (λ i h l. ⊎_elim (λ d. b.same i (inl (omega arith))) (λ d. b.same i (inr (omega arith))) w.0) operation)
  by-local id operation (c ∷ (d ∷ bs)) w =
      ap₂ (λ (n : ℕ) (good : Bool). twice n Client.prepare good) b.size
      (bodies-local operation (c ∷ (d ∷ bs)) w)

-- ---- the frame of its parts

unfoldable pub shape : ℕ → Slots → Slots → Frame → Frame
shape n x y body =
    cond x.good (cond y.good body (Frame.BadPayload n Client.prepare)) (Frame.BadPayload n Client.prepare)

abbrev pub prepare_in : List ℕ → Slots
prepare_in s = fields_at (rows_of Client.prepare) s payload

abbrev pub body_by : List ℕ → ℕ → List Part → Slots → Frame
body_by s id ps y = prepare_by s id (type_in y) (parts_in (Operation.field_of (type_in y)) s ps)

pub frame_shape : (s : List ℕ) →
    prepare_frame s
    ≡ shape (length s) (prepare_in s) (stmt_in s) (body_by s (value_of (prepare_in s) 1) (stmt_parts s) (stmt_in s))
unfolding prepare_frame shape
frame_shape s = refl

-- the same but for bytes that are not read
module _ {f g : List ℕ} {k : ℕ} {q : Part} (u : Unread 2 k f g payload q) where
  pub same_stmt : stmt_in g ≡ stmt_in f
  same_stmt = ap (merged (rows_of prepare_stmt) g) (u.parts 2) ∙ u.fields (rows_of prepare_stmt)

  pub same_bodies : (i : ℕ) → parts_in i g (stmt_parts g) ≡ parts_in i f (stmt_parts f)
  same_bodies i = ap (parts_in i g) (u.parts 2) ∙ u.inner i

  -- whatever is made of the bodies
  pub same_frame : length g ≡ length f →
      (let y = stmt_in f in
      let id = value_of (prepare_in f) 1 in
      prepare_by g id (type_in y) (parts_in (Operation.field_of (type_in y)) f (stmt_parts f))
      ≡ body_by f id (stmt_parts f) y) →
      prepare_frame g ≡ prepare_frame f
  same_frame size body =
      let x = prepare_in f in
      let y = stmt_in f in
      frame_shape g
      ∙ ap (λ (z : Slots). shape (length g) z (stmt_in g) (body_by g (value_of z 1) (stmt_parts g) (stmt_in g)))
      (u.own (rows_of Client.prepare))
      ∙ ap (λ (z : Slots). shape (length g) x z (body_by g (value_of x 1) (stmt_parts g) z)) same_stmt
      ∙ ap (λ (bs : List Part). shape (length g) x y (prepare_by g (value_of x 1) (type_in y) bs))
      (same_bodies (Operation.field_of (type_in y)))
      ∙ ap₂ (λ (n : ℕ) (r : Frame). shape n x y r) size body
      ∙ sym (frame_shape f)

pub unchosen_unread : UnchosenUnread
unfolding frame_of frame_in
unchosen_unread s t end k p q head other o b =
    let f = take end s in
    let g = take end t in
    let c = same_take b end in
    let u = inner_unread 2 k f g payload p q o c in
    let outer = part_in o.outer in
    let inner = part_in o.inner in
    let i = Operation.field_of (type_in (stmt_in f)) in
    ap (of_head t)
    (head_same s t (omega (arith, b.size)) (λ j h _. b.same j (inl (omega (arith, outer.0, inner.0))))
    (λ e. let h = sym head ∙ e in let z : ◌≡◌ {A = ℕ} 0 1 = cc in omega arith)
    ∙ head)
    ∙ same_frame u c.size
    (by-local q c (value_of (prepare_in f) 1) (type_in (stmt_in f)) (parts_in i f (stmt_parts f)) (u.beside i other))
    ∙ sym (ap (of_head s) head)
