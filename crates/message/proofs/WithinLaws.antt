-- The parts of a request lie within its frame, as a law for every frame. Assumes nothing.
use Rattle.prelude.proofs.Basics.{Option}
use Rattle.prelude.proofs.Basics.{ℕ, ◌+◌, ◌-◌, ◌≤◌, arith, Bool, true, false, ◌≡◌, refl, sym, subst, ◌∙◌, List, []}
use Rattle.prelude.proofs.Basics.{◌∷◌, length, take, length-take-le, eqb, leb, ltb, leb-true, ltb-false, both, Ok, Err}
use Rattle.protocol.specs.Client as Client
use Rattle.args.specs.Arguments.{any_type_of, with_type}
use Rattle.message.proofs.Names.{Argument, prepare_stmt, stmt_execute, open_stmt, rows_of, fields_at, embedded}
use Rattle.message.proofs.Names.{value_of, low32, merged, Part, Slots, good_list, arguments_at}
use Rattle.message.proofs.Names.{no_arguments, bad_arguments, together, Arguments, length_bytes, max_length}
use Rattle.message.proofs.Names.{length_of, head_of, payload, if_good, twice, optional_of, reset_frame}
use Rattle.message.proofs.Names.{session_close_frame, deallocate_frame, close_frame, fetch_frame, bad_execute}
use Rattle.message.proofs.Names.{arguments_within, execute_of, execute_in, execute_frame, executes_good, open_by}
use Rattle.message.proofs.Names.{open_parts, execute_parts, open_frame, body_in, bodies_good, prepare_by, stmt_parts}
use Rattle.message.proofs.Names.{body_parts, prepare_frame, frame_in, HeadResult, framed, Frame, Request}
use Rattle.message.specs.Operation as Operation
use Rattle.message.specs.Request as Request
use Rattle.message.specs.WithinRules.{Inside}

-- arguments end where their bytes do, or are bad
abbrev Stretch : ℕ → Arguments → Type 0
Stretch n y = (y.start ≤ y.end) × (y.end ≤ n)

module _ (n : ℕ) where
  bad-stretch : Stretch n bad_arguments
  bad-stretch = (omega arith, omega arith)

  type-stretch : (x : Arguments) (t : ℕ) → Stretch n x → Stretch n (with_type x t)
  type-stretch x t h =
      both (Stretch n) (eqb t 0) _ _ (λ _. bad-stretch)
      (λ _.
      both (Stretch n) (ltb t 2) _ _ (λ _. (h.0, h.1))
      (λ _. both (Stretch n) (eqb x.kind 0) _ _ (λ _. (h.0, h.1)) (λ _. (h.0, h.1))))

  together-stretch : (x : Arguments) (l : List Argument) → Stretch n x → Stretch n (together x l)
  unfolding together
  together-stretch x [] h = h
  together-stretch x (a ∷ rest) h =
      both (Stretch n) (eqb (any_type_of a) 0) _ _ (λ _. bad-stretch)
      (λ _. together-stretch (with_type x (any_type_of a)) rest (type-stretch x (any_type_of a) h))

within_stretch : (s : List ℕ) (at n : ℕ) → Stretch (length s) (arguments_within s at n)
unfolding arguments_within
within_stretch s at n =
    both (Stretch (length s)) (leb (at + n) (length s)) _ _
    (λ e.
    let h = leb-true (at + n) (length s) e in
    let l = length-take-le (at + n) s h in
    together-stretch (length s) (no_arguments at (length (take (at + n) s))) (arguments_at (take (at + n) s) at)
    (omega arith, omega arith))
    (λ _. bad-stretch (length s))

-- what is good lies within the bytes
embedded_within : (rows : List (List ℕ)) (s : List ℕ) (at n : ℕ) → (embedded rows s at n).good ≡ true → at + n ≤ length s
embedded_within rows s at n h = (good_list rows s at (at + n) h).0

pub execute_good_inv : (x : Slots) (a : Arguments) → (execute_of x a).args.good ≡ true →
    (x.good ≡ true) × ((execute_of x a).args ≡ a)
execute_good_inv x a h = go x.good refl a.good refl
  where
    go : (b : Bool) → x.good ≡ b → (d : Bool) → a.good ≡ d → (x.good ≡ true) × ((execute_of x a).args ≡ a)
    go true e true f = (e, rw (e, f))
    go true e false f =
        absurd (let g : bad_execute.args.good ≡ true = sym (rw (e, f)) ∙ h in let z : ◌≡◌ {A = ℕ} 0 1 = cc in
        omega arith)
    go false e d f =
        absurd (let g : bad_execute.args.good ≡ true = sym (rw e) ∙ h in let z : ◌≡◌ {A = ℕ} 0 1 = cc in omega arith)

execute_inside : (s : List ℕ) (at n : ℕ) → (execute_in s at n).args.good ≡ true →
    (at + n ≤ length s) × Stretch (length s) (execute_in s at n).args
unfolding execute_in
execute_inside s at n g =
    let h = execute_good_inv (embedded (rows_of Client.execute) s at n) (arguments_within s at n) g in (
      embedded_within (rows_of Client.execute) s at n h.0,
      subst (Stretch (length s)) (sym h.1) (within_stretch s at n),
    )

body_inside : (s : List ℕ) (t at n : ℕ) → (body_in s t at n).good ≡ true →
    (at + n ≤ length s) × Stretch (length s) (body_in s t at n)
unfolding body_in
body_inside s t at n =
    both P (eqb t Operation.stmt_execute) _ _
    (λ _.
    both P (embedded (rows_of stmt_execute) s at n).good _ _
    (λ g _. (embedded_within (rows_of stmt_execute) s at n g, within_stretch s at n))
    (λ _ h. absurd (let z : ◌≡◌ {A = ℕ} 0 1 = cc in omega arith)))
    (λ _.
    both P (embedded [] s at n).good _ _ (λ g _. (embedded_within [] s at n g, (omega arith, omega arith)))
    (λ _ h. absurd (let z : ◌≡◌ {A = ℕ} 0 1 = cc in omega arith)))
  where
    P : Arguments → Type 0
    P y = y.good ≡ true → (at + n ≤ length s) × Stretch (length s) y

-- what holds of a bad payload, of a body twice, of an unknown type and of every request that lies within the frame,
-- holds of each frame, whatever its type
module _ (s : List ℕ) (P : Frame → Type 0) (bad : (kind : ℕ) → P (Frame.BadPayload (length s) kind))
    (doubled : (kind : ℕ) → P (Frame.BodyTwice (length s) kind)) (unknown : P (Frame.UnknownType (length s)))
    (good : (q : Request) → Inside (length s) q → P (Frame.Good (length s) q)) where
  if-good : (kind : ℕ) (b : Bool) (q : Request) → (b ≡ true → Inside (length s) q) → P (if_good s kind b q)
  if-good kind true q h = good q (h refl)
  if-good kind false q h = bad kind

  either-twice : (kind : ℕ) (b : Bool) → P (twice (length s) kind b)
  either-twice kind true = doubled kind
  either-twice kind false = bad kind

  -- a request with no body and no arguments
  bare : (kind : ℕ) (b : Bool) (q : Request) → (Request.body_of q).start + (Request.body_of q).len ≡ 0 →
      ((Request.args_of q).start ≡ 0) × ((Request.args_of q).end ≡ 0) → P (if_good s kind b q)
  bare kind b q e f = if-good kind b q (λ _. record { body = omega arith; stretch = omega arith; args = omega arith })

  reset-has : P (reset_frame s)
  unfolding reset_frame
  reset-has = bare Client.reset (fields_at [] s payload).good Request.Reset refl (refl, refl)

  session-close-has : P (session_close_frame s)
  unfolding session_close_frame
  session-close-has = bare Client.session_close (fields_at [] s payload).good Request.SessionClose refl (refl, refl)

  deallocate-has : P (deallocate_frame s)
  unfolding deallocate_frame
  deallocate-has = bare Client.deallocate (fields_at (rows_of Client.deallocate) s payload).good _ refl (refl, refl)

  close-has : P (close_frame s)
  unfolding close_frame
  close-has = bare Client.close (fields_at (rows_of Client.close) s payload).good _ refl (refl, refl)

  fetch-has : P (fetch_frame s)
  unfolding fetch_frame
  fetch-has = bare Client.fetch (fields_at (rows_of Client.fetch) s payload).good _ refl (refl, refl)

  execute-has : P (execute_frame s)
  unfolding execute_frame
  execute-has =
      let n = length s - payload in
      if-good Client.execute (execute_in s payload n).args.good _
      (λ g. let h = execute_inside s payload n g in record { body = omega arith; stretch = h.1.0; args = h.1.1 })

  open_by_lem : (id : ℕ) (rows : Option ℕ) (es : List Part) → P (open_by s id rows es)
  open_by_lem id rows [] = bad Client.open'
  open_by_lem id rows (e ∷ []) =
      if-good Client.open' (execute_in s e.start e.len).args.good _
      (λ g.
      let h = execute_inside s e.start e.len g in
      record { body = h.0; stretch = h.1.0; args = h.1.1 })
  open_by_lem id rows (e ∷ (f ∷ es)) = either-twice Client.open' (executes_good s (e ∷ (f ∷ es)))

  open-has : P (open_frame s)
  unfolding open_frame
  open-has =
      let x = fields_at (rows_of Client.open') s payload in
      both P x.good _ _
      (λ _.
      both P (merged (rows_of open_stmt) s (open_parts s)).good _ _
      (λ _. open_by_lem (value_of x 1) (optional_of x 5) (execute_parts s)) (λ _. bad Client.open'))
      (λ _. bad Client.open')

  prepare-by : (id t : ℕ) (bs : List Part) → P (prepare_by s id t bs)
  prepare-by id t [] = bad Client.prepare
  prepare-by id t (b ∷ []) =
      if-good Client.prepare (body_in s t b.start b.len).good _
      (λ g.
      let h = body_inside s t b.start b.len g in
      record { body = h.0; stretch = h.1.0; args = h.1.1 })
  prepare-by id t (b ∷ (c ∷ bs)) = either-twice Client.prepare (bodies_good s t (b ∷ (c ∷ bs)))

  prepare-has : P (prepare_frame s)
  unfolding prepare_frame
  prepare-has =
      let x = fields_at (rows_of Client.prepare) s payload in
      let y = merged (rows_of prepare_stmt) s (stmt_parts s) in
      let t = low32 (value_of y 1) in
      both P x.good _ _
      (λ _. both P y.good _ _ (λ _. prepare-by (value_of x 1) t (body_parts s t)) (λ _. bad Client.prepare))
      (λ _. bad Client.prepare)

  pub every_frame : (kind : ℕ) → P (frame_in s kind)
  unfolding frame_in
  every_frame kind =
      both P (eqb kind Client.reset) _ _ (λ _. reset-has)
      (λ _.
      both P (eqb kind Client.session_close) _ _ (λ _. session-close-has)
      (λ _.
      both P (eqb kind Client.prepare) _ _ (λ _. prepare-has)
      (λ _.
      both P (eqb kind Client.execute) _ _ (λ _. execute-has)
      (λ _.
      both P (eqb kind Client.deallocate) _ _ (λ _. deallocate-has)
      (λ _.
      both P (eqb kind Client.open') _ _ (λ _. open-has)
      (λ _.
      both P (eqb kind Client.close) _ _ (λ _. close-has)
      (λ _. both P (eqb kind Client.fetch) _ _ (λ _. fetch-has) (λ _. unknown))))))))

-- a whole frame lies within the bytes
abbrev Ends : ℕ → HeadResult → Type 0
Ends n (Ok head) = head.end ≤ n
Ends n (Err reason) = Unit {0}

head_ends : (s : List ℕ) → Ends (length s) (head_of s)
head_ends s =
    both (Ends (length s)) (leb length_bytes (length s)) _ _
    (λ _.
    both (Ends (length s)) (eqb (length_of s) 0) _ _ (λ _. tt)
    (λ _.
    both (Ends (length s)) (ltb max_length (length_of s)) _ _ (λ _. tt)
    (λ _.
    both (Ends (length s)) (ltb (length s) (length_bytes + length_of s)) _ _ (λ _. tt)
    (λ e. ltb-false (length s) (length_bytes + length_of s) e))))
    (λ _. tt)

pub frame_within : (s : List ℕ) {kind end : ℕ} → framed kind end ≡ head_of s → end ≤ length s
frame_within s {kind} {end} e = go (head_ends s)
  where
    go : Ends (length s) (head_of s) → end ≤ length s
    go = rw (← e) (λ h. h)
