-- A look, case by case: refused, or the work that the request wants. Assumes nothing.
use Rattle.prelude.proofs.Basics.{ℕ, arith, Bool, true, false, cond, ◌≡◌, refl, sym, ap, ◌∙◌, eqb}
use Rattle.std.specs.Prelude.{Result, Ok, Err}
use Rattle.std.specs.Result.{result_and}
use Rattle.protocol.specs.Reason as Reasons
use Rattle.protocol.specs.Reason.{outcome_number}
use Rattle.protocol.specs.declared.reason.Reason.{Reason}
use Rattle.protocol.proofs.ReasonLaws.{some_reason}
use Rattle.message.specs.declared.request.Frame.TheVariants.{NotAllThere, BadLength, UnknownType, BadPayload}
use Rattle.message.specs.declared.request.Frame.TheVariants.{BodyTwice, Good}
use Rattle.rules.specs.Report.{no_work, to_prepare, to_execute, to_open}
use Rattle.rules.specs.Decision.{look_by}
use Rattle.keeper.proofs.Names.{Execute, Fetch, Open, Prepare, Request, Session, is_closed, live_cursor}
use Rattle.keeper.proofs.Names.{Cursor, look_reason, first_row, looked, look_refused, look_of, Look}
use Rattle.keeper.specs.private.Reasons.{request_reason, closed_or, look_work, look_rows, fetch_reason}
use Rattle.keeper.proofs.RequestLaws.{fetch_looks, reset_looks, session_close_looks}

-- ---- a frame that holds no request

module _ (s : Session) where
  pub cut_look : look_refused Reasons.not_all_there ≡ look_of s NotAllThere
  unfolding look_of look_reason
  cut_look = refl

  pub length_look : look_refused Reasons.bad_length ≡ look_of s BadLength
  unfolding look_of look_reason
  length_look = refl

  pub unknown_look : (used : ℕ) {n : ℕ} → n ≡ closed_or (is_closed s) Reasons.unknown_type →
      look_refused n ≡ look_of s (UnknownType used)
  unfolding look_of look_reason
  unknown_look used e = ap look_refused e ∙ go (is_closed s)
    where
      go : (c : Bool) → look_refused (closed_or c Reasons.unknown_type) ≡ look_by s (UnknownType used)
          (cond c Reasons.closed Reasons.unknown_type)
      go true = refl
      go false = refl

  pub payload_look : (used kind : ℕ) {n : ℕ} → n ≡ closed_or (is_closed s) Reasons.bad_payload →
      look_refused n ≡ look_of s (BadPayload used kind)
  unfolding look_of look_reason
  payload_look used kind e = ap look_refused e ∙ go (is_closed s)
    where
      go : (c : Bool) → look_refused (closed_or c Reasons.bad_payload) ≡ look_by s (BadPayload used kind)
          (cond c Reasons.closed Reasons.bad_payload)
      go true = refl
      go false = refl

  pub twice_look : (used kind : ℕ) {n : ℕ} → n ≡ closed_or (is_closed s) Reasons.body_twice →
      look_refused n ≡ look_of s (BodyTwice used kind)
  unfolding look_of look_reason
  twice_look used kind e = ap look_refused e ∙ go (is_closed s)
    where
      go : (c : Bool) → look_refused (closed_or c Reasons.body_twice) ≡ look_by s (BodyTwice used kind)
          (cond c Reasons.closed Reasons.body_twice)
      go true = refl
      go false = refl

  -- a look does not tell how long the frame is
  pub look_any : (used : ℕ) (q : Request) → look_of s (Good 0 q) ≡ look_of s (Good used q)
  unfolding look_of look_reason
  look_any used q = refl

-- ---- a request

module _ (s : Session) (q : Request) where
  pub closed_look : is_closed s ≡ true → look_refused Reasons.closed ≡ look_of s (Good 0 q)
  unfolding look_of look_reason
  closed_look e = sym (rw e)

  pub found_look : is_closed s ≡ false → {n : ℕ} → n ≡ request_reason s q → (l : Look) → l ≡ looked s q →
      cond (eqb n Reasons.accepted) l (look_refused n) ≡ look_of s (Good 0 q)
  unfolding look_of look_reason request_reason
  found_look e {n} f l g =
      ap (λ (k : ℕ). cond (eqb k Reasons.accepted) l (look_refused k)) f
      ∙ ap (λ y. cond (eqb (request_reason s q) Reasons.accepted) y (look_refused (request_reason s q))) g
      ∙ sym (rw e)

  pub as_look : {p : Request} {l : Look} → q ≡ p → l ≡ look_of s (Good 0 p) → l ≡ look_of s (Good 0 q)
  as_look e g = g ∙ ap (λ y. look_of s (Good 0 y)) (sym e)

-- the work of each request
module _ (s : Session) where
  pub reset_wants : look_work no_work ≡ looked s Request.Reset
  unfolding first_row
  reset_wants = refl

  pub session_close_wants : look_work no_work ≡ looked s Request.SessionClose
  unfolding first_row
  session_close_wants = refl

  pub prepare_wants : (p : Prepare) → look_work to_prepare ≡ looked s (Request.Prepare p)
  unfolding first_row
  prepare_wants p = refl

  pub execute_wants : (x : Execute) → look_work to_execute ≡ looked s (Request.Execute x)
  unfolding first_row
  execute_wants x = refl

  pub deallocate_wants : (id : ℕ) → look_work no_work ≡ looked s (Request.Deallocate id)
  unfolding first_row
  deallocate_wants id = refl

  pub open_wants : (o : Open) → look_work to_open ≡ looked s (Request.Open o)
  unfolding first_row
  open_wants o = refl

  pub close_wants : (id : ℕ) → look_work no_work ≡ looked s (Request.Close id)
  unfolding first_row
  close_wants id = refl

-- of a Fetch also the rows, by its cursor
pub fetch_wants : (s : Session) (f : Fetch) {c : Cursor} → c ≡ live_cursor s f.cursor →
    look_rows c f.rows ≡ looked s (Request.Fetch f)
unfolding first_row
fetch_wants s f found = ap (λ y. look_rows y f.rows) found

-- ---- closed or not

-- the first of two outcomes, of which the first says whether the session is closed
pub closed_and : (s : Session) {A B : Type 0} (first : Result A Reason) (next : Result B Reason) →
    outcome_number first ≡ closed_or (is_closed s) Reasons.accepted →
    outcome_number (result_and first next) ≡ closed_or (is_closed s) (outcome_number next)
closed_and s first next e = go first (is_closed s) e
  where
    go : {A : Type 0} (first : Result A Reason) (closed : Bool) →
        outcome_number first ≡ closed_or closed Reasons.accepted →
        outcome_number (result_and first next) ≡ closed_or closed (outcome_number next)
    go (Ok x) true f = absurd (omega arith)
    go (Ok x) false f = refl
    go (Err x) true f = f
    go (Err x) false f = absurd (some_reason x f)

module _ (s : Session) where
  -- the reason of a request, where closed comes first
  pub closed_or_look : (q : Request) (n : ℕ) → n ≡ request_reason s q → (l : Look) → l ≡ looked s q →
      cond (eqb (closed_or (is_closed s) n) Reasons.accepted) l (look_refused (closed_or (is_closed s) n))
      ≡ look_of s (Good 0 q)
  closed_or_look q n e l f = go (is_closed s) refl
    where
      go : (b : Bool) → is_closed s ≡ b →
          cond (eqb (closed_or b n) Reasons.accepted) l (look_refused (closed_or b n)) ≡ look_of s (Good 0 q)
      go true h = closed_look s q h
      go false h = found_look s q h e l f

  pub fetch_look : (f : Fetch) (c : Cursor) {n m : ℕ} → c ≡ live_cursor s f.cursor → n ≡ fetch_reason c →
      m ≡ closed_or (is_closed s) n →
      cond (eqb m Reasons.accepted) (look_rows c f.rows) (look_refused m) ≡ look_of s (Good 0 (Request.Fetch f))
  unfolding first_row
  fetch_look f c {n} found e g =
      ap (λ (k : ℕ). cond (eqb k Reasons.accepted) (look_rows c f.rows) (look_refused k)) g
      ∙ closed_or_look (Request.Fetch f) n (fetch_looks s f found e) (look_rows c f.rows)
      (ap (λ y. look_rows y f.rows) found)

  -- a Session close is looked at as a Reset
  pub close_as_reset : look_of s (Good 0 Request.Reset) ≡ look_of s (Good 0 Request.SessionClose)
  close_as_reset =
      sym (closed_or_look Request.Reset 0 (reset_looks s) (look_work no_work) (reset_wants s))
      ∙ closed_or_look Request.SessionClose 0 (session_close_looks s) (look_work no_work) (session_close_wants s)
