-- 17 is told exactly where what is chosen occurs more than once, unless the payload is bad. Assumes nothing.
use Rattle.prelude.proofs.Basics.{Option}
use Rattle.prelude.proofs.Basics.{ℕ, ◌-◌, arith, Bool, ◌≡◌, refl, inl, inr, List, [], ◌∷◌, length, take, eqb}
use Rattle.prelude.proofs.Basics.{eqb-true, both}
use Rattle.protocol.specs.Client as Client
use Rattle.protocol.specs.Reason as Reason
use Rattle.varint.specs.Varint.{groups}
use Rattle.layout.specs.Fields.{fields_from}
use Rattle.args.specs.Arguments.{arguments_from, place_from, next_argument, together}
use Rattle.layout.specs.Merged.{parts_from, parts_in, parts_onto}
use Rattle.message.proofs.Names.{prepare_stmt, open_stmt, rows_of, fields_at, value_of, low32, merged, Part, Slots}
use Rattle.message.proofs.Names.{arguments_within, payload, if_good, twice, optional_of, reset_frame, session_close_frame}
use Rattle.message.proofs.Names.{deallocate_frame, close_frame, fetch_frame, execute_in, execute_frame, executes_good}
use Rattle.message.proofs.Names.{open_by, open_parts, execute_parts, open_frame, body_in, bodies_good, prepare_by}
use Rattle.message.proofs.Names.{stmt_parts, body_parts, prepare_frame, frame_in, frame_of, reason_of, Frame}
use Rattle.message.proofs.Names.{Request, little, field_at, row_for, has_required}
use Rattle.message.specs.declared.request.Execute.{Execute}
use Rattle.message.specs.TwiceRules.{Twice, TwiceWhen}
use Rattle.message.specs.TwiceSamples.{TwiceShown, OpenShown}

-- ---- by how often it occurs

module _ (s : List ℕ) (kind : ℕ) where
  bad-twice : (ps : List Part) → Twice ps (Frame.BadPayload (length s) kind)
  bad-twice ps = record { only = λ e. absurd (omega arith); always = λ h. inr refl }

  -- one is accepted, or bad
  once : (p : Part) (b : Bool) (q : Request) → Twice (p ∷ []) (if_good s kind b q)
  once p b q =
      both (Twice (p ∷ [])) b (Frame.Good (length s) q) (Frame.BadPayload (length s) kind)
      (λ _. record { only = λ e. absurd (omega arith); always = λ h. absurd (omega arith) })
      (λ _. bad-twice (p ∷ []))

  several : (p r : Part) (ps : List Part) (b : Bool) → Twice (p ∷ (r ∷ ps)) (twice (length s) kind b)
  several p r ps b =
      both (Twice (p ∷ (r ∷ ps))) b (Frame.BodyTwice (length s) kind) (Frame.BadPayload (length s) kind)
      (λ _. record { only = λ e. omega arith; always = λ h. inl refl })
      (λ _. bad-twice (p ∷ (r ∷ ps)))

module _ (s : List ℕ) where
  prepare-by : (id t : ℕ) (bs : List Part) → Twice bs (prepare_by s id t bs)
  prepare-by id t [] = bad-twice s Client.prepare []
  prepare-by id t (b ∷ []) = once s Client.prepare b (body_in s t b.start b.len).good _
  prepare-by id t (b ∷ (c ∷ bs)) = several s Client.prepare b c bs (bodies_good s t (b ∷ (c ∷ bs)))

  prepare-twice : Twice (body_parts s (low32 (value_of (merged (rows_of prepare_stmt) s (stmt_parts s)) 1))) (prepare_frame s)
  unfolding prepare_frame
  prepare-twice =
      let x = fields_at (rows_of Client.prepare) s payload in
      let y = merged (rows_of prepare_stmt) s (stmt_parts s) in
      let t = low32 (value_of y 1) in
      let bad = bad-twice s Client.prepare (body_parts s t) in
      both (Twice (body_parts s t)) x.good _ _
      (λ _. both (Twice (body_parts s t)) y.good _ _ (λ _. prepare-by (value_of x 1) t (body_parts s t)) (λ _. bad))
      (λ _. bad)

  open_by_lem : (id : ℕ) (rows : Option ℕ) (es : List Part) → Twice es (open_by s id rows es)
  open_by_lem id rows [] = bad-twice s Client.open' []
  open_by_lem id rows (e ∷ []) = once s Client.open' e (execute_in s e.start e.len).args.good _
  open_by_lem id rows (e ∷ (f ∷ es)) = several s Client.open' e f es (executes_good s (e ∷ (f ∷ es)))

  open_twice : Twice (execute_parts s) (open_frame s)
  unfolding open_frame
  open_twice =
      let x = fields_at (rows_of Client.open') s payload in
      let bad = bad-twice s Client.open' (execute_parts s) in
      both (Twice (execute_parts s)) x.good _ _
      (λ _.
      both (Twice (execute_parts s)) (merged (rows_of open_stmt) s (open_parts s)).good _ _
      (λ _. open_by_lem (value_of x 1) (optional_of x 5) (execute_parts s)) (λ _. bad))
      (λ _. bad)

  -- ---- of no other message

  abbrev Not17 : Frame → Type 0
  Not17 x = reason_of x ≡ Reason.body_twice → ⊥

  plain : (kind : ℕ) (b : Bool) (q : Request) → Not17 (if_good s kind b q)
  plain kind b q =
      both Not17 b (Frame.Good (length s) q) (Frame.BadPayload (length s) kind) (λ _ e. omega arith)
      (λ _ e. omega arith)

  -- by the message with these rows
  abbrev own : ℕ → Slots
  own kind = fields_at (rows_of kind) s payload

  abbrev run : Execute
  run = execute_in s payload (length s - payload)

  other-plain : (kind : ℕ) → (kind ≡ Client.prepare → ⊥) → (kind ≡ Client.open' → ⊥) → Not17 (frame_in s kind)
  unfolding frame_in reset_frame session_close_frame execute_frame deallocate_frame close_frame fetch_frame
  other-plain kind f g =
      both Not17 (eqb kind Client.reset) (reset_frame s) _
      (λ _. plain Client.reset (fields_at [] s payload).good Request.Reset)
      (λ _. both Not17 (eqb kind Client.session_close) (session_close_frame s) _
      (λ _. plain Client.session_close (fields_at [] s payload).good Request.SessionClose)
      (λ _. both Not17 (eqb kind Client.prepare) (prepare_frame s) _
      (λ e. absurd (f (eqb-true kind Client.prepare e)))
      (λ _. both Not17 (eqb kind Client.execute) (execute_frame s) _
      (λ _. plain Client.execute run.args.good (Request.Execute run))
      (λ _. both Not17 (eqb kind Client.deallocate) (deallocate_frame s) _
      (λ _. plain Client.deallocate (own Client.deallocate).good
      (Request.Deallocate (low32 (value_of (own Client.deallocate) 1))))
      (λ _. both Not17 (eqb kind Client.open') (open_frame s) _ (λ e. absurd (g (eqb-true kind Client.open' e)))
      (λ _. both Not17 (eqb kind Client.close) (close_frame s) _
      (λ _. plain Client.close (own Client.close).good (Request.Close (low32 (value_of (own Client.close) 1))))
      (λ _. both Not17 (eqb kind Client.fetch) (fetch_frame s) (Frame.UnknownType (length s))
      (λ _. plain Client.fetch (own Client.fetch).good
      (Request.Fetch (record {
        cursor = low32 (value_of (own Client.fetch) 1);
        rows = optional_of (own Client.fetch) 2;
      })))
      (λ _ e. omega arith))))))))

pub twice_when : TwiceWhen
unfolding frame_of frame_in
twice_when s =
    record {
      of_prepare = λ end e. rw e (prepare-twice (take end s));
      of_open = λ end e. rw e (open_twice (take end s));
      of_other = λ kind end e f g. rw e (other-plain (take end s) kind f g);
    }

-- ---- samples

pub twice_shown : TwiceShown
unfolding frame_of frame_in prepare_frame body_in bodies_good parts_from parts_in parts_onto groups little field_at fields_from
    has_required row_for rows_of
twice_shown = (refl, (refl, (refl, refl)))

pub open_shown : OpenShown
unfolding frame_of frame_in open_frame execute_in arguments_within arguments_from place_from next_argument together parts_from
    parts_in parts_onto groups little field_at fields_from has_required row_for rows_of
open_shown = (refl, refl)
