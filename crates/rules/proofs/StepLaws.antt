-- The rules of specs/StepRules.antt hold: a refused step changes nothing and writes its Error or nothing. Assumes
-- nothing.
use Rattle.prelude.proofs.Basics.{ℕ, zero, suc, ◌+◌, ◌^◌, ◌≤◌, ◌<◌, arith, le_trans, zero-add, Bool, true, false, ◌&&◌}
use Rattle.prelude.proofs.Basics.{◌||◌, cond, ◌≡◌, refl, sym, ap, subst, ◌∙◌, List, [], ◌∷◌, ◌++◌, length, get_or, take}
use Rattle.prelude.proofs.Basics.{drop, take_at, eqb, leb, eqb-false, eqb-true, le-leb, leb-true, lt-leb, ltb-false}
use Rattle.prelude.proofs.Basics.{both}
use Rattle.protocol.specs.Reason as Reason
use Rattle.message.specs.Request.{args_of}
use Rattle.message.specs.declared.request.Frame.TheVariants.{NotAllThere, BadLength, UnknownType, BadPayload}
use Rattle.message.specs.declared.request.Frame.TheVariants.{BodyTwice, Good}
use Rattle.encode.specs.Put.{written}
use Rattle.reply.specs.Reply.{codes, code_of}
use Rattle.reply.proofs.ReplyLaws.{reply_error}
use Rattle.rules.proofs.Names.{stmt_of, cursor_of, frame_of, padded_of, Frame, Request, Session, max_number, and_true}
use Rattle.rules.proofs.Names.{reply_bytes, min_buffer, Reply, fits_smallest, on_good, step_reason, accepted}
use Rattle.rules.proofs.Names.{wire_code, refusal_of, refused_reply, refused, decision_of, short, too_short, step_by}
use Rattle.rules.proofs.Names.{step_on, step_says, Read, ReadIn, Report}
use Rattle.rules.specs.Decision.{named}
use Rattle.rules.specs.Step.{Step}
use Rattle.rules.specs.StepRules.{Unchanged, Silent, Replies, error_bytes, Refused, RefusedChangesNothing}
use Rattle.rules.proofs.ReadLaws.{frames_are_read}
use Rattle.rules.proofs.RefusalLaws.{Took, took, code_small, low_used}

-- ---- by cases: the buffer is short, or the step is refused, or a request is accepted

abbrev pub refused_step : Session → Frame → Report → List ℕ → Step
refused_step s x r buffer = step_by x buffer (refused s (step_reason s x r) (refused_reply x r (step_reason s x r)))

pub step_has : (P : Step → Type 0) (s : Session) (x : Frame) (r : Report) (buffer : List ℕ) →
    (short buffer ≡ true → P (too_short s buffer)) →
    ((used : ℕ) (q : Request) → short buffer ≡ false → Took s x r used q →
    P (step_by (Good used q) buffer (accepted s r q))) →
    (short buffer ≡ false → (step_reason s x r ≡ 0 → ⊥) → P (refused_step s x r buffer)) → P (step_on s x r buffer)
unfolding step_on decision_of
step_has P s x r buffer three accepts refuses =
    both P (short buffer) (too_short s buffer) (step_by x buffer (decision_of s x r)) three
    (λ room. both (λ d. P (step_by x buffer d)) (eqb (step_reason s x r) 0) _
    (refused s (step_reason s x r) (refused_reply x r (step_reason s x r)))
    (λ e. takes room (took s x r (eqb-true (step_reason s x r) 0 e)))
    (λ e. refuses room (eqb-false (step_reason s x r) 0 e)))
  where
    takes : short buffer ≡ false → (t : (used : ℕ) × (q : Request) × Took s x r used q) →
        P (step_by x buffer (on_good (refused s (step_reason s x r) Reply.Nothing) (accepted s r) x))
    takes room t =
        subst (λ y. P (step_by y buffer (on_good (refused s (step_reason s x r) Reply.Nothing) (accepted s r) y)))
        (sym t.2.good)
        (accepts t.0 t.1 room t.2)

-- ---- a refused step

abbrev Small : ℕ → Type 0
Small n = n < 2 ^ 32

-- the wire codes are small
abbrev all_within : ℕ → List ℕ → Bool
all_within k [] = true
all_within k (x ∷ xs) = leb x k && all_within k xs

within_at : (k : ℕ) (xs : List ℕ) → all_within k xs ≡ true → (n : ℕ) → get_or xs n 0 ≤ k
within_at k [] e n = omega arith
within_at k (x ∷ xs) e zero = leb-true x k (and_true (leb x k) (all_within k xs) e).0
within_at k (x ∷ xs) e (suc n) = within_at k xs (and_true (leb x k) (all_within k xs) e).1 n

code_within : (n : ℕ) → code_of n ≤ 6017
code_within n = within_at 6017 codes refl n

wire_small : (r : Report) (n : ℕ) → (n ≡ Reason.engine_failed → r.code ≤ max_number) → wire_code r n < 2 ^ 32
unfolding wire_code
wire_small r n h =
    both Small (eqb n Reason.engine_failed) r.code (code_of n)
    (λ e. omega (arith, h (eqb-true n Reason.engine_failed e)))
    (λ _. omega (arith, code_within n))

named_small : (q : Request) → Read q → (n : ℕ) → named n q < 2 ^ 32
unfolding named
named_small q h n =
    both Small (eqb n Reason.no_stmt) (stmt_of q) _ (λ _. omega (arith, h.stmt_small))
    (λ _. both Small (eqb n Reason.not_scalar) (args_of q).index _ (λ _. omega (arith, h.index_small))
    (λ _. both Small (eqb n Reason.few_arguments) (args_of q).count _ (λ _. omega (arith, h.count_small))
    (λ _. both Small (eqb n Reason.no_cursor || eqb n Reason.all_sent) (cursor_of q) 0
    (λ _. omega (arith, h.cursor_small)) (λ _. omega arith))))

named_in : (x : Frame) → ReadIn x → (n : ℕ) → on_good 0 (named n) x < 2 ^ 32
named_in NotAllThere h n = omega arith
named_in BadLength h n = omega arith
named_in (UnknownType used) h n = omega arith
named_in (BadPayload used kind) h n = omega arith
named_in (BodyTwice used kind) h n = omega arith
named_in (Good used q) h n = named_small q h n

pub written_none : (b : List ℕ) → written b 0 [] ≡ b
written_none b = rw (le-leb (0 + 0) (length b) (omega arith))

pub written_front : (b bs : List ℕ) → length bs ≤ length b → written b 0 bs ≡ bs ++ drop (length bs) b
written_front b bs h = rw (zero-add, le-leb (length bs) (length b) h)

-- the bytes at the front of the buffer are the reply
pub reply_front : (b bs : List ℕ) → length bs ≤ length b → take (length bs) (written b 0 bs) ≡ bs
reply_front b bs h = ap (take (length bs)) (written_front b bs h) ∙ take_at bs (drop (length bs) b) (length bs) refl

pub error_fits : (s : Session) (x : Frame) (r : Report) → ReadIn x →
    length (reply_bytes (Reply.Error (refusal_of x r (step_reason s x r)))) ≤ min_buffer
error_fits s x r read =
    let n = step_reason s x r in
    fits_smallest (Reply.Error (refusal_of x r n)) (record
    { code = wire_small r n (code_small s x r); number = named_in x read n })

unchanged : (s : Session) (x : Frame) (buffer : List ℕ) (n : ℕ) (reply : Reply) →
    Unchanged s (step_by x buffer (refused s n reply))
unchanged s x buffer n reply = record { session = refl; columns = refl; first = refl; count = refl }

-- up to a reason nothing is written
below : (P : Reply → Type 0) (n : ℕ) {last : ℕ} (y : Reply) → n ≤ last → P Reply.Nothing →
    P (cond (leb n last) Reply.Nothing y)
below P n {last} y h p = rw (le-leb n last h) p

module _ (s : Session) (x : Frame) (r : Report) (buffer : List ℕ) (read : ReadIn x) (room : short buffer ≡ false) where
  abbrev reason : ℕ
  reason = step_reason s x r

  silent : (reason ≡ 0 → ⊥) → reason ≤ Reason.no_room → Silent buffer (refused_step s x r buffer)
  unfolding refused_reply reply_bytes
  silent some h =
      below (λ reply. Silent buffer (step_by x buffer (refused s reason reply))) reason _ h
      (record { used = low_used s x r h some; reply = refl; kept = written_none buffer })

  abbrev error : Reply
  error = Reply.Error (refusal_of x r reason)

  fits : length (reply_bytes error) ≤ length buffer
  fits = le_trans (error_fits s x r read) (ltb-false (length buffer) min_buffer room)

  replies : (bytes : List ℕ) → bytes ≡ reply_bytes error →
      Replies bytes buffer (step_by x buffer (refused s reason error))
  replies bytes e =
      record {
        reply = ap length (sym e);
        written = written_front buffer (reply_bytes error) fits ∙ ap (λ bs. bs ++ drop (length bs) buffer) (sym e);
      }

  errs : Reason.closed ≤ reason → Replies (error_bytes x r reason) buffer (refused_step s x r buffer)
  unfolding refused_reply
  errs h = rw (lt-leb reason Reason.no_room (omega arith)) (replies (error_bytes x r reason) (reply_error refl))

  refused-step : (reason ≡ 0 → ⊥) → Refused s x r buffer (refused_step s x r buffer)
  refused-step some =
      record {
        unchanged = unchanged s x buffer reason (refused_reply x r reason);
        silent = silent some;
        error = errs;
        used = λ _. refl;
      }

refused_short : (s : Session) (x : Frame) (r : Report) (buffer : List ℕ) → Refused s x r buffer (too_short s buffer)
refused_short s x r buffer =
    record {
      unchanged = record { session = refl; columns = refl; first = refl; count = refl };
      silent = λ _. record { used = refl; reply = refl; kept = refl };
      error = λ h. absurd (omega arith);
      used = λ h. absurd (omega arith);
    }

-- what is said of padding touches none of it
refused_says : (s : Session) (x : Frame) (r : Report) (buffer : List ℕ) (padded : Bool) (after : Step) →
    Refused s x r buffer after → Refused s x r buffer (step_says padded after)
refused_says s x r buffer padded after h =
    let u = h.unchanged in
    record {
      unchanged = record { session = u.session; columns = u.columns; first = u.first; count = u.count };
      silent = λ e. let q = h.silent e in record { used = q.used; reply = q.reply; kept = q.kept };
      error = λ e. let w = h.error e in record { reply = w.reply; written = w.written };
      used = h.used;
    }

pub refused_changes_nothing : RefusedChangesNothing
refused_changes_nothing s frame r buffer some =
    let x = frame_of frame in
    refused_says s x r buffer (padded_of frame) (step_on s x r buffer) (
    step_has (λ after. (after.answer.reason ≡ 0 → ⊥) → Refused s x r buffer after) s x r buffer
    (λ _ _. refused_short s x r buffer)
    (λ _ _ _ _ some. absurd (some refl))
    (λ room some _. refused-step s x r buffer (frames_are_read frame) room some) some)
