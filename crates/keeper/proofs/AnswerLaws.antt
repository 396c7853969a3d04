-- An answer, case by case, and a reply that fits its buffer. Assumes nothing.
use Rattle.prelude.proofs.Basics.{ℕ, ◌+◌, ◌≤◌, arith, ◌≡◌, ap, subst, ◌∙◌, List, length, eq-eqb, le-leb, ne_eqb, yes}
use Rattle.prelude.proofs.Basics.{no as without}
use Rattle.protocol.specs.Reason as Reason
use Rattle.reply.specs.Reply.{code_of}
use Rattle.rules.specs.Decision.{wire_code}
use Rattle.keeper.proofs.Names.{reply_bytes, Reply, Answer, Report, Names}
use Rattle.keeper.specs.private.Does.{length_in, Replies, with_length, Answers, number_named, kind_named, error_of}

-- ---- what an Error tells

pub code_own : (r : Report) (n : ℕ) → n ≡ Reason.engine_failed → r.code ≡ wire_code r n
unfolding wire_code
code_own r n h = yes r.code (code_of n) (eq-eqb n Reason.engine_failed h)

pub code_listed : (r : Report) (n : ℕ) → (n ≡ Reason.engine_failed → ⊥) → code_of n ≡ wire_code r n
unfolding wire_code
code_listed r n h = without r.code (code_of n) (ne_eqb n Reason.engine_failed h)

pub kind_none : (n : ℕ) (x : Names) → (n ≡ Reason.not_scalar → ⊥) → 0 ≡ kind_named n x
unfolding kind_named
kind_none n x h = without x.kind 0 (ne_eqb n Reason.not_scalar h)

pub number_none : (n : ℕ) (x : Names) → (n ≡ Reason.no_stmt → ⊥) → (n ≡ Reason.not_scalar → ⊥) → (n ≡ Reason.few_arguments → ⊥) →
    (n ≡ Reason.no_cursor → ⊥) → (n ≡ Reason.all_sent → ⊥) → 0 ≡ number_named n x
unfolding number_named
number_none n x a b c d e =
    simp (
      ne_eqb n Reason.no_stmt a,
      ne_eqb n Reason.not_scalar b,
      ne_eqb n Reason.few_arguments c,
      ne_eqb n Reason.no_cursor d,
      ne_eqb n Reason.all_sent e,
    )

-- ---- a reply that fits

pub put_behind : (b : List ℕ) (what : Reply) → length (reply_bytes what) ≤ length b →
    length_in b what ≡ length (reply_bytes what)
put_behind b what h =
    let e : 0 + length (reply_bytes what) ≡ length (reply_bytes what) = omega arith in
    rw (le-leb (0 + length (reply_bytes what)) (length b) (omega arith)) e

-- an answer with the length of its reply
pub answers : {b after : List ℕ} {what : Reply} {n : ℕ} (a : Answer) → Replies what b n after →
    Answers a what b (with_length n a) after
answers a h = record { answered = ap (λ (k : ℕ). with_length k a) h.long; stored = h.stored }

pub answers_as : {b after : List ℕ} {what other : Reply} {n : ℕ} {a a' : Answer} → a ≡ a' → what ≡ other →
    Replies what b n after → Answers a' other b (with_length n a) after
answers_as {b} {after} {what} {other} {n} {a} {a'} f e h =
    subst (λ (y : Answer). Answers y other b (with_length n a) after) f
    (subst (λ (x : Reply). Answers a x b (with_length n a) after) e (answers a h))

-- the Error that was put is the one of the names
pub error_as : (n : ℕ) (x : Names) (r : Report) {reason code number kind : ℕ} → reason ≡ n → code ≡ wire_code r n → number ≡ number_named n x →
    kind ≡ kind_named n x →
    Reply.Error (record { reason = reason; code = code; number = number; kind = kind }) ≡ Reply.Error (error_of n x r)
error_as n x r {reason} {code} {number} {kind} e a b c =
    ap (λ (k : ℕ). Reply.Error (record { reason = k; code = code; number = number; kind = kind })) e
    ∙ ap (λ (k : ℕ). Reply.Error (record { reason = n; code = k; number = number; kind = kind })) a
    ∙ ap (λ (k : ℕ). Reply.Error (record { reason = n; code = wire_code r n; number = k; kind = kind })) b
    ∙ ap (λ (k : ℕ). Reply.Error (record { reason = n; code = wire_code r n; number = number_named n x; kind = k })) c
