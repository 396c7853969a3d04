-- Each way out is one of draft_reason or write_reason; what is put is the head, and behind it the payload.
use Rattle.prelude.proofs.Basics.{ℕ, ◌+◌, ◌%◌, arith, Bool, ◌≡◌, sym, ap, ◌∙◌, List, [], ◌∷◌, ◌++◌, length}
use Rattle.std.proofs.lemmas.Result.{err_from_is_err_and}
use Rattle.encode.specs.Puts.{Puts}
use Rattle.writer.specs.declared.kind.Kind.{Kind}
use Rattle.writer.specs.private.Kind.{type_of}
use Rattle.writer.proofs.Names.{four_bytes, puts_as, accepted, accepted_as, payload_as, payload_of, Draft}
use Rattle.writer.proofs.JudgeLaws.{kind_none}
use Rattle.writer.proofs.WriteLaws.{wrote_bad, wrote_long, wrote_short, wrote_all}
use Rattle.writer.proofs.write_frame.Goals as goal

-- what is known of the kind is known of the draft
module _ (d : Draft) (body args : List ℕ) (k : Kind) (is : d.kind ≡ type_of k) where
  judged : {b x : Bool} → b ≡ accepted_as (type_of k) d.operation body args → b ≡ x → accepted d body args ≡ x
  judged e g = ap (λ (n : ℕ). accepted_as n d.operation body args) is ∙ sym e ∙ g

  counted : {n : ℕ} → n ≡ length (payload_as (type_of k) d body args) → n ≡ length (payload_of d body args)
  counted e = e ∙ ap (λ (n : ℕ). length (payload_as n d body args)) (sym is)

  put : {b b₁ : List ℕ} {at n : ℕ} → Puts b at (payload_as (type_of k) d body args) n b₁ →
      Puts b at (payload_of d body args) n b₁
  put f = puts_as (ap (λ (n : ℕ). payload_as n d body args) (sym is)) f

pub returns-in_err-kind : goal.returns-in_err-kind
returns-in_err-kind c =
    let p = err_from_is_err_and c.from_residual.result c.from_residual.ensures.1 in
    let d = c.args.draft in
    let none = c.in_err-kind.ensures.1 in
    rw (p.1, p.2, c.in_err-kind.ensures.0)
    (wrote_bad d c.args.body.now c.args.args.now c.args.buf.now
    (sym
    (kind_none d.kind d.operation c.args.body.now c.args.args.now (none Kind.Reset) (none Kind.SessionClose)
    (none Kind.Prepare) (none Kind.Execute) (none Kind.Deallocate) (none Kind.Open) (none Kind.Close)
    (none Kind.Fetch))))

pub returns-then-not-is_accepted : goal.returns-then-not-is_accepted
returns-then-not-is_accepted c =
    wrote_bad c.args.draft c.args.body.now c.args.args.now c.args.buf.now
    (judged c.args.draft c.args.body.now c.args.args.now c.in_ok-kind.kind c.in_ok-kind.ensures c.is_accepted.ensures
    c.if-not-is_accepted.true)

pub returns-then-n-ge-MAX_LENGTH : goal.returns-then-n-ge-MAX_LENGTH
returns-then-n-ge-MAX_LENGTH c =
    let d = c.args.draft in
    let is : d.kind ≡ type_of c.in_ok-kind.kind = c.in_ok-kind.ensures in
    let n = counted d c.args.body.now c.args.args.now c.in_ok-kind.kind is c.payload_len-n.ensures in
    wrote_long d c.args.body.now c.args.args.now c.args.buf.now
    (judged d c.args.body.now c.args.args.now c.in_ok-kind.kind is c.is_accepted.ensures c.if-not-is_accepted.false)
    (omega (arith, n))

pub returns-then-buf-n : goal.returns-then-buf-n
returns-then-buf-n c =
    let d = c.args.draft in
    let is : d.kind ≡ type_of c.in_ok-kind.kind = c.in_ok-kind.ensures in
    let n = counted d c.args.body.now c.args.args.now c.in_ok-kind.kind is c.payload_len-n.ensures in
    wrote_short d c.args.body.now c.args.args.now c.args.buf.now
    (judged d c.args.body.now c.args.args.now c.in_ok-kind.kind is c.is_accepted.ensures c.if-not-is_accepted.false)
    (omega (arith, n)) (omega (arith, n))

pub returns : goal.returns
returns c =
    let d = c.args.draft in
    let is : d.kind ≡ type_of c.in_ok-kind.kind = c.in_ok-kind.ensures in
    let n = counted d c.args.body.now c.args.args.now c.in_ok-kind.kind is c.payload_len-n.ensures in
    wrote_all d c.args.body.now c.args.args.now c.args.buf.now
    (judged d c.args.body.now c.args.args.now c.in_ok-kind.kind is c.is_accepted.ensures c.if-not-is_accepted.false)
    (omega (arith, n)) (omega (arith, n))
    (puts_as (ap (λ (m : ℕ). four_bytes (m + 1) ++ (d.kind % 256 ∷ [])) n) c.put_head-at.ensures)
    (put d c.args.body.now c.args.args.now c.in_ok-kind.kind is c.put_payload.ensures)
