-- Writing a draft, by the ways out. Assumes nothing.
use Rattle.prelude.proofs.Basics.{ℕ, ◌+◌, ◌%◌, ◌≤◌, ◌<◌, arith, mod-eq_of_lt, Bool, true, false, cond, ◌≡◌, refl, sym}
use Rattle.prelude.proofs.Basics.{ap, ◌∙◌, List, [], ◌∷◌, ◌++◌, length, eqb, leb, eqb-true, le-leb, lt-leb, both, yes}
use Rattle.prelude.proofs.Basics.{no as without}
use Rattle.protocol.specs.Client as Client
use Rattle.protocol.specs.Reason as Reason
use Rattle.encode.specs.Puts.{Puts}
use Rattle.encode.proofs.PutLaws.{put_fits}
use Rattle.writer.proofs.Names.{max_length, four_bytes, frame, puts_then, puts_as, accepted_as, accepted, payload_of}
use Rattle.writer.proofs.Names.{frame_bytes, draft_reason, left_of, Draft}
use Rattle.writer.specs.declared.Sent.{Sent}
use Rattle.writer.specs.Write.{sent, sent_of}

-- a type that is accepted is one of the eight, and fits a byte
pub accepted_kind : (kind operation : ℕ) (body args : List ℕ) → accepted_as kind operation body args ≡ true → kind < 256
unfolding accepted_as
accepted_kind kind operation body args =
    both P (eqb kind Client.reset) _ _ (λ e _. omega (arith, eqb-true kind Client.reset e))
    (λ _.
    both P (eqb kind Client.session_close) _ _ (λ e _. omega (arith, eqb-true kind Client.session_close e))
    (λ _.
    both P (eqb kind Client.prepare) _ _ (λ e _. omega (arith, eqb-true kind Client.prepare e))
    (λ _.
    both P (eqb kind Client.execute) _ _ (λ e _. omega (arith, eqb-true kind Client.execute e))
    (λ _.
    both P (eqb kind Client.deallocate) _ _ (λ e _. omega (arith, eqb-true kind Client.deallocate e))
    (λ _.
    both P (eqb kind Client.open') _ _ (λ e _. omega (arith, eqb-true kind Client.open' e))
    (λ _.
    both P (eqb kind Client.close) _ _ (λ e _. omega (arith, eqb-true kind Client.close e))
    (λ _.
    both P (eqb kind Client.fetch) _ _ (λ e _. omega (arith, eqb-true kind Client.fetch e))
    (λ _ g. absurd (let z : ◌≡◌ {A = ℕ} 0 1 = cc in omega arith)))))))))
  where
    P : Bool → Type 0
    P b = b ≡ true → kind < 256

pub frame_length : (kind : ℕ) (payload : List ℕ) → length (frame kind payload) ≡ length payload + 5
frame_length kind payload = omega arith

module _ (d : Draft) (body args : List ℕ) where
  pub reason_bad : accepted d body args ≡ false → draft_reason d body args ≡ Reason.bad_payload
  unfolding draft_reason
  reason_bad e =
      sym (without (cond (leb (length (payload_of d body args) + 1) max_length) Reason.accepted Reason.bad_length)
      Reason.bad_payload e)

  pub reason_long : accepted d body args ≡ true → max_length ≤ length (payload_of d body args) →
      draft_reason d body args ≡ Reason.bad_length
  unfolding draft_reason
  reason_long e h =
      sym
      (without Reason.accepted Reason.bad_length (lt-leb (length (payload_of d body args) + 1) max_length (omega arith))
      ∙ yes (cond (leb (length (payload_of d body args) + 1) max_length) Reason.accepted Reason.bad_length)
      Reason.bad_payload e)

  pub reason_none : accepted d body args ≡ true → length (payload_of d body args) < max_length →
      draft_reason d body args ≡ Reason.accepted
  unfolding draft_reason
  reason_none e h =
      sym
      (yes Reason.accepted Reason.bad_length (le-leb (length (payload_of d body args) + 1) max_length (omega arith))
      ∙ yes (cond (leb (length (payload_of d body args) + 1) max_length) Reason.accepted Reason.bad_length)
      Reason.bad_payload e)

  module _ (b : List ℕ) where
    -- the two equations of the contract
    abbrev pub Wrote : Sent → List ℕ → Type 0
    Wrote r b₁ = (r ≡ sent_of d body args (length b)) × (b₁ ≡ left_of d body args b)

    pub wrote_bad : accepted d body args ≡ false → Wrote (sent Reason.bad_payload 0) b
    unfolding sent_of left_of
    wrote_bad e = rw (reason_bad e) (refl, refl)

    pub wrote_long : accepted d body args ≡ true → max_length ≤ length (payload_of d body args) →
        Wrote (sent Reason.bad_length 0) b
    unfolding sent_of left_of
    wrote_long e h = rw (reason_long e h) (refl, refl)

    module _ (e : accepted d body args ≡ true) (h : length (payload_of d body args) < max_length) where
      pub wrote_short : length b < length (payload_of d body args) + 5 → Wrote (sent Reason.no_room 0) b
      unfolding sent_of left_of
      wrote_short g =
          rw (
            reason_none e h,
            lt-leb (length (frame_bytes d body args)) (length b)
                (omega (arith, frame_length d.kind (payload_of d body args))),
          )
          (refl, refl)

      -- the head, and behind it the payload
      pub wrote_all : {b₁ b₂ : List ℕ} {p q : ℕ} → length (payload_of d body args) + 5 ≤ length b →
          Puts b 0 (four_bytes (length (payload_of d body args) + 1) ++ (d.kind % 256 ∷ [])) p b₁ →
          Puts b₁ p (payload_of d body args) q b₂ →
          Wrote (sent Reason.accepted q) b₂
      unfolding sent_of left_of
      wrote_all {b₁} {b₂} {p} {q} g f t =
          rw (reason_none e h, le-leb (length (frame_bytes d body args)) (length b) (omega (arith, room))) (
            ap (λ (n : ℕ). sent Reason.accepted n) end,
            whole.stored ∙ (put_fits b 0 (frame_bytes d body args) room).1,
          )
        where
          whole : Puts b 0 (frame_bytes d body args) q b₂
          whole =
              puts_as
              (ap (λ (k : ℕ). four_bytes (length (payload_of d body args) + 1) ++ (k ∷ payload_of d body args))
              (mod-eq_of_lt (accepted_kind d.kind d.operation body args e)))
              (puts_then f t)

          room : 0 + length (frame_bytes d body args) ≤ length b
          room = omega (arith, frame_length d.kind (payload_of d body args))

          end : q ≡ length (frame_bytes d body args)
          end = omega (arith, whole.behind)
