-- A step on one whole frame is not refused 1 or 2 and uses the frame, since its message does. Assumes nothing.
use Rattle.prelude.proofs.Basics.{ℕ, ◌≤◌, arith, ◌≡◌, refl, ap, ◌∙◌, List, length}
use Rattle.protocol.specs.Reason as Reason
use Rattle.message.proofs.UsedLaws.{whole_used, whole_read}
use Rattle.rules.proofs.Names.{head_of, frame_of, framed, Session, min_buffer, step_reason, step_of, Report}
use Rattle.rules.proofs.ReadLaws.{frames_are_read}
use Rattle.rules.proofs.RefusalLaws.{late_read}
use Rattle.rules.proofs.StepLaws.{step_has}
use Rattle.rules.proofs.BufferLaws.{step_outcome}

module _ (s : Session) (frame : List ℕ) (r : Report) (buffer : List ℕ) {kind : ℕ}
    (e : head_of frame ≡ framed kind (length frame)) where
  not_low : step_reason s (frame_of frame) r ≤ Reason.no_room → (step_reason s (frame_of frame) r ≡ 0 → ⊥) → ⊥
  not_low h some = some (late_read s (frame_of frame) r (whole_read frame e) h)

  pub step_whole : ((step_of s frame r buffer).answer.reason ≡ Reason.not_all_there → ⊥)
      × ((step_of s frame r buffer).answer.reason ≡ Reason.bad_length → ⊥)
      × (min_buffer ≤ length buffer → (step_of s frame r buffer).answer.used ≡ length frame)
  step_whole =
      let x = frame_of frame in
      let h = step_has (λ y. (y.answer.reason ≡ Reason.not_all_there → ⊥) ×
      (y.answer.reason ≡ Reason.bad_length → ⊥)) s x r buffer
      (λ _. (λ f. omega arith, λ f. omega arith)) (λ _ _ _ _. (λ f. omega arith, λ f. omega arith))
      (λ _ some. (λ f. not_low (omega arith) some, λ f. not_low (omega arith) some)) in (
        h.0,
        h.1,
        λ room. ap (λ o. o.answer.used) (step_outcome s x r buffer (frames_are_read frame) room)
            ∙ whole_used frame e refl,
      )
