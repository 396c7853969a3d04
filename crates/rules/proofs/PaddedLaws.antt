-- What a look and a step say of padded varints: no where they refuse 1 to 6, and otherwise what was read, both alike.
-- Assumes nothing.
use Rattle.prelude.proofs.Basics.{ℕ, arith, Bool, false, not, ◌≡◌, refl, sym, ap, ◌∙◌, List, length, eqb, eqb-true}
use Rattle.prelude.proofs.Basics.{le-leb, le-ltb, lt-leb, not-true, both, no}
use Rattle.rules.proofs.Names.{frame_of, padded_of, Frame, Session, min_buffer, look_reason, report_reason}
use Rattle.rules.proofs.Names.{step_reason, look_at, Report}
use Rattle.rules.specs.Step.{first_no, last_no, says_no, said}
use Rattle.rules.specs.PaddedRules.{Says, LookSays, StepSays, SaysAlike}
use Rattle.rules.proofs.RefusalLaws.{report_passes}
use Rattle.rules.proofs.LookLaws.{look_reason_lem, step_reason_lem}

-- nothing read, nothing said
pub said_none : (reason : ℕ) → said reason false ≡ false
said_none reason = both (λ (b : Bool). b ≡ false) (says_no reason) false false (λ _. refl) (λ _. refl)

said_read : (reason : ℕ) (padded : Bool) → says_no reason ≡ false → said reason padded ≡ padded
said_read reason padded e = sym (no false padded e)

says : (frame : List ℕ) (reason : ℕ) → Says frame reason (said reason (padded_of frame))
says frame reason =
    record {
      no = λ low high. rw (le-leb first_no reason (omega arith), le-leb reason last_no (omega arith));
      accepted = λ e. ap (λ n. said n (padded_of frame)) e;
      later = λ h.
          said_read reason (padded_of frame) (rw
          (le-leb first_no reason (omega arith), lt-leb reason last_no (omega arith)));
    }

pub look_says_lem : LookSays
unfolding look_at
look_says_lem s frame = says frame (look_at s frame).reason

pub step_says_lem : StepSays
step_says_lem s frame r buffer = says frame _

-- ---- both alike

-- a report is refused late, or not at all
report_read : (x : Frame) (r : Report) → says_no (report_reason x r) ≡ false
report_read x r =
    not-true (says_no (report_reason x r)) (report_passes (λ n. not (says_no n)) refl refl refl x r)

said_alike : (s : Session) (x : Frame) (r : Report) (padded : Bool) →
    said (step_reason s x r) padded ≡ said (look_reason s x) padded
said_alike s x r padded =
    both (λ n. said n padded ≡ said (look_reason s x) padded) (eqb (look_reason s x) 0) (report_reason x r)
    (look_reason s x)
    (λ e. said_read (report_reason x r) padded (report_read x r)
    ∙ ap (λ n. said n padded) (sym (eqb-true (look_reason s x) 0 e)))
    (λ _. refl)

pub says_alike : SaysAlike
unfolding look_at
says_alike s frame r buffer room =
    let x = frame_of frame in
    ap (λ n. said n (padded_of frame)) (step_reason_lem s x r buffer (le-ltb (length buffer) min_buffer room))
    ∙ said_alike s x r (padded_of frame) ∙ ap (λ n. said n (padded_of frame)) (sym (look_reason_lem s x))
