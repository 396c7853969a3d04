-- What a look and a step say of padded varints, whatever the session, frame, report and reply buffer (K18).
use Rattle.std.specs.Prelude.{ℕ, ◌≤◌, ◌<◌, Bool, false, ◌≡◌, List, length}
use Rattle.protocol.specs.Reason as Reason
use Rattle.message.specs.Padded.{padded_of}
use Rattle.session.specs.Session.{Session}
use Rattle.reply.specs.ReplyRules.{min_buffer}
use Rattle.rules.specs.declared.Report.{Report}
use Rattle.rules.specs.Step.{look_at, step_of}

-- "A frame refused 1 to 6 says no"; any other says whether a varint that is read in it is padded
pub record Says (frame : List ℕ) (reason : ℕ) (padded : Bool) : Type 0 where
  pub no : Reason.not_all_there ≤ reason → reason ≤ Reason.bad_payload → padded ≡ false
  pub accepted : reason ≡ Reason.accepted → padded ≡ padded_of frame
  pub later : Reason.bad_payload < reason → padded ≡ padded_of frame

abbrev pub LookSays : Type 0
LookSays = (s : Session) (frame : List ℕ) → Says frame (look_at s frame).reason (look_at s frame).padded

abbrev pub StepSays : Type 0
StepSays =
    (s : Session) (frame : List ℕ) (r : Report) (buffer : List ℕ) →
    Says frame (step_of s frame r buffer).answer.reason (step_of s frame r buffer).answer.padded

-- a look and a step say the same, unless reason 3 comes first
abbrev pub SaysAlike : Type 0
SaysAlike =
    (s : Session) (frame : List ℕ) (r : Report) (buffer : List ℕ) → min_buffer ≤ length buffer →
    (step_of s frame r buffer).answer.padded ≡ (look_at s frame).padded
