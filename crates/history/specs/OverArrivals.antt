-- "Demands 2 and 3 read over the frames handed out." (N14)
use Rattle.std.specs.Prelude.{ℕ, ◌≤◌, ◌≡◌, List, [], map, length}
use Rattle.protocol.specs.Reason as Reason
use Rattle.session.specs.Session.{Session}
use Rattle.session.specs.Lists.{All}
use Rattle.reply.specs.ReplyRules.{min_buffer}
use Rattle.image_rules.specs.Numbers.{bytes_of}
use Rattle.image_rules.specs.Listing.{Listing}
use Rattle.image_rules.specs.Image.{numbers_in}
use Rattle.image_rules.specs.Acceptable.{Rules}
use Rattle.image_rules.specs.Restore.{restore_of}
use Rattle.rules.specs.declared.Report.{Report}
use Rattle.rules.specs.Step.{step_of}
use Rattle.history.specs.Run.{Input, frames_of}
use Rattle.history.specs.History.{Kept, reached, state_by}
use Rattle.history.specs.Handover.{start_in}
use Rattle.writer.specs.declared.Draft.{Draft}
use Rattle.writer.specs.RoundTrip.{Sized, ReadsAs}
use Rattle.writer.specs.Write.{frame_bytes, draft_reason}
use Rattle.streams.specs.ReaderRules.{Whole}
use Rattle.streams.specs.Reading.{Reading, left, handed_out}
use Rattle.streams.specs.Stream.{joined}
use Rattle.streams.specs.Arrivals.{Always, Drained, Offered}

-- a step on a whole frame, as every frame handed out is, is never refused 1 or 2, and uses all of it unless it is
-- refused 3 (N14)
pub record UsesAll (s : Session) (frame : List ℕ) (r : Report) (buffer : List ℕ) : Type 0 where
  pub there : (step_of s frame r buffer).answer.reason ≡ Reason.not_all_there → ⊥
  pub good : (step_of s frame r buffer).answer.reason ≡ Reason.bad_length → ⊥
  pub used : min_buffer ≤ length buffer → (step_of s frame r buffer).answer.used ≡ length frame

abbrev pub StepsUseAll : Type 0
StepsUseAll = (s : Session) (frame : List ℕ) (r : Report) (buffer : List ℕ) → Whole frame → UsesAll s frame r buffer

-- demand 3: of every list of operations, with any report and any reply buffer for each frame that they hand out (D3,
-- N14)
abbrev pub Demand3Arrivals : Type 0
Demand3Arrivals = Always (λ x. (is : List Input) → frames_of is ≡ handed_out x → Kept (reached is))

-- and after a restore, from the cursors that the image lists (I8, N14)
abbrev pub Demand3RestoredArrivals : Type 0
Demand3RestoredArrivals =
    (before : Session) (m : Listing) → Rules m →
    Always (λ x. (is : List Input) → frames_of is ≡ handed_out x →
    Kept (state_by (start_in m) (restore_of before (bytes_of (numbers_in m))).session is))

-- a message that the writer takes
pub record Written : Type 0 where
  pub draft : Draft
  pub body : List ℕ
  pub args : List ℕ
  pub sized : Sized draft
  pub good : draft_reason draft body args ≡ Reason.accepted

abbrev pub written_bytes : Written → List ℕ
written_bytes w = frame_bytes w.draft w.body w.args

-- demand 2: written messages come back as they were written, and each reads back as itself (D2, C10, N14)
pub record ComeBack (messages : List Written) (x : Reading) : Type 0 where
  pub frames : x.frames ≡ map written_bytes messages
  pub read : All (λ w. ReadsAs w.draft w.body w.args (written_bytes w)) messages
  pub rest : left x ≡ []

abbrev pub WrittenComeBack : Type 0
WrittenComeBack =
    (messages : List Written) →
    Always (λ x. Offered (joined (map written_bytes messages)) x → Drained x → ComeBack messages x)
