-- A session that is handed to another server by its image (I7 to I9): that every session which steps and restores reach
-- has an image that gives it back, that it goes on as it would have, and demand 3 from an image.
use Rattle.std.specs.Prelude.{ℕ, ◌+◌, ◌-◌, ◌≡◌, List, [], map, length}
use Rattle.protocol.specs.Reason as Reason
use Rattle.session.specs.Session.{Session}
use Rattle.session.specs.Lists.{All}
use Rattle.session.specs.Tables.{fresh}
use Rattle.session.specs.Sound.{Sound}
use Rattle.session.specs.Words.{session_of, word_count}
use Rattle.image_rules.specs.declared.CursorEntry.{CursorEntry}
use Rattle.image_rules.specs.Numbers.{bytes_of}
use Rattle.image_rules.specs.Listing.{Listing, listing_of}
use Rattle.image_rules.specs.Image.{numbers_in, image_of}
use Rattle.image_rules.specs.Acceptable.{Rules}
use Rattle.image_rules.specs.Restore.{restore_of}
use Rattle.rules.specs.Step.{step_of}
use Rattle.history.specs.Tally.{Opening, Tally}
use Rattle.history.specs.Run.{Input, run}
use Rattle.history.specs.History.{Kept, reached, state_by}
use Rattle.history.specs.Calls.{Call, Called, state_after}

-- ---- the sessions that are reached

-- from a fresh session by steps, refused ones too, and by reading images, acceptable or not
pub data Reachable : Session → Type 0 where
  begins : Reachable fresh
  steps : {s : Session} (i : Input) → Reachable s → Reachable (step_of s i.frame i.report i.buffer).session
  restores : {s : Session} (image : List ℕ) → Reachable s → Reachable (restore_of s image).session

-- every list of steps reaches such a session
abbrev pub StepsReach : Type 0
StepsReach = (is : List Input) → Reachable (reached is).session

-- "Every reachable session keeps these rules" (I7)
pub record Keeps (s : Session) : Type 0 where
  pub tables : Sound s
  pub image : Rules (listing_of s)

abbrev pub ReachableKeeps : Type 0
ReachableKeeps = (s : Session) → Reachable s → Keeps s

-- so reading its image gives it back, over whatever session
abbrev pub GivenBack : Type 0
GivenBack =
    (before s : Session) → Reachable s → restore_of before (image_of s) ≡ record { reason = Reason.accepted; session = s }

-- ---- it goes on

-- "its sessions must go on in the standby": after an image and a restore every later step answers as it would have
-- without them, with the same reply and the same session (I9)
abbrev pub GoesOn : Type 0
GoesOn =
    (before s : Session) → Reachable s → (later : List Input) →
    run (restore_of before (image_of s)).session later ≡ run s later

-- ---- demand 3 from an image

-- "each restored cursor counts, in the tally from its start, as an opening of the rows then left, numbered from its
-- rows sent" (I8)
abbrev pub opening_in : CursorEntry → Opening
opening_in e = record { cursor = e.id; stmt = e.stmt; first = e.sent; rows = e.rows - e.sent; segments = [] }

-- what the tally starts from: the cursors that the image lists
abbrev pub start_in : Listing → Tally
start_in m = record { live = map opening_in m.cursors; ended = []; strays = 0 }

-- "and below its rows reported": there its numbers end
abbrev pub EndsAtReported : Type 0
EndsAtReported =
    (m : Listing) → Rules m → All (λ e. (opening_in e).first + (opening_in e).rows ≡ e.rows) m.cursors

-- over every list of steps from what an accepted image gives, the history starting at the image
abbrev pub Demand3Restored : Type 0
Demand3Restored =
    (before : Session) (m : Listing) → Rules m → (later : List Input) →
    Kept (state_by (start_in m) (restore_of before (bytes_of (numbers_in m))).session later)

-- ---- down to the exports

-- what `karramotx_restore` promises of a call on these words that answers a reason and leaves other words: its contract
-- is this record
pub record Restores (words image : List ℕ) (reason : ℕ) (after : List ℕ) : Type 0 where
  pub answer : reason ≡ (restore_of (session_of words) image).reason
  pub session : session_of after ≡ (restore_of (session_of words) image).session

-- demand 3 over every list of calls of the exported step, from the words that a restore of an acceptable image left
abbrev pub Demand3RestoredExported : Type 0
Demand3RestoredExported =
    (words : List ℕ) (m : Listing) → Rules m → (reason : ℕ) (after : List ℕ) →
    Restores words (bytes_of (numbers_in m)) reason after → (calls : List Call) → Called after calls →
    Kept (state_after (start_in m) after calls)

-- a session that is handed over has the same words: where the image of words whose session is reached was restored over
-- any others, it was accepted, and these are those (I7)
pub record Same (words : List ℕ) (reason : ℕ) (after : List ℕ) : Type 0 where
  pub accepted : reason ≡ Reason.accepted
  pub same : after ≡ words

abbrev pub SameWords : Type 0
SameWords =
    (words before : List ℕ) → length words ≡ word_count → Reachable (session_of words) → (reason : ℕ) (after : List ℕ) →
    length after ≡ word_count → Restores before (image_of (session_of words)) reason after → Same words reason after
