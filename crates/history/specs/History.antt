-- Demand 3: what holds of every list of steps from a fresh session, or from any other that keeps the rules of the
-- tables, refused ones included, whatever the frames, reports and reply buffers (D3, I8).
use Rattle.std.specs.Prelude.{ℕ, zero, suc, ◌+◌, ◌≤◌, ◌<◌, Bool, true, false, ◌&&◌, ◌≡◌, List, [], ◌∷◌, ◌++◌, eqb}
use Rattle.protocol.specs.Client.{open', fetch}
use Rattle.protocol.specs.Reason as Reason
use Rattle.message.specs.Request.{cursor_of}
use Rattle.message.specs.Frame.{frame_of}
use Rattle.session.specs.Session.{Session}
use Rattle.session.specs.Lists.{All}
use Rattle.session.specs.Sound.{Sound}
use Rattle.session.specs.Tables.{fresh, owed}
use Rattle.reply.specs.Frames.{holds_done}
use Rattle.rules.specs.Kind.{one_of, on_good}
use Rattle.history.specs.Tally.{Segment, Opening, Tally, empty, is_of, sent, rows_reported, rows_sent, rows_given_up}
use Rattle.history.specs.Start.{start_of}
use Rattle.history.specs.Run.{Input, run, leaves, Told, told, fed_by, tallied}

-- ---- lists of steps

-- what the tally starts from, the session that a list of steps leaves, and what they told
pub record State : Type 0 where
  pub start : Tally
  pub session : Session
  pub told : List Told

abbrev pub tally_of : State → Tally
tally_of x = tallied x.start x.told

-- steps from a session, and the tally from a start
abbrev pub state_by : Tally → Session → List Input → State
state_by start s is = record { start = start; session = leaves s (run s is); told = told is (run s is) }

-- from a fresh session
abbrev pub reached : List Input → State
reached is = state_by empty fresh is

-- from any session: "Demand 3 after a restore starts its history at the image" (I8)
abbrev pub reached_from : Session → List Input → State
reached_from s is = state_by (start_of s) s is

-- ---- the rows of an opening

-- the numbers of the rows in a step's answer, from n on
unfoldable pub numbers : ℕ → ℕ → List ℕ
numbers n zero = []
numbers n (suc count) = n ∷ numbers (suc n) count

unfoldable pub row_numbers : List Segment → List ℕ
row_numbers [] = []
row_numbers (g ∷ gs) = numbers g.first g.count ++ row_numbers gs

pub record Proper (o : Opening) : Type 0 where
  -- "the rows sent for it are numbered 0, 1, 2 and on, without gap or repeat" (D3); of a restored cursor they are
  -- "numbered from its rows sent" (I8)
  pub numbered : row_numbers o.segments ≡ numbers o.first (sent o)
  -- "within the count the engine reported for it" (D3)
  pub within : sent o ≤ o.rows

-- so that no row is numbered below its first, nor at or above the end of its rows: of a restored cursor they are "below
-- its rows reported" (I8)
abbrev pub NumbersWithin : Type 0
NumbersWithin =
    (o : Opening) → Proper o → All (λ n. (o.first ≤ n) × (n < o.first + o.rows)) (row_numbers o.segments)

-- ---- what FetchDone stands for

-- "all rows of that count have then been sent"
abbrev pub all_sent : Opening → Bool
all_sent o = eqb (sent o) o.rows

-- the step is an accepted Open or Fetch, and the opening has its cursor id
abbrev pub is_for : Told → Opening → Bool
is_for x o =
    eqb x.answer.reason Reason.accepted
    && on_good false (λ q. one_of open' fetch q && is_of (cursor_of q) o) (frame_of x.frame)

-- "The reply to its Open, and to each accepted Fetch of it, holds FetchDone exactly when all rows of that count have
-- then been sent": by the tally after the step (D3)
abbrev pub TellsDone : Told → Tally → Type 0
TellsDone x t = All (λ o. is_for x o ≡ true → holds_done x.reply ≡ all_sent o) t.live

unfoldable pub TellDone : Tally → List Told → Type 0
TellDone t [] = Unit {0}
TellDone t (x ∷ xs) = TellsDone x (fed_by x t) × TellDone (fed_by x t) xs

-- ---- the whole

pub record Kept (x : State) : Type 0 where
  -- each accepted opening, also one that has ended
  pub live : All Proper (tally_of x).live
  pub ended : All Proper (tally_of x).ended
  -- "An accepted Fetch is of the opening with its cursor id": there is one, and no other (T5)
  pub of_one : (tally_of x).strays ≡ 0
  pub tells : TellDone x.start x.told
  -- "rows reported for all accepted openings equal rows sent for them, plus rows given up by endings, plus rows the
  -- cursor table still owes" (D3)
  pub total : rows_reported (tally_of x) ≡ rows_sent (tally_of x) + rows_given_up (tally_of x) + owed x.session

-- after every list of steps, so at the start and after each step of it: from any session that keeps the rules of the
-- tables, as a restored one does (I8)
abbrev pub Demand3From : Type 0
Demand3From = (s : Session) → Sound s → (steps : List Input) → Kept (reached_from s steps)

-- and so from a fresh one (D3)
abbrev pub Demand3 : Type 0
Demand3 = (steps : List Input) → Kept (reached steps)

-- and the session that the steps reach keeps the rules of the tables
abbrev pub SoundFrom : Type 0
SoundFrom = (s : Session) → Sound s → (steps : List Input) → Sound (reached_from s steps).session

abbrev pub ReachesSound : Type 0
ReachesSound = (steps : List Input) → Sound (reached steps).session
