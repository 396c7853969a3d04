-- Demand 3 down to the exported step: of every list of its calls, each on the words that the one before left, from
-- words that hold a fresh session, or any other that keeps the rules of the tables. What is known of a call is its
-- contract and nothing else.
use Rattle.std.specs.Prelude.{ℕ, ◌≡◌, List, [], ◌∷◌, take}
use Rattle.session.specs.Sound.{Sound}
use Rattle.session.specs.Tables.{fresh}
use Rattle.session.specs.Words.{session_of}
use Rattle.rules.specs.declared.Report.{Report}
use Rattle.rules.specs.declared.Answer.{Answer}
use Rattle.rules.specs.Step.{step_of}
use Rattle.history.specs.Tally.{Tally, empty}
use Rattle.history.specs.Start.{start_of}
use Rattle.history.specs.Run.{Told}
use Rattle.history.specs.History.{State, Kept}

-- what goes into a call: a frame, a report and a reply buffer; and what it leaves: the answer, the session's words, the
-- buffer
pub record Call : Type 0 where
  pub frame : List ℕ
  pub report : Report
  pub buffer : List ℕ
  pub answer : Answer
  pub words : List ℕ
  pub reply : List ℕ

abbrev pub call : List ℕ → Report → List ℕ → Answer → List ℕ → List ℕ → Call
call frame report buffer answer words reply =
    record { frame = frame; report = report; buffer = buffer; answer = answer; words = words; reply = reply }

-- what `karramotx_step` promises of a call on these words: its contract is this record
pub record Contract (words : List ℕ) (c : Call) : Type 0 where
  pub answer : c.answer ≡ (step_of (session_of words) c.frame c.report c.buffer).answer
  pub session : session_of c.words ≡ (step_of (session_of words) c.frame c.report c.buffer).session
  pub buffer : c.reply ≡ (step_of (session_of words) c.frame c.report c.buffer).buffer

-- each call gets the words that the one before left
unfoldable pub Called : List ℕ → List Call → Type 0
Called words [] = Unit {0}
Called words (c ∷ cs) = Contract words c × Called c.words cs

-- the words that the last call left, and what the calls told
unfoldable pub words_after : List ℕ → List Call → List ℕ
words_after words [] = words
words_after words (c ∷ cs) = words_after c.words cs

abbrev pub told_of : Call → Told
told_of c =
    record { frame = c.frame; report = c.report; answer = c.answer; reply = take c.answer.reply c.reply }

unfoldable pub told_by : List Call → List Told
told_by [] = []
told_by (c ∷ cs) = told_of c ∷ told_by cs

-- what the tally starts from, the session that the calls leave, and what they told
abbrev pub state_after : Tally → List ℕ → List Call → State
state_after start words calls =
    record { start = start; session = session_of (words_after words calls); told = told_by calls }

-- from any session that keeps the rules of the tables (I8), and so from a fresh one (D3)
abbrev pub Demand3ExportedFrom : Type 0
Demand3ExportedFrom =
    (words : List ℕ) → Sound (session_of words) → (calls : List Call) → Called words calls →
    Kept (state_after (start_of (session_of words)) words calls)

abbrev pub Demand3Exported : Type 0
Demand3Exported =
    (words : List ℕ) → session_of words ≡ fresh → (calls : List Call) → Called words calls →
    Kept (state_after empty words calls)
