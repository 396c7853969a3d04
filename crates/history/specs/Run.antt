-- A run: the steps on a list of inputs, "each gets the session that the one before handed back, and nothing else
-- changes it in between". What the tally is fed of a run has no session in reach (D3).
use Rattle.std.specs.Prelude.{ℕ, List, [], ◌∷◌, map}
use Rattle.session.specs.Session.{Session}
use Rattle.rules.specs.declared.Report.{Report}
use Rattle.rules.specs.declared.Answer.{Answer}
use Rattle.rules.specs.Step.{Step, reply_of, step_of}
use Rattle.history.specs.Tally.{Tally, fed}

-- what the host puts into a step
pub record Input : Type 0 where
  pub frame : List ℕ
  pub report : Report
  pub buffer : List ℕ

abbrev pub frames_of : List Input → List (List ℕ)
frames_of = map (λ (i : Input). i.frame)

abbrev pub reports_of : List Input → List Report
reports_of = map (λ (i : Input). i.report)

unfoldable pub run : Session → List Input → List Step
run s [] = []
run s (i ∷ is) = let x = step_of s i.frame i.report i.buffer in x ∷ run x.session is

-- the session that the last step left
unfoldable pub leaves : Session → List Step → Session
leaves s [] = s
leaves s (x ∷ xs) = leaves x.session xs

-- what a step tells: its frame, report and answer, and the reply's bytes
pub record Told : Type 0 where
  pub frame : List ℕ
  pub report : Report
  pub answer : Answer
  pub reply : List ℕ

abbrev pub told_by : Input → Step → Told
told_by i x = record { frame = i.frame; report = i.report; answer = x.answer; reply = reply_of x }

unfoldable pub told : List Input → List Step → List Told
told [] xs = []
told (i ∷ is) [] = []
told (i ∷ is) (x ∷ xs) = told_by i x ∷ told is xs

-- the tally of what was told, in order, on top of an earlier one; it takes nothing of the reply
abbrev pub fed_by : Told → Tally → Tally
fed_by x t = fed x.frame x.report x.answer t

unfoldable pub tallied : Tally → List Told → Tally
tallied t [] = t
tallied t (x ∷ xs) = tallied (fed_by x t) xs
