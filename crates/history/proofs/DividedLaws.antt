-- Equal frames and reports give equal steps: a step's outcome does not depend on its buffer. Assumes nothing.
use Rattle.prelude.proofs.Basics.{ℕ, arith, ◌≡◌, refl, sym, ap, ◌∙◌, List, [], ◌∷◌, map, length, get_or, drop}
use Rattle.session.specs.Session.{Session}
use Rattle.session.specs.Lists.{All}
use Rattle.rules.specs.declared.Report.{Report}
use Rattle.rules.specs.Step.{step_of}
use Rattle.rules.specs.StepRules.{Outcome, outcome}
use Rattle.rules.proofs.BufferLaws.{buffer_makes_no_difference}
use Rattle.history.specs.Run.{Input, frames_of, reports_of, run}
use Rattle.streams.specs.Reading.{Reading, reading}
use Rattle.history.specs.Divided.{Roomy, Same, DividedAlike, OfferedAlike}
use Rattle.streams.proofs.ReadingLaws.{ReadAlike, divided, offered}

-- one step
step_alike : (s : Session) (i j : Input) → i.frame ≡ j.frame → i.report ≡ j.report → Roomy i → Roomy j →
    outcome (step_of s i.frame i.report i.buffer) ≡ outcome (step_of s j.frame j.report j.buffer)
step_alike s i j f r a b =
    buffer_makes_no_difference s i.frame i.report i.buffer j.buffer a b
    ∙ ap (λ (g : List ℕ). outcome (step_of s g i.report j.buffer)) f
    ∙ ap (λ (q : Report). outcome (step_of s j.frame q j.buffer)) r

steps_alike : (is js : List Input) (s : Session) → frames_of is ≡ frames_of js → reports_of is ≡ reports_of js →
    All Roomy is → All Roomy js → map outcome (run s is) ≡ map outcome (run s js)
unfolding run All
steps_alike [] [] s f r a b = refl
steps_alike [] (j ∷ js) s f r a b =
    absurd (let z : ◌≡◌ {A = ℕ} 0 (length (frames_of (j ∷ js))) = ap length f in omega arith)
steps_alike (i ∷ is) [] s f r a b =
    absurd (let z : ◌≡◌ {A = ℕ} (length (frames_of (i ∷ is))) 0 = ap length f in omega arith)
steps_alike (i ∷ is) (j ∷ js) s f r a b =
    let x = step_of s i.frame i.report i.buffer in
    let y = step_of s j.frame j.report j.buffer in
    let same =
    step_alike s i j (ap (λ (l : List (List ℕ)). get_or l 0 []) f) (ap (λ (l : List Report). get_or l 0 i.report) r)
    a.0 b.0 in
    ap (λ (o : Outcome). o ∷ map outcome (run x.session is)) same
    ∙ ap (λ (os : List Outcome). outcome y ∷ os)
    (steps_alike is js x.session (ap (drop 1) f) (ap (drop 1) r) a.1 b.1)
    ∙ ap (λ (o : Outcome). outcome y ∷ map outcome (run o.session js)) same

same : (x y : Reading) → ReadAlike x y → Same x y
same x y e =
    record {
      frames = e.0;
      steps = λ s is js f g r a b. steps_alike is js s (f ∙ e.0 ∙ sym g) r a b;
      rest = e.1;
    }

pub divided_alike : DividedAlike
divided_alike store os store' os' e none none' =
    same (reading store os) (reading store' os') (divided store os store' os' e none none')

pub offered_alike : OfferedAlike
offered_alike bytes store os store' os' o o' none none' =
    same (reading store os) (reading store' os') (offered bytes store os store' os' o o' none none')
