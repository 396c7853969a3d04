-- Calls that are related by the contract are a run, so that what holds of runs holds of them. Assumes nothing.
use Rattle.prelude.proofs.Basics.{ℕ, ◌≡◌, refl, sym, ap, subst, ◌∙◌, List, [], ◌∷◌, take}
use Rattle.session.specs.Session.{Session}
use Rattle.session.specs.Sound.{Sound}
use Rattle.session.specs.Words.{session_of}
use Rattle.session.proofs.TableLaws.{fresh_sound}
use Rattle.rules.specs.declared.Answer.{Answer}
use Rattle.rules.specs.Step.{Step, step_of}
use Rattle.history.specs.Start.{start_of}
use Rattle.history.specs.Run.{Input, run, leaves, Told, told}
use Rattle.history.specs.History.{Kept}
use Rattle.history.specs.Calls.{Call, Contract, Called, words_after, told_by, state_after, Demand3ExportedFrom}
use Rattle.history.specs.Calls.{Demand3Exported}
use Rattle.history.proofs.StartLaws.{starts_empty}
use Rattle.history.proofs.HistoryLaws.{demand_3_from}

abbrev input : Call → Input
input c = record { frame = c.frame; report = c.report; buffer = c.buffer }

unfoldable inputs : List Call → List Input
inputs [] = []
inputs (c ∷ cs) = input c ∷ inputs cs

abbrev ran : Session → Call → Step
ran s c = step_of s c.frame c.report c.buffer

abbrev told_as : Call → Answer → List ℕ → Told
told_as c a reply = record { frame = c.frame; report = c.report; answer = a; reply = take a.reply reply }

record Runs (words : List ℕ) (cs : List Call) (s : Session) : Type 0 where
  last : session_of (words_after words cs) ≡ leaves s (run s (inputs cs))
  same : told_by cs ≡ told (inputs cs) (run s (inputs cs))

runs : (words : List ℕ) (cs : List Call) (s : Session) → session_of words ≡ s → Called words cs → Runs words cs s
unfolding Called words_after told_by inputs run leaves told
runs words [] s e h = record { last = e; same = refl }
runs words (c ∷ cs) s e h =
    let k : Contract words c = h.0 in
    let is : ran (session_of words) c ≡ ran s c = ap (λ z. ran z c) e in
    let more = runs c.words cs (ran s c).session (k.session ∙ ap (λ y. y.session) is) h.1 in
    record {
      last = more.last;
      same =
          ap (λ y. y ∷ told_by cs)
          (ap (λ a. told_as c a c.reply) (k.answer ∙ ap (λ y. y.answer) is)
          ∙ ap (told_as c (ran s c).answer) (k.buffer ∙ ap (λ y. y.buffer) is))
          ∙ ap (λ ys. told_as c (ran s c).answer (ran s c).buffer ∷ ys) more.same;
    }

pub demand_3_exported_from : Demand3ExportedFrom
demand_3_exported_from words sound calls h =
    let s = session_of words in
    let r = runs words calls s refl h in
    subst (λ y. Kept (record { start = start_of s; session = y; told = told_by calls })) (sym r.last)
    (subst (λ t. Kept (record { start = start_of s; session = leaves s (run s (inputs calls)); told = t }))
    (sym r.same) (demand_3_from s sound (inputs calls)))

pub demand_3_exported : Demand3Exported
demand_3_exported words e calls h =
    subst (λ t. Kept (state_after t words calls)) (ap start_of e ∙ starts_empty)
    (demand_3_exported_from words (subst Sound (sym e) fresh_sound) calls h)
