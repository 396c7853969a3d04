-- A record traced, case by case. Assumes nothing.
use Rattle.prelude.proofs.Basics.{ℕ, ◌≡◌, sym, ◌∙◌, List}
use Rattle.trace_line.proofs.Names.{RecordResult, Result, Ok}
use Rattle.trace_line.proofs.Names.{Session, record_at}
use Rattle.trace_line.proofs.Names.{Within, Traced}
use Rattle.trace_line.proofs.Names.{Record, RecordError}
use Rattle.trace_line.specs.Trace.{Trace}
use Rattle.trace_line.proofs.WithinLaws.{records_within}

-- what a contract says of a Trace: what is handed back, the session and the output buffer
abbrev pub Gives : Result Traced RecordError → Session → List ℕ → Trace → Type 0
Gives r after out t = (r ≡ t.back) × ((after ≡ t.session) × (out ≡ t.out))

-- a whole record's frame lies within the bytes
pub whole_within : (s : List ℕ) (at : ℕ) {x : RecordResult} {r : Record} → x ≡ Ok r → x ≡ record_at s at →
    Within s at (Ok r)
whole_within s at {x} {r} e f = go (records_within s at)
  where
    is : record_at s at ≡ Ok r
    is = sym f ∙ e

    go : Within s at (record_at s at) → Within s at (Ok r)
    go = rw is (λ h. h)
