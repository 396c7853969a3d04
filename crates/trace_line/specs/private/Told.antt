-- A report as it is read, without the frame in front of it. For private contracts: what is promised does not cite it.
use Rattle.std.specs.Prelude.{ℕ, cond, List, ◌==◌, nat_lt, Result, Ok, Err}
use Rattle.rules.specs.declared.Report.{Report}
use Rattle.rules.specs.Report.{prepared, result, failed}
use Rattle.varint.specs.declared.Number.{Number}
use Rattle.trace_line.specs.declared.record.RecordError.{RecordError}
use Rattle.trace_line.specs.declared.record.RecordError.TheVariants.{Bad}
use Rattle.trace_line.specs.declared.record.Told.{Told}
use Rattle.trace_line.specs.Record.{NumberResult, number_at, max_kind, bare_report, prepared_report, result_report}
use Rattle.trace_line.specs.Record.{failed_report}

-- a number, and what it leads to
abbrev pub then_told : NumberResult → (Number → Result Told RecordError) → Result Told RecordError
then_told (Ok n) more = more n
then_told (Err e) more = Err e

-- a number ends the report
abbrev pub last_told : (ℕ → Report) → Number → Result Told RecordError
last_told report n = Ok (record { report = report n.value; next = n.next })

-- a report of this kind
unfoldable pub told_at : List ℕ → ℕ → ℕ → Result Told RecordError
told_at s kind at =
    cond (nat_lt max_kind kind) (Err Bad)
    (cond (kind == prepared) (then_told (number_at s at) (last_told prepared_report))
    (cond (kind == result)
    (then_told (number_at s at)
    (λ columns. then_told (number_at s columns.next) (last_told (result_report columns.value))))
    (cond (kind == failed) (then_told (number_at s at) (last_told failed_report))
    (Ok (record { report = bare_report kind; next = at })))))
