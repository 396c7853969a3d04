-- A record lies within the bytes. Assumes nothing.
use Rattle.prelude.proofs.Basics.{ℕ, ◌+◌, ◌≤◌, ◌<◌, arith, cond, List, length, eqb, ltb, both}
use Rattle.varint.specs.Past.{Past}
use Rattle.varint.proofs.PastLaws.{varint_past}
use Rattle.trace_line.proofs.Names.{NumberResult, RecordResult, Result, Ok, Err}
use Rattle.trace_line.proofs.Names.{varint_at, Number, prepared, result, failed, Report, number_of, number_at}
use Rattle.trace_line.proofs.Names.{and_then, max_frame, max_kind, bare_report, prepared_report, result_report}
use Rattle.trace_line.proofs.Names.{failed_report, prepared_at, failed_at, rows_at, result_at, report_at, kind_at}
use Rattle.trace_line.proofs.Names.{frame_at, whole_record, record_at, Within, Number, Record, RecordError, Short, Bad}
use Rattle.trace_line.specs.RecordRules.{RecordsWithin}
use Rattle.std.specs.Prelude.{Option, Some, None}

-- a number ends past its first byte and within the bytes
abbrev PastNumber : ℕ → ℕ → NumberResult → Type 0
PastNumber at end (Ok n) = (at < n.next) × (n.next ≤ end)
PastNumber at end (Err e) = Unit {0}

past_of : (s : List ℕ) (at : ℕ) (x : Option Number) → Past at (length s) x → PastNumber at (length s) (number_of s at x)
past_of s at (Some r) h = h
past_of s at None h =
    both (PastNumber at (length s)) (ltb (length s) (at + 10)) (Err Short) (Err Bad) (λ _. tt) (λ _. tt)

number_past : (s : List ℕ) (at : ℕ) → PastNumber at (length s) (number_at s at)
unfolding number_at
number_past s at = past_of s at (varint_at s at) (varint_past s at)

-- what a number leads to lies within the bytes, if all that any number leads to does
module _ (s : List ℕ) (from : ℕ) where
  then-within : (at : ℕ) (x : NumberResult) (more : ℕ → ℕ → RecordResult) → PastNumber at (length s) x →
      ((v next : ℕ) → at < next → next ≤ length s → Within s from (more v next)) → Within s from (and_then x more)
  then-within at (Ok n) more p f = f n.value n.next p.0 p.1
  then-within at (Err e) more p f = tt

  module _ (start len : ℕ) (behind : from < start) where
    -- a number ends the record
    last_within : (report : ℕ → Report) (at : ℕ) → start + len < at →
        Within s from (and_then (number_at s at) (λ v next. whole_record start len (report v) next))
    last_within report at h =
        then-within at (number_at s at) (λ v next. whole_record start len (report v) next) (number_past s at)
        (λ v next g e. (behind, omega arith, e))

    prepared_within : (at : ℕ) → start + len < at → Within s from (prepared_at s start len at)
    unfolding prepared_at
    prepared_within = last_within prepared_report

    failed-within : (at : ℕ) → start + len < at → Within s from (failed_at s start len at)
    unfolding failed_at
    failed-within = last_within failed_report

    rows-within : (columns at : ℕ) → start + len < at → Within s from (rows_at s start len columns at)
    unfolding rows_at
    rows-within columns = last_within (result_report columns)

    result_within : (at : ℕ) → start + len < at → Within s from (result_at s start len at)
    unfolding result_at
    result_within at h =
        then-within at (number_at s at) (λ columns p. rows_at s start len columns p) (number_past s at)
        (λ columns p g e. rows-within columns p (omega arith))

    report-within : (kind at : ℕ) → start + len < at → at ≤ length s → Within s from (report_at s start len kind at)
    unfolding report_at
    report-within kind at h e =
        both (Within s from) (ltb max_kind kind) (Err Bad) known (λ _. tt)
        (λ _.
        both (Within s from) (eqb kind prepared) (prepared_at s start len at) unprepared (λ _. prepared_within at h)
        (λ _.
        both (Within s from) (eqb kind result) (result_at s start len at) unresulting (λ _. result_within at h)
        (λ _.
        both (Within s from) (eqb kind failed) (failed_at s start len at) bare (λ _. failed-within at h)
        (λ _. (behind, h, e)))))
      where
        bare : RecordResult
        bare = whole_record start len (bare_report kind) at

        unresulting : RecordResult
        unresulting = cond (eqb kind failed) (failed_at s start len at) bare

        unprepared : RecordResult
        unprepared = cond (eqb kind result) (result_at s start len at) unresulting

        known : RecordResult
        known = cond (eqb kind prepared) (prepared_at s start len at) unprepared

    kind-within : Within s from (kind_at s start len)
    unfolding kind_at
    kind-within =
        then-within (start + len) (number_at s (start + len)) (λ kind at. report_at s start len kind at)
        (number_past s (start + len))
        (λ kind at h e. report-within kind at h e)

  frame_within : (len start : ℕ) → from < start → Within s from (frame_at s len start)
  unfolding frame_at
  frame_within len start h =
      both (Within s from) (ltb max_frame len) (Err Bad)
      (cond (ltb (length s) (start + len)) (Err Short) (kind_at s start len))
      (λ _. tt)
      (λ _.
      both (Within s from) (ltb (length s) (start + len)) (Err Short) (kind_at s start len) (λ _. tt)
      (λ _. kind-within start len h))

pub records_within : RecordsWithin
unfolding record_at
records_within s at =
    then-within s at at (number_at s at) (λ len start. frame_at s len start) (number_past s at)
    (λ len start h e. frame_within s at len start h)
