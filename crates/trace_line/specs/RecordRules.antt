-- What holds of every record that is read.
use Rattle.std.specs.Prelude.{◌≡◌, ℕ, ◌+◌, ◌<◌, ◌≤◌, List, ◌++◌, length, take, drop, ◌≢◌, Result, Ok, Err}
use Rattle.trace_line.specs.declared.record.Record.{Record}
use Rattle.trace_line.specs.declared.record.RecordError.{RecordError}
use Rattle.trace_line.specs.declared.record.RecordError.TheVariants.{Short}
use Rattle.trace_line.specs.Record.{RecordResult, record_at, whole_record}

-- a whole record's frame stands behind its first byte, and the place behind the record past the frame and within the
-- bytes
abbrev pub Within : List ℕ → ℕ → RecordResult → Type 0
Within s at (Ok r) = (at < r.start) × (r.start + r.len < r.next) × (r.next ≤ length s)
Within s at (Err e) = Unit {0}

abbrev pub RecordsWithin : Type 0
RecordsWithin = (s : List ℕ) (at : ℕ) → Within s at (record_at s at)

-- k bytes stand before the record
abbrev pub shifted : ℕ → RecordResult → RecordResult
shifted k (Ok r) = whole_record (k + r.start) r.len r.report (k + r.next)
shifted k (Err e) = Err e

-- however much of the input is there, before the record and behind it, the same record is read, with its places counted
-- from the start of what is there; only where its own bytes end before it does can more bytes change the answer
abbrev pub ReadsAlike : Type 0
ReadsAlike =
    (before s behind : List ℕ) (at : ℕ) →
    (record_at s at ≢ Err Short) →
    record_at (before ++ s ++ behind) (length before + at) ≡ shifted (length before) (record_at s at)

-- and the same frame with it
abbrev pub FrameAlike : Type 0
FrameAlike =
    (before s behind : List ℕ) (start len : ℕ) →
    start + len ≤ length s → take len (drop (length before + start) (before ++ s ++ behind)) ≡ take len (drop start s)
