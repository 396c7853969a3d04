-- A record that is cut short is no longer than the longest record, and each call takes bytes or prints a line. Assumes
-- nothing.
use Rattle.prelude.proofs.Basics.{ℕ, zero, suc, ◌+◌, ◌-◌, ◌%◌, ◌≤◌, ◌<◌, arith, ◌≡◌, sym, ap, ◌∙◌, List, ◌++◌, length}
use Rattle.prelude.proofs.Basics.{get_or, take, drop, length-append, eqb, ltb, le-leb, ltb-false, ltb-true, both}
use Rattle.trace_line.proofs.Names.{NumberResult, RecordResult, Result, Ok, Err, RecordError, Short, Bad, whole_record}
use Rattle.trace_line.proofs.Names.{onto, low64, groups, Number, Session, prepared, result, failed, step_of}
use Rattle.trace_line.proofs.Names.{Report, line_of, Behind, on_record, first_of, stands_first, max_line, lines_within}
use Rattle.trace_line.proofs.Names.{print_of, number_of, number_at, and_then, max_frame, max_kind, prepared_report}
use Rattle.trace_line.proofs.Names.{result_report, failed_report, prepared_at, failed_at, rows_at, result_at, report_at}
use Rattle.trace_line.proofs.Names.{kind_at, frame_at, record_at, Within, line_after, reply_buffer, Line}
use Rattle.trace_line.proofs.Names.{Number, Record}
use Rattle.trace_line.specs.Chunks.{max_record, GoesOn}
use Rattle.trace_line.proofs.WithinLaws.{records_within}
use Rattle.trace_line.proofs.ChunkLaws.{more_behind, first_short, have, came, have_within, came_length}
use Rattle.std.specs.Prelude.{Option, Some, None}

-- ---- numbers

-- a varint of at most n groups ends within n bytes
abbrev Brief : ℕ → Option Number → Type 0
Brief end (Some r) = r.next ≤ end
Brief end None = Unit {0}

onto_brief : (low end : ℕ) (x : Option Number) → Brief end x → Brief end (onto low 128 x)
onto_brief low end (Some r) h = h
onto_brief low end None h = tt

groups_brief : (n : ℕ) (s : List ℕ) (at end : ℕ) → at + n ≤ end → Brief end (groups n s at)
unfolding groups
groups_brief zero s at end h = tt
groups_brief (suc n) s at end h =
    both (Brief end) (ltb at (length s)) _ _
    (λ _.
    both (Brief end) (ltb (get_or s at 0) 128) _ _ (λ _. omega arith)
    (λ _. onto_brief (get_or s at 0 % 128) end (groups n s (at + 1)) (groups_brief n s (at + 1) end (omega arith))))
    (λ _. tt)

abbrev BriefNumber : List ℕ → ℕ → NumberResult → Type 0
BriefNumber s at (Ok n) = n.next ≤ at + 10
BriefNumber s at (Err Short) = length s < at + 10
BriefNumber s at (Err Bad) = Unit {0}

number_of_lem : (s : List ℕ) (at : ℕ) (x : Option Number) → Brief (at + 10) x →
    BriefNumber s at (number_of s at (low64 x))
number_of_lem s at (Some r) h = h
number_of_lem s at None h =
    both (BriefNumber s at) (ltb (length s) (at + 10)) (Err Short) (Err Bad) (λ e. ltb-true (length s) (at + 10) e)
    (λ _. tt)

number_brief : (s : List ℕ) (at : ℕ) → BriefNumber s at (number_at s at)
unfolding number_at
number_brief s at = number_of_lem s at (groups 10 s at) (groups_brief 10 s at (at + 10) (omega arith))

-- ---- records

-- of a record that is cut short fewer bytes are there than `most`
abbrev Below : List ℕ → ℕ → RecordResult → Type 0
Below s most (Ok r) = Unit {0}
Below s most (Err Short) = length s < most
Below s most (Err Bad) = Unit {0}

module _ (s : List ℕ) (most : ℕ) where
  then-below : (at : ℕ) (more : ℕ → ℕ → RecordResult) → at + 10 ≤ most →
      ((v next : ℕ) → next ≤ at + 10 → Below s most (more v next)) → Below s most (and_then (number_at s at) more)
  then-below at more h f = go (number_at s at) (number_brief s at)
    where
      go : (x : NumberResult) → BriefNumber s at x → Below s most (and_then x more)
      go (Ok n) g = f n.value n.next g
      go (Err Short) g = omega arith
      go (Err Bad) g = tt

  module _ (start len : ℕ) where
    last-below : (report : ℕ → Report) (at : ℕ) → at + 10 ≤ most →
        Below s most (and_then (number_at s at) (λ v next. whole_record start len (report v) next))
    last-below report at h =
        then-below at (λ v next. whole_record start len (report v) next) h (λ v next g. tt)

    prepared-below : (at : ℕ) → at + 10 ≤ most → Below s most (prepared_at s start len at)
    unfolding prepared_at
    prepared-below = last-below prepared_report

    failed-below : (at : ℕ) → at + 10 ≤ most → Below s most (failed_at s start len at)
    unfolding failed_at
    failed-below = last-below failed_report

    rows-below : (columns at : ℕ) → at + 10 ≤ most → Below s most (rows_at s start len columns at)
    unfolding rows_at
    rows-below columns = last-below (result_report columns)

    result-below : (at : ℕ) → at + 20 ≤ most → Below s most (result_at s start len at)
    unfolding result_at
    result-below at h =
        then-below at (λ columns p. rows_at s start len columns p) (omega arith)
        (λ columns p g. rows-below columns p (omega arith))

    report-below : (kind at : ℕ) → at + 20 ≤ most → Below s most (report_at s start len kind at)
    unfolding report_at
    report-below kind at h =
        both (Below s most) (ltb max_kind kind) _ _ (λ _. tt)
        (λ _.
        both (Below s most) (eqb kind prepared) _ _ (λ _. prepared-below at (omega arith))
        (λ _.
        both (Below s most) (eqb kind result) _ _ (λ _. result-below at h)
        (λ _. both (Below s most) (eqb kind failed) _ _ (λ _. failed-below at (omega arith)) (λ _. tt))))

    kind-below : start + len + 30 ≤ most → Below s most (kind_at s start len)
    unfolding kind_at
    kind-below h =
        then-below (start + len) (λ kind at. report_at s start len kind at) (omega arith)
        (λ kind at g. report-below kind at (omega arith))

  frame_below : (len start : ℕ) → start + max_frame + 30 ≤ most → Below s most (frame_at s len start)
  unfolding frame_at
  frame_below len start h =
      both (Below s most) (ltb max_frame len) _ _ (λ _. tt)
      (λ e.
      both (Below s most) (ltb (length s) (start + len)) _ _
      (λ g. omega (arith, ltb-false max_frame len e, ltb-true (length s) (start + len) g))
      (λ _. kind-below start len (omega (arith, ltb-false max_frame len e))))

record_below : (s : List ℕ) → Below s max_record (record_at s 0)
unfolding record_at
record_below s =
    then-below s max_record 0 (λ len start. frame_at s len start) (omega arith)
    (λ len start g. frame_below s max_record len start (omega arith))

pub short_below : (s : List ℕ) → stands_first s ≡ Err Short → length s < max_record
short_below s e = go (record_at s 0) (first_short s e) (record_below s)
  where
    go : (x : RecordResult) → x ≡ Err Short → Below s max_record x → length s < max_record
    go x f = rw f (λ h. h)

-- ---- one call

line_some : (l : Line) → 1 ≤ length (line_of l)
unfolding line_of
line_some l = rw length-append (omega arith)

first_whole : (s : List ℕ) → stands_first s ≡ Ok tt → record_at s 0 ≡ Err Short → ⊥
unfolding stands_first
first_whole s e f = let z : Err Short ≡ Ok tt = ap first_of (sym f) ∙ e in
    let y : ◌≡◌ {A = ℕ} 0 1 = cc in omega arith

-- a whole record that stands first is printed
one_printed : (m room : ℕ) (session : Session) (n : ℕ) (s : List ℕ) → stands_first s ≡ Ok tt → max_line ≤ room →
    length s ≤ m → 1 ≤ length (lines_within m room session n s).lines
unfolding lines_within stands_first
one_printed zero room session n s e h g = none (record_at s 0) e (records_within s 0)
  where
    none : (x : RecordResult) → first_of x ≡ Ok tt → Within s 0 x → 1 ≤ 0
    none (Ok r) f w = absurd (omega (arith, w.0, w.1, w.2))
    none (Err e) f w = absurd (let z : ◌≡◌ {A = ℕ} 0 1 = cc in omega arith)
one_printed (suc m) room session n s e h g =
    rw (le-leb max_line room h) (some (record_at s 0) e)
  where
    rest : Behind
    rest line = lines_within m (room - length line)

    some : (x : RecordResult) → first_of x ≡ Ok tt → 1 ≤ length (on_record rest session n s x).lines
    some (Ok r) f =
        let t = step_of session (take r.len (drop r.start s)) r.report reply_buffer in
        rw length-append (omega (arith, line_some (line_after n t)))
    some (Err e) f = absurd (let z : ◌≡◌ {A = ℕ} 0 1 = cc in omega arith)

first_more : (s more : List ℕ) → stands_first s ≡ Ok tt → stands_first (s ++ more) ≡ Ok tt
unfolding stands_first
first_more s more e = ap first_of (more_behind s more (first_whole s e)) ∙ e

pub goes_on_lem : GoesOn
unfolding print_of
goes_on_lem p session store chunk room big wide =
    let h₀ = have p store chunk in
    let more = came p store chunk in
    let within = have_within p store chunk in
    let came = came_length p store chunk in
    record {
      prints =
          λ e.
          one_printed (length (h₀ ++ more)) room session p.n (h₀ ++ more) (first_more h₀ more e) wide (omega arith);
      takes = λ e some. omega (arith, short_below h₀ e, within, came);
      takes_all = λ e fits. omega (arith, short_below h₀ e, within, came);
    }
