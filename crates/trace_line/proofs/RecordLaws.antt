-- Records, case by case. Assumes nothing.
use Rattle.prelude.proofs.Basics.{ℕ, ◌+◌, ◌≤◌, Bool, true, false, cond, ◌≡◌, refl, ap, ◌∙◌, List, length, ltb, le-ltb}
use Rattle.prelude.proofs.Basics.{eqb, no as without}
use Rattle.trace_line.proofs.Names.{NumberResult, RecordResult, Result, Ok, Err}
use Rattle.trace_line.proofs.Names.{prepared, result, failed, Report, number_at}
use Rattle.trace_line.proofs.Names.{and_then, max_frame, max_kind, prepared_report, result_report}
use Rattle.trace_line.proofs.Names.{failed_report, whole_record, prepared_at, failed_at, rows_at, result_at, report_at}
use Rattle.trace_line.proofs.Names.{kind_at, frame_at, Number, Record, RecordError, Short, Bad}
use Rattle.trace_line.specs.Record.{unended}
use Rattle.trace_line.specs.declared.record.Told.{Told}
use Rattle.trace_line.specs.private.Told.{then_told, last_told, told_at}

-- ---- numbers

module _ (s : List ℕ) (at : ℕ) where
  pub unended_bad : at + 10 ≤ length s → Err Bad ≡ unended s at
  unended_bad h = without (Err Short) (Err Bad) (le-ltb (length s) (at + 10) h)

-- ---- the frame in front of a report

abbrev pub with_frame : ℕ → ℕ → Result Told RecordError → RecordResult
with_frame start len (Ok t) = whole_record start len t.report t.next
with_frame start len (Err e) = Err e

module _ (s : List ℕ) (start len : ℕ) where
  either_framed : (b : Bool) (x y : Result Told RecordError) {x' y' : RecordResult} →
      with_frame start len x ≡ x' → with_frame start len y ≡ y' → with_frame start len (cond b x y) ≡ cond b x' y'
  either_framed true x y e f = e
  either_framed false x y e f = f

  last_framed : (report : ℕ → Report) (x : NumberResult) →
      with_frame start len (then_told x (last_told report))
      ≡ and_then x (λ v next. whole_record start len (report v) next)
  last_framed report (Ok n) = refl
  last_framed report (Err e) = refl

  rows_framed : (x : NumberResult) →
      with_frame start len
      (then_told x (λ columns. then_told (number_at s columns.next) (last_told (result_report columns.value))))
      ≡ and_then x (λ columns p. rows_at s start len columns p)
  unfolding rows_at
  rows_framed (Ok n) = last_framed (result_report n.value) (number_at s n.next)
  rows_framed (Err e) = refl

  report_framed : (kind at : ℕ) → with_frame start len (told_at s kind at) ≡ report_at s start len kind at
  unfolding told_at report_at prepared_at failed_at result_at
  report_framed kind at =
      either_framed (ltb max_kind kind) _ _ refl
      (either_framed (eqb kind prepared) _ _ (last_framed prepared_report (number_at s at))
      (either_framed (eqb kind result) _ _ (rows_framed (number_at s at))
      (either_framed (eqb kind failed) _ _ (last_framed failed_report (number_at s at)) refl)))

-- ---- a frame

module _ (s : List ℕ) (len start : ℕ) where
  abbrev there : RecordResult
  there = cond (ltb (length s) (start + len)) (Err Short) (kind_at s start len)

  frame_whole : len ≤ max_frame → start + len ≤ length s → kind_at s start len ≡ frame_at s len start
  unfolding frame_at
  frame_whole h g =
      without (Err Short) (kind_at s start len) (le-ltb (length s) (start + len) g)
      ∙ without (Err Bad) there (le-ltb max_frame len h)

  -- what stands behind the frame: its kind first
  kind_is : {x : NumberResult} → len ≤ max_frame → start + len ≤ length s →
      x ≡ number_at s (start + len) → and_then x (report_at s start len) ≡ frame_at s len start
  unfolding kind_at
  kind_is h g e = ap (λ (y : NumberResult). and_then y (report_at s start len)) e ∙ frame_whole h g

  pub report_is : {kind : Number} {x : Result Told RecordError} → len ≤ max_frame → start + len ≤ length s →
      Ok kind ≡ number_at s (start + len) → x ≡ told_at s kind.value kind.next →
      with_frame start len x ≡ frame_at s len start
  report_is {kind} h g e f =
      ap (with_frame start len) f ∙ report_framed s start len kind.value kind.next ∙ kind_is h g e
