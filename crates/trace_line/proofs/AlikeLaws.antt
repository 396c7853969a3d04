-- A record is read alike from any part of the input that holds it. Assumes nothing.
use Rattle.prelude.proofs.Basics.{ℕ, zero, suc, ◌+◌, ◌%◌, ◌≤◌, ◌<◌, arith, Bool, true, false, cond, ◌≡◌, refl, sym, ap}
use Rattle.prelude.proofs.Basics.{◌∙◌, List, ◌++◌, append_assoc, length, get_or, take, drop, List·getD-append}
use Rattle.prelude.proofs.Basics.{length-append, length-drop, drop-append-le, take-append-le, eqb, ltb, le-ltb, lt-ltb}
use Rattle.prelude.proofs.Basics.{ltb-false, ltb-true}
use Rattle.std.proofs.Common.{get_or-append-add}
use lib.Seq.{drop-append-add}
use Rattle.varint.proofs.GroupLaws.{groups_none}
use Rattle.trace_line.proofs.Names.{NumberResult, RecordResult, Result, Ok, Err, RecordError, Short, Bad, whole_record}
use Rattle.trace_line.proofs.Names.{onto, low64, varint_at, groups, Number, prepared, result, failed, Report}
use Rattle.trace_line.proofs.Names.{number_of, number_at, and_then, max_frame, max_kind, bare_report, prepared_report}
use Rattle.trace_line.proofs.Names.{result_report, failed_report, prepared_at, failed_at, rows_at, result_at, report_at}
use Rattle.trace_line.proofs.Names.{kind_at, frame_at, record_at, shifted, Number, Record}
use Rattle.trace_line.specs.RecordRules.{ReadsAlike, FrameAlike}
use Rattle.trace_line.proofs.RecordLaws.{unended_bad}
use Rattle.std.specs.Prelude.{Option, Some, None}
use Rattle.varint.specs.Number.{some_number}

-- s stands in t from the place k on
pub record Holds (k : ℕ) (s t : List ℕ) : Type 0 where
  pub room : k + length s ≤ length t
  pub same : (i : ℕ) → i < length s → get_or t (k + i) 0 ≡ get_or s i 0

-- ---- what is read of s at a place, and of t at the same place counted from its start

-- where s ends too soon, t is free

-- a varint; `full`: s has all the bytes that it may take
abbrev AlikeVarint : Bool → ℕ → Option Number → Option Number → Type 0
AlikeVarint full k (Some r) y = y ≡ some_number r.value (k + r.next)
AlikeVarint true k None y = y ≡ None
AlikeVarint false k None y = Unit {0}

abbrev AlikeNumber : ℕ → NumberResult → NumberResult → Type 0
AlikeNumber k (Ok n) y = y ≡ Ok (record { value = n.value; next = k + n.next })
AlikeNumber k (Err Short) y = Unit {0}
AlikeNumber k (Err Bad) y = y ≡ Err Bad

abbrev Alike : ℕ → RecordResult → RecordResult → Type 0
Alike k (Ok r) y = y ≡ whole_record (k + r.start) r.len r.report (k + r.next)
Alike k (Err Short) y = Unit {0}
Alike k (Err Bad) y = y ≡ Err Bad

-- ---- varints

onto_alike : (full : Bool) (k low : ℕ) (x y : Option Number) → AlikeVarint full k x y →
    AlikeVarint full k (onto low 128 x) (onto low 128 y)
onto_alike full k low (Some r) y e = ap (onto low 128) e
onto_alike true k low None y e = ap (onto low 128) e
onto_alike false k low None y e = tt

low64_alike : (full : Bool) (k : ℕ) (x y : Option Number) → AlikeVarint full k x y →
    AlikeVarint full k (low64 x) (low64 y)
low64_alike full k (Some r) y e = ap low64 e
low64_alike true k None y e = ap low64 e
low64_alike false k None y e = tt

bad_alike : (full : Bool) (k : ℕ) → AlikeVarint full k None None
bad_alike true k = refl
bad_alike false k = tt

-- s ends here, so it is not full
end_alike : (full : Bool) (k : ℕ) (y : Option Number) → (full ≡ true → ⊥) → AlikeVarint full k None y
end_alike true k y h = absurd (h refl)
end_alike false k y h = tt

module _ (k : ℕ) (s t : List ℕ) (h : Holds k s t) where
  next_place : (at : ℕ) → k + at + 1 ≡ k + (at + 1)
  next_place at = omega arith

  -- one group
  group-alike : (full : Bool) (n at : ℕ) → at < length s →
      AlikeVarint full k (groups n s (at + 1)) (groups n t (k + (at + 1))) →
      AlikeVarint full k (groups (suc n) s at) (groups (suc n) t (k + at))
  unfolding groups
  group-alike full n at g rest =
      rw (lt-ltb at (length s) g, lt-ltb (k + at) (length t) (omega (arith, h.room)), h.same at g, next_place at)
      (both-alike (ltb (get_or s at 0) 128))
    where
      both-alike : (b : Bool) →
          AlikeVarint full k
          (cond b (some_number (get_or s at 0) (at + 1)) (onto (get_or s at 0 % 128) 128 (groups n s (at + 1))))
          (cond b (some_number (get_or s at 0) (k + (at + 1)))
          (onto (get_or s at 0 % 128) 128 (groups n t (k + (at + 1)))))
      both-alike true = refl
      both-alike false = onto_alike full k (get_or s at 0 % 128) (groups n s (at + 1)) (groups n t (k + (at + 1))) rest

  end-group : (full : Bool) (n at : ℕ) → length s ≤ at → (full ≡ true → ⊥) →
      AlikeVarint full k (groups (suc n) s at) (groups (suc n) t (k + at))
  unfolding groups
  end-group full n at g f = rw (le-ltb at (length s) g) (end_alike full k (groups (suc n) t (k + at)) f)

  -- a group, or the end of s
  group-or-end : (full : Bool) (n at : ℕ) → (full ≡ true → at + suc n ≤ length s) →
      AlikeVarint full k (groups n s (at + 1)) (groups n t (k + (at + 1))) →
      AlikeVarint full k (groups (suc n) s at) (groups (suc n) t (k + at))
  group-or-end full n at f rest = go (ltb at (length s)) refl
    where
      go : (b : Bool) → ltb at (length s) ≡ b → AlikeVarint full k (groups (suc n) s at) (groups (suc n) t (k + at))
      go true e = group-alike full n at (ltb-true at (length s) e) rest
      go false e = end-group full n at (ltb-false at (length s) e) (λ y. omega (arith, f y, ltb-false at (length s) e))

  groups-alike : (full : Bool) (n at : ℕ) → (full ≡ true → at + n ≤ length s) →
      AlikeVarint full k (groups n s at) (groups n t (k + at))
  groups-alike full zero at f = rw (groups_none s at, groups_none t (k + at)) (bad_alike full k)
  groups-alike full (suc n) at f = group-or-end full n at f (groups-alike full n (at + 1) (λ y. omega (arith, f y)))

  -- ---- numbers

  -- s has fewer than ten bytes here
  part-alike : (at : ℕ) → ltb (length s) (at + 10) ≡ true → (x y : Option Number) → AlikeVarint false k x y →
      AlikeNumber k (number_of s at x) (number_of t (k + at) y)
  part-alike at e (Some r) y f = ap (number_of t (k + at)) f
  part-alike at e None y f = rw e tt

  full-alike : (at : ℕ) → ltb (length s) (at + 10) ≡ false → (x y : Option Number) → AlikeVarint true k x y →
      AlikeNumber k (number_of s at x) (number_of t (k + at) y)
  full-alike at e (Some r) y f = ap (number_of t (k + at)) f
  full-alike at e None y f =
      rw e
      (ap (number_of t (k + at)) f
      ∙ sym (unended_bad t (k + at) (omega (arith, h.room, ltb-false (length s) (at + 10) e))))

  number-alike : (at : ℕ) → AlikeNumber k (number_at s at) (number_at t (k + at))
  unfolding number_at
  number-alike at = go (ltb (length s) (at + 10)) refl
    where
      go : (b : Bool) → ltb (length s) (at + 10) ≡ b →
          AlikeNumber k (number_of s at (varint_at s at)) (number_of t (k + at) (varint_at t (k + at)))
      go true e =
          part-alike at e (varint_at s at) (varint_at t (k + at))
          (low64_alike false k (groups 10 s at) (groups 10 t (k + at))
          (groups-alike false 10 at (λ y. absurd (let z : ◌≡◌ {A = ℕ} 0 1 = cc in omega arith))))
      go false e =
          full-alike at e (varint_at s at) (varint_at t (k + at))
          (low64_alike true k (groups 10 s at) (groups 10 t (k + at))
          (groups-alike true 10 at (λ y. ltb-false (length s) (at + 10) e)))

  then-alike : (x y : NumberResult) (more more' : ℕ → ℕ → RecordResult) → AlikeNumber k x y →
      ((v next : ℕ) → Alike k (more v next) (more' v (k + next))) → Alike k (and_then x more) (and_then y more')
  then-alike (Ok n) y more more' e f = rw e (f n.value n.next)
  then-alike (Err Short) y more more' e f = tt
  then-alike (Err Bad) y more more' e f = ap (λ (z : NumberResult). and_then z more') e

  either-alike : (b : Bool) (x y x' y' : RecordResult) → Alike k x x' → Alike k y y' →
      Alike k (cond b x y) (cond b x' y')
  either-alike true x y x' y' e f = e
  either-alike false x y x' y' e f = f

  -- ---- records

  module _ (start len : ℕ) where
    -- a number ends the record
    last-alike : (report : ℕ → Report) (at : ℕ) →
        Alike k (and_then (number_at s at) (λ v next. whole_record start len (report v) next))
        (and_then (number_at t (k + at)) (λ v next. whole_record (k + start) len (report v) next))
    last-alike report at =
        then-alike (number_at s at) (number_at t (k + at)) (λ v next. whole_record start len (report v) next)
        (λ v next. whole_record (k + start) len (report v) next) (number-alike at) (λ v next. refl)

    prepared-alike : (at : ℕ) → Alike k (prepared_at s start len at) (prepared_at t (k + start) len (k + at))
    unfolding prepared_at
    prepared-alike = last-alike prepared_report

    failed-alike : (at : ℕ) → Alike k (failed_at s start len at) (failed_at t (k + start) len (k + at))
    unfolding failed_at
    failed-alike = last-alike failed_report

    rows_alike : (columns at : ℕ) → Alike k (rows_at s start len columns at) (rows_at t (k + start) len columns (k + at))
    unfolding rows_at
    rows_alike columns = last-alike (result_report columns)

    result-alike : (at : ℕ) → Alike k (result_at s start len at) (result_at t (k + start) len (k + at))
    unfolding result_at
    result-alike at =
        then-alike (number_at s at) (number_at t (k + at)) (λ columns p. rows_at s start len columns p)
        (λ columns p. rows_at t (k + start) len columns p) (number-alike at) (λ columns p. rows_alike columns p)

    report-alike : (kind at : ℕ) → Alike k (report_at s start len kind at) (report_at t (k + start) len kind (k + at))
    unfolding report_at
    report-alike kind at =
        either-alike (ltb max_kind kind) (Err Bad) (known s start at) (Err Bad) (known t (k + start) (k + at)) refl
        (either-alike (eqb kind prepared) (prepared_at s start len at) (unprepared s start at)
        (prepared_at t (k + start) len (k + at)) (unprepared t (k + start) (k + at)) (prepared-alike at)
        (either-alike (eqb kind result) (result_at s start len at) (unresulting s start at)
        (result_at t (k + start) len (k + at)) (unresulting t (k + start) (k + at)) (result-alike at)
        (either-alike (eqb kind failed) (failed_at s start len at) (bare start at)
        (failed_at t (k + start) len (k + at)) (bare (k + start) (k + at)) (failed-alike at) refl)))
      where
        bare : ℕ → ℕ → RecordResult
        bare from p = whole_record from len (bare_report kind) p

        unresulting : List ℕ → ℕ → ℕ → RecordResult
        unresulting l from p = cond (eqb kind failed) (failed_at l from len p) (bare from p)

        unprepared : List ℕ → ℕ → ℕ → RecordResult
        unprepared l from p = cond (eqb kind result) (result_at l from len p) (unresulting l from p)

        known : List ℕ → ℕ → ℕ → RecordResult
        known l from p = cond (eqb kind prepared) (prepared_at l from len p) (unprepared l from p)

    behind-frame : k + start + len ≡ k + (start + len)
    behind-frame = omega arith

    kind-alike : Alike k (kind_at s start len) (kind_at t (k + start) len)
    unfolding kind_at
    kind-alike =
        rw behind-frame
        (then-alike (number_at s (start + len)) (number_at t (k + (start + len)))
        (λ kind at. report_at s start len kind at)
        (λ kind at. report_at t (k + start) len kind at) (number-alike (start + len)) (λ kind at. report-alike kind at))

    frame-alike : Alike k (frame_at s len start) (frame_at t len (k + start))
    unfolding frame_at
    frame-alike =
        either-alike (ltb max_frame len) (Err Bad) (there s start) (Err Bad) (there t (k + start)) refl
        (go (ltb (length s) (start + len)) refl)
      where
        there : List ℕ → ℕ → RecordResult
        there l from = cond (ltb (length l) (from + len)) (Err Short) (kind_at l from len)

        go : (b : Bool) → ltb (length s) (start + len) ≡ b →
            Alike k (cond (ltb (length s) (start + len)) (Err Short) (kind_at s start len)) (there t (k + start))
        go true e = rw e tt
        go false e =
            rw (e, le-ltb (length t) (k + start + len) (omega (arith, h.room, ltb-false (length s) (start + len) e)))
            kind-alike

  record-alike : (at : ℕ) → Alike k (record_at s at) (record_at t (k + at))
  unfolding record_at
  record-alike at =
      then-alike (number_at s at) (number_at t (k + at)) (λ len start. frame_at s len start)
      (λ len start. frame_at t len start)
      (number-alike at) (λ len start. frame-alike start len)

-- ---- any part of the input that holds the record

held : (before s behind : List ℕ) → Holds (length before) s (before ++ s ++ behind)
held before s behind =
    record {
      room = rw (length-append, length-append) (omega arith);
      same = λ i e. rw append_assoc (get_or-append-add before (s ++ behind) i 0 ∙ List·getD-append s behind 0 i e);
    }

pub reads_alike : ReadsAlike
reads_alike before s behind at whole-there =
    go (record_at s at) (record-alike (length before) s (before ++ s ++ behind) (held before s behind) at) whole-there
  where
    go : (x : RecordResult) → Alike (length before) x (record_at (before ++ s ++ behind) (length before + at)) →
        (x ≡ Err Short → ⊥) →
        record_at (before ++ s ++ behind) (length before + at) ≡ shifted (length before) x
    go (Ok r) e f = e
    go (Err Short) e f = absurd (f refl)
    go (Err Bad) e f = e

pub frames_alike : FrameAlike
frames_alike before s behind start len h =
    ap (take len)
    (rw append_assoc (drop-append-add before (s ++ behind) start ∙ drop-append-le start s behind (omega arith)))
    ∙ take-append-le len (drop start s) behind (rw length-drop (omega arith))
