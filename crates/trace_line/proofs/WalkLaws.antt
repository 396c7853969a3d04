-- Lines put one behind the other: where the loop stands. Assumes nothing.
use Rattle.prelude.proofs.Basics.{ℕ, zero, suc, ◌+◌, ◌-◌, ◌≤◌, ◌<◌, arith, Bool, true, false, cond, ◌≡◌, refl, sym, ap}
use Rattle.prelude.proofs.Basics.{subst, ◌∙◌, List, [], ◌++◌, append-nil, length, take, drop}
use Rattle.prelude.proofs.Basics.{length-append, length-drop, drop-drop, take_all, leb, le-leb, lt-leb}
use Rattle.std.specs.Prelude.{unwrap_or}
use Rattle.encode.specs.Puts.{Puts}
use Rattle.encode.proofs.PutsLaws.{puts_nothing}
use Rattle.trace_line.proofs.Names.{RecordResult, Result, Ok, Err, RecordError}
use Rattle.trace_line.proofs.Names.{Session, put_at, written, Option, put_fits, length_written, puts_then, Step}
use Rattle.trace_line.proofs.Names.{step_of, line_of, Lines, no_line, also, number_behind, Behind, on_record}
use Rattle.trace_line.proofs.Names.{max_line, lines_within, record_at, Within, line_after, reply_buffer, trace_of}
use Rattle.trace_line.proofs.Names.{trace_at, Traced, Walk, Record}
use Rattle.trace_line.specs.private.Walk.{Walks}
use Rattle.trace_line.proofs.LineLaws.{line_within}
use Rattle.trace_line.proofs.TraceLaws.{Gives}
use Rattle.trace_line.proofs.WithinLaws.{records_within}
use Rattle.trace_line.proofs.ChunkLaws.{also_also}

-- bytes that have room: the place behind them
puts_behind : {b bs b₁ : List ℕ} {at : ℕ} {p : Option ℕ} → at + length bs ≤ length b → p ≡ put_at b at bs →
    b₁ ≡ written b at bs → (unwrap_or p 0 ≡ at + length bs) × Puts b at bs (unwrap_or p 0) b₁
puts_behind {b} {bs} {b₁} {at} {p} h e g =
    let w = put_fits b at bs h in
    let end : unwrap_or p 0 ≡ at + length bs = ap (λ (o : Option ℕ). unwrap_or o 0) (e ∙ sym w.0) in
    (end, record { behind = omega arith; stored = g ∙ sym w.1 })

-- ---- lines within some room, one record at a time

none_within : (m room : ℕ) (session : Session) (n : ℕ) (s : List ℕ) → length s ≤ 0 →
    lines_within m room session n s ≡ no_line session n s
unfolding lines_within
none_within zero room session n s h = refl
none_within (suc m) room session n s h = go (leb max_line room) (record_at s 0) (records_within s 0)
  where
    go : (b : Bool) (x : RecordResult) → Within s 0 x →
        cond b (on_record (λ line. lines_within m (room - length line)) session n s x) (no_line session n s)
        ≡ no_line session n s
    go false x w = refl
    go true (Ok r) w = absurd (omega (arith, w.0, w.1, w.2))
    go true (Err e) w = refl

full_within : (m room : ℕ) (session : Session) (n : ℕ) (s : List ℕ) → room < max_line →
    lines_within m room session n s ≡ no_line session n s
unfolding lines_within
full_within zero room session n s h = refl
full_within (suc m) room session n s h = rw (lt-leb max_line room h) refl

one_within : (m room : ℕ) (session : Session) (n : ℕ) (s : List ℕ) → 0 < m → max_line ≤ room →
    lines_within m room session n s
    ≡ on_record (λ line. lines_within (m - 1) (room - length line)) session n s (record_at s 0)
unfolding lines_within
one_within zero room session n s h g = absurd (omega arith)
one_within (suc m) room session n s h g =
    rw (le-leb max_line room g)
    (ap (λ (k : ℕ). on_record (λ line. lines_within k (room - length line)) session n s (record_at s 0)) (before m))
  where
    before : (m : ℕ) → m ≡ suc m - 1
    before m = omega arith

-- ---- what was traced, and what was not

ok_is : {t u : Traced} → ◌≡◌ {A = Result Traced RecordError} (Ok t) (Ok u) → t ≡ u
ok_is e = cc

err_not_ok : {e : RecordError} {r : Result Traced RecordError} {t : Traced} → r ≡ Err e → r ≡ Ok t → ⊥
err_not_ok {e} {r} {t} f g =
    let z : ◌≡◌ {A = Result Traced RecordError} (Err e) (Ok t) = sym f ∙ g in
    let y : ◌≡◌ {A = ℕ} 0 1 = cc in omega arith

-- ---- where the loop stands

-- the lines put so far, and those that the rest comes to, are the lines of the whole
pub record Walking (session₀ : Session) (first : ℕ) (s out₀ : List ℕ) (session : Session) (n at to : ℕ)
    (out : List ℕ) : Type 0 where
  pub most : ℕ
  pub lines : List ℕ
  pub enough : length s ≤ at + most
  pub within : at ≤ length s
  pub puts : Puts out₀ 0 lines to out
  pub end : to ≡ length lines
  pub room : to ≤ length out₀
  pub kept : length out ≡ length out₀
  pub whole : lines_within (length s) (length out₀) session₀ first s
      ≡ also lines (lines_within most (length out₀ - to) session n (drop at s))

pub walk_starts : (session : Session) (first : ℕ) (s out : List ℕ) → Walking session first s out session first 0 0 out
walk_starts session first s out =
    record {
      most = length s;
      lines = [];
      enough = omega arith;
      within = omega arith;
      puts = puts_nothing out 0;
      end = refl;
      room = omega arith;
      kept = refl;
      whole = ap (λ (k : ℕ). lines_within (length s) k session first s) all-free;
    }
  where
    all-free : length out ≡ length out - 0
    all-free = omega arith

abbrev walk : ℕ → ℕ → ℕ → Walk
walk n at to = record { n = n; at = at; to = to }

module _ {session₀ session : Session} {first n at to : ℕ} {s out₀ out : List ℕ}
    (w : Walking session₀ first s out₀ session n at to out) where
  abbrev all : Lines
  all = lines_within (length s) (length out₀) session₀ first s

  lines_are : also w.lines (no_line session n (drop at s)) ≡ all → w.lines ≡ all.lines
  lines_are e = sym (append-nil w.lines) ∙ ap (λ (x : Lines). x.lines) e

  rest-nothing : lines_within w.most (length out₀ - to) session n (drop at s) ≡ no_line session n (drop at s) →
      Walks s out₀ all (walk n at to) session out
  rest-nothing none =
      let e : also w.lines (no_line session n (drop at s)) ≡ all =
      sym (w.whole ∙ ap (also w.lines) none) in
      record {
        number = ap (λ (x : Lines). x.n) e;
        within = w.within;
        rest = ap (λ (x : Lines). x.left) e;
        same = ap (λ (x : Lines). x.session) e;
        puts = subst (λ (l : List ℕ). Puts out₀ 0 l to out) (lines_are e) w.puts;
        room = omega (arith, w.room, w.end, ap length (lines_are e));
      }

  -- all records are printed
  pub walk_ends : length s ≤ at → Walks s out₀ all (walk n at to) session out
  walk_ends h =
      rest-nothing
      (none_within w.most (length out₀ - to) session n (drop at s) (omega (arith, length-drop at s)))

  -- no room for another line
  pub walk_full : length out - to < max_line → Walks s out₀ all (walk n at to) session out
  walk_full h =
      rest-nothing (full_within w.most (length out₀ - to) session n (drop at s) (omega (arith, w.kept)))

  -- what comes behind the next line
  abbrev rest : Behind
  rest line = lines_within (w.most - 1) (length out₀ - to - length line)

  module _ (more : at < length s) (roomy : max_line ≤ length out - to) {part : List ℕ} (is : part ≡ drop at s)
    where
      rest-is : lines_within w.most (length out₀ - to) session n (drop at s)
          ≡ on_record rest session n (drop at s) (record_at part 0)
      rest-is =
          one_within w.most (length out₀ - to) session n (drop at s) (omega (arith, w.enough))
          (omega (arith, w.kept))
          ∙ ap
          (λ (l : List ℕ).
          on_record rest session n (drop at s) (record_at l 0))
          (sym is)

      -- the record is not whole
      pub walk_stops : {e : RecordError} {r : Result Traced RecordError} {session₁ : Session} {out₁ : List ℕ} →
          r ≡ Err e → Gives r session₁ out₁ (trace_at session n part 0 out to) → Walks s out₀ all (walk n at to) session₁ out₁
      unfolding trace_at
      walk_stops {e} {r} {session₁} {out₁} f g = go (record_at part 0) rest-is g
        where
          go : (x : RecordResult) →
              lines_within w.most (length out₀ - to) session n (drop at s)
              ≡ on_record rest session n (drop at s) x →
              Gives r session₁ out₁ (trace_of session n part out to x) → Walks s out₀ all (walk n at to) session₁ out₁
          go (Ok x) q d = absurd (err_not_ok f d.0)
          go (Err e') q d = rw (d.1.0, d.1.1) (rest-nothing q)

      -- a line was put
      module _ {t : Traced} {session₁ : Session} {out₁ : List ℕ} where
        line-put : (x : Record) → Within part 0 (Ok x) →
            lines_within w.most (length out₀ - to) session n (drop at s) ≡ on_record rest session n (drop at s) (Ok x) →
            Gives (Ok t) session₁ out₁ (trace_of session n part out to (Ok x)) →
            Walking session₀ first s out₀ session₁ (number_behind n) (at + x.next) (unwrap_or t.put 0) out₁
        line-put x q f d =
            let v = step_of session (take x.len (drop x.start (drop at s))) x.report reply_buffer in
            let u = step_of session (take x.len (drop x.start part)) x.report reply_buffer in
            let same : u ≡ v =
            ap (λ (l : List ℕ). step_of session (take x.len (drop x.start l)) x.report reply_buffer) is in
            let line = line_of (line_after n u) in
            let fits : to + length line ≤ length out = omega (arith, line_within (line_after n u), w.kept, w.room) in
            let p = puts_behind fits (ap (λ (t : Traced). t.put) (ok_is d.0)) d.1.1 in
            let longer = length-append w.lines line in
            record {
              most = w.most - 1;
              lines = w.lines ++ line;
              enough = omega (arith, w.enough, q.0, q.1, q.2);
              within = omega (arith, w.within, q.2, ap length is, length-drop at s);
              puts = puts_then w.puts p.1;
              end = omega (arith, p.0, w.end, longer);
              room = omega (arith, p.0, fits, w.kept);
              kept = ap length d.1.1 ∙ length_written out to line ∙ w.kept;
              whole =
                  w.whole
                  ∙ ap (also w.lines) f
                  ∙ ap (λ (v : Step).
                  let l = line_of (line_after n v) in
                  also w.lines
                  (also l
                  (lines_within (w.most - 1) (length out₀ - to - length l) v.session (number_behind n)
                  (drop x.next (drop at s)))))
                  (sym same)
                  ∙ also_also w.lines line
                  (lines_within (w.most - 1) (length out₀ - to - length line) u.session (number_behind n)
                  (drop x.next (drop at s)))
                  ∙ ap (λ (l : List ℕ).
                  also (w.lines ++ line)
                  (lines_within (w.most - 1) (length out₀ - to - length line) u.session (number_behind n) l))
                  (drop-drop x.next at s)
                  ∙ ap (λ (k : ℕ).
                  also (w.lines ++ line)
                  (lines_within (w.most - 1) k u.session (number_behind n) (drop (at + x.next) s)))
                  (left-room (length out₀) to (length line) (unwrap_or t.put 0) p.0)
                  ∙ ap (λ (v : Session).
                  also (w.lines ++ line)
                  (lines_within (w.most - 1) (length out₀ - unwrap_or t.put 0) v (number_behind n)
                  (drop (at + x.next) s)))
                  (sym d.1.0);
            }
          where
            left-room : (size to long q : ℕ) → q ≡ to + long → size - to - long ≡ size - q
            left-room size to long q h = omega arith

        pub walk_on : {r : Result Traced RecordError} → r ≡ Ok t →
            Gives r session₁ out₁ (trace_at session n part 0 out to) →
            Walking session₀ first s out₀ session₁ (number_behind n) (at + t.next) (unwrap_or t.put 0) out₁
        unfolding trace_at
        walk_on {r} e g = go (record_at part 0) (records_within part 0) rest-is (rw e at g)
          where
            go : (x : RecordResult) → Within part 0 x →
                lines_within w.most (length out₀ - to) session n (drop at s) ≡ on_record rest session n (drop at s) x →
                Gives (Ok t) session₁ out₁ (trace_of session n part out to x) →
                Walking session₀ first s out₀ session₁ (number_behind n) (at + t.next) (unwrap_or t.put 0) out₁
            go (Ok x) q f d =
                subst (λ (k : ℕ).
                Walking session₀ first s out₀ session₁ (number_behind n) (at + k) (unwrap_or t.put 0) out₁)
                (sym (ap (λ (y : Traced). y.next) (ok_is d.0))) (line-put x q f d)
            go (Err e') q f d = absurd (err_not_ok refl (sym d.0))

      -- the place behind a record lies past its first byte and within the bytes
      pub place_within : {r : Result Traced RecordError} {t : Traced} {session₁ : Session} {out₁ : List ℕ} → r ≡ Ok t →
          Gives r session₁ out₁ (trace_at session n part 0 out to) → (0 < t.next) × (at + t.next ≤ length s)
      unfolding trace_at
      place_within {r} {t} {session₁} {out₁} e g = go (record_at part 0) (records_within part 0) (rw e at g)
        where
          go : (x : RecordResult) → Within part 0 x →
              Gives (Ok t) session₁ out₁ (trace_of session n part out to x) → (0 < t.next) × (at + t.next ≤ length s)
          go (Ok x) q d =
              let same : t.next ≡ x.next = ap (λ (y : Traced). y.next) (ok_is d.0) in (
                omega (arith, same, q.0, q.1),
                omega (arith, same, q.2, ap length is, length-drop at s, w.within),
              )
          go (Err e') q d = absurd (err_not_ok refl (sym d.0))

-- the rest of a list, to its end
pub to_end : (s : List ℕ) (at : ℕ) → take (length s - at) (drop at s) ≡ drop at s
to_end s at = take_all (length s - at) (drop at s) (rw length-drop (omega arith))
