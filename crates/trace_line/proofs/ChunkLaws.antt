-- The bytes of an input come to the same lines however they are taken: what was printed, and what the rest comes to,
-- is what all of it comes to. Assumes nothing.
use Rattle.prelude.proofs.Basics.{ℕ, zero, suc, ◌+◌, ◌-◌, ◌≤◌, arith, zero-add, Bool, true, false, cond, ◌≡◌, refl, sym}
use Rattle.prelude.proofs.Basics.{ap, ◌∙◌, ◌⊎◌, inl, inr, ⊎_elim, List, [], ◌∷◌, ◌++◌, append-nil, append_assoc, length}
use Rattle.prelude.proofs.Basics.{take, drop, length-append, length-drop, length-take, drop-append-le, length-take-le}
use Rattle.prelude.proofs.Basics.{take_at, leb}
use Rattle.encode.proofs.PutLaws.{drop_written}
use Rattle.trace_line.proofs.Names.{RecordResult, Result, Ok, Err, RecordError, Short, Bad, whole_record}
use Rattle.trace_line.proofs.Names.{groups, Session, written, length_written, step_of, line_of, end_text}
use Rattle.trace_line.proofs.Names.{Lines, header, no_line, also, number_behind, Behind, on_record, lines_from}
use Rattle.trace_line.proofs.Names.{first_of, stands_first, max_line, lines_within, print_of, number_at, record_at}
use Rattle.trace_line.proofs.Names.{Within, shifted, line_after, reply_buffer, Printer, Record}
use Rattle.trace_line.specs.Output.{line_then, lines_of, output_of}
use Rattle.trace_line.specs.Printer.{held_by, taken_count}
use Rattle.trace_line.specs.Chunks.{Call, Printing, called, calls, begun, printing, written_by, held_then, Ended}
use Rattle.trace_line.specs.Chunks.{AnyChunks}
use Rattle.trace_line.proofs.WithinLaws.{records_within}
use Rattle.trace_line.proofs.AlikeLaws.{reads_alike, frames_alike}

-- ---- a record with more bytes behind it

shifted_none : (x : RecordResult) → shifted 0 x ≡ x
shifted_none (Ok r) =
    ap (λ (i : ℕ). whole_record i r.len r.report (0 + r.next)) (zero-add r.start)
    ∙ ap (λ (i : ℕ). whole_record r.start r.len r.report i) (zero-add r.next)
shifted_none (Err e) = refl

pub more_behind : (s more : List ℕ) → (record_at s 0 ≡ Err Short → ⊥) → record_at (s ++ more) 0 ≡ record_at s 0
more_behind s more h = reads_alike [] s more 0 h ∙ shifted_none (record_at s 0)

frame_behind : (s more : List ℕ) (start len : ℕ) → start + len ≤ length s →
    take len (drop start (s ++ more)) ≡ take len (drop start s)
frame_behind s more start len h =
    ap (λ (i : ℕ). take len (drop i (s ++ more))) (sym (zero-add start)) ∙ frames_alike [] s more start len h

not_short : {x : RecordResult} {r : Record} → x ≡ Ok r → x ≡ Err Short → ⊥
not_short {r = r} e f =
    let z : ◌≡◌ {A = RecordResult} (Ok r) (Err Short) = sym e ∙ f in
    let y : ◌≡◌ {A = ℕ} 0 1 = cc in omega arith

bad_not_short : {x : RecordResult} → x ≡ Err Bad → x ≡ Err Short → ⊥
bad_not_short e f =
    let z : ◌≡◌ {A = RecordResult} (Err Bad) (Err Short) = sym e ∙ f in
    let y : ◌≡◌ {A = ℕ} 0 1 = cc in omega arith

-- ---- as many records as there are: more does not matter

pub also_also : (xs ys : List ℕ) (z : Lines) → also xs (also ys z) ≡ also (xs ++ ys) z
also_also xs ys z =
    ap (λ (l : List ℕ). record { lines = l; session = z.session; n = z.n; left = z.left })
    (sym (append_assoc xs ys z.lines))

-- no record is whole
none_whole : (rest : Behind) (session : Session) (n : ℕ) (s : List ℕ) (x : RecordResult) → Within s 0 x →
    length s ≤ 0 → on_record rest session n s x ≡ no_line session n s
none_whole rest session n s (Ok r) w h = absurd (omega (arith, w.0, w.1, w.2))
none_whole rest session n s (Err e) w h = refl

no_bytes : (k : ℕ) (session : Session) (n : ℕ) (s : List ℕ) → length s ≤ 0 →
    lines_from k session n s ≡ no_line session n s
unfolding lines_from
no_bytes zero session n s h = refl
no_bytes (suc k) session n s h =
    none_whole (λ line. lines_from k) session n s (record_at s 0) (records_within s 0) h

pub enough : (k j : ℕ) (session : Session) (n : ℕ) (s : List ℕ) → length s ≤ k → length s ≤ j →
    lines_from k session n s ≡ lines_from j session n s
unfolding lines_from
enough zero j session n s h g = sym (no_bytes j session n s h)
enough (suc k) zero session n s h g = no_bytes (suc k) session n s g
enough (suc k) (suc j) session n s h g = go (record_at s 0) (records_within s 0) (enough k j)
  where
    go : (x : RecordResult) → Within s 0 x →
        ((session : Session) (n : ℕ) (s : List ℕ) → length s ≤ k → length s ≤ j →
        lines_from k session n s ≡ lines_from j session n s) →
        on_record (λ line. lines_from k) session n s x ≡ on_record (λ line. lines_from j) session n s x
    go (Ok r) w same =
        let t = step_of session (take r.len (drop r.start s)) r.report reply_buffer in
        let l = length-drop r.next s in
        ap (also (line_of (line_after n t)))
        (same t.session (number_behind n) (drop r.next s) (omega (arith, w.0, w.1, w.2, l))
        (omega (arith, w.0, w.1, w.2, l)))
    go (Err e) w same = refl

-- ---- more bytes come

-- what was printed of s, and then what the rest of it and the bytes behind come to
module _ (more : List ℕ) where
  -- s came to x: s and the bytes behind it come to the lines of x and what comes behind them
  abbrev Continues : Session → ℕ → List ℕ → Lines → Type 0
  Continues session n s x =
      (k j : ℕ) → length (s ++ more) ≤ k → length (x.left ++ more) ≤ j →
      lines_from k session n (s ++ more) ≡ also x.lines (lines_from j x.session x.n (x.left ++ more))

  stays : (session : Session) (n : ℕ) (s : List ℕ) → Continues session n s (no_line session n s)
  stays session n s k j h g = enough k j session n (s ++ more) h g

  -- one record, and then the others
  one_more : (rest : Behind) (session : Session) (n : ℕ) (s : List ℕ) (r : Record) → record_at s 0 ≡ Ok r →
      Within s 0 (Ok r) →
      let t = step_of session (take r.len (drop r.start s)) r.report reply_buffer in
      let line = line_of (line_after n t) in
      Continues t.session (number_behind n) (drop r.next s) (rest line t.session (number_behind n) (drop r.next s)) →
      Continues session n s (on_record rest session n s (Ok r))
  unfolding lines_from
  one_more rest session n s r e w on zero j h g =
      absurd (omega (arith, length-append s more, w.0, w.1, w.2))
  one_more rest session n s r e w on (suc k) j h g =
      let t = step_of session (take r.len (drop r.start s)) r.report reply_buffer in
      let line = line_of (line_after n t) in
      let x = rest line t.session (number_behind n) (drop r.next s) in
      let after : Lines = lines_from j x.session x.n (x.left ++ more) in
      ap (on_record (λ line. lines_from k) session n (s ++ more)) (more_behind s more (not_short e) ∙ e)
      ∙ ap (λ (f : List ℕ).
      line_then (λ line. lines_from k) n (drop r.next (s ++ more)) (step_of session f r.report reply_buffer))
      (frame_behind s more r.start r.len (omega (arith, w.1, w.2)))
      ∙ ap (λ (l : List ℕ). also line (lines_from k t.session (number_behind n) l))
      (drop-append-le r.next s more w.2)
      ∙ ap (also line) (on k j fewer g)
      ∙ also_also line x.lines after
    where
      fewer : length (drop r.next s ++ more) ≤ k
      fewer = rw (length-append, length-drop) (omega (arith, length-append s more, w.0, w.1, w.2))

  pub continues : (m room : ℕ) (session : Session) (n : ℕ) (s : List ℕ) →
      Continues session n s (lines_within m room session n s)
  unfolding lines_within
  continues zero room session n s = stays session n s
  continues (suc m) room session n s =
      go (leb max_line room) (record_at s 0) refl (records_within s 0) (λ line. continues m (room - length line))
    where
      rest : Behind
      rest line = lines_within m (room - length line)

      go : (b : Bool) (x : RecordResult) → record_at s 0 ≡ x → Within s 0 x →
          ((line : List ℕ) (session : Session) (n : ℕ) (s : List ℕ) →
          Continues session n s (lines_within m (room - length line) session n s)) →
          Continues session n s (cond b (on_record rest session n s x) (no_line session n s))
      go false x e w on = stays session n s
      go true (Ok r) e w on =
          let t = step_of session (take r.len (drop r.start s)) r.report reply_buffer in
          let line = line_of (line_after n t) in
          one_more rest session n s r e w (on line t.session (number_behind n) (drop r.next s))
      go true (Err error) e w on = stays session n s

-- what is left is no more than there was
pub left_within : (m room : ℕ) (session : Session) (n : ℕ) (s : List ℕ) →
    length (lines_within m room session n s).left ≤ length s
unfolding lines_within
left_within zero room session n s = omega arith
left_within (suc m) room session n s =
    go (leb max_line room) (record_at s 0) (λ line. left_within m (room - length line))
  where
    rest : Behind
    rest line = lines_within m (room - length line)

    go : (b : Bool) (x : RecordResult) →
        ((line : List ℕ) (session : Session) (n : ℕ) (s : List ℕ) →
        length (lines_within m (room - length line) session n s).left ≤ length s) →
        length (cond b (on_record rest session n s x) (no_line session n s)).left ≤ length s
    go false x on = omega arith
    go true (Ok r) on =
        let t = step_of session (take r.len (drop r.start s)) r.report reply_buffer in
        let line = line_of (line_after n t) in
        omega (arith, length-drop r.next s, on line t.session (number_behind n) (drop r.next s))
    go true (Err e) on = omega arith

-- ---- one call

-- bytes put at the front of a store stand there
front_held : (store bytes : List ℕ) → length bytes ≤ length store → take (length bytes) (written store 0 bytes) ≡ bytes
front_held store bytes h =
    ap (take (length bytes)) (drop_written store 0 bytes (omega arith))
    ∙ take_at bytes (drop (0 + length bytes) store) (length bytes) refl

module _ (p : Printer) (store chunk : List ℕ) where
  abbrev pub have : List ℕ
  have = held_by store p

  abbrev pub count : ℕ
  count = taken_count (length store) (length have) chunk

  abbrev pub came : List ℕ
  came = take count chunk

  pub have_within : length have ≤ length store
  have_within = omega (arith, length-take p.held store)

  pub came_length : length came ≡ count
  came_length = length-take-le count chunk (omega arith)

  pub came_fits : length have + length came ≤ length store
  came_fits = omega (arith, came_length, have_within)

  pub came_first : take (length came) chunk ≡ came
  came_first = ap (λ (k : ℕ). take k chunk) came_length

-- ---- every list of calls

-- the bytes taken, with any others behind them, come to the lines put and what the bytes held and the others come to
record Traces (x : Printing) : Type 0 where
  fits : x.printer.held ≤ length x.store
  whole : (more : List ℕ) →
      lines_of (x.taken ++ more)
      ≡ also x.lines
      (lines_from (length (held_then x ++ more)) x.session x.printer.n (held_then x ++ more))

begun_traces : (store : List ℕ) → Traces (begun store)
begun_traces store = record { fits = omega arith; whole = λ more. refl }

called_traces : (c : Call) (x : Printing) → Traces x → Traces (called c x)
unfolding called print_of
called_traces c x h = record { fits = fits-then; whole = whole-then }
  where
    h₀ : List ℕ
    h₀ = held_then x

    more₀ : List ℕ
    more₀ = came x.printer x.store c.chunk

    store₁ : List ℕ
    store₁ = written x.store (length h₀) more₀

    bytes : List ℕ
    bytes = h₀ ++ more₀

    y : Lines
    y = lines_within (length bytes) c.room x.session x.printer.n bytes

    small : length y.left ≤ length store₁
    small =
        omega (
          arith,
          left_within (length bytes) c.room x.session x.printer.n bytes,
          length-append h₀ more₀,
          came_fits x.printer x.store c.chunk,
          length_written x.store (length h₀) more₀,
        )

    fits-then : length y.left ≤ length (written store₁ 0 y.left)
    fits-then = omega (arith, small, length_written store₁ 0 y.left)

    held_then_lem : take (length y.left) (written store₁ 0 y.left) ≡ y.left
    held_then_lem = front_held store₁ y.left small

    whole-then : (more : List ℕ) →
        lines_of (x.taken ++ take (length more₀) c.chunk ++ more)
        ≡ also (x.lines ++ y.lines)
        (lines_from (length (take (length y.left) (written store₁ 0 y.left) ++ more)) y.session y.n
        (take (length y.left) (written store₁ 0 y.left) ++ more))
    whole-then more =
        rw (came_first x.printer x.store c.chunk, held_then_lem)
        (ap lines_of (append_assoc x.taken more₀ more)
        ∙ h.whole (more₀ ++ more)
        ∙ ap (λ (l : List ℕ). also x.lines (lines_from (length l) x.session x.printer.n l))
        (sym (append_assoc h₀ more₀ more))
        ∙ ap (also x.lines)
        (continues more (length bytes) c.room x.session x.printer.n bytes
        (length (bytes ++ more)) (length (y.left ++ more)) (omega arith) (omega arith))
        ∙ also_also x.lines y.lines
        (lines_from (length (y.left ++ more)) y.session y.n (y.left ++ more)))

calls_traces : (cs : List Call) (x : Printing) → Traces x → Traces (calls cs x)
unfolding calls
calls_traces [] x h = h
calls_traces (c ∷ cs) x h = calls_traces cs (called c x) (called_traces c x h)

-- ---- the end

nothing_short : record_at [] 0 ≡ Err Short
unfolding record_at number_at groups
nothing_short = refl

pub first_short : (s : List ℕ) → stands_first s ≡ Err Short → record_at s 0 ≡ Err Short
unfolding stands_first
first_short s e = go (record_at s 0) e
  where
    go : (x : RecordResult) → first_of x ≡ Err Short → x ≡ Err Short
    go (Ok r) f = absurd (let z : ◌≡◌ {A = ℕ} 0 1 = cc in omega arith)
    go (Err e) f = cc

first_bad : (s : List ℕ) → stands_first s ≡ Err Bad → record_at s 0 ≡ Err Bad
unfolding stands_first
first_bad s e = go (record_at s 0) e
  where
    go : (x : RecordResult) → first_of x ≡ Err Bad → x ≡ Err Bad
    go (Ok r) f = absurd (let z : ◌≡◌ {A = ℕ} 0 1 = cc in omega arith)
    go (Err e) f = cc

none_printed : (rest : Behind) (session : Session) (n : ℕ) (s : List ℕ) (x : RecordResult) →
    (x ≡ Err Short) ⊎ (x ≡ Err Bad) → on_record rest session n s x ≡ no_line session n s
none_printed rest session n s x = ⊎_elim (λ e. rw e refl) (λ e. rw e refl)

none_from : (k : ℕ) (session : Session) (n : ℕ) (s : List ℕ) →
    (record_at s 0 ≡ Err Short) ⊎ (record_at s 0 ≡ Err Bad) →
    lines_from k session n s ≡ no_line session n s
unfolding lines_from
none_from zero session n s e = refl
none_from (suc k) session n s e = none_printed (λ line. lines_from k) session n s (record_at s 0) e

-- a bad record has a byte, so `cut` is written whatever stands behind it
cut_alike : (s more : List ℕ) → record_at s 0 ≡ Err Bad → end_text (length s) ≡ end_text (length (s ++ more))
unfolding end_text
cut_alike [] more e = absurd (bad_not_short e nothing_short)
cut_alike (b ∷ s) more e = refl

output_as : (x : Printing) (input left : List ℕ) →
    lines_of input ≡ also x.lines (no_line x.session x.printer.n left) →
    end_text x.printer.held ≡ end_text (length left) → written_by x ≡ output_of input
output_as x input left e f =
    ap (λ (l : List ℕ). header ++ l ++ end_text x.printer.held) (sym (append-nil x.lines))
    ∙ ap (λ (l : List ℕ). header ++ (x.lines ++ []) ++ l) f
    ∙ ap (λ (y : Lines). header ++ y.lines ++ end_text (length y.left)) (sym e)

module _ (x : Printing) (h : Traces x) where
  held-length : length (held_then x) ≡ x.printer.held
  held-length = length-take-le x.printer.held x.store h.fits

  -- no whole record is held: nothing is printed of what is held and what was not taken
  none-behind : (more : List ℕ) →
      (record_at (held_then x ++ more) 0 ≡ Err Short) ⊎ (record_at (held_then x ++ more) 0 ≡ Err Bad) →
      lines_of (x.taken ++ more) ≡ also x.lines (no_line x.session x.printer.n (held_then x ++ more))
  none-behind more e =
      h.whole more
      ∙ ap (also x.lines)
      (none_from (length (held_then x ++ more)) x.session x.printer.n (held_then x ++ more) e)

  ended : (untaken : List ℕ) → Ended x untaken → written_by x ≡ output_of (x.taken ++ untaken)
  ended untaken = ⊎_elim short bad
    where
      short : (stands_first (held_then x) ≡ Err Short) × (untaken ≡ []) → written_by x ≡ output_of (x.taken ++ untaken)
      short e =
          let same : held_then x ++ untaken ≡ held_then x =
          ap (λ (l : List ℕ). held_then x ++ l) e.1 ∙ append-nil (held_then x) in
          output_as x (x.taken ++ untaken) (held_then x ++ untaken)
          (none-behind untaken (inl (ap (λ (l : List ℕ). record_at l 0) same ∙ first_short (held_then x) e.0)))
          (ap end_text (sym held-length ∙ ap length (sym same)))

      bad : stands_first (held_then x) ≡ Err Bad → written_by x ≡ output_of (x.taken ++ untaken)
      bad e =
          let b = first_bad (held_then x) e in
          output_as x (x.taken ++ untaken) (held_then x ++ untaken)
          (none-behind untaken (inr (more_behind (held_then x) untaken (bad_not_short b) ∙ b)))
          (ap end_text (sym held-length) ∙ cut_alike (held_then x) untaken b)

pub any_chunks : AnyChunks
any_chunks store cs untaken e =
    ended (printing store cs) (calls_traces cs (begun store) (begun_traces store)) untaken e
