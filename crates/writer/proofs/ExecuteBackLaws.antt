-- A written Execute reads back, wherever it stands; so does an Open. Assumes nothing.
use Rattle.prelude.proofs.Basics.{ℕ, ◌+◌, ◌-◌, ◌*◌, ◌^◌, ◌<◌, arith, mod-eq_of_lt, Bool, true, false, cond, ◌≡◌, refl}
use Rattle.prelude.proofs.Basics.{sym, ap, ◌∙◌, List, [], ◌∷◌, ◌++◌, map, append-nil, length, take, length-take-le}
use Rattle.protocol.specs.Client as Client
use Rattle.layout.specs.Table.{rows_of, open_stmt}
use Rattle.layout.specs.Part.{count_of, start_of, len_of}
use Rattle.layout.specs.Merged.{one_part, parts_in}
use Rattle.layout.specs.MergedRules.{holds_bytes}
use Rattle.layout.proofs.MergedLaws.{one_part_lem}
use Rattle.message.specs.Execute.{execute_of, execute_in, execute_from, execute_frame, open_from, open_by, open_inside}
use Rattle.message.specs.Execute.{open_parts, open_of, open_frame}
use Rattle.message.specs.declared.request.Execute.{Execute}
use Rattle.message.proofs.MessageLaws.{execute_good}
use Rattle.writer.proofs.Names.{tail_length, Stands, stands_length, stands_cut, tail_stands, stands_first}
use Rattle.writer.proofs.Names.{stands_next, Argument, row_for, no_slots, use_of, fields_at, has_required, embedded}
use Rattle.writer.proofs.Names.{low32, Use, Slots, arguments_at, no_arguments, together, moved, Arguments, payload}
use Rattle.writer.proofs.Names.{arguments_within, Frame, Request, payload_good, within_there, number_field}
use Rattle.writer.proofs.Names.{optional_field, bytes_field, frame, given}
use Rattle.writer.proofs.FieldLaws.{with_number, with_bytes, behind_tag, reads_number, reads_bytes, reads_optional}
use Rattle.writer.proofs.FieldLaws.{reads_then, whole_good, embedded_good, stands_inside, parts_whole}
use Rattle.writer.proofs.FieldLaws.{parts_inner}
use Rattle.writer.proofs.ArgListLaws.{together_kept, together_moved}
use Rattle.writer.proofs.StretchLaws.{Stretch, field_count, bump, bumped, with_count, reads_stretch}
use Rattle.writer.proofs.ListsLaws.{lists_number, lists_optional, lists_then, lists_whole, lists_stretch}
use Rattle.writer.proofs.ListsLaws.{stretch_good}
use Rattle.writer.proofs.BackLaws.{payload_tail}

module _ (v : ℕ) where
  kept-stmt : Use.Kept ≡ use_of (rows_of Client.execute) 1 0 v
  unfolding rows_of row_for
  kept-stmt = refl

  counted-args : Use.Counted ≡ use_of (rows_of Client.execute) 2 2 v
  unfolding rows_of row_for
  counted-args = refl

  kept-compact : Use.Kept ≡ use_of (rows_of Client.execute) 3 0 v
  unfolding rows_of row_for
  kept-compact = refl

-- a good Arguments of n bytes from the place `at` on, with this list
pub record Held (s : List ℕ) (at n : ℕ) (l : List Argument) (a : Arguments) : Type 0 where
  pub good : a.good ≡ true
  pub start : a.start ≡ at
  pub end : a.end ≡ at + n
  pub list : arguments_at (take (at + n) s) at ≡ l
  pub size : ℕ
  pub all : a ≡ together (no_arguments at size) l

-- the slots of an Execute with n arguments
abbrev execute_slots : ℕ → ℕ → ℕ → ℕ → Bool → Bool → Slots
execute_slots stmt at far n b z =
    cond b (with_number 3 (cond z 1 0) far
    (with_count (with_number 1 stmt at no_slots) (0 ∷ 1 ∷ n ∷ 0 ∷ 0 ∷ 0 ∷ 0 ∷ 0 ∷ 0 ∷ 0 ∷ [])))
    (with_count (with_number 1 stmt at no_slots) (0 ∷ 1 ∷ n ∷ 0 ∷ 0 ∷ 0 ∷ 0 ∷ 0 ∷ 0 ∷ 0 ∷ []))

module _ (stmt at far n : ℕ) where
  execute-needed : (b z : Bool) → true ≡ has_required (rows_of Client.execute) (execute_slots stmt at far n b z).count
  unfolding rows_of has_required
  execute-needed true z = refl
  execute-needed false z = refl

  execute-taken : (b z : Bool) (a : Arguments) → a.good ≡ true →
      execute_of (execute_slots stmt at far n b z) a ≡ record
      { stmt = low32 stmt; compact = given b (cond z 1 0); args = a }
  execute-taken true true a h = sym (execute_good (execute_slots stmt at far n true true) a refl h)
  execute-taken true false a h = sym (execute_good (execute_slots stmt at far n true false) a refl h)
  execute-taken false z a h = sym (execute_good (execute_slots stmt at far n false z) a refl h)

-- the stretch with what stands before it and behind it
abbrev pub execute_bytes : ℕ → Bool → ℕ → List ℕ → List ℕ
execute_bytes stmt b c args = number_field 1 stmt ++ args ++ optional_field b 3 c

module _ (stmt : ℕ) (b z : Bool) (args : List ℕ) (g : Stretch args 0) (small : stmt < 2 ^ 32) where
  abbrev c : ℕ
  c = cond z 1 0

  abbrev bytes : List ℕ
  bytes = execute_bytes stmt b c args

  compact-small : c < 2 ^ 64
  compact-small = both_small z
    where
      both_small : (z : Bool) → cond z 1 0 < 2 ^ 64
      both_small true = omega arith
      both_small false = omega arith

  module _ {s q : List ℕ} {at : ℕ} (k : Stands s at bytes q) where
    abbrev place : ℕ
    place = at + length (number_field 1 stmt)

    pub args_stand : Stands s place args (optional_field b 3 c ++ q)
    args_stand =
        stands_next (number_field 1 stmt) args (stands_first (number_field 1 stmt ++ args) (optional_field b 3 c) k)

    list-is : arguments_at (take (at + length bytes) s) at ≡ map (moved place) (arguments_at args 0)
    list-is =
        lists_whole
        (lists_then (lists_then (lists_number 1 stmt (omega arith) (omega arith) (λ e. omega arith) (omega arith))
        (lists_stretch args g))
        (lists_optional b 3 c (omega arith) (omega arith) (λ e. omega arith) compact-small))
        (stands_cut k)
        ∙ append-nil (map (moved place) (arguments_at args 0))

    pub args_held : Held s at (length bytes) (map (moved place) (arguments_at args 0))
        (arguments_within s at (length bytes))
    args_held =
        record {
          good = ap (λ (a : Arguments). a.good) is ∙ fine;
          start = ap (λ (a : Arguments). a.start) is ∙ (together_kept x l fine).0;
          end =
              ap (λ (a : Arguments). a.end) is ∙ (together_kept x l fine).1
              ∙ length-take-le (at + length bytes) s (omega (arith, stands_length k));
          list = list-is;
          size = length (take (at + length bytes) s);
          all = is;
        }
      where
        x : Arguments
        x = no_arguments at (length (take (at + length bytes) s))

        l : List Argument
        l = map (moved place) (arguments_at args 0)

        is : arguments_within s at (length bytes) ≡ together x l
        is = sym (within_there s at (length bytes) (omega (arith, stands_length k))) ∙ ap (together x) list-is

        fine : (together x l).good ≡ true
        fine =
            together_moved place x x (arguments_at args 0) refl
            ∙ stretch_good args 0 g (length args) (omega arith) x refl

    abbrev run : Execute
    run = record { stmt = stmt; compact = given b c; args = arguments_within s at (length bytes) }

    abbrev far : ℕ
    far = at + length (number_field 1 stmt ++ args)

    counted :
        cond b (with_number 3 c far
        (with_count (with_number 1 stmt at no_slots) (bump (field_count g) (with_number 1 stmt at no_slots).count)))
        (with_count (with_number 1 stmt at no_slots) (bump (field_count g) (with_number 1 stmt at no_slots).count))
        ≡ execute_slots stmt at far (0 + field_count g) b z
    counted =
        ap
        (λ (l : List ℕ).
        cond b (with_number 3 c far (with_count (with_number 1 stmt at no_slots) l))
        (with_count (with_number 1 stmt at no_slots) l))
        (bumped (field_count g) 0 1 0 (0 ∷ 0 ∷ 0 ∷ 0 ∷ 0 ∷ 0 ∷ 0 ∷ []))

    pub execute_is : execute_in s at (length bytes) ≡ run
    unfolding execute_in
    execute_is =
        ap (λ (x : Slots). execute_of x (arguments_within s at (length bytes)))
        (embedded_good
        (reads_then
        (reads_then (reads_number (rows_of Client.execute) 1 stmt (kept-stmt stmt) (omega arith) (omega arith)
        (omega arith))
        (reads_stretch (rows_of Client.execute) (λ v. sym (counted-args v)) args g))
        (reads_optional (rows_of Client.execute) b 3 c (kept-compact c) (omega arith) (omega arith) compact-small))
        k
        (ap (λ (x : Slots). has_required (rows_of Client.execute) x.count) counted
        ∙ sym (execute-needed stmt at far (0 + field_count g) b z))
        ∙ counted)
        ∙ execute-taken stmt at far (0 + field_count g) b z (arguments_within s at (length bytes)) args_held.good
        ∙ ap (λ (v : ℕ). record { stmt = v; compact = given b c; args = arguments_within s at (length bytes) })
        (mod-eq_of_lt small)

  -- ---- the message

  abbrev whole : List ℕ
  whole = frame Client.execute bytes

  pub execute-back :
      execute_frame (frame Client.execute bytes)
      ≡ Frame.Good (length (frame Client.execute bytes))
      (Request.Execute
      (record {
        stmt = stmt;
        compact = given b c;
        args = arguments_within (frame Client.execute bytes) payload (length bytes);
      }))
  unfolding execute_frame
  execute-back =
      let n : length whole - payload ≡ length bytes = omega (arith, tail_length (payload_tail Client.execute bytes)) in
      let k = tail_stands (payload_tail Client.execute bytes) in
      ap (execute_from whole) (ap (execute_in whole payload) n ∙ execute_is k)
      ∙ sym (payload_good whole Client.execute (Request.Execute (run k)) (args_held k).good)

-- ---- Open

module _ (v : ℕ) where
  kept-open : (Use.Kept ≡ use_of (rows_of Client.open') 1 0 v) × (Use.Kept ≡ use_of (rows_of Client.open') 4 2
      v) × (Use.Kept ≡ use_of (rows_of Client.open') 5 0 v)
  unfolding rows_of row_for
  kept-open = (refl, refl, refl)

  kept-open-stmt : (Use.Kept ≡ use_of (rows_of open_stmt) 1 0 0) × (Use.Kept ≡ use_of (rows_of open_stmt) 2 2 v)
  unfolding rows_of row_for
  kept-open-stmt = (refl, refl)

-- the slots of an Open whose statement has n bytes, and of the statement, whose Execute has n bytes
abbrev pub open_slots : ℕ → ℕ → ℕ → ℕ → Bool → ℕ → Slots
open_slots cursor at n far b rows =
    cond b (with_number 5 rows far (with_bytes 4 n at (with_number 1 cursor payload no_slots)))
    (with_bytes 4 n at (with_number 1 cursor payload no_slots))

abbrev pub open_stmt_slots : ℕ → ℕ → ℕ → Slots
open_stmt_slots at far n = with_bytes 2 n far (with_number 1 0 at no_slots)

open_needed : (cursor at n far : ℕ) (b : Bool) (rows : ℕ) →
    true ≡ has_required (rows_of Client.open') (open_slots cursor at n far b rows).count
unfolding rows_of has_required
open_needed cursor at n far true rows = refl
open_needed cursor at n far false rows = refl

open_stmt_needed : (at far n : ℕ) → true ≡ has_required (rows_of open_stmt) (open_stmt_slots at far n).count
unfolding rows_of has_required
open_stmt_needed at far n = refl

-- where an embedded message begins
abbrev pub part_start : ℕ → ℕ → ℕ → ℕ
part_start num at n = behind_tag (behind_tag at (num * 8 + 2)) n

-- what is read of those slots
open_inner : (s : List ℕ) (cursor at n far rows : ℕ) (b : Bool) →
    open_of s (open_slots cursor at n far b rows) ≡ open_inside s cursor (given b rows) (open_parts s)
open_inner s cursor at n far rows true = refl
open_inner s cursor at n far rows false = refl

-- and where the statement and the Execute stand
open_holds : (holds_bytes (rows_of Client.open') 4 ≡ true) × (holds_bytes (rows_of open_stmt) 2 ≡ true)
unfolding rows_of row_for
open_holds = (refl, refl)

open_once : (cursor at n far rows : ℕ) (b : Bool) →
    ((open_slots cursor at n far b rows).good ≡ true) × (count_of (open_slots cursor at n far b rows) 4 ≡ 1)
    × (one_part (start_of (open_slots cursor at n far b rows) 4) (len_of (open_slots cursor at n far b rows) 4)
    ≡ one_part (part_start 4 at n) n)
open_once cursor at n far rows true = (refl, refl, refl)
open_once cursor at n far rows false = (refl, refl, refl)

module _ (stmt : ℕ) (b z : Bool) (args : List ℕ) (g : Stretch args 0) (small : stmt < 2 ^ 32)
    (cursor rows : ℕ) (b' : Bool) (small-cursor : cursor < 2 ^ 32) (small-rows : rows < 2 ^ 64) where
  abbrev run-bytes : List ℕ
  run-bytes = execute_bytes stmt b (cond z 1 0) args

  abbrev stmt-bytes : List ℕ
  stmt-bytes = number_field 1 0 ++ bytes_field 2 run-bytes

  abbrev content : List ℕ
  content = number_field 1 cursor ++ bytes_field 4 stmt-bytes ++ optional_field b' 5 rows

  abbrev opened : List ℕ
  opened = frame Client.open' content

  -- the places of the statement and of the Execute in it
  abbrev pub stmt-at : ℕ
  stmt-at = part_start 4 (payload + length (number_field 1 cursor)) (length stmt-bytes)

  abbrev pub run_at : ℕ
  run_at = part_start 2 (stmt-at + length (number_field 1 0)) (length run-bytes)

  pub stmt_stands : Stands opened stmt-at stmt-bytes (optional_field b' 5 rows ++ [])
  stmt_stands =
      stands_inside 4 stmt-bytes
      (stands_next (number_field 1 cursor) (bytes_field 4 stmt-bytes)
      (stands_first (number_field 1 cursor ++ bytes_field 4 stmt-bytes) (optional_field b' 5 rows)
      (tail_stands (payload_tail Client.open' content))))

  pub run_stands : Stands opened run_at run-bytes (optional_field b' 5 rows ++ [])
  run_stands = stands_inside 2 run-bytes (stands_next (number_field 1 0) (bytes_field 2 run-bytes) stmt_stands)

  abbrev opening : ℕ → Request
  opening id =
      Request.Open
      (record {
        cursor = id;
        rows = given b' rows;
        body = record { start = run_at; len = length run-bytes };
        execute =
            record {
              stmt = stmt;
              compact = given b (cond z 1 0);
              args = arguments_within opened run_at (length run-bytes);
            };
      })

  pub open_listed : length stmt-bytes < 2 ^ 64 →
      fields_at (rows_of Client.open') opened payload
      ≡ open_slots cursor (payload + length (number_field 1 cursor)) (length stmt-bytes)
      (payload + length (number_field 1 cursor ++ bytes_field 4 stmt-bytes)) b' rows
  open_listed short =
      whole_good
      (reads_then
      (reads_then (reads_number (rows_of Client.open') 1 cursor (kept-open cursor).0 (omega arith) (omega arith)
      (omega arith))
      (reads_bytes (rows_of Client.open') 4 stmt-bytes (kept-open (length stmt-bytes)).1 (omega arith) (omega arith)
      short))
      (reads_optional (rows_of Client.open') b' 5 rows (kept-open rows).2 (omega arith) (omega arith) small-rows))
      (payload_tail Client.open' content)
      (sym (open_needed cursor (payload + length (number_field 1 cursor)) (length stmt-bytes)
      (payload + length (number_field 1 cursor ++ bytes_field 4 stmt-bytes)) b' rows))

  pub open_stmt_listed : length run-bytes < 2 ^ 64 →
      embedded (rows_of open_stmt) opened stmt-at (length stmt-bytes)
      ≡ open_stmt_slots stmt-at (stmt-at + length (number_field 1 0)) (length run-bytes)
  open_stmt_listed short-run =
      embedded_good
      (reads_then (reads_number (rows_of open_stmt) 1 0 (kept-open-stmt 0).0 (omega arith) (omega arith) (omega arith))
      (reads_bytes (rows_of open_stmt) 2 run-bytes (kept-open-stmt (length run-bytes)).1 (omega arith) (omega arith)
      short-run))
      stmt_stands (sym (open_stmt_needed stmt-at (stmt-at + length (number_field 1 0)) (length run-bytes)))

  pub stmt_once : length stmt-bytes < 2 ^ 64 → open_parts opened ≡ one_part stmt-at (length stmt-bytes)
  stmt_once short =
      let at = payload + length (number_field 1 cursor) in
      let far = payload + length (number_field 1 cursor ++ bytes_field 4 stmt-bytes) in
      let once = open_once cursor at (length stmt-bytes) far rows b' in
      parts_whole (rows_of Client.open') 4 open_holds.0 once.0 once.1 opened payload (open_listed short)
      ∙ once.2

  pub run_once : length run-bytes < 2 ^ 64 →
      parts_in 2 opened (one_part stmt-at (length stmt-bytes)) ≡ one_part run_at (length run-bytes)
  run_once short =
      parts_inner (rows_of open_stmt) 2 open_holds.1 refl refl opened stmt-at (length stmt-bytes)
      (open_stmt_listed short)

  pub open_back : length stmt-bytes < 2 ^ 64 → length run-bytes < 2 ^ 64 →
      open_frame opened ≡ Frame.Good (length opened) (opening cursor)
  unfolding open_frame
  open_back short short-run =
      let at = payload + length (number_field 1 cursor) in
      let far = payload + length (number_field 1 cursor ++ bytes_field 4 stmt-bytes) in
      let ps = one_part stmt-at (length stmt-bytes) in
      let unopened = Frame.BadPayload (length opened) Client.open' in
      ap (open_of opened) (open_listed short)
      ∙ open_inner opened cursor at (length stmt-bytes) far rows b'
      ∙ ap (open_inside opened cursor (given b' rows)) (stmt_once short)
      ∙ ap (λ (x : Slots). cond x.good (open_by opened cursor (given b' rows) (parts_in 2 opened ps)) unopened)
      (one_part_lem (rows_of open_stmt) opened (record { start = stmt-at; len = length stmt-bytes })
      ∙ open_stmt_listed short-run)
      ∙ ap (open_by opened cursor (given b' rows)) (run_once short-run)
      ∙ ap (open_from opened cursor (given b' rows) (record { start = run_at; len = length run-bytes }))
      (execute_is stmt b z args g small run_stands)
      ∙ sym (payload_good opened Client.open' (opening (low32 cursor))
      (args_held stmt b z args g small run_stands).good)
      ∙ ap (λ (v : ℕ). Frame.Good (length opened) (opening v)) (mod-eq_of_lt small-cursor)
