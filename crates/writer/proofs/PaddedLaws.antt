-- A written frame is padded exactly where the stretch of its arguments is. Assumes nothing.
use Rattle.prelude.proofs.Basics.{ℕ, ◌+◌, ◌-◌, ◌^◌, ◌≤◌, ◌<◌, arith, Bool, true, false, ◌||◌, cond, ◌≡◌, refl, sym, ap}
use Rattle.prelude.proofs.Basics.{ap₂, ◌∙◌, List, ◌++◌, length, drop, take_at, or_false}
use Rattle.protocol.specs.Client as Client
use Rattle.varint.specs.Varint.{groups}
use Rattle.varint.specs.Shortest.{shortest}
use Rattle.varint.specs.Padded.{same_bytes, padded_at}
use Rattle.layout.specs.Table.{rows_of}
use Rattle.layout.specs.Padded.{part_padded, parts_padded}
use Rattle.layout.specs.Merged.{one_part}
use Rattle.args.specs.Value.{of_any_type, any_of}
use Rattle.args.specs.Padded.{inside_any}
use Rattle.message.specs.Padded.{own_padded, executes_padded, open_stmt_padded, kind_padded, where_read, head_padded}
use Rattle.message.specs.Padded.{padded_of}
use Rattle.writer.proofs.Names.{tail_length, stands_length, tail_stands, field_at, field_padded, row_for}
use Rattle.writer.proofs.Names.{fields_from, has_required, padded_from, inside_args, argument_padded}
use Rattle.writer.proofs.Names.{execute_padded, max_length, head_of, field_of, payload, frame_of, Frame, Request}
use Rattle.writer.proofs.Names.{optional_field, frame, args_from, good_stretch, good_prepare, execute_payload}
use Rattle.writer.proofs.Names.{prepare_stmt_payload, prepare_payload, open_stmt_payload, open_payload, fetch_payload}
use Rattle.writer.proofs.Names.{payload_as, payload_of, frame_bytes, Sized, has_args, stretch_padded, Draft}
use Rattle.writer.specs.Padded.{SomePadded, WrittenPadded, LeftPadded}
use Rattle.writer.proofs.WriteLaws.{frame_length}
use Rattle.writer.proofs.StretchLaws.{Stretch, stretch_of}
use Rattle.writer.proofs.MarkLaws.{own_only, Says, says_as, says_none, says_then, says_whole, says_part}
use Rattle.writer.proofs.MarkLaws.{says_execute, says_stretch, says_number, says_bytes, says_optional}
use Rattle.writer.proofs.MarkLaws.{says_other}
use Rattle.writer.proofs.BackLaws.{head_is, payload_tail}
use Rattle.writer.proofs.ExecuteBackLaws.{execute_bytes, stmt_stands, run_stands, stmt_once, run_once}
use Rattle.writer.proofs.PrepareBackLaws.{listed, stmt_stands as prepare-stmt-stands, body_stands}
use Rattle.writer.proofs.PrepareBackLaws.{stmt_once as prepare_once}
use Rattle.writer.proofs.RoundTripLaws.{good_prepare_lem, accepted_kinds, not_refused, written_fits, left_is}
use Rattle.writer.proofs.RoundTripLaws.{round_trip}

-- a frame that holds a request, by its message type
frame_flag : (kind : ℕ) (content rest : List ℕ) → length content + 1 ≤ max_length → {used : ℕ} {q : Request} →
    frame_of (frame kind content ++ rest) ≡ Frame.Good used q →
    padded_of (frame kind content ++ rest) ≡ kind_padded (frame kind content) kind
unfolding padded_of
frame_flag kind content rest fits e =
    let s = frame kind content ++ rest in
    ap (λ (x : Frame). where_read x (head_padded s (head_of s))) e
    ∙ ap (head_padded s) (head_is kind content rest fits)
    ∙ ap (λ (l : List ℕ). kind_padded l kind)
    (take_at (frame kind content) rest (4 + (length content + 1)) (omega (arith, frame_length kind content)))

-- one part, and one Execute
pub one_said : (s : List ℕ) (at n : ℕ) → parts_padded s (one_part at n) ≡ part_padded s at n
unfolding parts_padded
one_said s at n = sym (or_false (part_padded s at n))

one_run : (s : List ℕ) (at n : ℕ) → executes_padded s (one_part at n) ≡ execute_padded s at n
unfolding executes_padded
one_run s at n = sym (or_false (execute_padded s at n))

-- a payload's own fields
own_flag : (kind : ℕ) {content : List ℕ} → Says own_only content false → own_padded (frame kind content) ≡ false
own_flag kind {content} r = says_whole r (payload_tail kind content)

-- an Execute: its stretch, and nothing before it or behind it
run_says : (stmt c : ℕ) (b : Bool) (args : List ℕ) → Stretch args 0 → stmt < 2 ^ 32 → c < 2 ^ 64 →
    Says inside_args (execute_bytes stmt b c args) (stretch_padded args)
unfolding optional_field
run_says stmt c b args g small low =
    says_as (sym (or_false (stretch_padded args)))
    (says_then
    (says_then (says_other 1 (omega arith) (omega arith) (λ e. omega arith) true stmt (omega arith))
    (says_stretch args g))
    (says_other 3 (omega arith) (omega arith) (λ e. omega arith) b c low))

bit_small : (z : Bool) → cond z 1 0 < 2 ^ 64
bit_small true = omega arith
bit_small false = omega arith

module _ (d : Draft) (body args : List ℕ) (sized : Sized d) where
  -- what is shown for each kind
  abbrev Flag : ℕ → Type 0
  Flag k =
      length (payload_as k d body args) + 1 ≤ max_length →
      kind_padded (frame k (payload_as k d body args)) k ≡ cond (has_args k) (stretch_padded args) false

  flag-reset : Flag Client.reset
  unfolding kind_padded payload_as
  flag-reset fits = own_flag Client.reset (says_none own_only)

  flag-session-close : Flag Client.session_close
  unfolding kind_padded payload_as
  flag-session-close fits = own_flag Client.session_close (says_none own_only)

  flag-deallocate : Flag Client.deallocate
  unfolding kind_padded payload_as
  flag-deallocate fits =
      own_flag Client.deallocate (says_number 1 (omega arith) (omega arith) d.stmt (omega (arith, sized.stmt)))

  flag-close : Flag Client.close
  unfolding kind_padded payload_as
  flag-close fits =
      own_flag Client.close (says_number 1 (omega arith) (omega arith) d.cursor (omega (arith, sized.cursor)))

  flag-fetch : Flag Client.fetch
  unfolding kind_padded payload_as fetch_payload
  flag-fetch fits =
      own_flag Client.fetch
      (says_then (says_number 1 (omega arith) (omega arith) d.cursor (omega (arith, sized.cursor)))
      (says_optional 2 (omega arith) (omega arith) d.hasrows d.rows sized.rows))

  flag-prepare : good_prepare d.operation body ≡ true → Flag Client.prepare
  unfolding kind_padded payload_as prepare_stmt_payload prepare_payload
  flag-prepare good fits =
      let t = (good_prepare_lem d.operation body good).0 in
      let k = listed d.operation t in
      let s = frame Client.prepare (prepare_payload d body) in
      let stmt = prepare-stmt-stands d.stmt d.operation body sized.stmt t in
      let inner = body_stands d.stmt d.operation body sized.stmt t in
      let long = frame_length Client.prepare (prepare_payload d body) in
      ap₂ ◌||◌
      (own_flag Client.prepare
      (says_then (says_number 1 (omega arith) (omega arith) d.stmt (omega (arith, sized.stmt)))
      (says_bytes 2 (omega arith) (omega arith) (prepare_stmt_payload d body) (omega (arith, stands_length stmt)))))
      (ap (parts_padded s)
      (prepare_once d.stmt d.operation body sized.stmt t (omega (arith, stands_length stmt)))
      ∙ one_said s _ _
      ∙ says_part
      (says_then (says_number 1 (omega arith) (omega arith) d.operation (omega (arith, k.small)))
      (says_bytes (field_of d.operation) k.some k.few body (omega (arith, stands_length inner))))
      stmt)

  flag-execute : good_stretch args ≡ true → Flag Client.execute
  unfolding kind_padded payload_as execute_payload
  flag-execute good fits =
      let k = payload_tail Client.execute (execute_payload d args) in
      let s = frame Client.execute (execute_payload d args) in
      let n : length s - payload ≡ length (execute_payload d args) = omega (arith, tail_length k) in
      ap (execute_padded s payload) n
      ∙ says_execute
      (run_says d.stmt (cond d.compact 1 0) d.hascompact args (stretch_of args good) sized.stmt
      (bit_small d.compact))
      (tail_stands k)

  flag-open : good_stretch args ≡ true → Flag Client.open'
  unfolding kind_padded payload_as execute_payload open_stmt_payload open_payload open_stmt_padded
  flag-open good fits =
      let s = frame Client.open' (open_payload d args) in
      let g = stretch_of args good in
      let stmt =
      stmt_stands d.stmt d.hascompact d.compact args g sized.stmt d.cursor d.rows d.hasrows
      sized.cursor sized.rows in
      let run =
      run_stands d.stmt d.hascompact d.compact args g sized.stmt d.cursor d.rows d.hasrows
      sized.cursor sized.rows in
      let long = frame_length Client.open' (open_payload d args) in
      ap₂ ◌||◌
      (own_flag Client.open'
      (says_then
      (says_then (says_number 1 (omega arith) (omega arith) d.cursor (omega (arith, sized.cursor)))
      (says_bytes 4 (omega arith) (omega arith) (open_stmt_payload d args) (omega (arith, stands_length stmt))))
      (says_optional 5 (omega arith) (omega arith) d.hasrows d.rows sized.rows)))
      (ap (open_stmt_padded s)
      (stmt_once d.stmt d.hascompact d.compact args g sized.stmt d.cursor d.rows d.hasrows
      sized.cursor sized.rows (omega (arith, stands_length stmt)))
      ∙ ap₂ ◌||◌
      (one_said s _ _
      ∙ says_part
      (says_then (says_number 1 (omega arith) (omega arith) 0 (omega arith))
      (says_bytes 2 (omega arith) (omega arith) (execute_payload d args) (omega (arith, stands_length run))))
      stmt)
      (ap (executes_padded s)
      (run_once d.stmt d.hascompact d.compact args g sized.stmt d.cursor d.rows d.hasrows
      sized.cursor sized.rows (omega (arith, stands_length run)))
      ∙ one_run s _ _
      ∙ says_execute
      (run_says d.stmt (cond d.compact 1 0) d.hascompact args g sized.stmt (bit_small d.compact))
      run))

pub written_padded : WrittenPadded
written_padded d body args rest sized h =
    let f = not_refused d body args h in
    frame_flag d.kind (payload_of d body args) rest f.1 (round_trip d body args rest sized h).good
    ∙ accepted_kinds (Flag d body args sized) d.operation body args (flag-reset d body args sized)
    (flag-session-close d body args sized) (flag-prepare d body args sized) (flag-execute d body args sized)
    (flag-deallocate d body args sized) (flag-open d body args sized) (flag-close d body args sized)
    (flag-fetch d body args sized) d.kind f.0 f.1

pub left_padded : LeftPadded
left_padded d body args buf sized h =
    ap padded_of (left_is d body args buf h)
    ∙ written_padded d body args (drop (0 + length (frame_bytes d body args)) buf) sized
    (written_fits d body args (length buf) h).0

pub some_padded : SomePadded
unfolding args_from padded_from field_padded padded_at same_bytes groups shortest field_at argument_padded inside_any any_of
    of_any_type rows_of row_for fields_from has_required
some_padded = ((refl, refl), (refl, refl))
