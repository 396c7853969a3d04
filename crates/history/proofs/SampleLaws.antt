-- The samples, by computing them. An Open is read in parts, each computed once. Assumes nothing.
use Rattle.prelude.proofs.Basics.{ℕ, arith, true, cond, ◌≡◌, refl, ap, ◌∙◌, List, [], ◌∷◌, ◌++◌}
use Rattle.protocol.specs.Client.{open'}
use Rattle.varint.specs.Shortest.{shortest}
use Rattle.varint.specs.Varint.{groups}
use Rattle.scalar.specs.Fixed.{little}
use Rattle.wire.specs.Field.{field_at}
use Rattle.layout.specs.Fields.{fields_at, fields_from, has_required}
use Rattle.layout.specs.Row.{row_for}
use Rattle.layout.specs.Table.{rows_of, open_stmt}
use Rattle.layout.specs.declared.slots.Slots.{Slots}
use Rattle.layout.specs.Part.{embedded}
use Rattle.layout.specs.Merged.{one_part, parts_from, parts_in, parts_onto}
use Rattle.layout.proofs.MergedLaws.{one_part_lem}
use Rattle.args.specs.Arguments.{no_arguments, arguments_from, place_from, next_argument, together}
use Rattle.message.specs.Request.{no_optional}
use Rattle.message.specs.Payload.{payload}
use Rattle.message.specs.Simple.{deallocate_frame, fetch_frame}
use Rattle.message.specs.Prepare.{prepare_frame, body_in}
use Rattle.message.specs.Execute.{arguments_within, execute_in, open_from, open_by, open_inside, open_parts, open_of}
use Rattle.message.specs.Execute.{open_frame}
use Rattle.message.specs.Frame.{frame_in, frame_of}
use Rattle.message.specs.declared.request.Execute.{Execute}
use Rattle.message.specs.declared.request.Request.{Request}
use Rattle.message.specs.declared.request.Frame.{Frame}
use Rattle.session.specs.Lists.{sum_by, first, All}
use Rattle.session.specs.Session.{Session}
use Rattle.encode.specs.Field.{number_field, bytes_field}
use Rattle.reply.specs.Decimal.{digits}
use Rattle.reply.specs.Text.{text}
use Rattle.reply.specs.Frame.{ok_frame, fetch_suspended, stmt_execute_ok, error_payload}
use Rattle.reply.specs.Reply.{reply_bytes}
use Rattle.rules.specs.Ending.{ends_it}
use Rattle.rules.specs.Refusal.{look_reason, report_reason}
use Rattle.rules.specs.Rows.{first_row, row_count, sends_columns}
use Rattle.rules.specs.Decision.{session_after, reply_to, named, named_kind, wire_code, refused_reply, decision_of}
use Rattle.rules.specs.Step.{Step, reply_of, step_on, step_of}
use Rattle.history.specs.Tally.{Tally, empty, kept, fed_on, fed}
use Rattle.history.specs.Run.{run, leaves, fed_by, tallied}
use Rattle.history.specs.History.{reached}
use Rattle.history.specs.Samples.{prepare_one, open_one, fetch_one, SamplesShown, tells, served_on, ServedOnRefused}

-- ---- the Open frame

abbrev opens : List ℕ
opens = (open_one 0).frame

abbrev slots : List ℕ → List ℕ → List ℕ → List ℕ → Slots
slots count value at len = record { good = true; count = count; value = value; start = at; len = len }

abbrev outer : Slots
outer =
    slots (0 ∷ 1 ∷ 0 ∷ 0 ∷ 1 ∷ 0 ∷ 0 ∷ 0 ∷ 0 ∷ 0 ∷ []) (0 ∷ 1 ∷ 0 ∷ 0 ∷ 6 ∷ 0 ∷ 0 ∷ 0 ∷ 0 ∷ 0 ∷ [])
    (0 ∷ 6 ∷ 0 ∷ 0 ∷ 9 ∷ 0 ∷ 0 ∷ 0 ∷ 0 ∷ 0 ∷ []) (0 ∷ 1 ∷ 0 ∷ 0 ∷ 6 ∷ 0 ∷ 0 ∷ 0 ∷ 0 ∷ 0 ∷ [])

abbrev inner : Slots
inner =
    slots (0 ∷ 1 ∷ 1 ∷ 0 ∷ 0 ∷ 0 ∷ 0 ∷ 0 ∷ 0 ∷ 0 ∷ []) (0 ∷ 0 ∷ 2 ∷ 0 ∷ 0 ∷ 0 ∷ 0 ∷ 0 ∷ 0 ∷ 0 ∷ [])
    (0 ∷ 10 ∷ 13 ∷ 0 ∷ 0 ∷ 0 ∷ 0 ∷ 0 ∷ 0 ∷ 0 ∷ []) (0 ∷ 1 ∷ 2 ∷ 0 ∷ 0 ∷ 0 ∷ 0 ∷ 0 ∷ 0 ∷ 0 ∷ [])

outer_is : fields_at (rows_of open') opens payload ≡ outer
unfolding groups field_at fields_from has_required row_for rows_of
outer_is = refl

inner_is : embedded (rows_of open_stmt) opens 9 6 ≡ inner
unfolding groups field_at fields_from has_required row_for rows_of
inner_is = refl

stmt_once : open_parts opens ≡ one_part 9 6
unfolding groups field_at parts_from
stmt_once = refl

execute_once : parts_in 2 opens (one_part 9 6) ≡ one_part 13 2
unfolding groups field_at parts_from parts_in
execute_once = refl

abbrev execute : Execute
execute = record { stmt = 1; compact = no_optional; args = no_arguments 13 15 }

execute_is : execute_in opens 13 2 ≡ execute
unfolding groups field_at fields_from has_required row_for rows_of execute_in arguments_within arguments_from place_from
    next_argument together
execute_is = refl

abbrev opening : Frame
opening =
    Frame.Good 15 (Request.Open (record {
      cursor = 1;
      rows = no_optional;
      body = record { start = 13; len = 2 };
      execute = execute;
    }))

open_is : open_frame opens ≡ opening
unfolding open_frame
open_is =
    ap (open_of opens) outer_is ∙ ap (open_inside opens 1 no_optional) stmt_once
    ∙ ap (λ (x : Slots). cond x.good (open_by opens 1 no_optional (parts_in 2 opens (one_part 9 6)))
    (Frame.BadPayload 15 open'))
    (one_part_lem (rows_of open_stmt) opens (record { start = 9; len = 6 }) ∙ inner_is)
    ∙ ap (open_by opens 1 no_optional) execute_once
    ∙ ap (open_from opens 1 no_optional (record { start = 13; len = 2 })) execute_is

-- ---- the steps

-- the session after the Prepare, and after it and an Open that was read as m
abbrev prepared : Session
prepared = (reached (prepare_one 5 ∷ [])).session

abbrev open_step : ℕ → Frame → Step
open_step rows x = step_on prepared x (open_one rows).report (open_one rows).buffer

abbrev fetch_step : ℕ → ℕ → Frame → Step
fetch_step rows count x =
    step_of (open_step rows x).session (fetch_one count).frame (fetch_one count).report (fetch_one count).buffer

abbrev reason_of : Step → ℕ
reason_of x = x.answer.reason

pub samples_shown : SamplesShown
unfolding All step_on decision_of look_reason report_reason session_after reply_to first_row row_count sends_columns
    refused_reply wire_code named named_kind frame_of frame_in deallocate_frame prepare_frame fetch_frame body_in
    parts_from parts_in parts_onto arguments_within arguments_from place_from next_argument together groups little field_at
    fields_from has_required row_for rows_of run leaves first reply_bytes text digits error_payload number_field bytes_field
    shortest
samples_shown = (
  (refl, refl),
  (
    (refl, refl),
    (
      (refl, refl),
      (
        (refl, refl),
        (
          (refl, refl),
          (
            (refl, refl),
            (
              refl,
              (
                refl,
                (
                  refl,
                  (
                    (refl, refl),
                    (
                      (ap (λ x. reason_of (open_step 0 x)) open_is, ap (λ x. reply_of (open_step 0 x)) open_is),
                      (
                        (ap (λ x. reason_of (fetch_step 0 1 x)) open_is, ap (λ x. reply_of (fetch_step 0 1 x)) open_is),
                        (
                          (ap (λ x. reason_of (fetch_step 2 0 x)) open_is, ap (λ x. reply_of (fetch_step 2 0 x)) open_is),
                          tt,
                        ),
                      ),
                    ),
                  ),
                ),
              ),
            ),
          ),
        ),
      ),
    ),
  ),
)

-- ---- a keeper that must not pass

-- its Fetch is of no opening: the second Prepare ended the one that the Open made
abbrev fed_open : Frame → Tally
fed_open x =
    let opened = tells (open_one 2) 0 0 (fetch_suspended ++ stmt_execute_ok) in
    let prepares = tells (prepare_one 5) 0 0 ok_frame in
    let fetches = tells (fetch_one 1) 0 1 (fetch_suspended ++ stmt_execute_ok) in
    fed_by fetches (fed_by prepares (fed_on x opened.report opened.answer (fed_by prepares empty)))

served_on_strays : (tallied empty served_on).strays ≡ 1
unfolding tallied fed kept ends_it sum_by frame_of frame_in prepare_frame fetch_frame body_in parts_from parts_in parts_onto
    arguments_within arguments_from place_from next_argument together groups little field_at fields_from has_required row_for
    rows_of
served_on_strays = ap (λ x. (fed_open x).strays) open_is

pub served_on_refused : ServedOnRefused
served_on_refused s h = omega (arith, h.of_one, served_on_strays)
