-- The examples that are shown by proof (V1 to V12).
use Rattle.std.specs.Prelude.{ℕ, ◌^◌, ◌-◌, ◌≡◌, List, [], ◌∷◌, ◌++◌, false, length, replicate}
use Rattle.varint.specs.declared.Number.{Number}
use Rattle.varint.specs.Varint.{varint_at}
use Rattle.session.specs.Lists.{All}
use Rattle.session.specs.Session.{Session}
use Rattle.reply.specs.Frame.{ok_frame, fetch_done, fetch_suspended, stmt_execute_ok, error_frame}
use Rattle.reply.specs.Text.{text}
use Rattle.protocol.specs.Reason as Reason
use Rattle.reply.specs.ReplyRules.{min_buffer}
use Rattle.rules.specs.declared.Report.{Report}
use Rattle.rules.specs.Report.{prepared, result, done}
use Rattle.rules.specs.Step.{Step, reply_of, step_of}
use Rattle.history.specs.Tally.{empty}
use Rattle.history.specs.Run.{Input, Told}
use Rattle.history.specs.History.{reached, Kept}
use Rattle.std.specs.Prelude.{Option, None}
use Rattle.varint.specs.Number.{some_number}

-- the last of some steps from a fresh session, with the reason and the reply that it gives; or a varint, with what it
-- reads as
pub data Sample : Type 0 where
  step : List Input → Input → ℕ → List ℕ → Sample
  number : List ℕ → Option Number → Sample

abbrev pub last_step : List Input → Input → Step
last_step before i = step_of (reached before).session i.frame i.report i.buffer

abbrev pub Shown : Sample → Type 0
Shown (step before i reason reply) =
    ((last_step before i).answer.reason ≡ reason) × (reply_of (last_step before i) ≡ reply)
Shown (number bytes value) = varint_at bytes 0 ≡ value

-- ---- the frames and reports

abbrev pub given : List ℕ → Report → Input
given frame report = record { frame = frame; report = report; buffer = replicate min_buffer 0 }

-- a frame with no report
abbrev pub alone : List ℕ → Input
alone frame = given frame (record { kind = 0; placeholders = 0; columns = 0; rows = 0; code = 0 })

-- Prepare of statement 1, a StmtExecute "S", with no placeholders; its type is 5, or another
abbrev pub prepare_one : ℕ → Input
prepare_one type =
    given (0x0C ∷ 0 ∷ 0 ∷ 0 ∷ 0x28 ∷ 0x08 ∷ 0x01 ∷ 0x12 ∷ 0x07 ∷ 0x08 ∷ type ∷ 0x32 ∷ 0x03 ∷ 0x0A ∷ 0x01 ∷ 0x53 ∷ [])
    (record { kind = prepared; placeholders = 0; columns = 0; rows = 0; code = 0 })

abbrev pub deallocate_one : Input
deallocate_one = alone (0x03 ∷ 0 ∷ 0 ∷ 0 ∷ 0x2A ∷ 0x08 ∷ 0x01 ∷ [])

-- Open of cursor 1 on statement 1 without fetch_rows; the engine reports one column
abbrev pub open_one : ℕ → Input
open_one rows =
    given (0x0B ∷ 0 ∷ 0 ∷ 0 ∷ 0x2B ∷ 0x08 ∷ 0x01 ∷ 0x22 ∷ 0x06 ∷ 0x08 ∷ 0x00 ∷ 0x12 ∷ 0x02 ∷ 0x08 ∷ 0x01 ∷ [])
    (record { kind = result; placeholders = 0; columns = 1; rows = rows; code = 0 })

-- Fetch of cursor 1
abbrev pub fetch_one : ℕ → Input
fetch_one count = given (0x05 ∷ 0 ∷ 0 ∷ 0 ∷ 0x2D ∷ 0x08 ∷ 0x01 ∷ 0x10 ∷ count ∷ [])
    (record { kind = done; placeholders = 0; columns = 0; rows = 0; code = 0 })

-- ---- the table

abbrev pub samples : List Sample
samples =
    step [] (alone []) Reason.not_all_there []  -- V1
    ∷ step [] (alone (0 ∷ 0 ∷ 0 ∷ 0 ∷ [])) Reason.bad_length []  -- V2
    ∷ step [] (alone (0xFD ∷ 0xFF ∷ 0 ∷ 0 ∷ [])) Reason.bad_length []  -- V3
    ∷ step [] (alone (0xFC ∷ 0xFF ∷ 0 ∷ 0 ∷ [])) Reason.not_all_there []  -- V4
    ∷ step [] deallocate_one Reason.no_stmt (error_frame 5110 (text Reason.no_stmt 1 0))  -- V5
    ∷ step (prepare_one 5 ∷ []) deallocate_one Reason.accepted (1 ∷ 0 ∷ 0 ∷ 0 ∷ 0 ∷ [])  -- V6
    ∷ number (0x80 ∷ 0x01 ∷ []) (some_number 128 2)  -- V7
    ∷ number (replicate 10 0xFF) None  -- V8
    ∷ number (replicate 9 0xFF ++ (0x01 ∷ [])) (some_number (2 ^ 64 - 1) 10)  -- V9
    ∷ step [] (prepare_one 3) Reason.bad_payload (error_frame 5000 (text Reason.bad_payload 0 0))  -- V10
    ∷ step (prepare_one 5 ∷ []) (open_one 0) Reason.accepted (fetch_done ++ stmt_execute_ok)  -- V11
    ∷ step (prepare_one 5 ∷ open_one 0 ∷ []) (fetch_one 1) Reason.all_sent (error_frame 6011 (text Reason.all_sent 1 0))
    ∷ step (prepare_one 5 ∷ open_one 2 ∷ []) (fetch_one 0) Reason.accepted (fetch_suspended ++ stmt_execute_ok)  -- V12
    ∷ []

abbrev pub SamplesShown : Type 0
SamplesShown = All Shown samples

-- ---- a keeper that must not pass

-- an accepted step on such an input that sends these rows
abbrev pub tells : Input → ℕ → ℕ → List ℕ → Told
tells i first count reply =
    record {
      frame = i.frame;
      report = i.report;
      answer =
          record {
            reason = Reason.accepted;
            used = length i.frame;
            reply = length reply;
            columns = false;
            padded = false;
            first = first;
            count = count;
          };
      reply = reply;
    }

-- what a keeper tells that prepares a statement anew and goes on serving its cursor: Prepare, Open of 2 rows, Prepare,
-- Fetch
abbrev pub served_on : List Told
served_on =
    tells (prepare_one 5) 0 0 ok_frame
    ∷ tells (open_one 2) 0 0 (fetch_suspended ++ stmt_execute_ok)
    ∷ tells (prepare_one 5) 0 0 ok_frame
    ∷ tells (fetch_one 1) 0 1 (fetch_suspended ++ stmt_execute_ok)
    ∷ []

-- whatever its tables: demand 3 does not hold of it
abbrev pub ServedOnRefused : Type 0
ServedOnRefused = (s : Session) → Kept (record { start = empty; session = s; told = served_on }) → ⊥
