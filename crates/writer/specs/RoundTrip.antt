-- A written message reads back as itself (C10, D2).
use Rattle.std.specs.Prelude.{ℕ, ◌^◌, ◌<◌, ◌≡◌, Bool, true, cond, ◌||◌, List, [], ◌++◌, map, length, take, drop, eqb}
use Rattle.std.specs.Prelude.{Option, Some}
use Rattle.protocol.specs.Client as Client
use Rattle.protocol.specs.Reason as Reason
use Rattle.scalar.specs.declared.argument.Argument.{Argument}
use Rattle.args.specs.Arguments.{arguments_at, arguments_in, nth_argument}
use Rattle.args.specs.declared.arguments.Arguments.{Arguments}
use Rattle.message.specs.Operation as Operation
use Rattle.message.specs.Request.{kind_of, stmt_of, cursor_of, rows_of, compact_of, operation_of, args_of, no_optional}
use Rattle.message.specs.Frame.{frame_of, body_of, argument_of}
use Rattle.message.specs.declared.request.Request.{Request}
use Rattle.message.specs.declared.request.Frame.{Frame}
use Rattle.writer.specs.declared.Draft.{Draft}
use Rattle.args.specs.Moved.{moved}
use Rattle.writer.specs.Payload.{execute_payload}
use Rattle.writer.specs.Write.{frame_bytes, draft_reason, write_reason, left_of}

-- a draft as the code has it: ids of 32 bits, fetch_rows of 64
pub record Sized (d : Draft) : Type 0 where
  pub stmt : d.stmt < 2 ^ 32
  pub cursor : d.cursor < 2 ^ 32
  pub rows : d.rows < 2 ^ 64

-- what the kinds have (L1, C7)
abbrev pub has_stmt : ℕ → Bool
has_stmt kind = eqb kind Client.prepare || eqb kind Client.execute || eqb kind Client.deallocate || eqb kind Client.open'

abbrev pub has_cursor : ℕ → Bool
has_cursor kind = eqb kind Client.open' || eqb kind Client.close || eqb kind Client.fetch

abbrev pub has_rows : ℕ → Bool
has_rows kind = eqb kind Client.open' || eqb kind Client.fetch

abbrev pub has_args : ℕ → Bool
has_args kind = eqb kind Client.execute || eqb kind Client.open'

-- an optional field, present or absent
abbrev pub given : Bool → ℕ → Option ℕ
given present value = cond present (Some value) no_optional

-- the bytes that hold the arguments: the stretch, or the StmtExecute of a Prepare
abbrev pub args_bytes : Draft → List ℕ → List ℕ → List ℕ
args_bytes d body args =
    cond (has_args d.kind) args
    (cond (eqb d.kind Client.prepare) (cond (eqb d.operation Operation.stmt_execute) body []) [])

-- the arguments of a request, in the frame that it is read of
abbrev pub arguments_of : List ℕ → Request → List Argument
arguments_of bytes q = arguments_at (take (args_of q).end bytes) (args_of q).start

-- what arguments tell together, as refusals 8 and 9 see them: how many there are, and of the first object or array its
-- type and its index (A8, R8, R9)
pub record TellAlike (x y : Arguments) : Type 0 where
  pub count : x.count ≡ y.count
  pub kind : x.kind ≡ y.kind
  pub index : x.index ≡ y.index

-- these bytes read, by the reader's definitions, as the draft
pub record ReadsAs (d : Draft) (body args bytes : List ℕ) : Type 0 where
  -- they hold a request, and the frame and nothing else is used
  pub request : Request
  pub good : frame_of bytes ≡ Frame.Good (length (frame_bytes d body args)) request
  -- each field is the draft's, where the kind has it
  pub kind : kind_of request ≡ d.kind
  pub stmt : stmt_of request ≡ cond (has_stmt d.kind) d.stmt 0
  pub cursor : cursor_of request ≡ cond (has_cursor d.kind) d.cursor 0
  pub rows : rows_of request ≡ cond (has_rows d.kind) (given d.hasrows d.rows) no_optional
  pub compact : compact_of request ≡ cond (has_args d.kind) (given d.hascompact (cond d.compact 1 0)) no_optional
  pub operation : operation_of request ≡ cond (eqb d.kind Client.prepare) d.operation 0
  -- the chosen body is the one handed in; Open's is its Execute
  pub chosen : body_of bytes ≡
      cond (eqb d.kind Client.prepare) body (cond (eqb d.kind Client.open') (execute_payload d args) [])
  -- the arguments' bytes stand at a place, and all arguments, objects and arrays among them, read as they do in those
  -- bytes by themselves: the whole list, what they tell together, and each that is asked for
  pub place : ℕ
  pub stands : take (length (args_bytes d body args)) (drop place bytes) ≡ args_bytes d body args
  pub arguments : arguments_of bytes request ≡ map (moved place) (arguments_at (args_bytes d body args) 0)
  pub told : TellAlike (args_of request) (arguments_in (args_bytes d body args) 0)
  pub argument : (i : ℕ) → argument_of bytes i ≡ moved place (nth_argument (args_bytes d body args) 0 i)

-- every draft that is not refused 6 or 2 is read back from its frame, whatever bytes stand behind it
abbrev pub RoundTrip : Type 0
RoundTrip =
    (d : Draft) (body args rest : List ℕ) → Sized d → draft_reason d body args ≡ Reason.accepted →
    ReadsAs d body args (frame_bytes d body args ++ rest)

-- so does the buffer that it was written to
abbrev pub WrittenReads : Type 0
WrittenReads =
    (d : Draft) (body args buf : List ℕ) → Sized d → write_reason d body args (length buf) ≡ Reason.accepted →
    ReadsAs d body args (left_of d body args buf)
