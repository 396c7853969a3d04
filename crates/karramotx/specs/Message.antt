-- A frame as one struct. What its message does not have is 0, absent or none.
use Rattle.std.specs.Prelude.{ℕ, Bool, true, false, List, Option, Some, None}
use Rattle.protocol.specs.Reason as Reason
use Rattle.args.specs.Arguments.{no_arguments}
use Rattle.args.specs.declared.arguments.Arguments.{Arguments}
use Rattle.message.specs.Frame.{frame_of}
use Rattle.message.specs.Padded.{padded_of}
use Rattle.message.specs.Request.{no_optional, no_part, kind_of, stmt_of, cursor_of, rows_of, compact_of, operation_of, body_of}
use Rattle.message.specs.Request.{args_of}
use Rattle.message.specs.declared.request.Frame.{Frame}
use Rattle.message.specs.declared.request.Frame.TheVariants.{NotAllThere, BadLength, UnknownType, BadPayload}
use Rattle.message.specs.declared.request.Frame.TheVariants.{BodyTwice, Good}
use Rattle.karramotx.specs.declared.told.Args.{Args}
use Rattle.karramotx.specs.declared.told.Message.{Message}
use Rattle.karramotx.specs.declared.told.Optional.{Optional}

-- the arguments, as hosts are told of them
abbrev pub args_told : Arguments → Args
args_told a =
    record {
      good = a.good;
      count = a.count;
      kind = a.kind;
      index = a.index;
      start = a.start;
      end = a.end;
    }

-- an optional field, absent with the value 0
abbrev pub optional_told : Option ℕ → Optional
optional_told (Some value) = record { present = true; value = value }
optional_told None = record { present = false; value = 0 }

-- a message of this type with nothing in it
abbrev pub bare : ℕ → ℕ → ℕ → Message
bare reason used kind =
    record {
      reason = reason;
      used = used;
      kind = kind;
      stmt = 0;
      cursor = 0;
      rows = optional_told no_optional;
      compact = optional_told no_optional;
      operation = 0;
      body = no_part;
      args = args_told (no_arguments 0 0);
      padded = false;
    }

abbrev pub blank : ℕ → ℕ → Message
blank used kind = bare Reason.accepted used kind

-- a frame refused by itself
abbrev pub refused : ℕ → ℕ → Message
refused reason used = bare reason used 0

abbrev pub message_of : Frame → Message
message_of NotAllThere = refused Reason.not_all_there 0
message_of BadLength = refused Reason.bad_length 0
message_of (UnknownType used) = refused Reason.unknown_type used
message_of (BadPayload used kind) = refused Reason.bad_payload used
message_of (BodyTwice used kind) = refused Reason.body_twice used
message_of (Good used q) =
    record {
      reason = Reason.accepted;
      used = used;
      kind = kind_of q;
      stmt = stmt_of q;
      cursor = cursor_of q;
      rows = optional_told (rows_of q);
      compact = optional_told (compact_of q);
      operation = operation_of q;
      body = body_of q;
      args = args_told (args_of q);
      padded = false;
    }

-- with this said of padding
abbrev pub message_says : Bool → Message → Message
message_says padded m =
    record {
      reason = m.reason;
      used = m.used;
      kind = m.kind;
      stmt = m.stmt;
      cursor = m.cursor;
      rows = m.rows;
      compact = m.compact;
      operation = m.operation;
      body = m.body;
      args = m.args;
      padded = padded;
    }

-- by its bytes, which tell too whether a varint read in them is padded (K18)
abbrev pub message_at : List ℕ → Message
message_at frame = message_says (padded_of frame) (message_of (frame_of frame))
