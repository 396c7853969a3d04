-- All that a host needs to know of a frame before its step (K14): the look at it, its message, and what it touches.
use Rattle.std.specs.Prelude.{ℕ, List}
use Rattle.message.specs.Frame.{frame_of}
use Rattle.session.specs.Session.{Session}
use Rattle.rules.specs.Step.{look_at}
use Rattle.rules.specs.Inspect.{touches_in}
use Rattle.karramotx.specs.Message.{message_at}
use Rattle.karramotx.specs.declared.inspection.Inspection.{Inspection}

abbrev pub inspection_of : Session → List ℕ → Inspection
inspection_of s frame =
    record {
      look = look_at s frame;
      message = message_at frame;
      stmt_place = (touches_in s (frame_of frame)).stmt;
      cursor_place = (touches_in s (frame_of frame)).cursor;
      ends = (touches_in s (frame_of frame)).ends;
    }
