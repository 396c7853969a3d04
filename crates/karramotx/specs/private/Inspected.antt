-- An inspection of a frame that is read already, by what its reading told of padding. For private contracts: what is
-- promised (specs/Inspection.antt) does not cite it.
use Rattle.std.specs.Prelude.{Bool}
use Rattle.message.specs.declared.request.Frame.{Frame}
use Rattle.session.specs.Session.{Session}
use Rattle.rules.specs.Decision.{look_of}
use Rattle.rules.specs.Step.{look_says}
use Rattle.rules.specs.Inspect.{touches_in}
use Rattle.karramotx.specs.Message.{message_of, message_says}
use Rattle.karramotx.specs.declared.inspection.Inspection.{Inspection}

abbrev pub inspected : Session → Frame → Bool → Inspection
inspected s x padded =
    record {
      look = look_says padded (look_of s x);
      message = message_says padded (message_of x);
      stmt_place = (touches_in s x).stmt;
      cursor_place = (touches_in s x).cursor;
      ends = (touches_in s x).ends;
    }
