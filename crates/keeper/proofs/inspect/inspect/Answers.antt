-- What the frame is by itself comes first, then its request. Assumes
-- nothing.
use Rattle.prelude.proofs.Basics.{◌∙◌}
use Rattle.keeper.proofs.Names.{session_of}
use Rattle.keeper.proofs.LookLaws.{cut_look, length_look, unknown_look, payload_look, twice_look, look_any}
use Rattle.keeper.proofs.InspectLaws.{as_frame}
use Rattle.keeper.proofs.inspect.inspect.Goals as goal

pub returns-in-NotAllThere : goal.returns-in-NotAllThere
returns-in-NotAllThere c = let whole =
    let s = session_of c.args.words.now in
    as_frame s c.args.frame c.in-NotAllThere.is (c.refused.ensures.look ∙ cut_look s, c.refused.ensures.touches) in
    record { look = whole.0; touches = whole.1 }

pub returns-in-BadLength : goal.returns-in-BadLength
returns-in-BadLength c = let whole =
    let s = session_of c.args.words.now in
    as_frame s c.args.frame c.in-BadLength.is (
      c.refused-in-BadLength.ensures.look
          ∙ length_look s,
      c.refused-in-BadLength.ensures.touches,
    ) in record { look = whole.0; touches = whole.1 }

pub returns-in-UnknownType : goal.returns-in-UnknownType
returns-in-UnknownType c = let whole =
    let s = session_of c.args.words.now in
    as_frame s c.args.frame c.in-UnknownType.is (
      c.refused-in-UnknownType.ensures.look
          ∙ unknown_look s _ c.closed_or.ensures,
      c.refused-in-UnknownType.ensures.touches,
    ) in record {
      look =
          whole.0;
      touches = whole.1;
    }

pub returns-in-BadPayload : goal.returns-in-BadPayload
returns-in-BadPayload c = let whole =
    let s = session_of c.args.words.now in
    as_frame s c.args.frame c.in-BadPayload.is (
      c.refused-in-BadPayload.ensures.look
          ∙ payload_look s _ _ c.closed_or-in-BadPayload.ensures,
      c.refused-in-BadPayload.ensures.touches,
    ) in
    record { look = whole.0; touches = whole.1 }

pub returns-in-BodyTwice : goal.returns-in-BodyTwice
returns-in-BodyTwice c = let whole =
    let s = session_of c.args.words.now in
    as_frame s c.args.frame c.in-BodyTwice.is (
      c.refused-in-BodyTwice.ensures.look
          ∙ twice_look s _ _ c.closed_or-in-BodyTwice.ensures,
      c.refused-in-BodyTwice.ensures.touches,
    ) in
    record { look = whole.0; touches = whole.1 }

pub returns-in-Good : goal.returns-in-Good
returns-in-Good c = let whole =
    let s = session_of c.args.words.now in
    as_frame s c.args.frame c.in-Good.is (
      c.inspect_at.ensures.look
          ∙ look_any s _ _,
      c.inspect_at.ensures.touches,
    ) in record { look = whole.0; touches = whole.1 }
