-- What the frame is by itself comes first, then its request. Assumes nothing.
use Rattle.prelude.proofs.Basics.{refl, ◌∙◌}
use Rattle.keeper.proofs.Names.{session_of}
use Rattle.keeper.proofs.LookLaws.{cut_look, length_look, unknown_look, payload_look, twice_look, look_any}
use Rattle.keeper.proofs.PaddedLaws.{look_told, look_unread}
use Rattle.keeper.proofs.look.look.Goals as goal

pub returns-in-NotAllThere : goal.returns-in-NotAllThere
returns-in-NotAllThere c =
    let s = session_of c.args.words.now in
    look_unread s c.args.frame.now c.read_frame.ensures.answer c.in-NotAllThere.is (λ _. refl) c.refused.ensures
    (cut_look s)

pub returns-in-BadLength : goal.returns-in-BadLength
returns-in-BadLength c =
    let s = session_of c.args.words.now in
    look_unread s c.args.frame.now c.read_frame.ensures.answer c.in-BadLength.is (λ _. refl)
    c.refused-in-BadLength.ensures (length_look s)

pub returns-in-UnknownType : goal.returns-in-UnknownType
returns-in-UnknownType c =
    let s = session_of c.args.words.now in
    look_unread s c.args.frame.now c.read_frame.ensures.answer c.in-UnknownType.is (λ _. refl)
    c.refused-in-UnknownType.ensures (unknown_look s _ c.closed_or.ensures)

pub returns-in-BadPayload : goal.returns-in-BadPayload
returns-in-BadPayload c =
    let s = session_of c.args.words.now in
    look_unread s c.args.frame.now c.read_frame.ensures.answer c.in-BadPayload.is (λ _. refl)
    c.refused-in-BadPayload.ensures (payload_look s _ _ c.closed_or-in-BadPayload.ensures)

pub returns-in-BodyTwice : goal.returns-in-BodyTwice
returns-in-BodyTwice c =
    let s = session_of c.args.words.now in
    look_told s c.args.frame.now c.read_frame.ensures.answer _ c.in-BodyTwice.is (λ _ _ h. h)
    c.read_frame.ensures.told
    (c.refused-look.ensures ∙ twice_look s _ _ c.closed_or-in-BodyTwice.ensures) c.said.ensures

pub returns-in-Good : goal.returns-in-Good
returns-in-Good c =
    let s = session_of c.args.words.now in
    look_told s c.args.frame.now c.read_frame.ensures.answer _ c.in-Good.is (λ _ _ h. h)
    c.read_frame.ensures.told (c.look_at-look.ensures ∙ look_any s _ _) c.said-in-Good.ensures
