-- What was read takes the place of the session, or the session stays.
use Rattle.prelude.proofs.Basics.{not, ap, ◌∙◌}
use Rattle.session.specs.Words.{session_of}
use Rattle.image.proofs.WholeLaws.{accepted_is, refused_is}
use Rattle.image.proofs.restore.Goals as goal

pub take_image-requires : goal.take_image-requires
take_image-requires c = c.fresh-restored.ensures

pub returns-then-is_none : goal.returns-then-is_none
returns-then-is_none c =
    let whole = refused_is (session_of c.args.words.now) (session_of c.take_image.new.words) _ c.take_image.result
    c.take_image.ensures (c.is_none.ensures ∙ ap not c.if-is_none.true) in
    record { answer = whole.0; session = whole.1 }

pub returns : goal.returns
returns c =
    let whole = accepted_is (session_of c.args.words.now) (session_of c.take_image.new.words) _ c.take_image.result
    c.take_image.ensures (c.is_none.ensures ∙ ap not c.if-is_none.false) in
    record { answer = whole.0; session = whole.1 }
