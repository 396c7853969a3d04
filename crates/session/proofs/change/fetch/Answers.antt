-- The new number of rows sent is the one that `raise` says. Assumes nothing.
use Rattle.prelude.proofs.Basics.{◌∙◌}
use Rattle.session.proofs.Names.{session_of}
use Rattle.session.proofs.ChangeLaws.{raises}
use Rattle.session.proofs.change.fetch.Goals as goal

pub returns : goal.returns
returns c =
    c.put_sent.ensures
    ∙ raises (session_of c.args.words.now) c.args.place c.args.count c.raised.result c.cursor_at-c.result
    c.cursor_at-c.ensures c.raised.ensures
