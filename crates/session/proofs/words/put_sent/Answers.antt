-- Inside the table one word is stored; past it nothing changes. Assumes nothing.
use Rattle.prelude.proofs.Basics.{ap, ◌∙◌}
use Rattle.session.proofs.Names.{with_cursors, max_cursors, cursor_in, session_of}
use Rattle.session.proofs.PutLaws.{sent_there, put_past}
use Rattle.session.proofs.words.put_sent.Goals as goal

pub returns-then-i-lt-MAX_CURSORS : goal.returns-then-i-lt-MAX_CURSORS
returns-then-i-lt-MAX_CURSORS c =
    let w = c.args.words.now in
    c.store_sent.ensures
    ∙ ap (with_cursors (session_of w))
    (sent_there w c.args.place _ c.args.sent c.unwrap_or-i.ensures c.if-i-lt-MAX_CURSORS.true)

pub returns-else-i-lt-MAX_CURSORS : goal.returns-else-i-lt-MAX_CURSORS
returns-else-i-lt-MAX_CURSORS c = let w = c.args.words.now in ap (with_cursors (session_of w))
    (put_past (cursor_in w) max_cursors c.args.place _ c.unwrap_or-i.ensures _ c.if-i-lt-MAX_CURSORS.false)
