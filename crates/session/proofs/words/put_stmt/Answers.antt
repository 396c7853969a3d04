-- Inside the table the entry is stored; past it nothing changes. Assumes nothing.
use Rattle.prelude.proofs.Basics.{ap, ◌∙◌}
use Rattle.session.proofs.Names.{with_stmts, max_stmts, stmt_in, session_of}
use Rattle.session.proofs.PutLaws.{put_there, put_past}
use Rattle.session.proofs.words.put_stmt.Goals as goal

pub returns-then-i-lt-MAX_STMTS : goal.returns-then-i-lt-MAX_STMTS
returns-then-i-lt-MAX_STMTS c = let w = c.args.words.now in
    c.store_stmt.ensures ∙ ap (with_stmts (session_of w))
    (put_there (stmt_in w) max_stmts c.args.place _ c.unwrap_or-i.ensures c.args.t)

pub returns-else-i-lt-MAX_STMTS : goal.returns-else-i-lt-MAX_STMTS
returns-else-i-lt-MAX_STMTS c = let w = c.args.words.now in ap (with_stmts (session_of w))
    (put_past (stmt_in w) max_stmts c.args.place _ c.unwrap_or-i.ensures c.args.t c.if-i-lt-MAX_STMTS.false)
