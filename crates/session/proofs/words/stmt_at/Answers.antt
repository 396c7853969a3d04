-- The words read are the entry that the table has there. Assumes nothing.
use Rattle.session.proofs.Names.{no_stmt, max_stmts, stmt_in}
use Rattle.session.proofs.PutLaws.{read_there, read_past}
use Rattle.session.proofs.words.stmt_at.Goals as goal

pub returns-then-i-lt-MAX_STMTS : goal.returns-then-i-lt-MAX_STMTS
returns-then-i-lt-MAX_STMTS c =
    rw (c.stmt_id.ensures, c.stmt_placeholders.ensures, c.stmt_live.ensures)
    (read_there (stmt_in c.args.words.now) max_stmts c.args.place _ c.unwrap_or-i.ensures no_stmt
    c.if-i-lt-MAX_STMTS.true)

pub returns : goal.returns
returns c = read_past (stmt_in c.args.words.now) max_stmts c.args.place _
    c.unwrap_or-i.ensures no_stmt c.if-i-lt-MAX_STMTS.false
