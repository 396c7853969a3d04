-- One place a turn, each behind the one before, until no live one is left. Assumes nothing.
use Rattle.session.specs.Entry.{is_live_stmt}
use Rattle.session.specs.Tables.{max_stmts}
use Rattle.session.specs.Words.{stmt_in}
use Rattle.image_rules.specs.Image.{most_stmt}
use Rattle.image_rules.specs.private.Parts.{stmt_bytes_at}
use Rattle.image.proofs.WriteLaws.{Filling}
use Rattle.image.proofs.write.put_stmts.Given as goal

abbrev pub invariant-loop-i : goal.invariant-loop-i
invariant-loop-i l = Filling is_live_stmt (stmt_in l.words) (λ k. stmt_bytes_at k
    (stmt_in l.words k)) most_stmt max_stmts l.initial.buf l.at l.buf l.p l.i l.left
