-- The first place that is found is the first of all. Assumes nothing.
use Rattle.std.proofs.Common.{tests}
use Rattle.prelude.proofs.Basics.{rules}
use Rattle.session.specs.Entry.{free_stmt}
use Rattle.session.proofs.Names.{max_stmts, stmt_in}
use Rattle.session.proofs.LoopLaws.{finds}
use Rattle.session.proofs.find.free_stmt.Goals as goal

pub returns : goal.returns
returns c =
    finds free_stmt (stmt_in c.args.words.now) 0 max_stmts _ _ c.find.result c.find.ensures.ran
    (λ x b q k. search (rules, tests))
