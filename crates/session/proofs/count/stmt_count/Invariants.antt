-- What was counted, and what is left to count, is the whole. Assumes nothing.
use Rattle.prelude.proofs.Basics.{cond}
use Rattle.session.proofs.Names.{flag, max_stmts, stmt_in}
use Rattle.session.proofs.LoopLaws.{Summing}
use Rattle.session.proofs.count.stmt_count.Given as goal

abbrev pub invariant-loop-i : goal.invariant-loop-i
invariant-loop-i l = Summing (λ x. cond (flag x.live) 1 0) 1 (stmt_in l.words) max_stmts l.i l.sum
