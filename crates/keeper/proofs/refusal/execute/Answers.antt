-- The statement looked up is the live one, and an Execute has no tests but 7, 8, 9. Assumes nothing.
use Rattle.keeper.proofs.Names.{session_of}
use Rattle.keeper.proofs.ReasonLaws.{execute_bound}
use Rattle.keeper.proofs.refusal.execute.Goals as goal

pub returns : goal.returns
returns c =
    execute_bound (session_of c.args.words.now) c.args.x c.find_stmt-place.result c.stmt_at.result _
    c.find_stmt-place.ensures c.stmt_at.ensures c.binding.ensures
