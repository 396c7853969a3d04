-- Blocks without the id are passed, and the search starts at the first block that has it. Assumes nothing.
use Rattle.std.proofs.Common.{tests}
use Rattle.prelude.proofs.Basics.{arith, rules, ◌∙◌, ◌*◌}
use Rattle.session.specs.private.Search.{block_ids}
use Rattle.session.proofs.Names.{is_stmt, max_stmts, stmt_in}
use Rattle.session.proofs.LoopLaws.{finds}
use Rattle.session.proofs.BlockLaws.{no_block, from_block}
use Rattle.session.proofs.find.find_stmt.Goals as goal

pub returns-in_err-block : goal.returns-in_err-block
returns-in_err-block c =
    c.from_residual.ensures ∙ no_block c.args.id c.args.words.now (rw c.in_err-block.was at c.first_block.ensures)

pub overflow_mul-block : goal.overflow_mul-block
overflow_mul-block c = let found = rw c.in_ok-block.was at c.first_block.ensures in omega (arith, found.1)

pub returns : goal.returns
returns c =
    let w = c.args.words.now in
    let b = c.in_ok-block.block in
    from_block c.args.id w b (rw c.in_ok-block.was at c.first_block.ensures) c.find.result
    (finds (is_stmt c.args.id) (stmt_in w) (block_ids * b) max_stmts _ _ c.find.result c.find.ensures.ran
    (λ x b q k. search (rules, tests)))
