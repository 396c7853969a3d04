-- The first block that is found is the first of all. Assumes nothing.
use Rattle.std.proofs.Common.{tests}
use Rattle.prelude.proofs.Basics.{rules, ◌*◌}
use Rattle.session.specs.private.Search.{block_ids, blocks, any_in}
use Rattle.session.proofs.LoopLaws.{passes_first}
use Rattle.session.proofs.find.first_block.Goals as goal

pub returns : goal.returns
returns c =
    passes_first (λ b. any_in c.args.id c.args.words.now (block_ids * b) block_ids) (λ b. b) 0 blocks _ _
    c.find.result c.find.ensures.ran (λ x b q k. search (rules, tests))
