-- What was hit so far, or is hit further on, is what the block has. Assumes nothing.
use Rattle.session.specs.private.Search.{block_ids}
use Rattle.session.proofs.BlockLaws.{tests, tested, tests_on}
use Rattle.session.proofs.find.has.Goals as goal

pub loop-k-init : goal.loop-k-init
loop-k-init c = tests c.args.id c.args.words.now c.args.at block_ids

pub loop-k-preserved : goal.loop-k-preserved
loop-k-preserved c = rw c.stmt_id.ensures (tests_on c.loop-k.invariant c.loop-k-test.true)

pub returns : goal.returns
returns c = tested c.loop-k.invariant c.loop-k-test.false
