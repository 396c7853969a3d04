-- What was hit so far, or is hit further on, is what the block has. Assumes nothing.
use Rattle.session.specs.private.Search.{block_ids}
use Rattle.session.proofs.BlockLaws.{Testing}
use Rattle.session.proofs.find.has.Given as goal

abbrev pub invariant-loop-k : goal.invariant-loop-k
invariant-loop-k l = Testing l.id l.words l.at block_ids l.k l.hit
