-- The two tests in turn.
use Rattle.image.proofs.TakeLaws.{rises_early, rises_by}
use Rattle.image.proofs.read.rises.Goals as goal

pub returns-then-next-place : goal.returns-then-next-place
returns-then-next-place c = rises_by _ _ _ c.if-next-place.true

pub returns-else-next-place : goal.returns-else-next-place
returns-else-next-place c = rises_early _ _ _ c.if-next-place.false
