-- Each record takes its bytes from the front of what is left.
use Rattle.std.proofs.Common.{length}
use Rattle.samples.proofs.record.print_records.Given as goal

abbrev pub decreases-loop-rest : goal.decreases-loop-rest
decreases-loop-rest g l = length l.rest
