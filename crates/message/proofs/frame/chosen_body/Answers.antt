-- The chosen part lies within the frame.
use Rattle.prelude.proofs.Basics.{arith}
use Rattle.message.proofs.UsedLaws.{chosen_within}
use Rattle.message.proofs.frame.chosen_body.Goals as goal

pub overflow_add-end : goal.overflow_add-end
overflow_add-end c = omega
    (arith, chosen_within c.args.s.now c.chosen_part-body.result c.chosen_part-body.ensures)

pub slice_bounds-result-end : goal.slice_bounds-result-end
slice_bounds-result-end c = omega
    (arith, chosen_within c.args.s.now c.chosen_part-body.result c.chosen_part-body.ensures)
