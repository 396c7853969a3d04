-- Each arm is one clause of argument_in, and the arguments lie within the frame.
use Rattle.prelude.proofs.Basics.{arith, sym, ap, ◌∙◌, length-take-le}
use Rattle.message.proofs.Names.{Arguments}
use Rattle.message.proofs.UsedLaws.{read_within}
use Rattle.message.proofs.frame.argument.Goals as goal

pub slice_bounds-nth_argument-end : goal.slice_bounds-nth_argument-end
slice_bounds-nth_argument-end c = let s = c.args.s.now in
    let w = read_within s _
    (sym c.in-Good.is ∙ c.read_frame.ensures.answer) in
    sym
    (length-take-le c.args_of-args.result.end s
    (omega (arith, ap (λ (y : Arguments). y.end) c.args_of-args.ensures, w.0, w.1.args)))
