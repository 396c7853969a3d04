-- Its own fields are read by their bytes alone, to the slots that the rows give; anything else goes the long way.
use Rattle.prelude.proofs.Basics.{false, subst, Option}
use Rattle.message.specs.private.Outer.{Says}
use Rattle.message.specs.private.Marks.{TellsOuter}
use Rattle.message.specs.declared.outer.Outer.{Outer}
use Rattle.message.proofs.OuterLaws.{open_paired}
use Rattle.message.proofs.execute.find_opening.Goals as goal

pub returns-in-Some : goal.returns-in-Some
returns-in-Some c = let s = c.args.s.now in
    let opens = subst (Says s) c.in-Some.is c.read_outer.ensures.answer in record {
      answer = (open_paired s opens.0, opens.1);
      told = subst (λ (r : Option Outer). TellsOuter s r false c.read_outer.new.padded) c.in-Some.is
          c.read_outer.ensures.told;
    }
