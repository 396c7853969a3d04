-- Two fields are read by their bytes alone, to the slots that the rows give; anything else goes the long way.
use Rattle.prelude.proofs.Basics.{arith, false, sym, subst, ◌∙◌, Option}
use Rattle.message.proofs.Names.{First}
use Rattle.message.specs.private.First.{Begins}
use Rattle.message.specs.private.Marks.{TellsFirst}
use Rattle.message.proofs.FirstLaws.{fetch_found}
use Rattle.message.proofs.PaddedLaws.{fetch_flag}
use Rattle.message.proofs.simple.read_fetch.Goals as goal

pub returns-then-rows-n : goal.returns-then-rows-n
returns-then-rows-n c = let s = c.args.s.now in
    let begins = subst (Begins s 16) c.in-Some.is c.read_first.ensures.answer in
    let number = sym c.read_short.ensures.answer ∙ c.in-Some-read_short.is in record {
      answer = c.fetch_of.ensures
          ∙ fetch_found (omega (arith, c.if-rows-n.true)) begins number;
      told = rw c.fetch_of.ensures
          (fetch_flag (omega (arith, c.if-rows-n.true)) begins number
          (subst (λ (r : Option First). TellsFirst s r false c.read_first.new.padded) c.in-Some.is
          c.read_first.ensures.told) c.read_short.ensures.told);
    }
