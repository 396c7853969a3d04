-- Two fields are read by their bytes alone, to the slots that the rows give; anything else goes the long way.
use Rattle.prelude.proofs.Basics.{◌≤◌, arith, false, sym, subst, ◌∙◌, length, Option}
use Rattle.message.proofs.Names.{First}
use Rattle.message.specs.private.First.{Begins}
use Rattle.message.specs.private.Marks.{TellsFirst}
use Rattle.message.proofs.FirstLaws.{prepare_found, stmt_found}
use Rattle.message.proofs.PaddedLaws.{prepare_flag}
use Rattle.message.proofs.prepare.find_stmt.Goals as goal

pub returns-then-stmt-n : goal.returns-then-stmt-n
returns-then-stmt-n c = let s = c.args.s.now in
    let begins = subst (Begins s 18) c.in-Some.is c.read_first.ensures.answer in
    let stmt = sym c.length_value.ensures.answer ∙ c.in-Some-length_value.is in
    let past : length s ≤ c.in-Some-length_value.stmt.next = omega (arith, c.if-stmt-n.true) in record {
      answer = (prepare_found past begins stmt, stmt_found past begins stmt);
      told = prepare_flag past begins stmt
          (subst (λ (r : Option First). TellsFirst s r false c.read_first.new.padded) c.in-Some.is
          c.read_first.ensures.told) c.length_value.ensures.told;
    }
