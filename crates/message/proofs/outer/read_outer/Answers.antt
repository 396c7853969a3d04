-- Where the fields stand in their order, laws say what the rows make of them; where not, nothing is said.
use Rattle.prelude.proofs.Basics.{arith, sym, subst, ◌∙◌, take-length, Option, Some}
use Rattle.message.proofs.Names.{First}
use Rattle.message.specs.private.First.{Begins, Starts}
use Rattle.message.specs.private.Marks.{TellsFirst}
use Rattle.message.proofs.OuterLaws.{opens_two, opens_three, parts_two, parts_three}
use Rattle.message.proofs.PaddedLaws.{outer_two, outer_three}
use Rattle.message.proofs.outer.read_outer.Goals as goal

pub returns-then-s-stmt : goal.returns-then-s-stmt
returns-then-s-stmt c =
    let begun : Starts c.args.s.now 34 c.in_ok-first.first.id c.in_ok-first.first.next =
    subst (Begins c.args.s.now 34) c.in_ok-first.was c.read_first.ensures.answer in
    let begun-flag : TellsFirst c.args.s.now (Some c.in_ok-first.first)
    c.args.padded.now c.read_first.new.padded = subst (λ (r : Option First). TellsFirst c.args.s.now r c.args.padded.now
    c.read_first.new.padded) c.in_ok-first.was c.read_first.ensures.told in
    let stmt = sym c.length_value.ensures.answer ∙ c.in_ok-stmt.was in record {
      answer = (opens_two begun stmt c.if-s-stmt.true, parts_two begun stmt c.if-s-stmt.true);
      told = outer_two begun stmt c.args.padded.now begun-flag c.length_value.ensures.told
          c.if-s-stmt.true;
    }

pub returns : goal.returns
returns c =
    let begun : Starts c.args.s.now 34 c.in_ok-first.first.id c.in_ok-first.first.next =
    subst (Begins c.args.s.now 34) c.in_ok-first.was c.read_first.ensures.answer in
    let begun-flag : TellsFirst c.args.s.now (Some c.in_ok-first.first)
    c.args.padded.now c.read_first.new.padded = subst (λ (r : Option First). TellsFirst c.args.s.now r c.args.padded.now
    c.read_first.new.padded) c.in_ok-first.was c.read_first.ensures.told in
    let s = (c.args.s.now) in
    let stmt = sym c.length_value.ensures.answer ∙ c.in_ok-stmt.was in
    let rows = sym (rw (take-length s) at c.read_varint.ensures.answer) ∙ c.in_ok-rows.was in record {
      answer = (
        opens_three begun stmt c.if-s-stmt.false c.if-s-stmt-ne-ROWS_TAG.false rows (omega (arith, c.if-rows-s.false)),
        parts_three begun stmt c.if-s-stmt.false c.if-s-stmt-ne-ROWS_TAG.false rows (omega (arith, c.if-rows-s.false)),
      );
      told = outer_three begun stmt c.args.padded.now begun-flag c.length_value.ensures.told c.if-s-stmt.false
          c.if-s-stmt-ne-ROWS_TAG.false rows (omega (arith, c.if-rows-s.false))
          (rw (take-length s) at c.read_varint.ensures.told);
    }
