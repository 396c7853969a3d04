-- What is found of the statement holds its fields.
use Rattle.prelude.proofs.Basics.{sym, subst}
use Rattle.message.proofs.Names.{prepare_stmt, rows_of, merged, Holds, held_good, stmt_parts}
use Rattle.message.specs.private.Marks.{Reads}
use Rattle.message.specs.private.Parts.{Chooses}
use Rattle.message.proofs.FoundLaws.{prepare_held}
use Rattle.message.proofs.PaddedLaws.{chosen_tells}
use Rattle.message.proofs.prepare.long_chosen.Goals as goal

pub returns : goal.returns
returns c =
    let held : (let s = c.args.s.now in
    Holds (merged (rows_of prepare_stmt) s
    (stmt_parts s)) c.fill_stmt.result c.fill_stmt.new.found) = rw c.prepare_stmt_rows-rows.ensures at c.fill_stmt.ensures.holds in
    let s = c.args.s.now in
    let ps = stmt_parts s in
    let good = c.if-not-fill_stmt.false in
    let flag = c.fill_stmt.new.padded in
    let reads : Reads (rows_of prepare_stmt) s ps c.args.padded.now flag =
    (c.fill_stmt.ensures.told good, held_good held good) in record {
      answer =
          subst (Chooses s ps) (sym c.chosen_of.ensures) (prepare_held s ps held good);
      told =
          chosen_tells s ps c.chosen_of.result c.args.padded.now flag reads;
    }
