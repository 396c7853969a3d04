-- What is found of the statement holds its fields.
use Rattle.prelude.proofs.Basics.{sym, subst, Option}
use Rattle.message.proofs.Names.{open_stmt, rows_of, merged, Holds, held_good, open_parts, Inner}
use Rattle.layout.specs.private.Found.{slot_at}
use Rattle.message.specs.private.Marks.{Reads, TellsInner}
use Rattle.message.specs.private.Parts.{Runs}
use Rattle.message.proofs.FoundLaws.{open_held, inner_counted}
use Rattle.message.proofs.PaddedLaws.{inner_tells}
use Rattle.message.proofs.execute.long_inner.Goals as goal

pub returns : goal.returns
returns c =
    let held : (let s = c.args.s.now in
    Holds (merged (rows_of open_stmt) s
    (open_parts s)) c.fill_stmt.result c.fill_stmt.new.found) = rw c.open_stmt_rows-rows.ensures at c.fill_stmt.ensures.holds in
    let s = c.args.s.now in
    let ps = open_parts s in
    let good = c.if-not-fill_stmt.false in
    let flag = c.fill_stmt.new.padded in
    let reads : Reads (rows_of open_stmt) s ps c.args.padded.now flag =
    (c.fill_stmt.ensures.told good, held_good held good) in record {
      answer = subst (Runs s ps) (sym c.inner_of.ensures) (open_held s ps held good);
      told = subst (λ (r : Option Inner). TellsInner s ps r c.args.padded.now flag) (sym c.inner_of.ensures)
          (inner_tells s ps (slot_at c.fill_stmt.new.found 2)
          (inner_counted s ps held good) c.args.padded.now flag reads);
    }
