-- `trace_line::printer::print_chunk` meets its contract: what is taken is put behind what is held, and what the lines
-- leave of both is moved to the front. Assumes nothing.
use Rattle.prelude.proofs.Basics.{◌+◌, ◌-◌, arith, ◌∙◌, length-take}
use Rattle.encode.proofs.MoveLaws.{moved_front_lem}
use Rattle.trace_line.proofs.Names.{session_of}
use Rattle.trace_line.proofs.PrintLaws.{printed}
use Rattle.trace_line.proofs.printer.print_chunk.Goals as goal

pub returns : goal.returns
returns c = let whole =
    let n = c.min-have.result + c.min-count.result in
    let at = c.put_lines-w.result.at in
    printed c.args.p (session_of c.args.words.now) c.args.store.now c.args.chunk.now c.args.out.now
    c.min-have.ensures c.min-count.ensures c.write_bytes.ensures.1 c.put_lines-w.ensures
    c.stands_first-first.ensures
    (c.move_front.ensures
    ∙ moved_front_lem c.write_bytes.new.buf at (n - at)
    (omega (
      arith,
      c.put_lines-w.ensures.within,
      length-take n c.write_bytes.new.buf,
      c.write_bytes.auto.buf,
      c.min-have.ensures,
      c.min-count.ensures,
    ))) in record { answer = whole.0; session = whole.1.0; store = whole.1.1.0; out = whole.1.1.1 }
