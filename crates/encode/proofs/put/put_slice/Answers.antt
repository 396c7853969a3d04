-- `encode::put::put_slice` meets its contract: the part that is copied over is as long as the bytes. Assumes nothing.
use Rattle.prelude.proofs.Basics.{◌+◌, arith, sym, ◌∙◌, length, leb-true}
use Rattle.encode.proofs.PutsLaws.{puts_copied}
use Rattle.encode.proofs.put.put_slice.Goals as goal

pub returns : goal.returns
returns c =
    let room = leb-true (c.args.at + length c.args.src.now) (length c.args.buf.now)
    (sym c.has_room.ensures ∙ c.if-not-has_room.false) in
    puts_copied room (omega arith) c.copy_over.ensures
