-- `encode::put::write_bytes` meets its contract: once no room, and once room. Assumes nothing.
use Rattle.prelude.proofs.Basics.{◌+◌, refl, sym, ◌∙◌, length, leb-false, leb-true}
use Rattle.encode.proofs.PutsLaws.{puts_none, puts_room, equations}
use Rattle.encode.proofs.put.write_bytes.Goals as goal

pub returns-then-not-has_room : goal.returns-then-not-has_room
returns-then-not-has_room c =
    let none = leb-false (c.args.at + length c.args.src.now) (length c.args.buf.now)
    (sym c.has_room.ensures ∙ c.if-not-has_room.true) in
    equations {at = c.args.at} refl (puts_none c.args.src.now none)

pub returns : goal.returns
returns c =
    let room = leb-true (c.args.at + length c.args.src.now) (length c.args.buf.now)
    (sym c.has_room.ensures ∙ c.if-not-has_room.false) in
    equations refl (puts_room room c.put_slice.ensures)
