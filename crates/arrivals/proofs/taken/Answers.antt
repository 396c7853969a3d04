-- `arrivals::taken` meets its contract: the lesser of what came and the room beside the bytes held. Assumes nothing.
use Rattle.prelude.proofs.Basics.{arith}
use Rattle.streams.proofs.HeldLaws.{length_between}
use Rattle.arrivals.proofs.TakenLaws.{taken_room}
use Rattle.arrivals.proofs.taken.Goals as goal

pub returns-clause-count : goal.returns-clause-count
returns-clause-count c =
    let s = c.args.store.now in
    let r = c.args.held in
    taken_room s r c.args.arrival.now c.requires.good
    (omega (arith, c.min.ensures, c.room_beside.ensures, length_between s r.start r.end c.requires.inside.1))
