-- `encode::head::put_head` meets its contract: the bytes of the length, and the type behind them. Assumes nothing.
use Rattle.prelude.proofs.Basics.{ap, take}
use Rattle.encode.proofs.PutsLaws.{puts_then, puts_as}
use Rattle.encode.proofs.head.put_head.Goals as goal

pub returns : goal.returns
returns c =
    let length = puts_as (ap (take 4) c.to_le_bytes-length.ensures) c.put_slice-kind_at.ensures in
    puts_then length c.put_byte.ensures
