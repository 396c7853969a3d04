-- `layout::parts::Parts::of_parts` meets its contract: at first no part is being looked through.
use Rattle.layout.proofs.Names.{parts_of}
use Rattle.layout.proofs.MergeLaws.{left_in}
use Rattle.layout.proofs.parts.Parts.of_parts.Goals as goal

pub returns-clause-parts : goal.returns-clause-parts
returns-clause-parts c =
    left_in c.args.number c.args.s.now (parts_of c.args.outer c.args.s.now c.args.from)
