-- `layout::parts::Parts::of_message` meets its contract: behind the message there is no other part to look through.
use Rattle.layout.proofs.MergeLaws.{left_of}
use Rattle.layout.proofs.parts.Parts.of_message.Goals as goal

pub returns-clause-parts : goal.returns-clause-parts
returns-clause-parts c = left_of c.args.number c.args.s.now c.args.from
