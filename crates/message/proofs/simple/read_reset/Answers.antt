use Rattle.message.proofs.Names.{reset_frame}
use Rattle.message.proofs.simple.read_reset.Goals as goal

pub returns : goal.returns
unfolding reset_frame
returns c = record { answer = c.read_plain.ensures.answer; told = c.read_plain.ensures.told }
