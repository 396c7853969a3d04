use Rattle.message.proofs.Names.{session_close_frame}
use Rattle.message.proofs.simple.read_session_close.Goals as goal

pub returns : goal.returns
unfolding session_close_frame
returns c = record { answer = c.read_plain.ensures.answer; told = c.read_plain.ensures.told }
