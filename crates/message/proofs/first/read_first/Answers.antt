-- The tag's byte and the varint behind it are field 1; where the bytes are others, nothing is said.
use Rattle.prelude.proofs.Basics.{sym, ◌∙◌}
use Rattle.message.proofs.FirstLaws.{starts_at}
use Rattle.message.proofs.first.read_first.Goals as goal

pub returns : goal.returns
returns c = record {
  answer = starts_at c.args.s.now c.if-n-le-PAYLOAD.false c.if-s-ne-ID_TAG.false
      (sym c.read_short.ensures.answer ∙ c.in_ok-id.was) c.if-n-id.false
      c.if-s-id.false;
  told = c.read_short.ensures.told;
}
