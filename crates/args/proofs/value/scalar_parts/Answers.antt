-- `args::value::scalar_parts` meets its contract: the parts of a whole Scalar are those of the bytes from its place on.
use Rattle.prelude.proofs.Basics.{ap, ◌∙◌}
use Rattle.args.specs.private.Parts.{is_whole}
use Rattle.args.proofs.PartedLaws.{by_whole}
use Rattle.args.proofs.value.scalar_parts.Goals as goal

pub returns-in-Whole : goal.returns-in-Whole
returns-in-Whole c = record {
  of = c.of_message.ensures.of;
  parts =
      c.of_message.ensures.parts
      ∙ by_whole c.args.s.now c.args.at c.requires (is_whole c.args.stands) (ap is_whole c.in-Whole.is) c.args.k;
}
