-- `args::value::bytes_value` meets its contract: none, one part or several. Assumes nothing.
use Rattle.prelude.proofs.Basics.{sym, ap, ◌∙◌, or_same}
use Rattle.layout.proofs.CountedLaws.{counted_one}
use Rattle.args.specs.private.Parts.{is_octets}
use Rattle.args.proofs.Names.{bytes_in}
use Rattle.args.proofs.PartedLaws.{here, one_padded}
use Rattle.args.proofs.value.bytes_value.Goals as goal

pub returns-then-slot-eq1 : goal.returns-then-slot-eq1
returns-then-slot-eq1 c =
    let one = counted_one c.requires.counted c.if-slot-eq1.true in record {
      answer = c.long_bytes.ensures.answer
          ∙ ap (bytes_in (is_octets c.args.bytes) c.args.s.now) (sym one)
          ∙ here c.args.slot.times _ c.if-slot-eq0.false;
      told = λ _.
          c.long_bytes.ensures.told
          ∙ or_same c.args.padded.now (one_padded c.args.s.now c.args.slot.start c.args.slot.value one);
    }
