-- By the law on the field alone the short way answers what the rows do; the rest goes the long way.
use Rattle.prelude.proofs.Basics.{ℕ, sym, ap, ◌∙◌, List, take-length}
use Rattle.prelude.proofs.Basics.{or_same, or_then}
use Rattle.args.specs.private.Parts.{is_octets}
use Rattle.args.proofs.Names.{one_part, part_padded, bytes_in}
use Rattle.args.specs.private.Pair.{text_padded}
use Rattle.args.proofs.TextLaws.{text_bytes}
use Rattle.args.proofs.PaddedLaws.{text_part, text_absorbed}
use Rattle.args.proofs.value.read_bytes.Goals as goal

pub returns-in-Some : goal.returns-in-Some
returns-in-Some c =
    let alone = sym c.read_text.ensures.answer ∙ c.in-Some.is in record {
      answer = c.argument.ensures ∙ text_bytes c.args.s.now c.args.at c.args.n alone (is_octets c.args.bytes);
      told = c.read_text.ensures.told ∙ or_same c.args.padded.now (text_part c.args.s.now c.args.at c.args.n alone);
    }

pub returns : goal.returns
returns c =
    let s = c.args.s.now in record {
      answer = c.long_bytes.ensures.answer
          ∙ ap (λ (l : List ℕ). bytes_in (is_octets c.args.bytes) l (one_part c.args.at c.args.n)) (take-length s);
      told = or_then c.args.padded.now (text_padded s c.args.at c.args.n)
          (part_padded s c.args.at c.args.n) c.read_text.ensures.told
          (c.long_bytes.ensures.told
          ∙ or_same c.read_text.new.padded
          (ap (λ (l : List ℕ). part_padded l c.args.at c.args.n) (take-length s)))
          (text_absorbed s c.args.at c.args.n);
    }
