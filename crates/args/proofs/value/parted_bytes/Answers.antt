-- `args::value::parted_bytes` meets its contract: the message is found in all its parts. Assumes nothing.
use Rattle.prelude.proofs.Basics.{◌∙◌}
use Rattle.args.specs.private.Parts.{is_octets}
use Rattle.args.proofs.FoundLaws.{bytes_held}
use Rattle.args.proofs.value.parted_bytes.Goals as goal

pub returns : goal.returns
returns c =
    let parts = c.scalar_parts.ensures in record {
      answer = c.found.ensures
          ∙ bytes_held c.args.s.now _ (is_octets c.args.bytes)
          (rw (c.bytes_rows-rows.ensures, parts.parts, parts.of, c.field.ensures) at c.merge.ensures.holds)
          c.if-not-merge.false;
      told = λ _. (rw (parts.parts, parts.of, c.field.ensures) at c.merge.ensures.told) c.if-not-merge.false;
    }
