-- `args::value::long_bytes` meets its contract: the message is found. Assumes nothing.
use Rattle.prelude.proofs.Basics.{◌∙◌}
use Rattle.args.specs.private.Parts.{is_octets}
use Rattle.args.proofs.Names.{bytes, rows_of, one_part}
use Rattle.args.proofs.FoundLaws.{bytes_held, bytes_refused}
use Rattle.args.proofs.PartedLaws.{held_one}
use Rattle.args.proofs.value.long_bytes.Goals as goal

pub returns-then-not-fill_part : goal.returns-then-not-fill_part
returns-then-not-fill_part c = record {
  answer = bytes_refused c.args.s.now (one_part c.args.at c.args.n) (is_octets c.args.bytes)
      (held_one (rows_of bytes) c.args.s.now c.args.at c.args.n
      (rw c.bytes_rows-rows.ensures at c.fill_part.ensures.holds))
      (c.if-not-fill_part.true);
  told = c.fill_part.ensures.told;
}

pub returns : goal.returns
returns c = record {
  answer = c.found.ensures
      ∙ bytes_held c.args.s.now (one_part c.args.at c.args.n) (is_octets c.args.bytes)
      (held_one (rows_of bytes) c.args.s.now c.args.at c.args.n
      (rw c.bytes_rows-rows.ensures at c.fill_part.ensures.holds))
      (c.if-not-fill_part.false);
  told = c.fill_part.ensures.told;
}
