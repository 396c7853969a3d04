-- `args::value::parted_scalar` meets its contract: the fields of all parts are found. Assumes nothing.
use Rattle.prelude.proofs.Basics.{arith, or_then}
use Rattle.args.proofs.Names.{scalar, rows_of, parts_of, merged, parts_padded, inside_scalar}
use Rattle.args.proofs.FoundLaws.{scalar_refused}
use Rattle.args.proofs.PartedLaws.{scalar_whole}
use Rattle.args.proofs.value.parted_scalar.Goals as goal

pub returns-then-not-merge : goal.returns-then-not-merge
returns-then-not-merge c =
    let parts = c.of_message.ensures in record {
      answer = scalar_refused c.args.s.now (parts_of 2 c.args.s.now c.args.at)
          (rw (c.scalar_rows-rows.ensures, parts.parts, parts.of) at c.merge.ensures.holds) c.if-not-merge.true;
      told = λ h. absurd (omega (arith, h));
    }

pub returns : goal.returns
returns c =
    let parts = c.of_message.ensures in
    let s = c.args.s.now in
    let ps = parts_of 2 s c.args.at in record {
      answer = c.scalar_value.ensures.answer;
      told = λ h.
          or_then c.args.padded.now (parts_padded s ps) (inside_scalar s ps (merged (rows_of scalar) s ps))
          ((rw (parts.parts, parts.of) at c.merge.ensures.told) c.if-not-merge.false)
          (c.scalar_value.ensures.told h)
          (scalar_whole s ps);
    }
