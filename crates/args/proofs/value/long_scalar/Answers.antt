-- `args::value::long_scalar` meets its contract: the fields of the Scalar are found. Assumes nothing.
use Rattle.prelude.proofs.Basics.{◌+◌, arith, ◌||◌, ap, ◌∙◌, length-take-le}
use Rattle.prelude.proofs.Basics.{or_same, or_then}
use Rattle.args.proofs.Names.{scalar, rows_of, one_part, merged, part_padded, inside_scalar}
use Rattle.args.proofs.FoundLaws.{scalar_refused}
use Rattle.args.proofs.InsideLaws.{one_flag}
use Rattle.args.proofs.PartedLaws.{held_good, held_one, held_within, held_cut, whole_cut, whole_inside}
use Rattle.args.proofs.PartedLaws.{scalar_whole}
use Rattle.args.proofs.value.long_scalar.Goals as goal

pub returns-then-not-fill_part : goal.returns-then-not-fill_part
returns-then-not-fill_part c = record {
  answer = scalar_refused c.args.s.now (one_part c.args.at c.args.n)
      (held_one (rows_of scalar) c.args.s.now c.args.at c.args.n
      (rw c.scalar_rows-rows.ensures at c.fill_part.ensures.holds))
      (c.if-not-fill_part.true);
  told = λ h. absurd (omega (arith, h));
}

pub scalar_value-requires : goal.scalar_value-requires
scalar_value-requires c = record {
  at_in_bounds = omega (
    arith,
    length-take-le (c.args.at + c.args.n) c.args.s.now (
        held_within (rows_of scalar) c.args.s.now c.args.at c.args.n
        (rw c.scalar_rows-rows.ensures at c.fill_part.ensures.holds) (c.if-not-fill_part.false)),
  );
  holds = held_good (held_cut c.args.s.now c.args.at c.args.n (
      held_within (rows_of scalar) c.args.s.now c.args.at c.args.n
      (rw c.scalar_rows-rows.ensures at c.fill_part.ensures.holds) (c.if-not-fill_part.false))
      (rw c.scalar_rows-rows.ensures at c.fill_part.ensures.holds)) (c.if-not-fill_part.false);
}

pub returns : goal.returns
returns c =
    let s = c.args.s.now in record {
      answer = c.scalar_value.ensures.answer ∙ whole_cut s c.args.at c.args.n (
          held_within (rows_of scalar) c.args.s.now c.args.at c.args.n
          (rw c.scalar_rows-rows.ensures at c.fill_part.ensures.holds) (c.if-not-fill_part.false));
      told = λ h.
          or_then c.args.padded.now (part_padded s c.args.at c.args.n)
          (inside_scalar s (one_part c.args.at c.args.n) (merged (rows_of scalar) s (one_part c.args.at c.args.n)))
          c.fill_part.ensures.told
          (c.scalar_value.ensures.told h
          ∙ or_same c.fill_part.new.padded (whole_inside s c.args.at c.args.n (
          held_within (rows_of scalar) c.args.s.now c.args.at c.args.n
          (rw c.scalar_rows-rows.ensures at c.fill_part.ensures.holds) (c.if-not-fill_part.false))))
          (ap (λ b. b || inside_scalar s (one_part c.args.at c.args.n) (merged (rows_of scalar) s
          (one_part c.args.at c.args.n)))
          (one_flag s c.args.at c.args.n)
          ∙ scalar_whole s (one_part c.args.at c.args.n));
    }
