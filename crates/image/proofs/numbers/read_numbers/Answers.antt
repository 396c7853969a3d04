-- What was read, and what is left to read, is the whole.
use Rattle.prelude.proofs.Basics.{arith, sym, ◌∙◌}
use Rattle.image.proofs.NumberLaws.{number_small, fetching_starts, fetching_breaks, fetching_goes_on}
use Rattle.image.proofs.NumberLaws.{fetching_ends}
use Rattle.image.proofs.numbers.read_numbers.Goals as goal

pub loop-i-init : goal.loop-i-init
loop-i-init c = fetching_starts c.args.k c.args.image.now c.args.at c.args.numbers.now c.requires

pub shape_of-numbers-in_err-number : goal.shape_of-numbers-in_err-number
shape_of-numbers-in_err-number c = c.loop-i.invariant.long

pub returns-in_err-number : goal.returns-in_err-number
returns-in_err-number c = let l = c.loop-i.invariant in record {
  read =
      rw c.from_residual.ensures (fetching_breaks l c.loop-i-test.true (sym c.in_err-number.was ∙ c.read_number.ensures));
  long = l.long;
}

pub overflow_cast-numbers : goal.overflow_cast-numbers
overflow_cast-numbers c = omega (arith, number_small _ _ _ _ (sym c.read_number.ensures ∙ c.in_ok-number.was))

pub bounds-numbers-i : goal.bounds-numbers-i
bounds-numbers-i c = omega (arith, c.loop-i-test.true, c.loop-i.invariant.room, c.loop-i.invariant.long)

pub loop-i-preserved : goal.loop-i-preserved
loop-i-preserved c = fetching_goes_on c.loop-i.invariant c.loop-i-test.true _ _
    (sym c.in_ok-number.was ∙ c.read_number.ensures)

pub shape_of-numbers : goal.shape_of-numbers
shape_of-numbers c = c.loop-i.invariant.long

pub returns : goal.returns
returns c = record { read = fetching_ends c.loop-i.invariant c.loop-i-test.false; long = c.loop-i.invariant.long }
