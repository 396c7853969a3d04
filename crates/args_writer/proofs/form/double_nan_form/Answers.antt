-- `args_writer::form::double_nan_form` meets its contract: the bits are those of a NaN, or there is no form.
-- Assumes nothing.
use lib.Ieee.{binary64}
use Rattle.args_writer.proofs.Names.{is_nan_lem, no_nan}
use Rattle.args_writer.proofs.form.double_nan_form.Goals as goal

pub returns-then-bits-le9218868437227405312 : goal.returns-then-bits-le9218868437227405312
returns-then-bits-le9218868437227405312 c = no_nan binary64 c.args.bits c.if-bits-le9218868437227405312.true

pub returns : goal.returns
returns c = (is_nan_lem binary64 c.args.bits c.if-bits-le9218868437227405312.false, c.of_double.ensures)
