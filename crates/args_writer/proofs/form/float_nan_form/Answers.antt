-- `args_writer::form::float_nan_form` meets its contract: the bits are those of a NaN, or there is no form.
-- Assumes nothing.
use lib.Ieee.{binary32}
use Rattle.args_writer.proofs.Names.{is_nan_lem, no_nan}
use Rattle.args_writer.proofs.form.float_nan_form.Goals as goal

pub returns-then-bits-le2139095040 : goal.returns-then-bits-le2139095040
returns-then-bits-le2139095040 c = no_nan binary32 c.args.bits c.if-bits-le2139095040.true

pub returns : goal.returns
returns c = (is_nan_lem binary32 c.args.bits c.if-bits-le2139095040.false, c.of_float.ensures)
