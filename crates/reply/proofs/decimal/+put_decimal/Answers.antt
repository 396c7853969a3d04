-- `reply::decimal::put_decimal` meets its contract: the last digit behind the others, which a call on the tenth of the
-- number puts. Assumes nothing.
use Rattle.reply.proofs.DecimalLaws.{one_digit, last_digit}
use Rattle.reply.proofs.decimal.+put_decimal.Goals as goal

pub returns-then-n-lt10 : goal.returns-then-n-lt10
returns-then-n-lt10 t c = one_digit c.args.n c.if-n-lt10.true c.put_byte.ensures

pub returns : goal.returns
returns t c = last_digit c.args.n c.if-n-lt10.false c.ranges.n.fits c.put_decimal-last.ensures c.put_byte-2.ensures
