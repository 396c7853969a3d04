-- A varint that is not padded and small enough is such a number, and nothing else is.
use Rattle.prelude.proofs.Basics.{sym, ◌∙◌}
use Rattle.image.proofs.NumberLaws.{number_bad, number_padded, number_large, number_good}
use Rattle.image.proofs.numbers.read_plain.Goals as goal

pub returns-in_err-number : goal.returns-in_err-number
returns-in_err-number c =
    c.from_residual.ensures ∙ number_bad c.args.image.now c.args.at (sym c.in_err-number.was ∙ c.read_short.ensures.answer)

pub returns-then-padded : goal.returns-then-padded
returns-then-padded c =
    number_padded c.args.image.now c.args.at (sym c.read_short.ensures.told ∙ c.if-padded.true)

pub returns-then-number-gt-MAX_NUMBER : goal.returns-then-number-gt-MAX_NUMBER
returns-then-number-gt-MAX_NUMBER c =
    number_large c.args.image.now c.args.at _ _ (sym c.in_ok-number.was ∙ c.read_short.ensures.answer)
    (sym c.read_short.ensures.told ∙ c.if-padded.false) c.if-number-gt-MAX_NUMBER.true

pub returns : goal.returns
returns c =
    number_good c.args.image.now c.args.at _ _ (sym c.in_ok-number.was ∙ c.read_short.ensures.answer)
    (sym c.read_short.ensures.told ∙ c.if-padded.false) c.if-number-gt-MAX_NUMBER.false
