-- Each key names a type and the tag of its value, and a law says what the rows make of the two.
use Rattle.prelude.proofs.Basics.{sym, ap, ◌∙◌}
use Rattle.std.specs.Prelude.{Some}
use Rattle.args.proofs.ScalarLaws.{null_read, sint_read, uint_read}
use Rattle.args.proofs.ScalarLaws.{octets_read, double_read, float_read, bool_read, string_read}
use Rattle.args.proofs.value.read_scalar.Goals as goal

pub returns-in-Some-eq3 : goal.returns-in-Some-eq3
returns-in-Some-eq3 c = null_read c.args.s.now c.args.at c.args.n
    (ap Some (sym c.in-Some-eq3.field-0-test) ∙ sym c.in-Some-eq3.is ∙ c.read_lone.ensures)

pub returns-in-272 : goal.returns-in-272
returns-in-272 c = c.signed_argument.ensures ∙ sint_read (record {
  is =
      sym c.read_pair.ensures.answer ∙ c.in-Some.is;
}) c.in-272.is

pub returns-in-536 : goal.returns-in-536
returns-in-536 c = uint_read (record { is = sym c.read_pair.ensures.answer ∙ c.in-Some.is }) c.in-536.is

pub returns-in-1066 : goal.returns-in-1066
returns-in-1066 c = octets_read (record { is = sym c.read_pair.ensures.answer ∙ c.in-Some.is }) c.in-1066.is
    c.read_bytes.ensures.answer

pub returns-in-1329 : goal.returns-in-1329
returns-in-1329 c = c.double_argument.ensures ∙ double_read (record {
  is =
      sym c.read_pair.ensures.answer ∙ c.in-Some.is;
}) c.in-1329.is

pub returns-in-1597 : goal.returns-in-1597
returns-in-1597 c = c.float_argument.ensures ∙ float_read (record {
  is =
      sym c.read_pair.ensures.answer ∙ c.in-Some.is;
}) c.in-1597.is

pub returns-in-1856 : goal.returns-in-1856
returns-in-1856 c = bool_read (record { is = sym c.read_pair.ensures.answer ∙ c.in-Some.is }) c.in-1856.is

pub returns-in-2122 : goal.returns-in-2122
returns-in-2122 c = string_read (record { is = sym c.read_pair.ensures.answer ∙ c.in-Some.is }) c.in-2122.is
    c.read_bytes-in-2122.ensures.answer
