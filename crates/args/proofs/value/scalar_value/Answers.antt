-- `args::value::scalar_value` meets its contract: the Scalar type decides, an arm for each. Assumes nothing.
use Rattle.prelude.proofs.Basics.{arith, true, not, refl, sym, ap, ◌∙◌, eqb}
use Rattle.prelude.proofs.Basics.{or_none}
use Rattle.prelude.proofs.Basics.{or_same, false}
use Rattle.scalar.specs.declared.argument.Argument.TheVariants as Va
use Rattle.args.proofs.Names.{signed_of, double_of, float_of, scalar, rows_of, low32, merged}
use Rattle.args.proofs.Names.{present, of_type, parts_in, bytes_in}
use Rattle.layout.specs.private.Found.{slot_at}
use Rattle.args.specs.private.Parts.{is_whole, scalar_by}
use Rattle.args.proofs.FoundLaws.{present_held, number_held, scalar_typed, type_held}
use Rattle.args.proofs.ValueLaws.{type_none}
use Rattle.args.proofs.InsideLaws.{scalar_by_type}
use Rattle.args.proofs.PartedLaws.{octets_counted, string_counted}
use Rattle.args.proofs.value.scalar_value.Goals as goal

pub bytes_value-requires : goal.bytes_value-requires
bytes_value-requires c = record {
  at_in_bounds = c.requires.at_in_bounds;
  counted =
      octets_counted (c.args.s.now) (scalar_by (is_whole c.args.stands) (c.args.s.now) c.args.at) (c.requires.holds);
}

pub bytes_value-requires-in-8 : goal.bytes_value-requires-in-8
bytes_value-requires-in-8 c = record {
  at_in_bounds = c.requires.at_in_bounds;
  counted =
      string_counted (c.args.s.now) (scalar_by (is_whole c.args.stands) (c.args.s.now) c.args.at) (c.requires.holds);
}

pub returns-in-1 : goal.returns-in-1
unfolding of_type
returns-in-1 c = record {
  answer = c.needed.ensures
      ∙ ap (present (slot_at c.args.found.now 2).times) c.signed_argument.ensures
      ∙ number_held (c.args.s.now) (scalar_by (is_whole c.args.stands) (c.args.s.now) c.args.at) (c.requires.holds) 2 signed_of
      ∙ scalar_typed (c.args.s.now) (scalar_by (is_whole c.args.stands) (c.args.s.now) c.args.at) (c.requires.holds) 1 c.in-1.is;
  told = λ _. (or_none c.args.padded.now ((sym (scalar_by_type (c.args.s.now) (scalar_by (is_whole c.args.stands)
      (c.args.s.now) c.args.at) (merged (rows_of scalar) (c.args.s.now) (scalar_by (is_whole c.args.stands)
      (c.args.s.now) c.args.at)) (sym (c.requires.holds).answer) 1 (type_held (c.args.s.now)
      (scalar_by (is_whole c.args.stands) (c.args.s.now) c.args.at) (c.requires.holds) 1 c.in-1.is))) ∙ refl));
}

pub returns-in-2 : goal.returns-in-2
unfolding of_type
returns-in-2 c = record {
  answer = c.needed-in-2.ensures
      ∙ number_held (c.args.s.now) (scalar_by (is_whole c.args.stands) (c.args.s.now) c.args.at) (c.requires.holds) 3 Va.Unsigned
      ∙ scalar_typed (c.args.s.now) (scalar_by (is_whole c.args.stands) (c.args.s.now) c.args.at) (c.requires.holds) 2 c.in-2.is;
  told = λ _. (or_none c.args.padded.now ((sym (scalar_by_type (c.args.s.now) (scalar_by (is_whole c.args.stands)
      (c.args.s.now) c.args.at) (merged (rows_of scalar) (c.args.s.now) (scalar_by (is_whole c.args.stands)
      (c.args.s.now) c.args.at)) (sym (c.requires.holds).answer) 2 (type_held (c.args.s.now)
      (scalar_by (is_whole c.args.stands) (c.args.s.now) c.args.at) (c.requires.holds) 2 c.in-2.is))) ∙ refl));
}

pub returns-in-3 : goal.returns-in-3
unfolding of_type
returns-in-3 c = record {
  answer =
      scalar_typed (c.args.s.now) (scalar_by (is_whole c.args.stands) (c.args.s.now) c.args.at) (c.requires.holds) 3 c.in-3.is;
  told = λ _. (or_none c.args.padded.now ((sym (scalar_by_type (c.args.s.now) (scalar_by (is_whole c.args.stands)
      (c.args.s.now) c.args.at) (merged (rows_of scalar) (c.args.s.now) (scalar_by (is_whole c.args.stands)
      (c.args.s.now) c.args.at)) (sym (c.requires.holds).answer) 3 (type_held (c.args.s.now) (scalar_by (is_whole c.args.stands)
      (c.args.s.now) c.args.at) (c.requires.holds) 3 c.in-3.is))) ∙ refl));
}

pub returns-in-4 : goal.returns-in-4
unfolding of_type
returns-in-4 c = record {
  answer = c.bytes_value.ensures.answer
      ∙ present_held (c.requires.holds) 5 (bytes_in true (c.args.s.now) (parts_in 5 (c.args.s.now)
      (scalar_by (is_whole c.args.stands) (c.args.s.now) c.args.at)))
      ∙ scalar_typed (c.args.s.now) (scalar_by (is_whole c.args.stands) (c.args.s.now) c.args.at) (c.requires.holds) 4 c.in-4.is;
  told = λ h. c.bytes_value.ensures.told h
      ∙ or_same c.args.padded.now (sym (sym (scalar_by_type (c.args.s.now) (scalar_by (is_whole c.args.stands)
      (c.args.s.now) c.args.at) (merged (rows_of scalar) (c.args.s.now) (scalar_by (is_whole c.args.stands)
      (c.args.s.now) c.args.at)) (sym (c.requires.holds).answer) 4 (type_held (c.args.s.now)
      (scalar_by (is_whole c.args.stands) (c.args.s.now) c.args.at) (c.requires.holds) 4 c.in-4.is))));
}

pub returns-in-5 : goal.returns-in-5
unfolding of_type
returns-in-5 c = record {
  answer = c.needed-in-5.ensures
      ∙ ap (present (slot_at c.args.found.now 6).times) c.double_argument.ensures
      ∙ number_held (c.args.s.now) (scalar_by (is_whole c.args.stands) (c.args.s.now) c.args.at) (c.requires.holds) 6 double_of
      ∙ scalar_typed (c.args.s.now) (scalar_by (is_whole c.args.stands) (c.args.s.now) c.args.at) (c.requires.holds) 5 c.in-5.is;
  told = λ _. (or_none c.args.padded.now ((sym (scalar_by_type (c.args.s.now) (scalar_by (is_whole c.args.stands)
      (c.args.s.now) c.args.at) (merged (rows_of scalar) (c.args.s.now) (scalar_by (is_whole c.args.stands)
      (c.args.s.now) c.args.at)) (sym (c.requires.holds).answer) 5 (type_held (c.args.s.now)
      (scalar_by (is_whole c.args.stands) (c.args.s.now) c.args.at) (c.requires.holds) 5 c.in-5.is))) ∙ refl));
}

pub returns-in-6 : goal.returns-in-6
unfolding of_type
returns-in-6 c = record {
  answer = c.needed-in-6.ensures
      ∙ ap (present (slot_at c.args.found.now 7).times) c.float_argument.ensures
      ∙ number_held (c.args.s.now) (scalar_by (is_whole c.args.stands) (c.args.s.now) c.args.at) (c.requires.holds) 7
      (λ v. float_of (low32 v))
      ∙ scalar_typed (c.args.s.now) (scalar_by (is_whole c.args.stands) (c.args.s.now) c.args.at) (c.requires.holds) 6 c.in-6.is;
  told = λ _. (or_none c.args.padded.now ((sym (scalar_by_type (c.args.s.now) (scalar_by (is_whole c.args.stands)
      (c.args.s.now) c.args.at) (merged (rows_of scalar) (c.args.s.now) (scalar_by (is_whole c.args.stands)
      (c.args.s.now) c.args.at)) (sym (c.requires.holds).answer) 6 (type_held (c.args.s.now)
      (scalar_by (is_whole c.args.stands) (c.args.s.now) c.args.at) (c.requires.holds) 6 c.in-6.is))) ∙ refl));
}

pub returns-in-7 : goal.returns-in-7
unfolding of_type
returns-in-7 c = record {
  answer = c.needed-in-7.ensures
      ∙ number_held (c.args.s.now) (scalar_by (is_whole c.args.stands) (c.args.s.now) c.args.at) (c.requires.holds) 8
      (λ v. Va.Bool (not (eqb v 0)))
      ∙ scalar_typed (c.args.s.now) (scalar_by (is_whole c.args.stands) (c.args.s.now) c.args.at) (c.requires.holds) 7 c.in-7.is;
  told = λ _. (or_none c.args.padded.now ((sym (scalar_by_type (c.args.s.now) (scalar_by (is_whole c.args.stands)
      (c.args.s.now) c.args.at) (merged (rows_of scalar) (c.args.s.now) (scalar_by (is_whole c.args.stands)
      (c.args.s.now) c.args.at)) (sym (c.requires.holds).answer) 7 (type_held (c.args.s.now)
      (scalar_by (is_whole c.args.stands) (c.args.s.now) c.args.at) (c.requires.holds) 7 c.in-7.is))) ∙ refl));
}

pub returns-in-8 : goal.returns-in-8
unfolding of_type
returns-in-8 c = record {
  answer = c.bytes_value-in-8.ensures.answer
      ∙ present_held (c.requires.holds) 9 (bytes_in false (c.args.s.now) (parts_in 9 (c.args.s.now)
      (scalar_by (is_whole c.args.stands) (c.args.s.now) c.args.at)))
      ∙ scalar_typed (c.args.s.now) (scalar_by (is_whole c.args.stands) (c.args.s.now) c.args.at) (c.requires.holds) 8 c.in-8.is;
  told = λ h. c.bytes_value-in-8.ensures.told h
      ∙ or_same c.args.padded.now (sym (sym (scalar_by_type (c.args.s.now) (scalar_by (is_whole c.args.stands)
      (c.args.s.now) c.args.at) (merged (rows_of scalar) (c.args.s.now) (scalar_by (is_whole c.args.stands)
      (c.args.s.now) c.args.at)) (sym (c.requires.holds).answer) 8 (type_held (c.args.s.now)
      (scalar_by (is_whole c.args.stands) (c.args.s.now) c.args.at) (c.requires.holds) 8 c.in-8.is))));
}

pub returns-in_default : goal.returns-in_default
returns-in_default c = record {
  answer = type_none (c.args.s.now) (scalar_by (is_whole c.args.stands) (c.args.s.now) c.args.at) (merged (rows_of scalar)
      (c.args.s.now) (scalar_by (is_whole c.args.stands)
      (c.args.s.now) c.args.at)) _ c.in_default.in_default-own.rest.0.0.0.0.0.0.0.1
      c.in_default.in_default-own.rest.0.0.0.0.0.0.1
      c.in_default.in_default-own.rest.0.0.0.0.0.1 c.in_default.in_default-own.rest.0.0.0.0.1
      c.in_default.in_default-own.rest.0.0.0.1 c.in_default.in_default-own.rest.0.0.1
      c.in_default.in_default-own.rest.0.1
      c.in_default.in_default-own.rest.1
      ∙ scalar_typed (c.args.s.now) (scalar_by (is_whole c.args.stands) (c.args.s.now) c.args.at) (c.requires.holds) _ refl;
  told = λ h. absurd (omega (arith, h));
}
