-- `args::value::long_argument` meets its contract: the fields of the Any are found, and its type decides. Assumes
-- nothing.
use Rattle.prelude.proofs.Basics.{arith, refl, sym, ap, ◌∙◌, or_none, or_same}
use Rattle.prelude.proofs.Basics.{or_then}
use Rattle.layout.proofs.FoundLaws.{held_value}
use Rattle.args.proofs.Names.{any, rows_of, embedded, low32, part_padded, scalar_in, of_any_type, scalar_parts}
use Rattle.args.proofs.Names.{scalar_padded}
use Rattle.args.proofs.FoundLaws.{present_held}
use Rattle.args.proofs.ValueLaws.{any_bad, any_good, any_type_none}
use Rattle.args.proofs.InsideLaws.{any_by_type, any_in}
use Rattle.args.proofs.PartedLaws.{held_within, scalar_counted}
use Rattle.args.proofs.value.long_argument.Goals as goal

pub returns-then-not-fill_part : goal.returns-then-not-fill_part
returns-then-not-fill_part c =
    let s = c.args.s.now in
    let held = rw c.any_rows-rows.ensures at c.fill_part.ensures.holds in record {
      answer = any_bad s (scalar_parts s c.args.at c.args.n) (embedded (rows_of any) s c.args.at c.args.n)
          (sym held.answer ∙ c.if-not-fill_part.true);
      told = λ h. absurd (omega (arith, h));
    }

pub any_scalar-requires : goal.any_scalar-requires
any_scalar-requires c =
    let s = c.args.s.now in
    let held = rw c.any_rows-rows.ensures at c.fill_part.ensures.holds in
    let good = c.if-not-fill_part.false in
    record {
      counted = scalar_counted s c.args.at c.args.n held good;
      n_in_bounds =
          held_within (rows_of any) s c.args.at c.args.n held good;
    }

-- the scalar, which is there or not
pub returns-in-1 : goal.returns-in-1
unfolding of_any_type
returns-in-1 c =
    let s = c.args.s.now in
    let ps = scalar_parts s c.args.at c.args.n in
    let x = embedded (rows_of any) s c.args.at c.args.n in
    let held = rw c.any_rows-rows.ensures at c.fill_part.ensures.holds in
    let good = sym held.answer ∙ c.if-not-fill_part.false in
    let type = ap low32 (sym (held_value held 1)) ∙ c.in-1.is in record {
      answer = c.any_scalar.ensures.answer
          ∙ present_held held 2 (scalar_in s ps)
          ∙ ap (of_any_type s ps x) (sym type)
          ∙ any_good s ps x good;
      told = λ h.
          or_then c.args.padded.now (part_padded s c.args.at c.args.n) (scalar_padded s ps) c.fill_part.ensures.told
          (c.any_scalar.ensures.told h) (any_in s c.args.at c.args.n refl (any_by_type s ps x good 1 type));
    }

pub returns-in-2 : goal.returns-in-2
unfolding of_any_type
returns-in-2 c =
    let s = c.args.s.now in
    let ps = scalar_parts s c.args.at c.args.n in
    let x = embedded (rows_of any) s c.args.at c.args.n in
    let held = rw c.any_rows-rows.ensures at c.fill_part.ensures.holds in
    let good = sym held.answer ∙ c.if-not-fill_part.false in
    let type = ap low32 (sym (held_value held 1)) ∙ c.in-2.is in record {
      answer = ap (of_any_type s ps x) (sym type) ∙ any_good s ps x good;
      told = λ _.
          c.fill_part.ensures.told
          ∙ or_same c.args.padded.now
          (or_none (part_padded s c.args.at c.args.n) (sym (any_by_type s ps x good 2 type))
          ∙ any_in s c.args.at c.args.n refl refl);
    }

pub returns-in-3 : goal.returns-in-3
unfolding of_any_type
returns-in-3 c =
    let s = c.args.s.now in
    let ps = scalar_parts s c.args.at c.args.n in
    let x = embedded (rows_of any) s c.args.at c.args.n in
    let held = rw c.any_rows-rows.ensures at c.fill_part.ensures.holds in
    let good = sym held.answer ∙ c.if-not-fill_part.false in
    let type = ap low32 (sym (held_value held 1)) ∙ c.in-3.is in record {
      answer = ap (of_any_type s ps x) (sym type) ∙ any_good s ps x good;
      told = λ _.
          c.fill_part.ensures.told
          ∙ or_same c.args.padded.now
          (or_none (part_padded s c.args.at c.args.n) (sym (any_by_type s ps x good 3 type))
          ∙ any_in s c.args.at c.args.n refl refl);
    }

pub returns-in_default : goal.returns-in_default
returns-in_default c =
    let s = c.args.s.now in
    let ps = scalar_parts s c.args.at c.args.n in
    let x = embedded (rows_of any) s c.args.at c.args.n in
    let held = rw c.any_rows-rows.ensures at c.fill_part.ensures.holds in
    let good = sym held.answer ∙ c.if-not-fill_part.false in
    let type = ap low32 (held_value held 1) in record {
      answer = any_type_none s ps x _ c.in_default.in_default-own.rest.0.0.1 c.in_default.in_default-own.rest.0.1
          c.in_default.in_default-own.rest.1
          ∙ ap (of_any_type s ps x) type
          ∙ any_good s ps x good;
      told = λ h. absurd (omega (arith, h));
    }
