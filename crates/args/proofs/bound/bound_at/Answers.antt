-- Each turn of the loop is one law on `Binding` and one on `Marking`.
use Rattle.prelude.proofs.Basics.{ℕ, arith, ◌<◌, refl, sym, ap, subst, ◌∙◌}
use Rattle.prelude.proofs.Basics.{or_none, or_same, Some}
use Rattle.std.specs.Option.{IsSome}
use Rattle.args.specs.private.Bound.{is_text}
use Rattle.args.proofs.Names.{type_number, marks, marked, marks_on, inside_args}
use Rattle.args.proofs.BoundLaws.{none_found, binds, done, no_field, ahead, passes, spoils, counts_one, inside_args_lem}
use Rattle.args.proofs.BoundLaws.{inside_other}
use Rattle.args.proofs.ArgumentsLaws.{any_numbered}
use Rattle.args.proofs.bound.bound_at.Goals as goal

pub loop-p-init : goal.loop-p-init
loop-p-init c = (
  rw c.none-x.ensures (binds (is_text c.args.message) c.args.s.now c.args.from),
  marks (inside_args c.args.s.now) c.args.s.now c.args.from c.args.padded.now,
)

pub returns-in_err-field : goal.returns-in_err-field
returns-in_err-field c = record {
  answer =
      c.from_residual.ensures
      ∙ no_field c.loop-p.invariant.0 (c.loop-p-test.true) (sym c.field_at.ensures.answer ∙ c.in_err-field.was);
  told = λ h. absurd (none_found (subst IsSome c.from_residual.ensures h));
}

pub returns-in_err-any : goal.returns-in_err-any
returns-in_err-any c = record {
  answer =
      c.from_residual-in_err-any.ensures
      ∙ spoils c.loop-p.invariant.0 (c.loop-p-test.true) (sym c.field_at.ensures.answer ∙ c.in_ok-field.was)
      (sym c.is_args.ensures ∙ c.if-is_args.true)
      _ (ap type_number (sym c.in_err-any.was) ∙ c.argument_type.ensures.answer) refl;
  told = λ h. absurd (none_found (subst IsSome c.from_residual-in_err-any.ensures h));
}

pub loop-p-smaller-then-is_args : goal.loop-p-smaller-then-is_args
loop-p-smaller-then-is_args c = omega (
  arith,
  (c.loop-p-test.true),
  ahead c.loop-p.invariant.0 (c.loop-p-test.true) (sym c.field_at.ensures.answer ∙ c.in_ok-field.was),
)

pub loop-p-preserved-then-is_args : goal.loop-p-preserved-then-is_args
loop-p-preserved-then-is_args c = let args = sym c.is_args.ensures ∙ c.if-is_args.true in
    let any = c.in_ok-any.any in
    let is = ap type_number (sym c.in_ok-any.was) ∙ c.argument_type.ensures.answer in
    let s = c.args.s.now in (
      rw c.with_type-x.ensures
          (counts_one c.loop-p.invariant.0 (c.loop-p-test.true) (sym c.field_at.ensures.answer ∙ c.in_ok-field.was) args _
          is (any_numbered any)),
      marks_on c.loop-p.invariant.1 (c.loop-p-test.true) (sym c.field_at.ensures.answer
          ∙ c.in_ok-field.was) c.field_at.ensures.told
          (c.argument_type.ensures.told
          (subst (λ (k : ℕ). 0 < k) (ap type_number (sym c.in_ok-any.was)) (any_numbered any))
          ∙ or_same c.field_at.new.padded
          (inside_args_lem s c.in_ok-field.field.number c.in_ok-field.field.wire c.in_ok-field.field.value
          c.in_ok-field.field.start c.in_ok-field.field.len c.in_ok-field.field.next args)),
    )

pub loop-p-smaller : goal.loop-p-smaller
loop-p-smaller c = omega (
  arith,
  (c.loop-p-test.true),
  ahead c.loop-p.invariant.0 (c.loop-p-test.true) (sym c.field_at.ensures.answer ∙ c.in_ok-field.was),
)

pub loop-p-preserved : goal.loop-p-preserved
loop-p-preserved c = let other = sym c.is_args.ensures ∙ c.if-is_args.false in
    let s = c.args.s.now in (
      rw c.with_field-k.ensures
          (rw c.wire_by-own.ensures
          (passes c.loop-p.invariant.0 (c.loop-p-test.true) (sym c.field_at.ensures.answer ∙ c.in_ok-field.was) other)),
      marks_on c.loop-p.invariant.1 (c.loop-p-test.true) (sym c.field_at.ensures.answer
          ∙ c.in_ok-field.was) c.field_at.ensures.told
          (or_none c.field_at.new.padded
          (inside_other s c.in_ok-field.field.number c.in_ok-field.field.wire c.in_ok-field.field.value
          c.in_ok-field.field.start c.in_ok-field.field.len c.in_ok-field.field.next other)),
    )

pub returns : goal.returns
returns c = record {
  answer = ap Some c.bound_of.ensures ∙ done c.loop-p.invariant.0 c.loop-p-test.false;
  told = λ _. marked
      c.loop-p.invariant.1 c.loop-p-test.false;
}
