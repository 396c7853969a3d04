-- `args::judge::judge_arguments` meets its contract: each turn judges the argument at the place, if there is one.
-- Assumes nothing.
use Rattle.prelude.proofs.Basics.{ℕ, arith, not, ◌≡◌, sym, ap, ◌∙◌, or_none, or_same}
use Rattle.args.proofs.Names.{any_type_of, marks, marked, marks_on}
use Rattle.args.proofs.Names.{inside_args}
use Rattle.layout.proofs.PaddedLaws.{field_ahead}
use Rattle.args.proofs.ArgumentsLaws.{typed, untyped}
use Rattle.args.proofs.BoundLaws.{inside_args_lem, inside_other}
use Rattle.args.proofs.JudgeLaws.{judging, judged, judged_bad, judged_other, judged_spoilt, judged_good}
use Rattle.args.proofs.judge.judge_arguments.Goals as goal

pub loop-p-init : goal.loop-p-init
loop-p-init c = (
  judging c.args.s.now c.args.from,
  marks (inside_args c.args.s.now) c.args.s.now c.args.from c.args.padded.now,
)

pub returns-in_default : goal.returns-in_default
returns-in_default c = record {
  answer =
      judged_bad c.loop-p.invariant.0 (c.loop-p-test.true) (sym c.long_field.ensures.answer ∙ c.in_default.is);
  told =
      λ h. absurd (let z : ◌≡◌ {A = ℕ} 0 1 = cc in omega arith);
}

pub returns-then-is_none : goal.returns-then-is_none
returns-then-is_none c = record {
  answer = judged_spoilt c.loop-p.invariant.0 (c.loop-p-test.true) (sym c.long_field.ensures.answer ∙ c.in-Some.is)
      (sym c.is_args.ensures ∙ c.if-is_args.true)
      (ap any_type_of (sym c.long_argument.ensures.answer) ∙ sym c.any_type.ensures
      ∙ untyped c.any_type.result (c.is_none.ensures ∙ ap not c.if-is_none.true));
  told = λ h. absurd (let z : ◌≡◌ {A = ℕ} 0 1 = cc in omega arith);
}

pub loop-p-smaller-else-is_none : goal.loop-p-smaller-else-is_none
loop-p-smaller-else-is_none c =
    omega (
      arith,
      (field_ahead c.args.s.now c.loop-p.p (sym c.long_field.ensures.answer
          ∙ c.in-Some.is)),
      (c.loop-p-test.true),
    )

pub loop-p-preserved-else-is_none : goal.loop-p-preserved-else-is_none
loop-p-preserved-else-is_none c = let args = sym c.is_args.ensures ∙ c.if-is_args.true in
    let type = c.any_type.ensures in
    let some = typed c.any_type.result (c.is_none.ensures ∙ ap not c.if-is_none.false) in
    let s = c.args.s.now in (
      judged_good c.loop-p.invariant.0 (c.loop-p-test.true) (sym c.long_field.ensures.answer ∙ c.in-Some.is) args
          (λ z. omega (arith, some, type, ap any_type_of c.long_argument.ensures.answer, z)),
      marks_on c.loop-p.invariant.1 (c.loop-p-test.true) (sym c.long_field.ensures.answer
          ∙ c.in-Some.is) c.long_field.ensures.told
          (c.long_argument.ensures.told (omega (arith, type, some))
          ∙ or_same c.long_field.new.padded
          (inside_args_lem s c.in-Some.field.number c.in-Some.field.wire c.in-Some.field.value c.in-Some.field.start c.in-Some.field.len
          c.in-Some.field.next args)),
    )

pub loop-p-smaller : goal.loop-p-smaller
loop-p-smaller c = omega (
  arith,
  (field_ahead c.args.s.now c.loop-p.p (sym c.long_field.ensures.answer
      ∙ c.in-Some.is)),
  (c.loop-p-test.true),
)

pub loop-p-preserved : goal.loop-p-preserved
loop-p-preserved c = let other = sym c.is_args.ensures ∙ c.if-is_args.false in
    let s = c.args.s.now in (
      judged_other c.loop-p.invariant.0 (c.loop-p-test.true) (sym c.long_field.ensures.answer ∙ c.in-Some.is) other,
      marks_on c.loop-p.invariant.1 (c.loop-p-test.true) (sym c.long_field.ensures.answer
          ∙ c.in-Some.is) c.long_field.ensures.told
          (or_none c.long_field.new.padded
          (inside_other s c.in-Some.field.number c.in-Some.field.wire c.in-Some.field.value c.in-Some.field.start c.in-Some.field.len
          c.in-Some.field.next other)),
    )

pub returns : goal.returns
returns c = record {
  answer = judged c.loop-p.invariant.0 c.loop-p-test.false;
  told =
      λ _. marked c.loop-p.invariant.1 c.loop-p-test.false;
}
