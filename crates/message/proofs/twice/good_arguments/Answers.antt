-- Each turn judges the next part.
use Rattle.prelude.proofs.Basics.{ℕ, ◌+◌, arith, ◌≡◌, List, sym, subst, ◌∙◌, length-take-le}
use Rattle.layout.proofs.CutLaws.{inner_within, parts_inside}
use Rattle.message.proofs.Names.{parts_of, parts_in, payload, Part}
use Rattle.message.proofs.TwiceLaws.{Judging, judging, judged, judged_flag, judged_within, judged_bad, judged_good}
use Rattle.message.proofs.twice.good_arguments.Goals as goal

pub loop-part-init : goal.loop-part-init
loop-part-init c =
    let s = c.args.s.now in
    let outer = parts_of c.args.stmt s payload in
    let ps = parts_in c.args.k s outer in (
      tt,
      tt,
      rw c.into_iter-part-iterator.ensures.into_iter_gives
          (subst (λ (qs : List Part). Judging s ps c.args.padded.now qs c.args.padded.now)
          (sym c.of_parts-part-items.ensures.parts)
          (judging s ps c.args.padded.now
          (inner_within c.args.k s _ outer (parts_inside c.args.stmt s payload)))),
    )

pub overflow_add-end : goal.overflow_add-end
overflow_add-end c = omega (arith, judged_within c.loop-part.invariant.2 c.in-Some.ensures.steps)

pub slice_bounds-judge_arguments-end : goal.slice_bounds-judge_arguments-end
slice_bounds-judge_arguments-end c =
    sym
    (length-take-le (c.in-Some.part.start + c.in-Some.part.len) c.args.s.now
    (judged_within c.loop-part.invariant.2 c.in-Some.ensures.steps))

pub returns-then-not-judge_arguments : goal.returns-then-not-judge_arguments
returns-then-not-judge_arguments c = record {
  answer = judged_bad c.loop-part.invariant.2 c.in-Some.ensures.steps
      (sym c.if-not-judge_arguments.true ∙ c.judge_arguments.ensures.answer);
  told = λ h. absurd (let z : ◌≡◌ {A = ℕ} 0 1 = cc in omega arith);
}

pub loop-part-preserved : goal.loop-part-preserved
loop-part-preserved c =
    let good = c.if-not-judge_arguments.false in (
      tt,
      tt,
      judged_good c.loop-part.invariant.2 c.in-Some.ensures.steps (sym good ∙ c.judge_arguments.ensures.answer)
          (c.judge_arguments.ensures.told good),
    )

pub returns : goal.returns
returns c =
    let j = c.loop-part.invariant.2 in
    let none = c.in-None.ensures.steps.0 in record { answer = judged j none; told = λ _. judged_flag j none }
