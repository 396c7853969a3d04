-- The message is cut off behind its last byte.
use Rattle.prelude.proofs.Basics.{arith, ◌∙◌, or_none, or_same}
use Rattle.args.specs.private.Bound.{is_text}
use Rattle.args.proofs.BoundLaws.{bound_past, bound_cut, execute_past, execute_cut}
use Rattle.args.proofs.bound.read_bound.Goals as goal

pub returns-then-s-at : goal.returns-then-s-at
returns-then-s-at c = record {
  answer =
      bound_past (is_text c.args.message) c.args.s.now c.args.at c.args.n (omega arith);
  told =
      λ _. or_none c.args.padded.now (execute_past c.args.s.now c.args.at c.args.n (omega arith));
}

pub returns-then-s-at-2 : goal.returns-then-s-at-2
returns-then-s-at-2 c = record {
  answer =
      bound_past (is_text c.args.message) c.args.s.now c.args.at c.args.n (omega arith);
  told =
      λ _. or_none c.args.padded.now (execute_past c.args.s.now c.args.at c.args.n (omega arith));
}

pub returns : goal.returns
returns c = record {
  answer = c.bound_at.ensures.answer
      ∙ bound_cut (is_text c.args.message) c.args.s.now c.args.at c.args.n (omega arith);
  told =
      λ h. c.bound_at.ensures.told h ∙ or_same c.args.padded.now (execute_cut c.args.s.now c.args.at c.args.n
      (omega arith));
}
