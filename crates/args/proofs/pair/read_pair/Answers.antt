-- The message is cut off behind its last byte.
use Rattle.prelude.proofs.Basics.{arith, ◌∙◌, or_none, or_same}
use Rattle.args.proofs.PairLaws.{in_past, in_cut}
use Rattle.args.proofs.PaddedLaws.{pair_past, pair_cut}
use Rattle.args.proofs.pair.read_pair.Goals as goal

pub returns-then-s-at : goal.returns-then-s-at
returns-then-s-at c = record {
  answer = in_past c.args.s.now c.args.at c.args.n (omega arith);
  told =
      or_none c.args.padded.now (pair_past c.args.s.now c.args.at c.args.n (omega arith));
}

pub returns-then-s-at-2 : goal.returns-then-s-at-2
returns-then-s-at-2 c = record {
  answer = in_past c.args.s.now c.args.at c.args.n (omega arith);
  told =
      or_none c.args.padded.now (pair_past c.args.s.now c.args.at c.args.n (omega arith));
}

pub returns : goal.returns
returns c = record {
  answer = c.pair_at.ensures.answer
      ∙ in_cut c.args.s.now c.args.at c.args.n (omega arith);
  told =
      c.pair_at.ensures.told ∙ or_same c.args.padded.now (pair_cut c.args.s.now c.args.at c.args.n (omega arith));
}
