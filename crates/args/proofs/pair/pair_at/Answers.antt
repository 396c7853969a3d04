-- `args::pair::pair_at` meets its contract: each test of the code is the test of the definition at the same byte.
-- Assumes nothing.
use Rattle.prelude.proofs.Basics.{arith, ◌∙◌, or_none, or_same}
use Rattle.args.proofs.PairLaws.{at_short, at_other, at_long_first, at_long_tag, at_pair}
use Rattle.args.proofs.PaddedLaws.{flag_short, flag_other, flag_long_first, flag_long_tag, flag_pair}
use Rattle.args.proofs.pair.pair_at.Goals as goal

pub returns-then-end-at : goal.returns-then-end-at
returns-then-end-at c = record {
  answer = at_short c.args.s.now c.args.at (omega arith);
  told =
      or_none c.args.padded.now (flag_short c.args.s.now c.args.at (omega arith));
}

pub returns-then-end-at-lt3 : goal.returns-then-end-at-lt3
returns-then-end-at-lt3 c = record {
  answer = at_short c.args.s.now c.args.at (omega arith);
  told =
      or_none c.args.padded.now (flag_short c.args.s.now c.args.at (omega arith));
}

pub returns-then-s-at-ne-FIRST_TAG : goal.returns-then-s-at-ne-FIRST_TAG
returns-then-s-at-ne-FIRST_TAG c = record {
  answer =
      at_other c.args.s.now c.args.at (omega arith) c.if-s-at-ne-FIRST_TAG.true;
  told =
      or_none c.args.padded.now (flag_other c.args.s.now c.args.at (omega arith) c.if-s-at-ne-FIRST_TAG.true);
}

pub returns-then-first-ge128 : goal.returns-then-first-ge128
returns-then-first-ge128 c =
    record {
      answer = at_long_first c.args.s.now c.args.at (omega arith)
          (omega arith) c.from-first.result c.from-first.ensures c.if-first-ge128.true;
      told = or_none c.args.padded.now
          (flag_long_first c.args.s.now c.args.at (omega arith) (omega arith) c.from-first.result c.from-first.ensures
          c.if-first-ge128.true);
    }

pub returns-then-tag-ge128 : goal.returns-then-tag-ge128
returns-then-tag-ge128 c =
    record {
      answer = at_long_tag c.args.s.now c.args.at (omega arith)
          (omega arith) c.from-first.result c.from-first.ensures (omega arith)
          c.from-tag.result c.from-tag.ensures c.if-tag-ge128.true;
      told = or_none c.args.padded.now
          (flag_long_tag c.args.s.now c.args.at (omega arith)
          (omega arith) c.from-first.result c.from-first.ensures (omega arith)
          c.from-tag.result c.from-tag.ensures c.if-tag-ge128.true);
    }

pub returns : goal.returns
returns c =
    record {
      answer = c.paired.ensures
          ∙ at_pair c.args.s.now c.args.at (omega arith) (omega arith) c.from-first.result c.from-first.ensures
          (omega arith)
          c.from-tag.result c.from-tag.ensures (omega arith) _ c.value_at.ensures.answer;
      told = c.value_at.ensures.told
          ∙ or_same c.args.padded.now
          (flag_pair c.args.s.now c.args.at (omega arith) (omega arith) c.from-first.result c.from-first.ensures
          (omega arith)
          c.from-tag.result c.from-tag.ensures (omega arith));
    }
