-- The message is cut off behind its last byte.
use Rattle.prelude.proofs.Basics.{arith, ◌∙◌, or_none, or_same}
use Rattle.args.proofs.TextLaws.{text_past, text_cut}
use Rattle.args.proofs.PaddedLaws.{text_flag_past, text_flag_cut}
use Rattle.args.proofs.pair.read_text.Goals as goal

pub returns-then-s-at : goal.returns-then-s-at
returns-then-s-at c = record {
  answer = text_past c.args.s.now c.args.at c.args.n (omega arith);
  told =
      or_none c.args.padded.now (text_flag_past c.args.s.now c.args.at c.args.n (omega arith));
}

pub returns-then-s-at-2 : goal.returns-then-s-at-2
returns-then-s-at-2 c = record {
  answer = text_past c.args.s.now c.args.at c.args.n (omega arith);
  told =
      or_none c.args.padded.now (text_flag_past c.args.s.now c.args.at c.args.n (omega arith));
}

pub returns : goal.returns
returns c = record {
  answer = c.text_at.ensures.answer
      ∙ text_cut c.args.s.now c.args.at c.args.n (omega arith);
  told =
      c.text_at.ensures.told ∙ or_same c.args.padded.now (text_flag_cut c.args.s.now c.args.at c.args.n
      (omega arith));
}
