-- Each test of the code is the test of the definition at the same byte.
use Rattle.prelude.proofs.Basics.{◌∙◌, or_none, or_same}
use Rattle.args.proofs.TextLaws.{text_none, text_other, text_read}
use Rattle.args.proofs.PaddedLaws.{text_flag_none, text_flag_other, text_flag_read}
use Rattle.args.proofs.pair.text_at.Goals as goal

pub returns-then-end-at : goal.returns-then-end-at
returns-then-end-at c = record {
  answer = text_none c.args.s.now c.args.at c.if-end-at.true;
  told =
      or_none c.args.padded.now (text_flag_none c.args.s.now c.args.at c.if-end-at.true);
}

pub returns-then-s-at-ne-TEXT_TAG : goal.returns-then-s-at-ne-TEXT_TAG
returns-then-s-at-ne-TEXT_TAG c =
    let inside = c.if-end-at.false in record {
      answer =
          text_other c.args.s.now c.args.at inside c.if-s-at-ne-TEXT_TAG.true;
      told =
          or_none c.args.padded.now (text_flag_other c.args.s.now c.args.at c.if-s-at-ne-TEXT_TAG.true inside);
    }

pub returns : goal.returns
returns c =
    let inside = c.if-end-at.false in record {
      answer = c.alone.ensures
          ∙ text_read c.args.s.now c.args.at inside c.if-s-at-ne-TEXT_TAG.false _ c.length_value.ensures.answer;
      told = c.length_value.ensures.told
          ∙ or_same c.args.padded.now (text_flag_read c.args.s.now c.args.at c.if-s-at-ne-TEXT_TAG.false inside);
    }
