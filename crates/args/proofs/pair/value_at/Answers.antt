-- `args::pair::value_at` meets its contract: a number or a length of one byte is that byte; the rest goes the long way.
-- Assumes nothing.
use Rattle.prelude.proofs.Basics.{sym, ◌∙◌, or_none}
use Rattle.wire.proofs.PaddedLaws.{one_flag, number_flag, length_flag}
use Rattle.args.proofs.PairLaws.{quick_number, quick_length}
use Rattle.args.proofs.pair.value_at.Goals as goal

pub returns-then-wire-eq-VARINT : goal.returns-then-wire-eq-VARINT
returns-then-wire-eq-VARINT c =
    let inside = c.if-at-n.true in record {
      answer = quick_number c.args.s.now c.args.wire c.args.at c.from-v.result inside c.from-v.ensures
          c.if-v-lt128.true c.if-wire-eq-VARINT.true;
      told = or_none c.args.padded.now
          (sym (number_flag c.args.s.now c.args.wire c.args.at c.if-wire-eq-VARINT.true)
          ∙ one_flag c.args.s.now c.args.at c.from-v.result inside c.from-v.ensures c.if-v-lt128.true);
    }

pub returns-then-len-n : goal.returns-then-len-n
returns-then-len-n c =
    let inside = c.if-at-n.true in record {
      answer = quick_length c.args.s.now c.args.wire c.args.at c.from-v.result inside c.from-v.ensures
          c.if-v-lt128.true
          c.if-wire-eq-LEN.true c.if-len-n.true;
      told = or_none c.args.padded.now
          (sym (length_flag c.args.s.now c.args.wire c.args.at c.if-wire-eq-LEN.true)
          ∙ one_flag c.args.s.now c.args.at c.from-v.result inside c.from-v.ensures c.if-v-lt128.true);
    }
