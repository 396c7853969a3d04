-- `varint::read_short` meets its contract: a byte below 128 is the last, and two such groups are the number; all else
-- goes the long way. Assumes nothing.
use Rattle.prelude.proofs.Basics.{◌+◌, arith, ◌≡◌, sym, ap, ◌∙◌, length, get_or, take-length, or_none}
use Rattle.prelude.proofs.Basics.{or_same}
use Rattle.varint.proofs.GroupLaws.{varint_one, varint_none, varint_cut, varint_two}
use Rattle.varint.proofs.FlagLaws.{padded_none, padded_one, padded_cut, padded_two, behind_answer, behind_flag}
use Rattle.varint.proofs.read_short.Goals as goal

pub returns-then-n-at : goal.returns-then-n-at
returns-then-n-at c = record {
  answer = varint_none c.args.s.now c.args.at c.if-n-at.true;
  told =
      or_none c.args.padded.now (padded_none c.args.s.now c.args.at c.if-n-at.true);
}

pub returns-then-low-lt128 : goal.returns-then-low-lt128
returns-then-low-lt128 c =
    let inside = c.if-n-at.false in
    let low = rw c.from-low.ensures at c.if-low-lt128.true in record {
      answer =
          rw c.from-low.ensures (varint_one c.args.s.now c.args.at inside low);
      told =
          or_none c.args.padded.now (padded_one c.args.s.now c.args.at inside low);
    }

pub returns-then-n-at-lt2 : goal.returns-then-n-at-lt2
returns-then-n-at-lt2 c =
    let inside = c.if-n-at.false in record {
      answer = varint_cut c.args.s.now c.args.at c.from-low.result inside c.from-low.ensures
          c.if-low-lt128.false
          c.if-n-at-lt2.true;
      told = or_none c.args.padded.now (padded_cut c.args.s.now c.args.at inside
          ((rw c.from-low.ensures at c.if-low-lt128.false)) c.if-n-at-lt2.true);
    }

pub returns-then-high-lt128 : goal.returns-then-high-lt128
returns-then-high-lt128 c =
    let s = c.args.s.now in
    let inside = c.if-n-at.false in
    let two = c.if-n-at-lt2.false in
    let high : c.from-high.result ≡ get_or s (c.args.at + 1) 0 = c.from-high.ensures in record {
      answer = varint_two s c.args.at c.from-low.result inside c.from-low.ensures c.if-low-lt128.false
          c.from-high.result high two c.if-high-lt128.true;
      told = c.mark.ensures
          ∙ or_same c.args.padded.now
          (rw high
          (padded_two s c.args.at inside ((rw c.from-low.ensures at c.if-low-lt128.false))
          (omega (arith, c.type_inv.s c.args.at))
          (omega arith) (rw high at c.if-high-lt128.true)));
    }

pub slice_bounds-read_behind-end : goal.slice_bounds-read_behind-end
slice_bounds-read_behind-end c = sym (ap length (take-length c.args.s.now))

pub returns : goal.returns
returns c =
    let s = c.args.s.now in
    let inside = c.if-n-at.false in record {
      answer = c.read_behind.ensures.answer
          ∙ behind_answer s c.args.at inside ((rw c.from-low.ensures at c.if-low-lt128.false))
          (take-length s);
      told = c.read_behind.ensures.told ((rw c.from-low.ensures at c.if-low-lt128.false))
          ∙ or_same c.args.padded.now (behind_flag s c.args.at inside
          ((rw c.from-low.ensures at c.if-low-lt128.false)) (take-length s));
    }
