-- `varint::read_varint` meets its contract: a byte below 128 is the number, all else goes the long way. Assumes
-- nothing.
use Rattle.prelude.proofs.Basics.{◌≤◌, sym, ap, ◌∙◌, length, get_or, take-length, or_none, or_same}
use Rattle.varint.proofs.GroupLaws.{varint_one, varint_none}
use Rattle.varint.proofs.FlagLaws.{padded_none, padded_one, behind_answer, behind_flag}
use Rattle.varint.proofs.read_varint.Goals as goal

pub returns-then-n-at : goal.returns-then-n-at
returns-then-n-at c = record {
  answer = varint_none c.args.s.now c.args.at c.if-n-at.true;
  told =
      or_none c.args.padded.now (padded_none c.args.s.now c.args.at c.if-n-at.true);
}

pub returns-then-b-lt128 : goal.returns-then-b-lt128
returns-then-b-lt128 c =
    let inside = c.if-n-at.false in
    let low = rw c.from-b.ensures at c.if-b-lt128.true in record {
      answer =
          rw c.from-b.ensures (varint_one c.args.s.now c.args.at inside low);
      told =
          or_none c.args.padded.now (padded_one c.args.s.now c.args.at inside low);
    }

pub slice_bounds-read_behind-end : goal.slice_bounds-read_behind-end
slice_bounds-read_behind-end c = sym (ap length (take-length c.args.s.now))

pub returns : goal.returns
returns c =
    let s = c.args.s.now in
    let inside = c.if-n-at.false in
    let more : 128 ≤ get_or s c.args.at 0 = rw c.from-b.ensures at c.if-b-lt128.false in record {
      answer =
          c.read_behind.ensures.answer ∙ behind_answer s c.args.at inside more (take-length s);
      told =
          c.read_behind.ensures.told more
          ∙ or_same c.args.padded.now (behind_flag s c.args.at inside more (take-length s));
    }
