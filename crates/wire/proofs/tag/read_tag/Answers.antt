-- A tag of one byte is judged by that byte; the rest goes the long way.
use Rattle.prelude.proofs.Basics.{◌≤◌, sym, ap, ◌∙◌, length, get_or, take-length, or_none, or_same}
use Rattle.varint.proofs.FlagLaws.{behind_answer, behind_flag}
use Rattle.wire.proofs.Names.{padded_none, tag_of}
use Rattle.wire.proofs.FieldLaws.{short_low, short_unlisted, short_good}
use Rattle.wire.proofs.TagLaws.{tag_none}
use Rattle.wire.proofs.PaddedLaws.{one_flag}
use Rattle.wire.proofs.tag.read_tag.Goals as goal

pub returns-then-n-at : goal.returns-then-n-at
returns-then-n-at c = record {
  answer = tag_none c.args.s.now c.args.at c.if-n-at.true;
  told =
      or_none c.args.padded.now (padded_none c.args.s.now c.args.at c.if-n-at.true);
}

pub slice_bounds-long_tag-end : goal.slice_bounds-long_tag-end
slice_bounds-long_tag-end c = sym (ap length (take-length c.args.s.now))

pub returns-then-tag-ge128 : goal.returns-then-tag-ge128
returns-then-tag-ge128 c =
    let s = c.args.s.now in
    let inside = c.if-n-at.false in
    let more : 128 ≤ get_or s c.args.at 0 = rw c.from-tag.ensures at c.if-tag-ge128.true in record {
      answer =
          c.long_tag.ensures.answer ∙ ap tag_of (behind_answer s c.args.at inside more (take-length s));
      told =
          c.long_tag.ensures.told more ∙ or_same c.args.padded.now (behind_flag s c.args.at inside more
          (take-length s));
    }

pub returns-then-tag-lt8 : goal.returns-then-tag-lt8
returns-then-tag-lt8 c =
    record {
      answer = short_low c.args.s.now c.args.at c.from-tag.result c.if-n-at.false c.from-tag.ensures
          c.if-tag-ge128.false
          c.if-tag-lt8.true;
      told = (
          or_none c.args.padded.now
          (one_flag c.args.s.now c.args.at c.from-tag.result c.if-n-at.false c.from-tag.ensures
          c.if-tag-ge128.false));
    }

pub returns-then-tag-ge6 : goal.returns-then-tag-ge6
returns-then-tag-ge6 c =
    record {
      answer = short_unlisted c.args.s.now c.args.at c.from-tag.result c.if-n-at.false c.from-tag.ensures
          c.if-tag-ge128.false
          c.if-tag-lt8.false c.if-tag-ge6.true;
      told = (
          or_none c.args.padded.now
          (one_flag c.args.s.now c.args.at c.from-tag.result c.if-n-at.false c.from-tag.ensures
          c.if-tag-ge128.false));
    }

pub returns : goal.returns
returns c =
    record {
      answer = short_good c.args.s.now c.args.at c.from-tag.result c.if-n-at.false c.from-tag.ensures
          c.if-tag-ge128.false
          c.if-tag-lt8.false c.if-tag-ge6.false;
      told = (
          or_none c.args.padded.now
          (one_flag c.args.s.now c.args.at c.from-tag.result c.if-n-at.false c.from-tag.ensures
          c.if-tag-ge128.false));
    }
