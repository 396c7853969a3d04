-- `varint::last_group` meets its contract: the tenth group has one bit, and must be the last. Assumes nothing.
use Rattle.prelude.proofs.Basics.{◌^◌, ◌≤◌, ◌<◌, arith, ◌≡◌, sym, ap, ◌∙◌, get_or, or_none, or_same}
use Rattle.varint.specs.Varint.{onto, low64}
use Rattle.varint.proofs.GroupLaws.{groups_end, tenth_last, tenth_more, tenth_none, tenth_over, tenth_told}
use Rattle.varint.proofs.last_group.Goals as goal

pub returns-then-s-at : goal.returns-then-s-at
returns-then-s-at c = record {
  answer =
      ap (λ x. low64 (onto c.args.low (2 ^ 63) x)) (sym (groups_end 1 c.args.s.now c.args.at c.if-s-at.true));
  told =
      or_none c.args.padded.now (tenth_none c.args.s.now c.args.at c.if-s-at.true);
}

pub returns-then-b-ge128 : goal.returns-then-b-ge128
returns-then-b-ge128 c =
    let inside = c.if-s-at.false in
    let over : 128 ≤ get_or c.args.s.now c.args.at 0 =
    omega (arith, c.from-b.ensures, c.if-b-ge128.true) in record {
      answer =
          tenth_more c.args.low c.args.s.now c.args.at inside over;
      told =
          or_none c.args.padded.now (tenth_over c.args.low c.args.s.now c.args.at inside over);
    }

pub returns : goal.returns
returns c =
    let e : c.from-b.result ≡ get_or c.args.s.now c.args.at 0 = c.from-b.ensures in
    let inside = c.if-s-at.false in
    let low : get_or c.args.s.now c.args.at 0 < 128 = omega arith in record {
      answer =
          rw e (tenth_last c.args.low c.args.s.now c.args.at inside low c.requires);
      told =
          c.mark.ensures ∙ or_same c.args.padded.now (rw e (tenth_told c.args.low c.args.s.now c.args.at inside low));
    }
