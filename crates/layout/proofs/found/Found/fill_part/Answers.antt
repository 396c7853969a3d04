-- `layout::found::Found::fill_part` meets its contract: a part that is not within the bytes is refused, any other is
-- filled as a message is. Assumes nothing.
use Rattle.layout.specs.Row.{columns_of}
use Rattle.prelude.proofs.Basics.{◌+◌, arith, or_none}
use Rattle.layout.proofs.PaddedLaws.{padded_outside}
use Rattle.layout.proofs.PartLaws.{holds_past}
use Rattle.layout.proofs.found.Found.fill_part.Goals as goal

pub returns-then-s-start : goal.returns-then-s-start
returns-then-s-start c = record {
  holds = holds_past (columns_of c.args.rows.now) c.args.s.now c.args.start c.args.len (omega (
    arith,
    c.if-s-start.true,
  )) c.clear.ensures;
  told = or_none c.args.padded.now
      (padded_outside c.args.s.now c.args.start (c.args.start + c.args.len) (omega (arith, c.if-s-start.true)));
}

pub returns-then-s-start-2 : goal.returns-then-s-start-2
returns-then-s-start-2 c = record {
  holds = holds_past (columns_of c.args.rows.now) c.args.s.now c.args.start c.args.len
      (omega (arith, c.if-s-start.false, c.if-s-start-2.true)) c.clear-then-s-start-2.ensures;
  told = or_none c.args.padded.now
      (padded_outside c.args.s.now c.args.start (c.args.start + c.args.len)
      (omega (arith, c.if-s-start.false, c.if-s-start-2.true)));
}

pub returns : goal.returns
returns c = record { holds = c.fill_fields.ensures.holds; told = c.fill_fields.ensures.told }
