-- The parts of the image stand one behind the other. Assumes nothing.
use Rattle.session.specs.Words.{session_of}
use Rattle.encode.proofs.PutsLaws.{puts_length, puts_then, puts_as}
use Rattle.image_rules.proofs.FitLaws.{image_parts, image_short}
use Rattle.image.proofs.write.put_image.Goals as goal

pub returns : goal.returns
returns c = let words = c.args.words.now in record {
  put = puts_as
      (image_parts (session_of words) c.closed.ensures c.stmt_count-stmts.ensures
      c.cursor_count-cursors.ensures)
      (puts_then c.put_varint-at.ensures
      (puts_then c.put_varint-at-2.ensures
      (puts_then c.put_varint-at-3.ensures
      (puts_then c.put_stmts-at.ensures.put
      (puts_then c.put_varint-at-4.ensures c.put_cursors.ensures.put)))));
  short = image_short words c.put_stmts-at.ensures.short c.put_cursors.ensures.short;
}

pub put_stmts-at-requires : goal.put_stmts-at-requires
put_stmts-at-requires c = c.stmt_count-stmts.ensures

pub put_cursors-requires : goal.put_cursors-requires
put_cursors-requires c = c.cursor_count-cursors.ensures

pub shape_of-buf : goal.shape_of-buf
shape_of-buf c = puts_length (returns c).put
