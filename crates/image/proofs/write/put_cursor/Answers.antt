-- A free place puts nothing, a live one its numbers. Assumes nothing.
use Rattle.prelude.proofs.Basics.{◌≤◌, arith, length}
use Rattle.encode.proofs.PutsLaws.{puts_length}
use Rattle.image_rules.specs.Numbers.{bytes_of}
use Rattle.image_rules.specs.Listing.{cursor_entry}
use Rattle.image_rules.specs.Image.{cursor_numbers}
use Rattle.image_rules.specs.Image.{most_cursor}
use Rattle.image_rules.specs.private.Parts.{cursor_bytes_at}
use Rattle.image_rules.proofs.FitLaws.{cursor_short}
use Rattle.image.proofs.WriteLaws.{number_then, last_number, puts_free, puts_live}
use Rattle.image.proofs.write.put_cursor.Goals as goal

pub returns : goal.returns
returns c =
    let short : length (cursor_bytes_at c.args.place c.args.c) ≤ most_cursor =
    cursor_short c.args.place c.args.c c.requires (omega arith) (omega arith) (omega arith) (omega arith) in
    let numbers =
    number_then c.put_number-at.ensures
    (number_then c.put_number-at-2.ensures
    (number_then c.put_number-at-3.ensures
    (number_then c.put_number-at-4.ensures (last_number c.put_number.ensures)))) in
    record { put = puts_live c.if-c-eq0.false numbers.puts; short = short }

pub returns-then-c-eq0 : goal.returns-then-c-eq0
returns-then-c-eq0 c =
    let short : length (cursor_bytes_at c.args.place c.args.c) ≤ most_cursor =
    cursor_short c.args.place c.args.c c.requires (omega arith) (omega arith) (omega arith) (omega arith) in
    record {
      put = puts_free (bytes_of (cursor_numbers (cursor_entry c.args.place c.args.c))) c.if-c-eq0.true;
      short = short;
    }

pub shape_of-buf : goal.shape_of-buf
shape_of-buf c = puts_length (returns c).put
