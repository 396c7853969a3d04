-- One place a turn, each behind the one before, until no live one is left. Assumes nothing.
use Rattle.prelude.proofs.Basics.{arith, cond, ap, ◌∙◌}
use Rattle.session.specs.Entry.{no_cursor, is_live_cursor}
use Rattle.session.specs.Tables.{max_cursors}
use Rattle.session.specs.Words.{cursor_in}
use Rattle.session.proofs.BuildLaws.{get_d_build}
use Rattle.session.proofs.EntryLaws.{bit_of, bit_small}
use Rattle.encode.proofs.PutsLaws.{puts_length}
use Rattle.image_rules.specs.Listing.{cursor_entry}
use Rattle.image_rules.specs.Image.{cursor_numbers}
use Rattle.image_rules.specs.private.Parts.{cursor_bytes_at}
use Rattle.image.proofs.WriteLaws.{fills, fills_on, filled, all_filled}
use Rattle.image.proofs.write.put_cursors.Goals as goal

pub loop-i-init : goal.loop-i-init
loop-i-init c = fills c.requires

pub shape_of-buf-then-left-eq0 : goal.shape_of-buf-then-left-eq0
shape_of-buf-then-left-eq0 c = puts_length c.loop-i.invariant.put

pub returns-then-left-eq0 : goal.returns-then-left-eq0
returns-then-left-eq0 c =
    let whole = filled is_live_cursor cursor_entry cursor_numbers (cursor_in c.args.words.now) c.loop-i.invariant
    (omega (arith, c.if-left-eq0.true)) in
    record { put = whole.0; short = whole.1 }

-- where one is left one can go
pub overflow_sub-left : goal.overflow_sub-left
overflow_sub-left c = omega (arith, c.from-left.ensures, bit_small (is_live_cursor c.cursor_at-c.result), c.if-left-eq0.false)

pub loop-i-preserved : goal.loop-i-preserved
loop-i-preserved c =
    let same = c.cursor_at-c.ensures ∙ get_d_build (cursor_in c.args.words.now) max_cursors c.loop-i.i no_cursor c.loop-i-test.true in
    fills_on c.loop-i.invariant (omega (arith, c.if-left-eq0.false)) c.from-left.result
    (c.from-left.ensures ∙ bit_of (is_live_cursor c.cursor_at-c.result) ∙ ap (λ x. cond (is_live_cursor x) 1 0) same) (ap (cursor_bytes_at c.loop-i.i) same)
    (c.put_cursor-p.ensures.put, c.put_cursor-p.ensures.short)

pub shape_of-buf : goal.shape_of-buf
shape_of-buf c = puts_length c.loop-i.invariant.put

pub returns : goal.returns
returns c =
    let whole = all_filled is_live_cursor cursor_entry cursor_numbers (cursor_in c.args.words.now) c.loop-i.invariant
    c.loop-i-test.false in
    record { put = whole.0; short = whole.1 }
