-- What was taken, and what is left to take, is the whole; and what was not seen is not live yet.
use Rattle.prelude.proofs.Basics.{◌*◌, arith, refl, sym, ap, ◌∙◌, Some}
use Rattle.session.specs.Entry.{new_cursor, is_live_cursor}
use Rattle.session.specs.Tables.{max_cursors}
use Rattle.session.specs.Words.{session_of}
use Rattle.image_rules.specs.Image.{cursor_width}
use Rattle.image_rules.specs.Restore.{cursor_table}
use Rattle.image.proofs.TakeLaws.{entries_few, taking_starts, taking_refuses, taking_goes_on, taking_ends}
use Rattle.image.proofs.TakeLaws.{front_broken, front_at_lem, cursor_from, cursor_entry_lem, cursor_places, all_there}
use Rattle.image.proofs.TakeLaws.{not_there}
use Rattle.image.proofs.SeenLaws.{unseen_starts, unseen_goes_on, slot_inside}
use Rattle.image.proofs.read.take_cursors.Goals as goal

pub returns-then-count-gt-MAX_CURSORS : goal.returns-then-count-gt-MAX_CURSORS
returns-then-count-gt-MAX_CURSORS c =
    entries_few cursor_table max_cursors cursor_places _ 0 _ _ _ (omega arith) (omega (arith, c.if-count-gt-MAX_CURSORS.true))

pub overflow_mul-count : goal.overflow_mul-count
overflow_mul-count c = omega (arith, c.if-count-gt-MAX_CURSORS.false)

pub read_numbers-requires : goal.read_numbers-requires
read_numbers-requires c = omega (arith, c.if-count-gt-MAX_CURSORS.false)

pub returns-in_err-end : goal.returns-in_err-end
returns-in_err-end c =
    rw c.from_residual.ensures
    (not_there cursor_table _ _ _ _ (front_broken _ _ c.in_err-end.was c.read_numbers.ensures.read))

pub loop-i-init : goal.loop-i-init
loop-i-init c =
    record {
      taking = taking_starts (all_there cursor_table _ _ _ _ _ _ (front_at_lem _ _ c.in_ok-end.was c.read_numbers.ensures.read));
      ids = unseen_starts is_live_cursor (λ c. c.id) _ c.requires.by_index;
      stmts = unseen_starts is_live_cursor (λ c. c.stmt) _ c.requires.by_index_2;
    }

pub bounds-ids-own : goal.bounds-ids-own
bounds-ids-own c = slot_inside _

pub bounds-stmts-on : goal.bounds-stmts-on
bounds-stmts-on c = slot_inside _

pub takes_cursor-requires : goal.takes_cursor-requires
takes_cursor-requires c =
    record { words_value = c.loop-i.invariant.ids.none _; words_value_2 = c.loop-i.invariant.stmts.none _ }

pub returns-then-not-takes_cursor : goal.returns-then-not-takes_cursor
returns-then-not-takes_cursor c =
    let ns = c.read_numbers.new.numbers in
    let at = cursor_width * c.loop-i.i in
    taking_refuses c.loop-i.invariant.taking c.loop-i-test.true (cursor_from ns at)
    (cursor_entry_lem ns at (cursor_width * c.args.count) (omega (arith, c.loop-i-test.true))) (sym c.takes_cursor.ensures ∙ c.if-not-takes_cursor.true)

pub bounds-ids-own-in-loop-i : goal.bounds-ids-own-in-loop-i
bounds-ids-own-in-loop-i c = slot_inside _

pub bounds-stmts-on-in-loop-i : goal.bounds-stmts-on-in-loop-i
bounds-stmts-on-in-loop-i c = slot_inside _

pub overflow_add-next : goal.overflow_add-next
overflow_add-next c =
    omega (
      arith,
      (cursor_places c.loop-i.next (cursor_from c.read_numbers.new.numbers (cursor_width * c.loop-i.i))
          (session_of c.loop-i.words) (sym c.takes_cursor.ensures ∙ c.if-not-takes_cursor.false)).1,
    )

pub loop-i-preserved : goal.loop-i-preserved
loop-i-preserved c =
    let h = c.loop-i.invariant in
    let ns = c.read_numbers.new.numbers in
    let at = cursor_width * c.loop-i.i in
    let it = cursor_from ns at in
    let new = new_cursor it.id it.stmt it.rows it.sent in
    let put = ap (λ x. x.cursors) c.put_cursor.ensures in
    record {
      taking =
          taking_goes_on h.taking c.loop-i-test.true it (cursor_entry_lem ns at (cursor_width * c.args.count) (omega (arith, c.loop-i-test.true)))
          (sym c.takes_cursor.ensures ∙ c.if-not-takes_cursor.false) c.put_cursor.ensures;
      ids = unseen_goes_on is_live_cursor (λ c. c.id) h.ids new refl (Some it.place) put;
      stmts = unseen_goes_on is_live_cursor (λ c. c.stmt) h.stmts new refl (Some it.place) put;
    }

pub returns : goal.returns
returns c = taking_ends c.loop-i.invariant.taking c.loop-i-test.false
