-- What was taken, and what is left to take, is the whole; and an id whose slot was not seen is not live yet.
use Rattle.prelude.proofs.Basics.{◌*◌, arith, refl, sym, ap, ◌∙◌, Some}
use Rattle.session.specs.Entry.{new_stmt, is_live_stmt}
use Rattle.session.specs.Tables.{max_stmts}
use Rattle.session.specs.Words.{session_of}
use Rattle.image_rules.specs.Image.{stmt_width}
use Rattle.image_rules.specs.Restore.{stmt_table}
use Rattle.image.proofs.TakeLaws.{entries_few, taking_starts, taking_refuses, taking_goes_on, taking_ends}
use Rattle.image.proofs.TakeLaws.{front_broken, front_at_lem, stmt_from, stmt_entry_lem, stmt_places, all_there}
use Rattle.image.proofs.TakeLaws.{not_there}
use Rattle.image.proofs.SeenLaws.{unseen_starts, unseen_goes_on, slot_inside}
use Rattle.image.proofs.read.take_stmts.Goals as goal

pub returns-then-count-gt-MAX_STMTS : goal.returns-then-count-gt-MAX_STMTS
returns-then-count-gt-MAX_STMTS c =
    let more = c.if-count-gt-MAX_STMTS.true in
    record { read = entries_few stmt_table max_stmts stmt_places _ 0 _ _ _ (omega arith) (omega (arith, more)); kept = refl }

pub overflow_mul-count : goal.overflow_mul-count
overflow_mul-count c = omega (arith, c.if-count-gt-MAX_STMTS.false)

pub read_numbers-requires : goal.read_numbers-requires
read_numbers-requires c = omega (arith, c.if-count-gt-MAX_STMTS.false)

pub returns-in_err-end : goal.returns-in_err-end
returns-in_err-end c = record {
  read =
      rw c.from_residual.ensures
      (not_there stmt_table _ _ _ _ (front_broken _ _ c.in_err-end.was c.read_numbers.ensures.read));
  kept = refl;
}

pub loop-i-init : goal.loop-i-init
loop-i-init c =
    record {
      taking = taking_starts (all_there stmt_table _ _ _ _ _ _ (front_at_lem _ _ c.in_ok-end.was c.read_numbers.ensures.read));
      unseen = unseen_starts is_live_stmt (λ t. t.id) _ c.requires;
      kept = refl;
    }

pub bounds-seen-slot : goal.bounds-seen-slot
bounds-seen-slot c = slot_inside _

pub takes_stmt-requires : goal.takes_stmt-requires
takes_stmt-requires c = c.loop-i.invariant.unseen.none _

pub returns-then-not-takes_stmt : goal.returns-then-not-takes_stmt
returns-then-not-takes_stmt c =
    let h = c.loop-i.invariant in
    let ns = c.read_numbers.new.numbers in
    let at = stmt_width * c.loop-i.i in
    record {
      read =
          taking_refuses h.taking c.loop-i-test.true (stmt_from ns at)
          (stmt_entry_lem ns at (stmt_width * c.args.count) (omega (arith, c.loop-i-test.true))) (sym c.takes_stmt.ensures ∙ c.if-not-takes_stmt.true);
      kept = h.kept;
    }

pub bounds-seen-slot-in-loop-i : goal.bounds-seen-slot-in-loop-i
bounds-seen-slot-in-loop-i c = slot_inside _

pub overflow_add-next : goal.overflow_add-next
overflow_add-next c =
    omega (
      arith,
      (stmt_places c.loop-i.next (stmt_from c.read_numbers.new.numbers (stmt_width * c.loop-i.i)) (session_of c.loop-i.words)
          (sym c.takes_stmt.ensures ∙ c.if-not-takes_stmt.false)).1,
    )

pub loop-i-preserved : goal.loop-i-preserved
loop-i-preserved c =
    let h = c.loop-i.invariant in
    let ns = c.read_numbers.new.numbers in
    let at = stmt_width * c.loop-i.i in
    let it = stmt_from ns at in
    record {
      taking =
          taking_goes_on h.taking c.loop-i-test.true it (stmt_entry_lem ns at (stmt_width * c.args.count) (omega (arith, c.loop-i-test.true)))
          (sym c.takes_stmt.ensures ∙ c.if-not-takes_stmt.false) c.put_stmt.ensures;
      unseen =
          unseen_goes_on is_live_stmt (λ t. t.id) h.unseen (new_stmt it.id it.placeholders) refl (Some it.place)
          (ap (λ x. x.stmts) c.put_stmt.ensures);
      kept = ap (λ x. x.cursors) c.put_stmt.ensures ∙ h.kept;
    }

pub returns : goal.returns
returns c =
    let h = c.loop-i.invariant in
    record { read = taking_ends h.taking c.loop-i-test.false; kept = h.kept }
