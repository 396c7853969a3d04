-- `layout::found::Found::settle` meets its contract: a list that is not good, or lacks what is required, is no message.
-- Assumes nothing.
use Rattle.layout.specs.Row.{columns_of}
use Rattle.prelude.proofs.Basics.{sym, ◌∙◌}
use Rattle.layout.proofs.FieldsLaws.{lists_bad, lists_missing, lists_good}
use Rattle.layout.proofs.found.Found.settle.Goals as goal

pub returns-then-not-good : goal.returns-then-not-good
returns-then-not-good c = let rows = (columns_of c.args.rows.now) in
    record { message = λ x l. lists_bad rows l c.clear.ensures (c.if-not-good.true) }

pub returns-then-not-has_required : goal.returns-then-not-has_required
returns-then-not-has_required c = record {
  message = λ x l.
      lists_missing (columns_of c.args.rows.now) l c.clear-then-not-has_required.ensures (c.if-not-good.false)
      (sym c.has_required.ensures ∙ c.if-not-has_required.true);
}

pub returns : goal.returns
returns c = record {
  message = λ x l.
      lists_good (columns_of c.args.rows.now) l (c.if-not-good.false)
      (sym c.has_required.ensures ∙ c.if-not-has_required.false);
}
