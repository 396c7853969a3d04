-- By what the row takes and whether its field is repeated.
use Rattle.prelude.proofs.Basics.{sym, ◌∙◌}
use Rattle.layout.specs.Row.{columns}
use Rattle.layout.proofs.FieldsLaws.{use_unknown, use_counted, use_kept}
use Rattle.layout.proofs.fields.use_by.Goals as goal

pub returns-then-not-takes : goal.returns-then-not-takes
returns-then-not-takes c = use_unknown (columns c.args.row) c.args.number c.args.wire c.args.value
    (sym c.takes.ensures ∙ c.if-not-takes.true)

pub returns-then-row-eq-MANY : goal.returns-then-row-eq-MANY
returns-then-row-eq-MANY c = use_counted (columns c.args.row) c.args.number c.args.wire c.args.value
    (sym c.takes.ensures ∙ c.if-not-takes.false) c.if-row-eq-MANY.true

pub returns : goal.returns
returns c = use_kept (columns c.args.row) c.args.number c.args.wire c.args.value
    (sym c.takes.ensures ∙ c.if-not-takes.false) c.if-row-eq-MANY.false
