-- `layout::row::Row::takes` meets its contract: a slot, the number, the wire type and the value are asked in turn.
-- Assumes nothing.
use Rattle.prelude.proofs.Basics.{sym, ◌∙◌}
use Rattle.layout.specs.Row.{columns}
use Rattle.layout.proofs.RowLaws.{takes_no_slot, takes_other, takes_wire, takes_listed}
use Rattle.layout.proofs.row.Row.takes.Goals as goal

pub returns-then-number : goal.returns-then-number
returns-then-number c = takes_no_slot (columns c.args.self) c.args.number c.args.wire c.args.value c.if-number.true

pub returns-then-from-number : goal.returns-then-from-number
returns-then-from-number c = takes_other (columns c.args.self) c.args.number c.args.wire c.args.value
    c.if-number.false (λ e. c.if-from-number.true (c.from.ensures ∙ e))

pub returns-then-from-wire : goal.returns-then-from-wire
returns-then-from-wire c =
    takes_wire (columns c.args.self) c.args.number c.args.wire c.args.value c.if-number.false
    (sym c.from.ensures ∙ c.if-from-number.false)
    (λ e. c.if-from-wire.true (c.from-2.ensures ∙ e))

pub returns : goal.returns
returns c =
    c.is_listed.ensures
    ∙ takes_listed (columns c.args.self) c.args.number c.args.wire c.args.value c.if-number.false
    (sym c.from.ensures ∙ c.if-from-number.false)
    (sym c.from-2.ensures ∙ c.if-from-wire.false)
