-- The row that is found decides; a number that no row has is unknown.
use Rattle.prelude.proofs.Basics.{ℕ, sym, ap, ◌∙◌, List}
use Rattle.layout.proofs.Names.{use_by}
use Rattle.layout.proofs.RowLaws.{row_hit, row_miss, row_end}
use Rattle.layout.proofs.FieldsLaws.{use_none}
use Rattle.layout.proofs.fields.use_of.Goals as goal

pub returns-then-from-number : goal.returns-then-from-number
returns-then-from-number c = let l = c.loop-row in
    c.use_by.ensures
    ∙ ap (λ (row : List ℕ). use_by row c.args.number c.args.wire c.args.value)
    (row_hit c.args.rows.now c.args.number l.row-index c.loop-row-test.true
    (sym c.from.ensures ∙ c.if-from-number.true)
    ∙ l.invariant)

pub loop-row-preserved : goal.loop-row-preserved
loop-row-preserved c = let l = c.loop-row in
    row_miss c.args.rows.now c.args.number l.row-index c.loop-row-test.true
    (λ e. c.if-from-number.false (c.from.ensures ∙ e))
    ∙ l.invariant

pub returns : goal.returns
returns c = let l = c.loop-row in
    use_none c.args.number c.args.wire c.args.value c.requires
    ∙ ap (λ (row : List ℕ). use_by row c.args.number c.args.wire c.args.value)
    (row_end c.args.rows.now c.args.number l.row-index c.loop-row-test.false ∙ l.invariant)
