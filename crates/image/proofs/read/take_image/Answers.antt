-- The head, the statements and the rest in turn.
use Rattle.prelude.proofs.Basics.{arith, sym, ap, ◌∙◌, get_or}
use Rattle.session.specs.Lists.{how_many}
use Rattle.session.specs.Entry.{is_stmt, is_cursor, on_stmt}
use Rattle.image_rules.proofs.ImageLaws.{begun_none, begun_no_cursor, begun_none_on}
use Rattle.image.proofs.TakeLaws.{front_broken, front_at_lem}
use Rattle.image.proofs.WholeLaws.{read_broken, read_at, whole_broken, whole_head, whole_refused, whole_read}
use Rattle.image.proofs.read.take_image.Goals as goal

pub read_numbers-requires : goal.read_numbers-requires
read_numbers-requires c = omega arith

pub returns-in_err-at : goal.returns-in_err-at
returns-in_err-at c =
    rw c.from_residual.ensures (whole_broken _ (front_broken _ _ c.in_err-at.was c.read_numbers.ensures.read))

pub returns-then-not-is_head : goal.returns-then-not-is_head
returns-then-not-is_head c = whole_head _ c.read_numbers.new.numbers _
    (front_at_lem _ _ c.in_ok-at.was c.read_numbers.ensures.read)
    (sym c.is_head.ensures ∙ c.if-not-is_head.true)

pub begin-requires : goal.begin-requires
begin-requires c = c.requires

-- no statement is live before the first is taken
pub take_stmts-requires : goal.take_stmts-requires
take_stmts-requires c = λ id. ap (λ s. how_many (is_stmt id) s.stmts) c.begin.ensures
    ∙ begun_none (get_or c.read_numbers.new.numbers 1 0) id

pub returns-in_err-after : goal.returns-in_err-after
returns-in_err-after c = rw c.from_residual-in_err-after.ensures (whole_refused _ c.read_numbers.new.numbers _
    (front_at_lem _ _ c.in_ok-at.was c.read_numbers.ensures.read)
    (sym c.is_head.ensures ∙ c.if-not-is_head.false) _ c.begin.ensures
    (read_broken _ _ c.in_err-after.was c.take_stmts.ensures.read))

-- and no cursor, before and after the statements are taken
pub take_rest-requires : goal.take_rest-requires
take_rest-requires c = let closed = get_or c.read_numbers.new.numbers 1 0 in
    let same = c.take_stmts.ensures.kept ∙ ap (λ s. s.cursors) c.begin.ensures in record {
      by_index =
          λ id. ap (λ cs. how_many (is_cursor id) cs) same ∙ begun_no_cursor closed id;
      by_index_2 =
          λ id. ap (λ cs. how_many (on_stmt id) cs) same ∙ begun_none_on closed id;
    }

pub returns : goal.returns
returns c = whole_read _ c.read_numbers.new.numbers _
    (front_at_lem _ _ c.in_ok-at.was c.read_numbers.ensures.read)
    (sym c.is_head.ensures ∙ c.if-not-is_head.false) _ c.begin.ensures _ _
    (read_at _ _ c.in_ok-after.was c.take_stmts.ensures.read) c.take_rest.ensures
