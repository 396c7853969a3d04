-- The count, the cursors and the end in turn.
use Rattle.prelude.proofs.Basics.{arith}
use Rattle.image.proofs.TakeLaws.{front_broken, front_at_lem}
use Rattle.image.proofs.WholeLaws.{read_broken, read_at, rest_broken, rest_refused, rest_read}
use Rattle.image.proofs.read.take_rest.Goals as goal

pub read_numbers-requires : goal.read_numbers-requires
read_numbers-requires c = omega arith

pub returns-in_err-behind : goal.returns-in_err-behind
returns-in_err-behind c =
    rw c.from_residual.ensures (rest_broken _ _ _ (front_broken _ _ c.in_err-behind.was c.read_numbers.ensures.read))

pub take_cursors-requires : goal.take_cursors-requires
take_cursors-requires c = record { by_index = c.requires.by_index; by_index_2 = c.requires.by_index_2 }

pub returns-in_err-end : goal.returns-in_err-end
returns-in_err-end c = rw c.from_residual-in_err-end.ensures (rest_refused _ _ _ c.read_numbers.new.numbers _
    (front_at_lem _ _ c.in_ok-behind.was c.read_numbers.ensures.read)
    (read_broken _ _ c.in_err-end.was c.take_cursors.ensures))

pub returns : goal.returns
returns c = rest_read _ _ _ c.read_numbers.new.numbers _
    (front_at_lem _ _ c.in_ok-behind.was c.read_numbers.ensures.read) _ _
    (read_at _ _ c.in_ok-end.was c.take_cursors.ensures) _ c.then_some.ensures
