-- 7, 8, 9 of its statement come first; then its cursor's 12 and 14. Assumes nothing.
use Rattle.prelude.proofs.Basics.{refl, ap, ◌∙◌}
use Rattle.protocol.specs.Reason.{outcome_number}
use Rattle.keeper.proofs.Names.{session_of}
use Rattle.protocol.proofs.ReasonLaws.{some_reason}
use Rattle.keeper.proofs.ResultLaws.{handed_on}
use Rattle.keeper.proofs.ReasonLaws.{open_bound, open_carried}
use Rattle.keeper.proofs.refusal.open.Goals as goal

pub returns-in_err-binding : goal.returns-in_err-binding
returns-in_err-binding c =
    ap outcome_number (handed_on _ _ c.from_residual.ensures)
    ∙ open_bound (session_of c.args.words.now) c.args.o c.find_stmt-at.result c.stmt_at.result _
    c.find_stmt-at.ensures c.stmt_at.ensures c.in_err-binding.ensures (some_reason _)

pub returns : goal.returns
returns c =
    open_carried (session_of c.args.words.now) c.args.o c.find_stmt-at.result c.stmt_at.result _
    c.find_stmt-at.ensures c.stmt_at.ensures c.in_ok-binding.ensures refl
    c.find_on-on.result c.args.place c.cursor_at.result _
    c.find_on-on.ensures c.cursor_at.ensures c.requires c.opening.ensures
