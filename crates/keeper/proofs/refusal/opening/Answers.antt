-- A cursor of another id is refused first; else the place decides. Assumes nothing.
use Rattle.prelude.proofs.Basics.{◌∙◌}
use Rattle.keeper.proofs.ReasonLaws.{opening_other, opening_same, opening_none}
use Rattle.keeper.proofs.refusal.opening.Goals as goal
use Rattle.keeper.proofs.refusal.opening.Goals.{else-carried-ne0-via-then-carried-ne0+else-carried-id}
use Rattle.keeper.proofs.refusal.opening.Goals.{else-carried-ne0-via-else-carried-ne0}

pub returns-then-carried-id : goal.returns-then-carried-id
returns-then-carried-id c =
    opening_other c.args.id c.args.carried c.args.place c.if-carried-ne0.true c.if-carried-id.true

pub returns : goal.returns
returns c =
    c.room.ensures
    ∙ elim c.else-carried-ne0.branch [
      | else-carried-ne0-via-then-carried-ne0+else-carried-id w ↦
          opening_same c.args.id c.args.carried c.args.place w.if-carried-id.false
      | else-carried-ne0-via-else-carried-ne0 w ↦
          opening_none c.args.id c.args.carried c.args.place w.if-carried-ne0.false
    ]
