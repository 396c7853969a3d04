-- The first place that is found is the first of all. Assumes nothing.
use Rattle.std.proofs.Common.{tests}
use Rattle.prelude.proofs.Basics.{rules}
use Rattle.session.specs.Entry.{free_cursor}
use Rattle.session.proofs.Names.{max_cursors, cursor_in}
use Rattle.session.proofs.LoopLaws.{finds}
use Rattle.session.proofs.find.free_cursor.Goals as goal

pub returns : goal.returns
returns c =
    finds free_cursor (cursor_in c.args.words.now) 0 max_cursors _ _ c.find.result c.find.ensures.ran
    (λ x b q k. search (rules, tests))
