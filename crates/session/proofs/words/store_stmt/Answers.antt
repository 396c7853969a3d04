-- The id and the two words of the row are one statement, and no other word is stored. Assumes nothing.
use Rattle.prelude.proofs.Basics.{arith, [], set, length-set}
use Rattle.session.proofs.RowLaws.{still_below}
use Rattle.session.proofs.WordLaws.{stmt_stored}
use Rattle.session.proofs.words.store_stmt.Goals as goal

pub bounds-words-at : goal.bounds-words-at
bounds-words-at c = omega (arith, length-set c.args.words.now c.args.i c.args.t.id)

pub bounds-words-at-2 : goal.bounds-words-at-2
bounds-words-at-2 c = still_below (set c.args.words.now c.args.i c.args.t.id) _ c.args.t.placeholders [] _
    (omega (arith, length-set c.args.words.now c.args.i c.args.t.id))

pub returns : goal.returns
returns c = stmt_stored c.args.words.now c.args.i c.args.t c.requires.words_len c.requires.i_lt_max_stmts
