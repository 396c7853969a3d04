-- The five stores are the row of one cursor, and a store within a row changes nothing else. Assumes nothing.
use Rattle.prelude.proofs.Basics.{arith, [], ◌∷◌}
use Rattle.session.proofs.RowLaws.{still_below}
use Rattle.session.proofs.WordLaws.{cursor_stored}
use Rattle.session.proofs.words.store_cursor.Goals as goal

pub bounds-words-at-2 : goal.bounds-words-at-2
bounds-words-at-2 c = still_below c.args.words.now _ c.args.c.id [] _ (omega arith)

pub bounds-words-at-3 : goal.bounds-words-at-3
bounds-words-at-3 c = still_below c.args.words.now _ c.args.c.id (c.args.c.stmt ∷ []) _ (omega arith)

pub bounds-words-at-4 : goal.bounds-words-at-4
bounds-words-at-4 c = still_below c.args.words.now _ c.args.c.id (c.args.c.stmt ∷ c.args.c.rows ∷ []) _ (omega arith)

pub bounds-words-at-5 : goal.bounds-words-at-5
bounds-words-at-5 c = still_below c.args.words.now _ c.args.c.id
    (c.args.c.stmt ∷ c.args.c.rows ∷ c.args.c.sent ∷ []) _
    (omega arith)

pub returns : goal.returns
returns c = cursor_stored c.args.words.now c.args.i c.requires.words_len c.requires.i_lt_max_cursors c.args.c
