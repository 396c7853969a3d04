-- One word of one row is stored. Assumes nothing.
use Rattle.session.proofs.WordLaws.{sent_stored}
use Rattle.session.proofs.words.store_sent.Goals as goal

pub returns : goal.returns
returns c = sent_stored c.args.words.now c.args.i c.requires.words_len c.requires.i_lt_max_cursors c.args.sent
