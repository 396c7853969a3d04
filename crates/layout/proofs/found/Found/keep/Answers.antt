-- `layout::found::Found::keep` meets its contract: the number occurs once more, and this time counts. Assumes nothing.
use Rattle.layout.proofs.FieldsLaws.{notes_kept}
use Rattle.layout.proofs.found.Found.keep.Goals as goal

pub returns : goal.returns
returns c =
    record { onto = λ x len h. notes_kept h c.args.k c.once_more.ensures c.args.value c.args.start len }
