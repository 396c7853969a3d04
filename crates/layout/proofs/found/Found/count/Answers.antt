-- `layout::found::Found::count` meets its contract: the number occurs once more. Assumes nothing.
use Rattle.layout.proofs.FieldsLaws.{notes_counted}
use Rattle.layout.proofs.found.Found.count.Goals as goal

pub returns : goal.returns
returns c = λ value start. record { onto = λ x len h. notes_counted h c.args.k c.once_more.ensures value start len }
