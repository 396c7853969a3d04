-- `layout::found::Found::merge` meets its contract: the list of all parts is settled as a message. Assumes nothing.
use Rattle.layout.specs.Row.{columns_of}
use Rattle.prelude.proofs.Basics.{refl}
use Rattle.layout.proofs.Names.{no_slots}
use Rattle.layout.proofs.FieldsLaws.{holds_none, settled_good}
use Rattle.layout.proofs.found.Found.merge.Goals as goal

pub returns-clause-told : goal.returns-clause-told
returns-clause-told c =
    let listed = c.list_parts-good.ensures.listed.onto no_slots refl (holds_none c.clear.ensures) in
    λ e.
    c.list_parts-good.ensures.told
    (settled_good (columns_of c.args.rows.now) listed (c.settle.ensures.message _ listed) e)
