-- What a function that reads an image comes to: the place behind what it read, with what was read beside it.
use Rattle.std.specs.Prelude.{ℕ, ◌*◌, cond, List, leb}
use Rattle.varint.specs.declared.Number.{Number}
use Rattle.varint.specs.Varint.{varint_at}
use Rattle.varint.specs.Padded.{padded_at}
use Rattle.session.specs.Session.{Session}
use Rattle.session.specs.Sound.{max_number}
use Rattle.session.specs.Tables.{max_stmts}
use Rattle.image_rules.specs.Numbers.{Front}
use Rattle.image_rules.specs.Image.{stmt_width}
use Rattle.image_rules.specs.Restore.{Reading}
use Rattle.std.specs.Prelude.{Option, Some, None}
use Rattle.varint.specs.Number.{some_number}

-- the numbers that are read at once
abbrev pub most : ℕ
most = max_stmts * stmt_width

-- the slots that ids fall into while they are read
abbrev pub slots : ℕ
slots = 256

-- one number below 2^32 in its shortest form
abbrev pub small : Option Number → Option Number
small (Some r) = cond (leb r.value max_number) (some_number r.value r.next) None
small None = None

abbrev pub number_at : List ℕ → ℕ → Option Number
number_at s at = cond (padded_at s at) None (small (varint_at s at))

abbrev pub front_to : Option ℕ → List ℕ → Front
front_to (Some next) ns = Front.numbers ns next
front_to None ns = Front.broken

abbrev pub read_to : Option ℕ → Session → Reading
read_to (Some next) x = Reading.read x next
read_to None x = Reading.broken
