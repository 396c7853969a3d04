-- A message with arguments in one pass: an Execute or a StmtExecute. Its fields 1 and 3, of which field 1 is required,
-- and its arguments. For contracts inside the library; what is promised does not cite it.
use Rattle.std.specs.Prelude.{ℕ, ◌+◌, Bool, true, false, cond, List, Option, Some, None}
use Rattle.std.specs.Prelude.{length, take, leb, eqb}
use Rattle.protocol.specs.WireType as WireType
use Rattle.protocol.specs.Client as Client
use Rattle.protocol.specs.Fields as Fields
use Rattle.layout.specs.Table.{rows_of, stmt_execute}
use Rattle.layout.specs.Fields.{field_list}
use Rattle.layout.specs.declared.slots.Slots.{Slots}
use Rattle.layout.specs.Part.{absent, value_of}
use Rattle.args.specs.Arguments.{arguments_in}
use Rattle.args.specs.declared.arguments.Arguments.{Arguments}
use Rattle.args.specs.declared.bound.Message.{Message}
use Rattle.args.specs.declared.bound.Own.{Own}
use Rattle.args.specs.declared.bound.Bound.{Bound}

abbrev pub is_text : Message → Bool
is_text Message.Execute = false
is_text Message.StmtExecute = true

-- `text` says which: a StmtExecute has a text in field 1, an Execute a number; their fields 3 are of the same wire type
abbrev pub rows_by : Bool → List (List ℕ)
rows_by true = rows_of stmt_execute
rows_by false = rows_of Client.execute

abbrev pub wire_by : Bool → ℕ
wire_by text = cond text WireType.len WireType.varint

-- the number of an args field
abbrev pub args_field : ℕ
args_field = Fields.args

abbrev pub tests_args : ℕ → ℕ → Bool
tests_args number wire = cond (eqb number args_field) (eqb wire WireType.len) false

-- nothing found yet, and one field more
abbrev pub nothing : Own
nothing = record { one = None; three = None }

abbrev pub with_field : Own → ℕ → ℕ → ℕ → ℕ → Own
with_field k own number wire value =
    cond (eqb wire own)
    (cond (eqb number Fields.id) (record { one = Some value; three = k.three })
    (cond (eqb number Fields.compact) (record { one = k.one; three = Some value }) k))
    k

-- what the slots hold of it: the value of a field that occurs
abbrev pub kept_in : Slots → ℕ → Option ℕ
kept_in x k = cond (absent x k) None (Some (value_of x k))

abbrev pub own_of : Slots → Own
own_of x = record { one = kept_in x Fields.id; three = kept_in x Fields.compact }

abbrev pub found : Own → Arguments → Bound
found k a = record { count = a.count; one = k.one; kind = a.kind; three = k.three; index = a.index }

unfoldable pub bound_of : Slots → Arguments → Option Bound
bound_of x a = cond x.good (cond a.good (Some (found (own_of x) a)) None) None

-- the message whose bytes go from the place `from` to the end of s
abbrev pub bound_at : Bool → List ℕ → ℕ → Option Bound
bound_at text s from = bound_of (field_list (rows_by text) s from) (arguments_in s from)

-- in n bytes of s from the place `at` on
unfoldable pub bound_in : Bool → List ℕ → ℕ → ℕ → Option Bound
bound_in text s at n = cond (leb (at + n) (length s)) (bound_at text (take (at + n) s) at) None

-- the arguments of a good message
abbrev pub args_of : Bound → ℕ → ℕ → Arguments
args_of b start end =
    record { good = true; count = b.count; kind = b.kind; index = b.index; start = start; end = end }
