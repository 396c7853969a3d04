-- The arguments of a message, in order. Execute and StmtExecute carry them in their one repeated field, each an Any.
use Rattle.std.specs.Prelude.{ℕ, zero, suc, ◌+◌, Bool, true, false, cond, List, [], ◌∷◌, Option, Some, None}
use Rattle.std.specs.Prelude.{Result, Ok, Err, length, get_or, ltb, eqb}
use Rattle.protocol.specs.Anys as Anys
use Rattle.protocol.specs.Reason.{accepted, few_arguments}
use Rattle.protocol.specs.declared.reason.Reason.{Reason}
use Rattle.wire.specs.Field.{field_at}
use Rattle.wire.specs.declared.field.Field.{Field}
use Rattle.wire.specs.declared.value.Value.{Value}
use Rattle.protocol.specs.Client as Client
use Rattle.layout.specs.Table.{rows_of}
use Rattle.layout.specs.Fields.{use_of, is_counted}
use Rattle.scalar.specs.Argument.{reason_of}
use Rattle.scalar.specs.declared.argument.Argument.{Argument}
use Rattle.scalar.specs.declared.argument.Argument.TheVariants as Va
use Rattle.args.specs.Value.{bad, argument_in}
use Rattle.args.specs.declared.kind.AnyType.{AnyType}
use Rattle.args.specs.declared.arguments.ArgPlace.{ArgPlace}
use Rattle.args.specs.declared.arguments.NextArgument.{NextArgument}
use Rattle.args.specs.declared.arguments.Arguments.{Arguments}
use Rattle.std.specs.Prelude.{Option, Some, None}

-- an args field is the one that the table calls repeated, here by the rows of an Execute; those of a StmtExecute say
-- the same (`ArgumentsRules.ArgsField`)
abbrev pub is_args : ℕ → ℕ → ℕ → Bool
is_args number wire value = is_counted (use_of (rows_of Client.execute) number wire value)

-- what looking for an args field answers: its place, none where none is left, or the reason where a field is bad
abbrev pub Sought : Type 0
Sought = Result (Option ArgPlace) Reason

abbrev pub placed_at : ℕ → ℕ → ℕ → Sought
placed_at start len next = Ok (Some (record { start = start; len = len; next = next }))

-- one field: an args field is what is looked for, and `more` goes on behind any other
abbrev pub of_field : (ℕ → Sought) → Option Field → Sought
of_field more (Some r) =
    cond (is_args r.number r.wire r.value) (placed_at r.start r.len r.next) (more r.next)
of_field more None = Err Reason.BadPayload

-- the first args field among at most `most` fields from the place `at` on
unfoldable pub place_from : ℕ → List ℕ → ℕ → Sought
place_from zero s at = Ok None
place_from (suc most) s at =
    let more = of_field (λ next. place_from most s next) (field_at s at) in
    cond (ltb at (length s)) more (Ok None)

abbrev pub arg_place : List ℕ → ℕ → Sought
arg_place s at = place_from (length s) s at

-- an args field by its value
abbrev pub place_of : Option Value → Sought
place_of (Some r) = placed_at r.start r.len r.next
place_of None = Err Reason.BadPayload

-- an argument and the place behind it
abbrev pub found_argument : Argument → ℕ → Option NextArgument
found_argument a next = Some (record { value = a; next = next })

abbrev pub of_place : List ℕ → Sought → Option NextArgument
of_place s (Ok (Some p)) = found_argument (argument_in s p.start p.len) p.next
of_place s (Ok None) = None
of_place s (Err reason) = found_argument bad (length s)

-- the next argument at or behind the place `at`; behind a bad field there is none
unfoldable pub next_argument : List ℕ → ℕ → Option NextArgument
next_argument s at = of_place s (arg_place s at)

abbrev pub and_more : (ℕ → List Argument) → Option NextArgument → List Argument
and_more more (Some found) = found.value ∷ more found.next
and_more more None = []

-- at most `most` arguments from the place `at` on: going from one to the next
unfoldable pub arguments_from : ℕ → List ℕ → ℕ → List Argument
arguments_from zero s at = []
arguments_from (suc most) s at = and_more (λ next. arguments_from most s next) (next_argument s at)

-- the arguments of a message whose bytes go from the place `from` to the end of s; each has a byte at least
abbrev pub arguments_at : List ℕ → ℕ → List Argument
arguments_at s from = arguments_from (length s) s from

-- the type of an Any: 1 scalar, 2 object, 3 array; 0 for a bad one (L7)
abbrev pub any_type_of : Argument → ℕ
any_type_of (Va.Signed z) = Anys.scalar
any_type_of (Va.Unsigned n) = Anys.scalar
any_type_of Va.Null = Anys.scalar
any_type_of (Va.Octets start len) = Anys.scalar
any_type_of (Va.Double d) = Anys.scalar
any_type_of (Va.DoubleNan n) = Anys.scalar
any_type_of (Va.Float d) = Anys.scalar
any_type_of (Va.FloatNan n) = Anys.scalar
any_type_of (Va.Bool b) = Anys.scalar
any_type_of (Va.String start len) = Anys.scalar
any_type_of Va.Object = Anys.object
any_type_of Va.Array = Anys.array
any_type_of (Va.Refused n) = Anys.none

-- the same of an Any type that is there, and of one that may be
abbrev pub number_of : AnyType → ℕ
number_of AnyType.Scalar = Anys.scalar
number_of AnyType.Object = Anys.object
number_of AnyType.Array = Anys.array

abbrev pub type_number : Option AnyType → ℕ
type_number (Some any) = number_of any
type_number None = Anys.none

abbrev pub no_arguments : ℕ → ℕ → Arguments
no_arguments start end = record { good = true; count = 0; kind = Anys.none; index = 0; start = start; end = end }

abbrev pub bad_arguments : Arguments
bad_arguments = record { good = false; count = 0; kind = Anys.none; index = 0; start = 0; end = 0 }

-- the same with one more, whose kind and index are kept where it is the first object or array
abbrev pub counted : Arguments → ℕ → ℕ → Arguments
counted x kind index =
    record { good = x.good; count = x.count + 1; kind = kind; index = index; start = x.start; end = x.end }

-- one argument more, by its Any type: a bad one spoils all
abbrev pub with_type : Arguments → ℕ → Arguments
with_type x t =
    cond (eqb t Anys.none) bad_arguments
    (cond (ltb t Anys.object) (counted x x.kind x.index)
    (cond (eqb x.kind Anys.none) (counted x t x.count) (counted x x.kind x.index)))

-- all of them, in order, up to a bad one
unfoldable pub together : Arguments → List Argument → Arguments
together x [] = x
together x (a ∷ rest) =
    let more = together (with_type x (any_type_of a)) rest in
    cond (eqb (any_type_of a) Anys.none) bad_arguments more

abbrev pub arguments_in : List ℕ → ℕ → Arguments
arguments_in s from = together (no_arguments from (length s)) (arguments_at s from)

-- as it is handed out: itself, or refused by its number, "of an object or array 8" (A6)
abbrev pub handed_out : Argument → Argument
handed_out a = cond (eqb (reason_of a) accepted) a (Va.Refused (reason_of a))

-- the number of the next argument: its own, or 9 (H9, A7)
abbrev pub next_reason : Option NextArgument → ℕ
next_reason (Some found) = reason_of found.value
next_reason None = few_arguments

-- the argument with an index, from 0: "past the last argument 9" (A6)
abbrev pub nth_argument : List ℕ → ℕ → ℕ → Argument
nth_argument s from index = handed_out (get_or (arguments_at s from) index (Va.Refused few_arguments))
