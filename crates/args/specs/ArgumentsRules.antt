-- What holds of the arguments of every message beside their definition.
use Rattle.std.specs.Prelude.{ℕ, ◌+◌, ◌≤◌, true, cond, ◌&&◌, ◌≡◌, List, [], ◌∷◌, length, get_or, ltb, eqb}
use Rattle.protocol.specs.Anys as Anys
use Rattle.scalar.specs.declared.argument.Argument.{Argument}
use Rattle.layout.specs.Table.{rows_of, stmt_execute, len}
use Rattle.layout.specs.Fields.{use_of, is_counted}
use Rattle.args.specs.Value.{bad}
use Rattle.args.specs.Arguments.{is_args, place_from, arg_place, arguments_from, arguments_at, any_type_of, arguments_in}
use Rattle.args.specs.declared.arguments.Arguments.{Arguments}

-- the number of an args field
abbrev pub args_number : ℕ
args_number = 2

-- the field that the table calls repeated is the same of an Execute and of a StmtExecute: this number, with bytes
pub record ArgsField : Type 0 where
  pub alike : (number wire value : ℕ) →
      is_counted (use_of (rows_of stmt_execute) number wire value) ≡ is_args number wire value
  pub tested : (number wire value : ℕ) → is_args number wire value ≡ (eqb number args_number && eqb wire len)

-- the number of fields is no limit: any that is enough for the bytes left finds the same args field
abbrev pub EnoughFields : Type 0
EnoughFields = (most : ℕ) (s : List ℕ) (at : ℕ) → length s ≤ at + most → place_from most s at ≡ arg_place s at

-- nor is the number of arguments
abbrev pub EnoughArguments : Type 0
EnoughArguments =
    (most : ℕ) (s : List ℕ) (from : ℕ) → length s ≤ from + most → arguments_from most s from ≡ arguments_at s from

-- the place of the first object or array, from 0; where there is none, the number of arguments
abbrev pub first_other : List Argument → ℕ
first_other [] = 0
first_other (a ∷ rest) = cond (ltb (any_type_of a) Anys.object) (first_other rest + 1) 0

-- what is told of arguments: how many there are, of which type the first object or array is, and its place (A8)
pub record ToldOf (x : Arguments) (all : List Argument) : Type 0 where
  pub count : x.count ≡ length all
  pub kind : x.kind ≡ any_type_of (get_or all (first_other all) bad)
  pub index : (x.kind ≡ Anys.none → ⊥) → x.index ≡ first_other all

abbrev pub FirstTold : Type 0
FirstTold =
    (s : List ℕ) (from : ℕ) → (arguments_in s from).good ≡ true → ToldOf (arguments_in s from) (arguments_at s from)
