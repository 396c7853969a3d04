-- What a draft may hold (C3, C4, C5): arguments come as one stretch of good args fields, tags included, and nothing
-- else; a Prepare's body is handed in encoded, with its type.
use Rattle.std.specs.Prelude.{ℕ, zero, suc, Bool, true, false, not, cond, ◌||◌, List, length, ltb, eqb}
use Rattle.wire.specs.Field.{field_at}
use Rattle.wire.specs.declared.field.Field.{Field}
use Rattle.scalar.specs.declared.argument.Argument.{Argument}
use Rattle.protocol.specs.Client as Client
use Rattle.args.specs.Value.{argument_in}
use Rattle.args.specs.Arguments.{is_args, any_type_of}
use Rattle.message.specs.Operation as Operation
use Rattle.message.specs.Prepare.{body_in}
use Rattle.writer.specs.declared.Draft.{Draft}
use Rattle.std.specs.Prelude.{Option, Some, None}

-- an argument that the reader takes; objects and arrays are well encoded too
abbrev pub is_good : Argument → Bool
is_good a = not (eqb (any_type_of a) 0)

-- one field of a stretch: an args field that holds a good argument, and `more` behind it
abbrev pub on_arg : List ℕ → (ℕ → Bool) → Option Field → Bool
on_arg s more (Some r) =
    cond (is_args r.number r.wire r.value) (cond (is_good (argument_in s r.start r.len)) (more r.next) false) false
on_arg s more None = false

-- at most `most` fields from the place `at` on, up to the end of s
unfoldable pub args_from : ℕ → List ℕ → ℕ → Bool
args_from zero s at = true
args_from (suc most) s at =
    let more = on_arg s (λ next. args_from most s next) (field_at s at) in
    cond (ltb at (length s)) more true

-- a field has a byte at least, so there are no more fields than bytes
abbrev pub good_stretch : List ℕ → Bool
good_stretch s = args_from (length s) s 0

-- the types of a Prepare's statement
abbrev pub is_type : ℕ → Bool
is_type t =
    eqb t Operation.find || eqb t Operation.insert || eqb t Operation.update || eqb t Operation.delete || eqb t
    Operation.stmt_execute

-- a body by the reader's rules: a good StmtExecute, or of any other type a good field list
abbrev pub good_body : ℕ → List ℕ → Bool
good_body t body = (body_in body t 0 (length body)).good

abbrev pub good_prepare : ℕ → List ℕ → Bool
good_prepare t body = cond (is_type t) (good_body t body) false

-- a draft of this kind can be written, its length apart. `body` and the type count for a Prepare alone, `args` for
-- Execute and Open alone; a kind that is none of the eight cannot be written
unfoldable pub accepted_as : ℕ → ℕ → List ℕ → List ℕ → Bool
accepted_as kind operation body args =
    cond (eqb kind Client.reset) true
    (cond (eqb kind Client.session_close) true
    (cond (eqb kind Client.prepare) (good_prepare operation body)
    (cond (eqb kind Client.execute) (good_stretch args)
    (cond (eqb kind Client.deallocate) true
    (cond (eqb kind Client.open') (good_stretch args)
    (cond (eqb kind Client.close) true (cond (eqb kind Client.fetch) true false)))))))

abbrev pub accepted : Draft → List ℕ → List ℕ → Bool
accepted d body args = accepted_as d.kind d.operation body args
