-- The message texts of an Error (P6).
use Rattle.std.specs.Prelude.{ℕ, cond, List, [], ◌∷◌, ◌++◌, eqb}
use Prim.Native.Char.{code}
use Prim.Native.String.{String, [] as end, ◌∷◌ as ◌then◌}
use Rattle.protocol.specs.Anys as Anys
use Rattle.protocol.specs.Reason as Reason
use Rattle.reply.specs.Decimal.{decimal}

-- the bytes of a text in ASCII
abbrev pub ascii : String → List ℕ
ascii end = []
ascii (c then s) = code c ∷ ascii s

-- the type of an argument (L7, P6); a number that is neither reads as an object
abbrev pub kind_name : ℕ → List ℕ
kind_name kind = cond (eqb kind Anys.array) (ascii "ARRAY") (ascii "OBJECT")

-- an argument that is an object or an array, by its index and its type
abbrev pub unsupported : ℕ → ℕ → List ℕ
unsupported index kind =
    ascii "Argument at index '" ++ decimal index ++ ascii "' and of type '" ++ kind_name kind
    ++ ascii "' is not supported for binding to prepared statement"

-- the text of a refusal; `number` is the id, index or count that it names
unfoldable pub text : ℕ → ℕ → ℕ → List ℕ
text reason number kind =
    cond (eqb reason Reason.no_stmt) (ascii "Statement with ID=" ++ decimal number ++ ascii " was not prepared.")
    (cond (eqb reason Reason.not_scalar) (unsupported number kind)
    (cond (eqb reason Reason.few_arguments)
    (ascii "There is no argument for statement placeholder at position: " ++ decimal number)
    (cond (eqb reason Reason.no_cursor) (ascii "Cursor with ID=" ++ decimal number ++ ascii " was not opened.")
    (cond (eqb reason Reason.all_sent) (ascii "No more data in cursor (cursor id:'" ++ decimal number ++ ascii "')")
    (ascii "Refused (" ++ decimal reason ++ ascii ").")))))
