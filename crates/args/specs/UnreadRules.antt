-- What an Any and a Scalar do not choose is not read, in whichever part it stands: other bytes of the same length there
-- change no argument (L10).
use Rattle.std.specs.Prelude.{ℕ, ◌+◌, Bool, true, cond, ◌≡◌, List, take}
use Rattle.wire.specs.Field.{field_at}
use Rattle.layout.specs.SameBut.{SameBut}
use Rattle.layout.specs.Reaches.{Reaches}
use Rattle.layout.specs.Table.{rows_of, any, scalar, len}
use Rattle.layout.specs.Unchosen.{PartOf, InnerPart}
use Rattle.layout.specs.Merged.{end_of, merged}
use Rattle.layout.specs.declared.part.Part.{Part}
use Rattle.layout.specs.declared.slots.Slots.{Slots}
use Rattle.layout.specs.Part.{embedded, value_of, low32}
use Rattle.args.specs.Value.{scalar_parts, argument_in}
use Rattle.args.specs.Arguments.{is_args, arguments_at}
use Rattle.wire.specs.Field.{some_field}

-- the type that a message names in field 1
abbrev pub type_in : Slots → ℕ
type_in x = low32 (value_of x 1)

-- the Scalar of the Any in n bytes of s from the place `at` on, from all its parts
abbrev pub scalar_at : List ℕ → ℕ → ℕ → Slots
scalar_at s at n = merged (rows_of scalar) s (scalar_parts s at n)

-- an Any that is no scalar reads no part of its scalar, field 2
abbrev pub AnyUnread : Type 0
AnyUnread =
    (s t : List ℕ) (at n : ℕ) (p : Part) →
    (type_in (embedded (rows_of any) s at n) ≡ 1 → ⊥) →
    PartOf 2 (take (at + n) s) at p →
    SameBut s t p.start (end_of p) → argument_in t at n ≡ argument_in s at n

-- a Scalar that is no octets (type 4) reads no part of field 5, and one that is no string (type 8) none of field 9,
-- whichever part of the scalar it stands in
abbrev pub ScalarUnread : Type 0
ScalarUnread =
    (s t : List ℕ) (at n : ℕ) (octets : Bool) (p q : Part) →
    (type_in (scalar_at s at n) ≡ cond octets 4 8 → ⊥) →
    InnerPart 2 (cond octets 5 9) (take (at + n) s) at p q →
    SameBut s t q.start (end_of q) → argument_in t at n ≡ argument_in s at n

-- s and t differ only in the bytes of one field of the message between two places; an argument there reads alike
pub record OneField (s t : List ℕ) (from to : ℕ) : Type 0 where
  pub place : ℕ
  pub number : ℕ
  pub value : ℕ
  pub start : ℕ
  pub n : ℕ
  pub next : ℕ
  pub reached : Reaches (take to s) from place
  pub field : field_at (take to s) place ≡ some_field number len value start n next
  pub same : SameBut s t start (start + n)
  pub alike : is_args number len value ≡ true → argument_in (take to t) start n ≡ argument_in (take to s) start n

-- the arguments of a message depend on the bytes of one of its fields only as far as that argument does
abbrev pub ListUnread : Type 0
ListUnread =
    (s t : List ℕ) (from p number value start n next : ℕ) →
    Reaches s from p →
    field_at s p ≡ some_field number len value start n next →
    SameBut s t start (start + n) →
    (is_args number len value ≡ true → argument_in t start n ≡ argument_in s start n) →
    arguments_at t from ≡ arguments_at s from

-- such are the bytes of a part of the scalar of an args field that is an object or an array
pub record ObjectField (s t : List ℕ) (from to : ℕ) : Type 0 where
  pub place : ℕ
  pub number : ℕ
  pub value : ℕ
  pub start : ℕ
  pub n : ℕ
  pub next : ℕ
  pub part : Part
  pub reached : Reaches (take to s) from place
  pub field : field_at (take to s) place ≡ some_field number len value start n next
  pub composite : type_in (embedded (rows_of any) (take to s) start n) ≡ 1 → ⊥
  pub inside : PartOf 2 (take (start + n) (take to s)) start part
  pub same : SameBut s t part.start (end_of part)

abbrev pub ObjectUnread : Type 0
ObjectUnread = (s t : List ℕ) (from to : ℕ) → ObjectField s t from to → OneField s t from to

-- and such are the bytes of a part of the octets or the string that the Scalar of an args field does not choose
pub record ScalarField (s t : List ℕ) (from to : ℕ) : Type 0 where
  pub place : ℕ
  pub number : ℕ
  pub value : ℕ
  pub start : ℕ
  pub n : ℕ
  pub next : ℕ
  pub octets : Bool
  pub outer : Part
  pub part : Part
  pub reached : Reaches (take to s) from place
  pub field : field_at (take to s) place ≡ some_field number len value start n next
  pub unchosen : type_in (scalar_at (take to s) start n) ≡ cond octets 4 8 → ⊥
  pub inside : InnerPart 2 (cond octets 5 9) (take (start + n) (take to s)) start outer part
  pub same : SameBut s t part.start (end_of part)

abbrev pub UnchosenScalarUnread : Type 0
UnchosenScalarUnread = (s t : List ℕ) (from to : ℕ) → ScalarField s t from to → OneField s t from to
