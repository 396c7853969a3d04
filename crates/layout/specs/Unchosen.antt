-- A part inside a part: the rest of the message reads alike whatever its bytes are (L10).
use Rattle.std.specs.Prelude.{ℕ, ◌≤◌, ◌≡◌, ◌⊎◌, List, [], ◌∷◌, take}
use Rattle.wire.specs.Field.{field_at}
use Rattle.layout.specs.SameBut.{SameBut}
use Rattle.layout.specs.Reaches.{Reaches}
use Rattle.layout.specs.Table.{len}
use Rattle.layout.specs.Fields.{fields_at}
use Rattle.layout.specs.Merged.{end_of, parts_of, parts_in, merged}
use Rattle.layout.specs.declared.part.Part.{Part}
use Rattle.wire.specs.Field.{some_field}

-- p is a part in field k of the message that goes from the place `from` to the end of s: a field on the way through it
pub record PartOf (k : ℕ) (s : List ℕ) (from : ℕ) (p : Part) : Type 0 where
  pub place : ℕ
  pub value : ℕ
  pub next : ℕ
  pub reached : Reaches s from place
  pub field : field_at s place ≡ some_field k len value p.start p.len next

-- q is a part in field k of such a part, in field f of the message
pub record InnerPart (f k : ℕ) (s : List ℕ) (from : ℕ) (p q : Part) : Type 0 where
  pub outer : PartOf f s from p
  pub inner : PartOf k (take (end_of p) s) p.start q

-- p lies before q, or behind it
abbrev pub Apart : Part → Part → Type 0
Apart q p = (end_of p ≤ q.start) ⊎ (end_of q ≤ p.start)

unfoldable pub Every : (Part → Type 0) → List Part → Type 0
Every P [] = Unit {0}
Every P (p ∷ ps) = P p × Every P ps

-- s and t differ in the bytes of q only: the message's own fields are the same, and so are those of the message in
-- field f, which may be in parts; the parts inside it stand in the same places, and those in other fields than q beside
-- q
pub record Unread (f k : ℕ) (s t : List ℕ) (from : ℕ) (q : Part) : Type 0 where
  pub own : (rows : List (List ℕ)) → fields_at rows t from ≡ fields_at rows s from
  pub parts : (i : ℕ) → parts_of i t from ≡ parts_of i s from
  pub fields : (rows : List (List ℕ)) → merged rows t (parts_of f s from) ≡ merged rows s (parts_of f s from)
  pub inner : (i : ℕ) → parts_in i t (parts_of f s from) ≡ parts_in i s (parts_of f s from)
  pub beside : (i : ℕ) → (i ≡ k → ⊥) → Every (Apart q) (parts_in i s (parts_of f s from))

abbrev pub InnerUnread : Type 0
InnerUnread =
    (f k : ℕ) (s t : List ℕ) (from : ℕ) (p q : Part) → InnerPart f k s from p q →
    SameBut s t q.start (end_of q) → Unread f k s t from q
