-- Going through a field list, from one field to the next.
use Rattle.std.specs.Prelude.{ℕ, ◌≡◌, List}
use Rattle.wire.specs.Field.{field_at}
use Rattle.wire.specs.Field.{some_field}

-- the place q is reached from the place p
pub data Reaches (s : List ℕ) : ℕ → ℕ → Type 0 where
  stays : {p : ℕ} → Reaches s p p
  passes : {p q number wire value start len next : ℕ} →
      field_at s p ≡ some_field number wire value start len next → Reaches s next q → Reaches s p q
