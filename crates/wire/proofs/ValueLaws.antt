-- Values by wire type, case by case. Assumes nothing.
use Rattle.prelude.proofs.Basics.{ℕ, ◌+◌, ◌-◌, ◌≤◌, ◌<◌, ◌≡◌, List, length, eq-eqb, le-ltb, lt-ltb, ne_eqb}
use Rattle.wire.proofs.Names.{Past, varint_at, varint_past, as_fixed, of_length, value_at}
use Rattle.wire.specs.Value.{as_number, as_length}
use Rattle.std.specs.Prelude.{None}
use Rattle.varint.specs.Number.{some_number}
use Rattle.wire.specs.Value.{some_value}

-- a varint that was read ends past its first byte and within the bytes
pub varint_ends : (s : List ℕ) (at : ℕ) {v next : ℕ} → some_number v next ≡ varint_at s at →
    (at < next) × (next ≤ length s)
varint_ends s at {v} {next} e = go (varint_past s at)
  where
    go : Past at (length s) (varint_at s at) → (at < next) × (next ≤ length s)
    go = rw (← e) (λ h. h)

module _ (s : List ℕ) (n next : ℕ) where
  pub length_long : length s - next < n → None ≡ of_length s (some_number n next)
  length_long h = simp (lt-ltb (length s - next) n h)

  pub length_good : n ≤ length s - next → some_value n next n (next + n) ≡ of_length s (some_number n next)
  length_good h = simp (le-ltb (length s - next) n h)

module _ (s : List ℕ) (wire at : ℕ) where
  pub value_number : wire ≡ 0 → as_number s at ≡ value_at s wire at
  value_number a = simp (eq-eqb wire 0 a)

  pub value_eight : (wire ≡ 0 → ⊥) → wire ≡ 1 → as_fixed 8 s at ≡ value_at s wire at
  value_eight a b = simp (ne_eqb wire 0 a, eq-eqb wire 1 b)

  pub value_length : (wire ≡ 0 → ⊥) → (wire ≡ 1 → ⊥) → wire ≡ 2 → as_length s at ≡ value_at s wire at
  value_length a b d = simp (ne_eqb wire 0 a, ne_eqb wire 1 b, eq-eqb wire 2 d)

  pub value_four : (wire ≡ 0 → ⊥) → (wire ≡ 1 → ⊥) → (wire ≡ 2 → ⊥) → wire ≡ 5 → as_fixed 4 s at ≡ value_at s wire at
  value_four a b d f = simp (ne_eqb wire 0 a, ne_eqb wire 1 b, ne_eqb wire 2 d, eq-eqb wire 5 f)

  pub value_none : (wire ≡ 0 → ⊥) → (wire ≡ 1 → ⊥) → (wire ≡ 2 → ⊥) → (wire ≡ 5 → ⊥) → None ≡ value_at s wire at
  value_none a b d f = simp (ne_eqb wire 0 a, ne_eqb wire 1 b, ne_eqb wire 2 d, ne_eqb wire 5 f)
