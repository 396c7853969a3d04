-- Laws of `little`: a number's parts and its bound; and the two answers at a place.
use Rattle.prelude.proofs.Basics.{ℕ, zero, suc, ◌+◌, ◌*◌, ◌^◌, ◌≤◌, ◌<◌, arith, add-zero, mul_assoc, zero-add, ◌≡◌}
use Rattle.prelude.proofs.Basics.{Bool, true, false, cond, refl, ap, ◌∙◌, List, length, get_or, le-leb, lt-leb, leb-true}
use Rattle.varint.specs.declared.Number.{Number}
use Rattle.std.proofs.Common.{add_assoc, suc-add, one-mul, one-add}
use native.Mathlib.Nat.{pow-succ'}
use Rattle.scalar.specs.Fixed.{little, fixed_at}
use Rattle.std.specs.Prelude.{Option, Some, None, nat_le}
use Rattle.varint.specs.Number.{some_number}

-- j bytes, and k more above them
pub little_add : (j k : ℕ) (s : List ℕ) (at : ℕ) → little (j + k) s at ≡ little j s at + 256 ^ j * little k s (at + j)
unfolding little
little_add zero k s at = rw (zero-add k, zero-add, add-zero, one-mul)
little_add (suc j) k s at =
    rw (suc-add, little_add j k s (at + 1), pow-succ', mul_assoc, add_assoc at 1 j, one-add) (omega arith)

-- four bytes, each by its place
pub little_four : (s : List ℕ) (at : ℕ) →
    little 4 s at ≡ get_or s at 0 + 256 * get_or s (at + 1) 0 + 65536 * (get_or s (at + 2) 0 + 256 * get_or s (at + 3) 0)
unfolding little
little_four s at = simp add_assoc (omega arith)

-- bytes are below 256, so k of them are below 256 ^ k
pub little_lt : (k : ℕ) (s : List ℕ) (at : ℕ) → ((i : ℕ) → get_or s i 0 < 256) → little k s at < 256 ^ k
unfolding little
little_lt zero s at h = omega arith
little_lt (suc k) s at h = rw pow-succ' (omega (arith, h at, little_lt k s (at + 1) h))

-- the value passes the end
pub fixed_bad : (k : ℕ) (s : List ℕ) (at : ℕ) → length s < at + k → None ≡ fixed_at k s at
fixed_bad k s at h = simp (lt-leb (at + k) (length s) h)

-- the value is there
pub fixed_whole : (k : ℕ) (s : List ℕ) (at v : ℕ) → at + k ≤ length s → v ≡ little k s at →
    some_number v (at + k) ≡ fixed_at k s at
fixed_whole k s at v h e = simp (le-leb (at + k) (length s) h, e)

-- what a value that was read says
pub record Whole (k : ℕ) (s : List ℕ) (at : ℕ) (r : Number) : Type 0 where
  pub value : r.value ≡ little k s at
  pub next : r.next ≡ at + k
  pub inside : at + k ≤ length s

pub fixed_told : (k : ℕ) (s : List ℕ) (at : ℕ) (r : Number) → Some r ≡ fixed_at k s at → Whole k s at r
fixed_told k s at r e = go (nat_le (at + k) (length s)) refl e
  where
    value_in : Option Number → ℕ
    value_in (Some x) = x.value
    value_in None = 0

    next_in : Option Number → ℕ
    next_in (Some x) = x.next
    next_in None = 0

    go : (b : Bool) → nat_le (at + k) (length s) ≡ b →
        Some r ≡ cond b (some_number (little k s at) (at + k)) None → Whole k s at r
    go true h f = record { value = ap value_in f; next = ap next_in f; inside = leb-true (at + k) (length s) h }
    go false h f = absurd (let z : ◌≡◌ {A = ℕ} 0 1 = cc in omega arith)

-- eight bytes are four and four
pub record Pair (s : List ℕ) (at : ℕ) (front back : Number) : Type 0 where
  pub low : front.value < 2 ^ 32
  pub high : back.value < 2 ^ 32
  pub whole : some_number (front.value + 2 ^ 32 * back.value) back.next ≡ fixed_at 8 s at

pub low_and_high : (s : List ℕ) (at : ℕ) (low high : Number) → ((i : ℕ) → get_or s i 0 < 256) →
    Some low ≡ fixed_at 4 s at → Some high ≡ fixed_at 4 s low.next → Pair s at low high
low_and_high s at low high small e f =
    let a = fixed_told 4 s at low e in
    let b = fixed_told 4 s low.next high f in
    let third : high.value ≡ little 4 s (at + 4) = b.value ∙ ap (little 4 s) a.next in
    record {
      low = omega (arith, a.value, little_lt 4 s at small);
      high = omega (arith, third, little_lt 4 s (at + 4) small);
      whole =
          ap (some_number (low.value + 2 ^ 32 * high.value)) (omega (arith, a.next, b.next))
          ∙ fixed_whole 8 s at (low.value + 2 ^ 32 * high.value) (omega (arith, a.next, b.inside))
          (omega (arith, little_add 4 4 s at, a.value, third));
    }
