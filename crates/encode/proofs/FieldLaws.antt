-- Lengths of fields, and fields put in two parts. Assumes nothing.
use Rattle.prelude.proofs.Basics.{ℕ, zero, suc, ◌+◌, ◌*◌, ◌/◌, ◌%◌, ◌≤◌, arith, Bool, true, false, ◌≡◌, refl}
use Rattle.prelude.proofs.Basics.{ap, List, [], ◌∷◌, ◌++◌, length, length-append}
use Rattle.varint.specs.Shortest.{varint_bytes}
use Rattle.varint.proofs.VarintLaws.{varint_length}
use Rattle.encode.specs.Fixed.{fixed_bytes}
use Rattle.std.specs.Prelude.{Option, Some, None, cond}
use Rattle.encode.specs.Field.{number_field, optional_field, optional_number, prefix_of, bytes_field, fixed_field}
use Rattle.encode.specs.Puts.{Puts}
use Rattle.encode.proofs.PutsLaws.{puts_then, puts_as}

pub number_parts : (num v : ℕ) → length (number_field num v) ≡ length (varint_bytes (num * 8)) + length (varint_bytes v)
unfolding number_field
number_parts num v = length-append (varint_bytes (num * 8)) (varint_bytes v)

pub number_short : (num v : ℕ) → length (number_field num v) ≤ 20
number_short num v = omega (arith, number_parts num v, varint_length (num * 8), varint_length v)

-- an option that is made of a flag and a number
pub optional_told : {o : Option ℕ} (b : Bool) (num v : ℕ) → o ≡ cond b (Some v) None →
    optional_number num o ≡ optional_field b num v
unfolding optional_field
optional_told true num v e = rw e refl
optional_told false num v e = rw e refl

pub optional_short : (b : Bool) (num v : ℕ) → length (optional_field b num v) ≤ 20
unfolding optional_field
optional_short true num v = number_short num v
optional_short false num v = omega arith

pub prefix_parts : (num n : ℕ) → length (prefix_of num n) ≡ length (varint_bytes (num * 8 + 2)) + length (varint_bytes n)
prefix_parts num n = length-append (varint_bytes (num * 8 + 2)) (varint_bytes n)

pub prefix_short : (num n : ℕ) → length (prefix_of num n) ≤ 20
prefix_short num n = omega (arith, prefix_parts num n, varint_length (num * 8 + 2), varint_length n)

pub bytes_sum : (num : ℕ) (bs : List ℕ) → length (bytes_field num bs) ≡ length (prefix_of num (length bs)) + length bs
unfolding bytes_field
bytes_sum num bs = length-append (prefix_of num (length bs)) bs

pub fixed_length : (k v : ℕ) → length (fixed_bytes k v) ≡ k
unfolding fixed_bytes
fixed_length zero v = refl
fixed_length (suc k) v = ap suc (fixed_length k (v / 256))

pub fixed_parts : (num wire k v : ℕ) → length (fixed_field num wire k v) ≡ length (varint_bytes (num * 8 + wire)) + k
unfolding fixed_field
fixed_parts num wire k v =
    omega (arith, length-append (varint_bytes (num * 8 + wire)) (fixed_bytes k v), fixed_length k v)

-- the first of them, and the others
pub fixed_more : (k j v : ℕ) → k ≡ j + 1 → fixed_bytes k v ≡ v % 256 ∷ fixed_bytes j (v / 256)
unfolding fixed_bytes
fixed_more zero j v h = absurd (omega arith)
fixed_more (suc k) j v h = let e : k ≡ j = omega arith in ap (λ (i : ℕ). v % 256 ∷ fixed_bytes i (v / 256)) e

pub fixed_none : (k v : ℕ) → k ≤ 0 → fixed_bytes k v ≡ []
unfolding fixed_bytes
fixed_none zero v h = refl
fixed_none (suc k) v h = absurd (omega arith)

-- a prefix, and behind it the bytes that it counts
pub puts_counted : (num : ℕ) {b b₁ b₂ : List ℕ} {at n p q : ℕ} (bs : List ℕ) → n ≡ length bs →
    Puts b at (prefix_of num n) p b₁ → Puts b₁ p bs q b₂ → Puts b at (bytes_field num bs) q b₂
unfolding bytes_field
puts_counted num bs e f g = puts_as (ap (λ (k : ℕ). prefix_of num k ++ bs) e) (puts_then f g)
