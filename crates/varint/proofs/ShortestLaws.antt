-- Laws of the shortest form of a number: how it unfolds, how long it is, what its bytes are. Assumes nothing.
use Rattle.prelude.proofs.Basics.{ℕ, zero, suc, ◌+◌, ◌-◌, ◌*◌, ◌/◌, ◌%◌, ◌^◌, ◌≤◌, ◌<◌, arith, ◌≡◌, refl, sym, ap, ◌∙◌}
use Rattle.prelude.proofs.Basics.{List, [], ◌∷◌, length, get_or, le-ltb, lt-ltb, less_or_not}
use Prim.Native.Nat.{pred}
use native.Mathlib.Nat.{one-le-pow, mul-suc}
use lib.Count.{count_leading_zeros, leading_top}
use lib.Pow.{pow-add, pow_mono}
use Rattle.varint.specs.Shortest.{shortest, varint_bytes}
use Rattle.varint.specs.VarintRules.{TenEnough}

-- below 128 the number is its own byte
pub shortest_last : (n v : ℕ) → v < 128 → shortest (suc n) v ≡ v ∷ []
unfolding shortest
shortest_last n v h = simp (lt-ltb v 128 h)

-- from 128 on there is one more byte behind the first
pub shortest_more : (n v : ℕ) → 128 ≤ v → shortest (suc n) v ≡ (128 + v % 128) ∷ shortest n (v / 128)
unfolding shortest
shortest_more n v h = simp (le-ltb v 128 h)

-- a number is below 128, or is not
pub below_or_not : {A : Type 0} (v : ℕ) → (v < 128 → A) → (128 ≤ v → A) → A
below_or_not v f g = less_or_not v 128 f g

-- a number with bits in the group m and in none above it takes m + 1 bytes
pub shortest_length : (n m v : ℕ) → 128 ^ m ≤ v → v < 128 ^ suc m → m < n → length (shortest n v) ≡ suc m
shortest_length zero m v a b h = absurd (omega arith)
shortest_length (suc n) zero v a b h = ap length (shortest_last n v b)
shortest_length (suc n) (suc m) v a b h =
    ap length (shortest_more n v (omega (arith, one-le-pow m 128 (omega arith))))
    ∙ ap suc (shortest_length n m (v / 128) (omega arith) (omega arith) (omega arith))

-- a number that m + 1 groups hold takes no more bytes
pub shortest_at_most : (n m v : ℕ) → v < 128 ^ suc m → length (shortest n v) ≤ suc m
unfolding shortest
shortest_at_most zero m v h = omega arith
shortest_at_most (suc n) zero v h = rw (shortest_last n v h) (omega arith)
shortest_at_most (suc n) (suc m) v h =
    below_or_not v (λ a. rw (shortest_last n v a) (omega arith))
    (λ a. rw (shortest_more n v a) (omega (arith, shortest_at_most n m (v / 128) (omega arith))))

-- at least one byte, and at most the n that are allowed
pub shortest_some : (n v : ℕ) → 0 < length (shortest (suc n) v)
shortest_some n v = below_or_not v (λ a. rw (shortest_last n v a) (omega arith))
    (λ a. rw (shortest_more n v a) (omega arith))

pub shortest_within : (n v : ℕ) → length (shortest n v) ≤ n
unfolding shortest
shortest_within zero v = omega arith
shortest_within (suc n) v =
    below_or_not v (λ a. rw (shortest_last n v a) (omega arith))
    (λ a. rw (shortest_more n v a) (omega (arith, shortest_within n (v / 128))))

-- each is a byte
pub shortest_bytes : (n v k : ℕ) → get_or (shortest n v) k 0 < 256
unfolding shortest
shortest_bytes zero v k = omega arith
shortest_bytes (suc n) v zero =
    below_or_not v (λ a. rw (shortest_last n v a) (omega arith)) (λ a. rw (shortest_more n v a) (omega arith))
shortest_bytes (suc n) v (suc k) =
    below_or_not v (λ a. rw (shortest_last n v a) (omega arith))
    (λ a. rw (shortest_more n v a) (shortest_bytes n (v / 128) k))

-- enough bytes for the number are no limit
shortest_same : (m j k v : ℕ) → v < 128 ^ suc m → m < j → m < k → shortest j v ≡ shortest k v
shortest_same m zero k v h a b = absurd (omega arith)
shortest_same m (suc j) zero v h a b = absurd (omega arith)
shortest_same zero (suc j) (suc k) v h a b = shortest_last j v h ∙ sym (shortest_last k v h)
shortest_same (suc m) (suc j) (suc k) v h a b =
    below_or_not v (λ c. shortest_last j v c ∙ sym (shortest_last k v c))
    (λ c.
    shortest_more j v c
    ∙ ap (λ (l : List ℕ). (128 + v % 128) ∷ l)
    (shortest_same m j k (v / 128) (omega arith) (omega arith) (omega arith))
    ∙ sym (shortest_more k v c))

pub ten_enough : TenEnough
ten_enough n v h b = shortest_same 9 n 10 v (omega arith) h (omega arith)

-- seven bits a group
group_bits : (k : ℕ) → 2 ^ (7 * k) ≡ 128 ^ k
group_bits zero = refl
group_bits (suc k) = rw (mul-suc 7 k, pow-add 2 (7 * k) 7, group_bits k) (omega arith)

-- the length by the count of leading zeros
pub length_by_zeros : (v : ℕ) → 0 < v → v < 2 ^ 64 → (70 - count_leading_zeros 64 v) / 7 ≡ length (varint_bytes v)
length_by_zeros v p h =
    let t = leading_top 64 v p h in
    let q = t.0 / 7 in
    let low : 2 ^ (7 * q) ≤ 2 ^ t.0 = pow_mono (omega arith) in
    let high : 2 ^ suc t.0 ≤ 2 ^ (7 * suc q) = pow_mono (omega arith) in
    let long = shortest_length 10 q v (omega (arith, group_bits q)) (omega (arith, group_bits (suc q))) (omega arith) in
    omega arith

-- a turn of the writing loop: the first byte, and the number of those behind it
pub shortest_turn : (m x : ℕ) → 128 ≤ x → x < 128 ^ suc m →
    (x / 128 < 128 ^ suc (pred m)) × (shortest (suc m) x ≡ (128 + x % 128) ∷ shortest (suc (pred m)) (x / 128))
shortest_turn zero x a h = absurd (omega arith)
shortest_turn (suc m) x a h = (omega arith, shortest_more (suc m) x a)
