-- Reading and writing a varint together: what is written reads back, and no varint of the number is shorter. Assumes
-- nothing.
use Rattle.prelude.proofs.Basics.{ℕ, zero, suc, ◌+◌, ◌*◌, ◌/◌, ◌%◌, ◌^◌, ◌≤◌, ◌<◌, arith, add-zero, mod-eq_of_lt, cond}
use Rattle.prelude.proofs.Basics.{◌≡◌, refl, sym, ap, ◌∙◌, List, ◌∷◌, ◌++◌, append_assoc, length, get_or, drop}
use Rattle.prelude.proofs.Basics.{length-drop, drop_at, drop-drop, get_or-drop, ltb, ltb-true, both}
use native.Mathlib.Nat.{mod-le}
use Rattle.varint.specs.declared.Number.{Number}
use Rattle.varint.specs.Varint.{groups, onto, low64, varint_at}
use Rattle.varint.specs.Shortest.{shortest, varint_bytes}
use Rattle.varint.specs.VarintRules.{ReadsBack, NoneShorter}
use Rattle.varint.proofs.GroupLaws.{groups_last, groups_more}
use Rattle.varint.proofs.ShortestLaws.{below_or_not, shortest_last, shortest_more, shortest_at_most}
use Rattle.varint.proofs.ShortestLaws.{shortest_some, shortest_within, shortest_bytes}
use Rattle.std.specs.Prelude.{Option, Some, None}
use Rattle.varint.specs.Number.{some_number}

-- ---- a group at a place

-- what is left of a list from a place on begins with a byte: the place is inside, the byte stands there, and the
-- others from the next place on
module _ (s : List ℕ) (at b : ℕ) (t : List ℕ) (e : drop at s ≡ b ∷ t) where
  inside : at < length s
  inside = omega (arith, ap length e, length-drop at s)

  head_is : get_or s at 0 ≡ b
  head_is = rw (add-zero at) at (sym (get_or-drop at s 0 0)) ∙ ap (λ (l : List ℕ). get_or l 0 0) e

  tail-is : drop (at + 1) s ≡ t
  tail-is = sym (drop-drop 1 at s) ∙ ap (λ (l : List ℕ). drop 1 l) e

  -- a byte below 128 is the last
  head-last : (n : ℕ) → b < 128 → groups (suc n) s at ≡ some_number b (at + 1)
  head-last n h = rw head_is at (groups_last n s at inside (rw head_is h))

  -- any other has more behind it
  head_more : (n : ℕ) → 128 ≤ b → groups (suc n) s at ≡ onto (b % 128) 128 (groups n s (at + 1))
  head_more n h = rw head_is at (groups_more n s at inside (rw head_is h))

-- ---- what is written reads back

groups_back : (n v at : ℕ) (s q : List ℕ) → v < 128 ^ suc n → drop at s ≡ shortest (suc n) v ++ q →
    groups (suc n) s at ≡ some_number v (at + length (shortest (suc n) v))
groups_back zero v at s q h e = rw (shortest_last 0 v h) (head-last s at v q (rw (shortest_last 0 v h) at e) 0 h)
groups_back (suc n) v at s q h e =
    below_or_not v (λ a. rw (shortest_last (suc n) v a)
    (head-last s at v q (rw (shortest_last (suc n) v a) at e) (suc n) a))
    (λ a.
    let e' = rw (shortest_more (suc n) v a) at e in
    let b = 128 + v % 128 in
    let rest = shortest (suc n) (v / 128) in
    let back = groups_back n (v / 128) (at + 1) s q (omega arith) (tail-is s at b (rest ++ q) e') in
    let same : b % 128 + 128 * (v / 128) ≡ v = omega arith in
    let end : at + 1 + length rest ≡ at + suc (length rest) = omega arith in
    rw (shortest_more (suc n) v a, head_more s at b (rest ++ q) e' (suc n) (omega arith), back, same, end))

-- wherever it stands in a byte string
pub reads_there : (v at : ℕ) (s q : List ℕ) → v < 2 ^ 64 → drop at s ≡ varint_bytes v ++ q →
    varint_at s at ≡ some_number v (at + length (varint_bytes v))
reads_there v at s q h e = rw (groups_back 9 v at s q (omega arith) e, mod-eq_of_lt h)

pub reads_back : ReadsBack
reads_back v p q h = reads_there v (length p) (p ++ varint_bytes v ++ q) q h
    (rw append_assoc (drop_at p (varint_bytes v ++ q) (length p) refl))

-- ---- none shorter

-- the number of k + 1 groups is below 128 ^ (k + 1)
abbrev Held : ℕ → Option Number → Type 0
Held at (Some r) = (k : ℕ) × (r.next ≡ at + suc k) × (r.value < 128 ^ suc k)
Held at None = Unit {0}

one_more : (at low : ℕ) (r : Option Number) → low < 128 → Held (at + 1) r → Held at (onto low 128 r)
one_more at low (Some r) h d = (suc d.0, omega arith, omega arith)
one_more at low None h d = tt

held : (n at : ℕ) (s : List ℕ) → Held at (groups n s at)
unfolding groups
held zero at s = tt
held (suc n) at s =
    let b = get_or s at 0 in
    let rest = onto (b % 128) 128 (groups n s (at + 1)) in
    both (Held at) (ltb at (length s)) (cond (ltb b 128) (some_number b (at + 1)) rest) None
    (λ _.
    both (Held at) (ltb b 128) (some_number b (at + 1)) rest (λ e. (0, refl, ltb-true b 128 e))
    (λ _. one_more at (b % 128) (groups n s (at + 1)) (omega arith) (held n (at + 1) s)))
    (λ _. tt)

abbrev number_in : Option Number → ℕ
number_in (Some r) = r.value
number_in None = 0

abbrev place_behind : Option Number → ℕ
place_behind (Some r) = r.next
place_behind None = 0

pub none_shorter : NoneShorter
none_shorter s at v next e = go (groups 10 s at) (held 10 at s) e
  where
    go : (r : Option Number) → Held at r → low64 r ≡ some_number v next → at + length (varint_bytes v) ≤ next
    go (Some r) d e =
        let same : r.value % 2 ^ 64 ≡ v = ap number_in e in
        let end : r.next ≡ next = ap place_behind e in
        omega (arith, shortest_at_most 10 d.0 v (omega (arith, mod-le r.value (2 ^ 64))))
    go None d e = absurd (let z : ◌≡◌ {A = ℕ} 0 1 = cc in omega arith)

-- ---- the bytes written

-- one to ten of them
pub varint_length : (v : ℕ) → (0 < length (varint_bytes v)) × (length (varint_bytes v) ≤ 10)
varint_length v = (shortest_some 9 v, shortest_within 10 v)

-- each below 256
pub varint_bytes_lem : (v k : ℕ) → get_or (varint_bytes v) k 0 < 256
varint_bytes_lem v k = shortest_bytes 10 v k
