-- The bytes of a number stored one behind the other, where there is room for them. Assumes nothing.
use Rattle.prelude.proofs.Basics.{ℕ, suc, ◌+◌, ◌/◌, ◌%◌, ◌^◌, ◌≤◌, ◌<◌, arith, add-one, ◌≡◌, refl, sym, ap, ◌∙◌, List}
use Rattle.prelude.proofs.Basics.{[], ◌∷◌, length, set, sets}
use Rattle.varint.specs.Shortest.{shortest, varint_bytes}
use Rattle.varint.proofs.ShortestLaws.{shortest_last, shortest_more}
use Rattle.encode.specs.Puts.{Puts}
use Rattle.encode.proofs.PutsLaws.{puts_as}

-- ---- stores

-- bytes stored at `at + k`, `at + (k + 1)` and so on: with a numeral for k, the places that code names
abbrev pub stores : List ℕ → ℕ → ℕ → List ℕ → List ℕ
stores b at k [] = b
stores b at k (x ∷ xs) = stores (set b (at + k) x) at (suc k) xs

stores_sets : (xs b : List ℕ) (at k : ℕ) → stores b at k xs ≡ sets b (at + k) xs
stores_sets [] b at k = refl
stores_sets (x ∷ xs) b at k =
    let e : at + suc k ≡ suc (at + k) = omega arith in
    stores_sets xs (set b (at + k) x) at (suc k) ∙ ap (λ (i : ℕ). sets (set b (at + k) x) i xs) e

pub puts_stores : (b : List ℕ) (at x : ℕ) (xs : List ℕ) {bytes : List ℕ} → at + suc (length xs) ≤ length b →
    x ∷ xs ≡ bytes → Puts b at bytes (at + suc (length xs)) (stores (set b at x) at 1 xs)
puts_stores b at x xs h e =
    puts_as e
    record {
      behind = omega arith;
      stored = stores_sets xs (set b at x) at 1 ∙ ap (λ (i : ℕ). sets (set b at x) i xs) (add-one at);
    }

-- ---- the bytes of a number, by its size

last : (n v : ℕ) → v < 128 → v ∷ [] ≡ shortest (suc n) v
last n v h = sym (shortest_last n v h)

more : (n v : ℕ) {rest : List ℕ} → 128 ≤ v → rest ≡ shortest n (v / 128) → (128 + v % 128) ∷ rest ≡ shortest (suc n) v
more n v h e = ap (λ (l : List ℕ). (128 + v % 128) ∷ l) e ∙ sym (shortest_more n v h)

module _ (v : ℕ) where
  pub one_byte_lem : v < 128 → v ∷ [] ≡ varint_bytes v
  one_byte_lem h = last 9 v h

  pub two_bytes : 128 ≤ v → v < 128 ^ 2 → (128 + v % 128) ∷ v / 128 ∷ [] ≡ varint_bytes v
  two_bytes a h = more 9 v a (last 8 (v / 128) (omega arith))

  pub three_bytes : 128 ^ 2 ≤ v → v < 128 ^ 3 →
      (128 + v % 128) ∷ (128 + v / 128 % 128) ∷ v / 128 / 128 ∷ [] ≡ varint_bytes v
  three_bytes a h = more 9 v (omega arith) (more 8 (v / 128) (omega arith) (last 7 (v / 128 / 128) (omega arith)))

  pub four_bytes : 128 ^ 3 ≤ v → v < 128 ^ 4 →
      (128 + v % 128) ∷ (128 + v / 128 % 128) ∷ (128 + v / 128 / 128 % 128) ∷ v / 128 / 128 / 128 ∷ [] ≡ varint_bytes v
  four_bytes a h =
      more 9 v (omega arith)
      (more 8 (v / 128) (omega arith)
      (more 7 (v / 128 / 128) (omega arith) (last 6 (v / 128 / 128 / 128) (omega arith))))

  pub five_bytes : 128 ^ 4 ≤ v → v < 2 ^ 32 →
      (128 + v % 128) ∷ (128 + v / 128 % 128) ∷ (128 + v / 128 / 128 % 128) ∷ (128 + v / 128 / 128 / 128 % 128)
      ∷ v / 128 / 128 / 128 / 128 ∷ [] ≡ varint_bytes v
  five_bytes a h =
      more 9 v (omega arith)
      (more 8 (v / 128) (omega arith)
      (more 7 (v / 128 / 128) (omega arith)
      (more 6 (v / 128 / 128 / 128) (omega arith) (last 5 (v / 128 / 128 / 128 / 128) (omega arith)))))
