-- Which bytes are written for a number, group by group, and so which bytes of a varint are padded. Assumes nothing.
use Rattle.prelude.proofs.Basics.{ℕ, zero, suc, ◌+◌, ◌-◌, ◌*◌, ◌/◌, ◌%◌, ◌^◌, ◌≤◌, ◌<◌, arith, mul_assoc, Bool, true}
use Rattle.prelude.proofs.Basics.{false, not, ◌&&◌, ◌≡◌, refl, sym, ap, ap₂, ◌∙◌, List, [], ◌∷◌, ◌++◌, length, drop}
use Rattle.prelude.proofs.Basics.{length-append, drop_at, eqb, eq-eqb, eqb-true}
use native.Mathlib.Nat.{pow-suc, mul-le-mul_right, one-le-pow}
use Rattle.varint.specs.Shortest.{shortest, varint_bytes}
use Rattle.varint.specs.Padded.{same_bytes, is_padded}
use Rattle.varint.proofs.ShortestLaws.{shortest_last, shortest_more, shortest_at_most}

-- ---- the same bytes

pub same_refl : (xs : List ℕ) → same_bytes xs xs ≡ true
unfolding same_bytes
same_refl [] = refl
same_refl (x ∷ xs) = rw (eq-eqb x x refl) (same_refl xs)

pub same_sound : (xs ys : List ℕ) → same_bytes xs ys ≡ true → xs ≡ ys
unfolding same_bytes
same_sound [] [] e = refl
same_sound [] (y ∷ ys) e = absurd (let z : ◌≡◌ {A = ℕ} 0 1 = cc in omega arith)
same_sound (x ∷ xs) [] e = absurd (let z : ◌≡◌ {A = ℕ} 0 1 = cc in omega arith)
same_sound (x ∷ xs) (y ∷ ys) e = go (eqb x y) refl e (same_sound xs ys)
  where
    go : (t : Bool) → eqb x y ≡ t → (t && same_bytes xs ys) ≡ true → (same_bytes xs ys ≡ true → xs ≡ ys) →
        (x ∷ xs) ≡ (y ∷ ys)
    go true p q rest = ap₂ ◌∷◌ (eqb-true x y p) (rest q)
    go false p q rest = absurd (let z : ◌≡◌ {A = ℕ} 0 1 = cc in omega arith)

-- bytes that are written for a number are not padded, and any others are
pub not_padded : (xs : List ℕ) (v : ℕ) → xs ≡ varint_bytes v → is_padded xs v ≡ false
not_padded xs v e = ap not (ap (λ (l : List ℕ). same_bytes l (varint_bytes v)) e ∙ same_refl (varint_bytes v))

pub is_padded_lem : (xs : List ℕ) (v : ℕ) → (xs ≡ varint_bytes v → ⊥) → true ≡ is_padded xs v
is_padded_lem xs v f = go (same_bytes xs (varint_bytes v)) refl
  where
    go : (t : Bool) → same_bytes xs (varint_bytes v) ≡ t → true ≡ not t
    go true e = absurd (f (same_sound xs (varint_bytes v) e))
    go false e = refl

pub padded_not : (xs : List ℕ) (v : ℕ) → is_padded xs v ≡ false → xs ≡ varint_bytes v
padded_not xs v e = go (same_bytes xs (varint_bytes v)) refl e
  where
    go : (t : Bool) → same_bytes xs (varint_bytes v) ≡ t → not t ≡ false → xs ≡ varint_bytes v
    go true p q = same_sound xs (varint_bytes v) p
    go false p q = absurd (let z : ◌≡◌ {A = ℕ} 0 1 = cc in omega arith)

-- ---- groups that have others behind them

-- the lowest k groups of a number, each with others behind it
pub tops : ℕ → ℕ → List ℕ
tops zero v = []
tops (suc k) v = (128 + v % 128) ∷ tops k (v / 128)

pub tops_length : (k v : ℕ) → length (tops k v) ≡ k
unfolding tops
tops_length zero v = refl
tops_length (suc k) v = ap suc (tops_length k (v / 128))

pub tops_one : (v : ℕ) → v < 128 → (128 + v) ∷ [] ≡ tops 1 v
unfolding tops
tops_one v h = ap (λ (m : ℕ). (128 + m) ∷ []) (omega arith)

-- one group more on top
carried : (k v d : ℕ) → (v + d * 128 ^ suc k) / 128 ≡ v / 128 + d * 128 ^ k
carried k v d = rw (pow-suc 128 k, ← mul_assoc d (128 ^ k) 128) (omega arith)

kept : (k v d : ℕ) → (v + d * 128 ^ suc k) % 128 ≡ v % 128
kept k v d = rw (pow-suc 128 k, ← mul_assoc d (128 ^ k) 128) (omega arith)

pub tops_more : (k v d : ℕ) → v < 128 ^ k → d < 128 → tops k v ++ ((128 + d) ∷ []) ≡ tops (suc k) (v + d * 128 ^ k)
unfolding tops
tops_more zero v d h l = ap (λ (m : ℕ). (128 + m) ∷ []) (omega arith)
tops_more (suc k) v d h l =
    ap₂ (λ (m : ℕ) (t : List ℕ). (128 + m) ∷ t) (sym (kept k v d))
    (tops_more k (v / 128) d (omega arith) l ∙ ap (tops (suc k)) (sym (carried k v d)))

-- the number of such groups and a last one that is not 0 is written so
pub shortest_tops : (k n v d : ℕ) → v < 128 ^ k → 0 < d → d < 128 → k < n →
    tops k v ++ (d ∷ []) ≡ shortest n (v + d * 128 ^ k)
unfolding tops
shortest_tops k zero v d h a b l = absurd (omega arith)
shortest_tops zero (suc n) v d h a b l =
    let e : v + d * 128 ^ 0 ≡ d = omega arith in
    rw (e, shortest_last n d b)
shortest_tops (suc k) (suc n) v d h a b l =
    let big : 128 ≤ v + d * 128 ^ suc k = omega
    (arith, one-le-pow (suc k) 128 (omega arith), mul-le-mul_right (128 ^ suc k) a) in
    ap₂ (λ (m : ℕ) (t : List ℕ). (128 + m) ∷ t) (sym (kept k v d))
    (shortest_tops k n (v / 128) d (omega arith) a b (omega arith) ∙ ap (shortest n) (sym (carried k v d)))
    ∙ sym (shortest_more n (v + d * 128 ^ suc k) big)

-- ---- the last group of a varint

-- behind k groups that have others behind them, the last group is d: what is padded is that it is 0
module _ (k v d : ℕ) (bytes : List ℕ) (few : k ≤ 9) (some : 0 < k) (small : v < 128 ^ k) (low : d < 128)
    (are : bytes ≡ tops k v ++ (d ∷ [])) where
  pub long : length bytes ≡ suc k
  long = omega (arith, ap length are, length-append (tops k v) (d ∷ []), tops_length k v)

  -- a number that fits in the k groups takes no more than k bytes
  pub needless : {n : ℕ} → n < 128 ^ k → true ≡ is_padded bytes n
  needless {n} h = is_padded_lem bytes n (λ e. absurd (omega (arith, long, ap length e, fits n h)))
    where
      fits : (n : ℕ) → n < 128 ^ k → length (varint_bytes n) ≤ k
      fits n h =
          let one : suc (k - 1) ≡ k = omega arith in
          rw one at (shortest_at_most 10 (k - 1) n (rw one h))

  pub needed : 0 < d → is_padded bytes (v + d * 128 ^ k) ≡ false
  needed h = not_padded bytes (v + d * 128 ^ k) (are ∙ shortest_tops k 10 v d small h low (omega arith))

  -- the number of the k groups and another last one is written with that one
  pub another : (e : ℕ) → 0 < e → e < 128 → (d ≡ e → ⊥) → true ≡ is_padded bytes (v + e * 128 ^ k)
  another e p q f =
      is_padded_lem bytes (v + e * 128 ^ k)
      (λ b. f (last (sym are ∙ b ∙ sym (shortest_tops k 10 v e small p q (omega arith)))))
    where
      ends : (m : ℕ) → drop k (tops k v ++ (m ∷ [])) ≡ m ∷ []
      ends m = drop_at (tops k v) (m ∷ []) k (tops_length k v)

      last : {e : ℕ} → tops k v ++ (d ∷ []) ≡ tops k v ++ (e ∷ []) → d ≡ e
      last {e} b = let z : d ∷ [] ≡ e ∷ [] = sym (ends d) ∙ ap (drop k) b ∙ ends e in cc
