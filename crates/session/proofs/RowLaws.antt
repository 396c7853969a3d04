-- Words written one after the other, and what becomes of rows of any width. Assumes nothing.
use Rattle.prelude.proofs.Basics.{ℕ, zero, suc, ◌+◌, ◌-◌, ◌*◌, ◌/◌, ◌%◌, ◌≤◌, ◌<◌, arith, mod-lt, ◌≡◌, refl, sym, ap}
use Rattle.prelude.proofs.Basics.{◌∙◌, List, [], ◌∷◌, length, set, length-set, get_or-set_other, get_or-set_same}
use Rattle.prelude.proofs.Basics.{length-sets, sets, less_or_not}
use native.Mathlib.Nat.{mul-le-mul_left, mul-suc, mul_comm, div-add-mod'}
use lib.Seq.{ext_get_or}
use Rattle.session.proofs.Names.{build, word}
use Rattle.session.proofs.BuildLaws.{length_build, get_d_build, same_build}

-- the words vs stand from a on; all others stay
pub sets_before : (vs w : List ℕ) (a k : ℕ) → k < a → word (sets w a vs) k ≡ word w k
sets_before [] w a k h = refl
sets_before (v ∷ vs) w a k h =
    sets_before vs (set w a v) (suc a) k (omega arith) ∙ get_or-set_other w a k v 0 (λ e. omega arith)

pub sets_after : (vs w : List ℕ) (a k : ℕ) → a + length vs ≤ k → word (sets w a vs) k ≡ word w k
sets_after [] w a k h = refl
sets_after (v ∷ vs) w a k h =
    sets_after vs (set w a v) (suc a) k (omega arith) ∙ get_or-set_other w a k v 0 (λ e. omega arith)

pub sets_here : (vs w : List ℕ) (a o : ℕ) → o < length vs → a + length vs ≤ length w →
    word (sets w a vs) (a + o) ≡ word vs o
sets_here [] w a o h g = absurd (omega arith)
sets_here (v ∷ vs) w a zero h g =
    let e : a + 0 ≡ a = omega arith in
    ap (λ (k : ℕ). word (sets (set w a v) (suc a) vs) k) e
    ∙ sets_before vs (set w a v) (suc a) a (omega arith)
    ∙ get_or-set_same w a v 0 (omega arith)
sets_here (v ∷ vs) w a (suc o) h g =
    let e : a + suc o ≡ suc a + o = omega arith in
    ap (λ (k : ℕ). word (sets (set w a v) (suc a) vs) k) e
    ∙ sets_here vs (set w a v) (suc a) o (omega arith) (omega (arith, length-set w a v))

-- words stored one after the other by code: v at a, then vs at a + 1, a + 2, ..
abbrev run : List ℕ → ℕ → ℕ → List ℕ → List ℕ
run w a o [] = w
run w a o (v ∷ vs) = run (set w (a + o) v) a (suc o) vs

abbrev pub stored : List ℕ → ℕ → ℕ → List ℕ → List ℕ
stored w a v vs = run (set w a v) a 1 vs

run_sets : (vs w : List ℕ) (a o : ℕ) → run w a o vs ≡ sets w (a + o) vs
run_sets [] w a o = refl
run_sets (v ∷ vs) w a o =
    let e : a + suc o ≡ suc (a + o) = omega arith in
    run_sets vs (set w (a + o) v) a (suc o) ∙ ap (λ (k : ℕ). sets (set w (a + o) v) k vs) e

pub stored_sets : (w : List ℕ) (a v : ℕ) (vs : List ℕ) → stored w a v vs ≡ sets w a (v ∷ vs)
stored_sets w a v vs =
    let e : a + 1 ≡ suc a = omega arith in
    run_sets vs (set w a v) a 1 ∙ ap (λ (k : ℕ). sets (set w a v) k vs) e

-- no store changes the number of words
pub still_below : (w : List ℕ) (a v : ℕ) (vs : List ℕ) (k : ℕ) → k < length w → k < length (stored w a v vs)
still_below w a v vs k h = omega (arith, ap length (stored_sets w a v vs), length-sets w a (v ∷ vs))

-- the n words from a on
abbrev pub row : List ℕ → ℕ → ℕ → List ℕ
row w a n = build (λ p. word w (a + p)) 0 n

pub same_row : (w w' : List ℕ) (a n : ℕ) → ((k : ℕ) → a ≤ k → k < a + n → word w' k ≡ word w k) →
    row w' a n ≡ row w a n
same_row w w' a n h =
    same_build (λ p. word w (a + p)) (λ p. word w' (a + p)) n (λ p b. h (a + p) (omega arith) (omega arith))

-- the words of a row, one by one
pub row_word : (w : List ℕ) (a n p : ℕ) → p < n → word (row w a n) p ≡ word w (a + p)
row_word w a n p h = get_d_build (λ p. word w (a + p)) n p 0 h

pub row_words : (w w' : List ℕ) (a n : ℕ) → row w a n ≡ row w' a n → (k : ℕ) → a ≤ k → k < a + n → word w k ≡ word w' k
row_words w w' a n e k b c =
    let at : k ≡ a + (k - a) = omega arith in
    ap (λ (j : ℕ). word w j) at
    ∙ sym (row_word w a n (k - a) (omega arith))
    ∙ ap (λ x. word x (k - a)) e
    ∙ row_word w' a n (k - a) (omega arith)
    ∙ ap (λ (j : ℕ). word w' j) (sym at)

-- words written within one row change words of that row,
module _ (a width o : ℕ) (vs w : List ℕ) (fits : o + length vs ≤ width) (long : a + width ≤ length w) where
  here : (p : ℕ) → o ≤ p → p < o + length vs → word (sets w (a + o) vs) (a + p) ≡ word (sets (row w a width) o vs) p
  here p b c =
      let e : a + p ≡ a + o + (p - o) = omega arith in
      let g : p ≡ o + (p - o) = omega arith in
      let m = length_build (λ k. word w (a + k)) 0 width in
      ap (λ (k : ℕ). word (sets w (a + o) vs) k) e
      ∙ sets_here vs w (a + o) (p - o) (omega arith) (omega arith)
      ∙ sym
      (ap (λ (k : ℕ). word (sets (row w a width) o vs) k) g
      ∙ sets_here vs (row w a width) o (p - o) (omega arith) (omega (arith, m)))

  each : (p : ℕ) → p < width → word (sets w (a + o) vs) (a + p) ≡ word (sets (row w a width) o vs) p
  each p h =
      less_or_not p o
      (λ b.
      sets_before vs w (a + o) (a + p) (omega arith)
      ∙ sym (sets_before vs (row w a width) o p b ∙ row_word w a width p h))
      (λ b.
      less_or_not p (o + length vs) (λ c. here p b c)
      (λ c.
      sets_after vs w (a + o) (a + p) (omega arith)
      ∙ sym (sets_after vs (row w a width) o p c ∙ row_word w a width p h)))

  pub row_here : row (sets w (a + o) vs) a width ≡ sets (row w a width) o vs
  row_here =
      let l = length_build (λ k. word (sets w (a + o) vs) (a + k)) 0 width in
      let m = length_build (λ k. word w (a + k)) 0 width in
      ext_get_or 0 (row (sets w (a + o) vs) a width) (sets (row w a width) o vs)
      (l ∙ sym (length-sets (row w a width) o vs ∙ m))
      (λ p h.
      row_word (sets w (a + o) vs) a width p (omega (arith, l))
      ∙ each p (omega (arith, l)))

-- and of no other row
module _ (base width i o : ℕ) (vs w : List ℕ) (fits : o + length vs ≤ width) where
  pub row_there : (j : ℕ) → (j ≡ i → ⊥) →
      row (sets w (base + width * i + o) vs) (base + width * j) width ≡ row w (base + width * j) width
  row_there j n =
      let a = base + width * i + o in
      same_row w (sets w a vs) (base + width * j) width
      (λ k b c.
      less_or_not j i
      (λ l. sets_before vs w a k (omega (arith, mul-le-mul_left width l, mul-suc width j)))
      (λ l. sets_after vs w a k (omega (arith, mul-le-mul_left width (above l), mul-suc width i))))
    where
      above : i ≤ j → suc i ≤ j
      above l = less_or_not i j (λ b. b) (λ b. absurd (n (omega arith)))

-- words of n rows that are the same, row by row
module _ (base width n : ℕ) (w w' : List ℕ) (some : 0 < width) where
  pub rows_same : ((i : ℕ) → i < n → row w (base + width * i) width ≡ row w' (base + width * i) width) →
      (k : ℕ) → base ≤ k → k < base + width * n → word w k ≡ word w' k
  rows_same h k b c =
      let m = k - base in
      go (m / width) (m % width) (div-add-mod' m width) (mod-lt m some)
    where
      go : (q r : ℕ) → q * width + r ≡ k - base → r < width → word w k ≡ word w' k
      go q r e g =
          let at : k ≡ base + width * q + r = omega (arith, mul_comm q width) in
          let inside : q < n = less_or_not q n (λ x. x) (λ x. absurd (omega (arith, mul-le-mul_left width x))) in
          row_words w w' (base + width * q) width (h q inside) k (omega (arith, at)) (omega (arith, at))
