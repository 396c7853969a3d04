-- Laws of the decimal of a number. Assumes nothing.
use Rattle.prelude.proofs.Basics.{ℕ, zero, suc, ◌+◌, ◌-◌, ◌*◌, ◌/◌, ◌%◌, ◌^◌, ◌≤◌, ◌<◌, arith, ◌≡◌, refl, sym, ap, ◌∙◌}
use Rattle.prelude.proofs.Basics.{List, [], ◌∷◌, ◌++◌, length, get_or, List·getD-append, length-append, le-ltb, lt-ltb}
use Rattle.prelude.proofs.Basics.{less_or_not}
use Rattle.encode.specs.Puts.{Puts}
use Rattle.encode.proofs.PutsLaws.{puts_then, puts_as}
use Rattle.reply.specs.Decimal.{digits, decimal}
use Rattle.reply.specs.DecimalRules.{denoted, Denotes, EachDigit, NoLeadingZero, Short}

-- below 10 the number is its one digit
pub digits_last : (k n : ℕ) → n < 10 → digits (suc k) n ≡ (48 + n) ∷ []
unfolding digits
digits_last k n h = simp (lt-ltb n 10 h)

-- from 10 on the last digit stands behind the others
pub digits_more : (k n : ℕ) → 10 ≤ n → digits (suc k) n ≡ digits k (n / 10) ++ ((48 + n % 10) ∷ [])
unfolding digits
digits_more k n h = simp (le-ltb n 10 h)

-- a number is below 10, or is not
below_or_not : {A : Type 0} (n : ℕ) → (n < 10 → A) → (10 ≤ n → A) → A
below_or_not n f g = less_or_not n 10 f g

-- places past the number's digits change nothing
pub digits_enough : (k n : ℕ) → n < 10 ^ suc k → digits (suc (suc k)) n ≡ digits (suc k) n
digits_enough zero n h = digits_last 1 n h ∙ sym (digits_last 0 n h)
digits_enough (suc k) n h =
    below_or_not n (λ a. digits_last (suc (suc k)) n a ∙ sym (digits_last (suc k) n a))
    (λ a.
    digits_more (suc (suc k)) n a
    ∙ ap (λ (l : List ℕ). l ++ ((48 + n % 10) ∷ [])) (digits_enough k (n / 10) (omega arith))
    ∙ sym (digits_more (suc k) n a))

-- the decimal from 10 on
pub decimal_more : (n : ℕ) → 10 ≤ n → n < 2 ^ 64 → decimal n ≡ decimal (n / 10) ++ ((48 + n % 10) ∷ [])
decimal_more n a h =
    digits_more 19 n a ∙ ap (λ (l : List ℕ). l ++ ((48 + n % 10) ∷ [])) (sym (digits_enough 18 (n / 10) (omega arith)))

-- ---- lengths

digits_some : (k n : ℕ) → 0 < length (digits (suc k) n)
digits_some k n =
    below_or_not n (λ a. rw (digits_last k n a) (omega arith))
    (λ a. rw (digits_more k n a, length-append) (omega arith))

digits_within : (k n : ℕ) → length (digits k n) ≤ k
unfolding digits
digits_within zero n = omega arith
digits_within (suc k) n =
    below_or_not n (λ a. rw (digits_last k n a) (omega arith))
    (λ a. rw (digits_more k n a, length-append) (omega (arith, digits_within k (n / 10))))

digits_at_most : (k m n : ℕ) → n < 10 ^ suc m → length (digits k n) ≤ suc m
unfolding digits
digits_at_most zero m n h = omega arith
digits_at_most (suc k) zero n h = rw (digits_last k n h) (omega arith)
digits_at_most (suc k) (suc m) n h =
    below_or_not n (λ a. rw (digits_last k n a) (omega arith))
    (λ a. rw (digits_more k n a, length-append) (omega (arith, digits_at_most k m (n / 10) (omega arith))))

pub decimal_short : Short
decimal_short n k h = (digits_some 19 n, digits_at_most 20 k n h)

pub decimal_within : (n : ℕ) → length (decimal n) ≤ 20
decimal_within n = digits_within 20 n

-- ---- digits

abbrev Digit : ℕ → Type 0
Digit d = (48 ≤ d) × (d ≤ 57)

-- a property of the elements of a list, and of one behind them, is one of all
each_more : (P : ℕ → Type 0) (xs : List ℕ) (d : ℕ) → ((i : ℕ) → i < length xs → P (get_or xs i 0)) → P d →
    (i : ℕ) → i < length (xs ++ (d ∷ [])) → P (get_or (xs ++ (d ∷ [])) i 0)
each_more P [] d f p zero h = p
each_more P [] d f p (suc i) h = absurd (omega arith)
each_more P (x ∷ xs) d f p zero h = f 0 (omega arith)
each_more P (x ∷ xs) d f p (suc i) h = each_more P xs d (λ j l. f (suc j) (omega arith)) p i (omega arith)

digits_digit : (k n : ℕ) → (i : ℕ) → i < length (digits k n) → Digit (get_or (digits k n) i 0)
unfolding digits
digits_digit zero n = λ i h. absurd (omega arith)
digits_digit (suc k) n =
    below_or_not n (λ a. rw (digits_last k n a) (each_more Digit [] (48 + n) (λ i h. absurd (omega arith))
    (omega arith)))
    (λ a. rw (digits_more k n a) (each_more Digit (digits k (n / 10)) (48 + n % 10) (digits_digit k (n / 10))
    (omega arith)))

pub each_digit : EachDigit
each_digit n i h = digits_digit 20 n i h

-- ---- the number denoted

denoted_more : (a d : ℕ) (xs : List ℕ) → denoted a (xs ++ (d ∷ [])) ≡ denoted a xs * 10 + (d - 48)
unfolding denoted
denoted_more a d [] = refl
denoted_more a d (x ∷ xs) = denoted_more (a * 10 + (x - 48)) d xs

denoted_one : (d : ℕ) → denoted 0 (d ∷ []) ≡ d - 48
unfolding denoted
denoted_one d = omega arith

digits_denote : (k n : ℕ) → n < 10 ^ suc k → denoted 0 (digits (suc k) n) ≡ n
digits_denote zero n h = rw (digits_last 0 n h, denoted_one) (omega arith)
digits_denote (suc k) n h =
    below_or_not n (λ a. rw (digits_last (suc k) n a, denoted_one) (omega arith))
    (λ a.
    rw (
      digits_more (suc k) n a,
      denoted_more 0 (48 + n % 10) (digits (suc k) (n / 10)),
      digits_denote k (n / 10)
          (omega arith),
    )
    (omega arith))

pub decimal_denotes : Denotes
decimal_denotes n h = digits_denote 19 n h

-- ---- no leading zero

digits_lead : (k n : ℕ) → 0 < n → n < 10 ^ suc k → 48 < get_or (digits (suc k) n) 0 0
digits_lead zero n p h = rw (digits_last 0 n h) (omega arith)
digits_lead (suc k) n p h =
    below_or_not n (λ a. rw (digits_last (suc k) n a) (omega arith))
    (λ a.
    rw (
      digits_more (suc k) n a,
      List·getD-append (digits (suc k) (n / 10)) ((48 + n % 10) ∷ []) 0 0
          (digits_some k (n / 10)),
    )
    (digits_lead k (n / 10) (omega arith) (omega arith)))

pub no_leading_zero : NoLeadingZero
no_leading_zero n p h = digits_lead 19 n p h

-- ---- the digits put one by one

-- the one digit of a number below 10
pub one_digit : {b b₁ : List ℕ} {at p : ℕ} (n : ℕ) → n < 10 → Puts b at ((48 + n) ∷ []) p b₁ →
    Puts b at (decimal n) p b₁
one_digit n h f = puts_as (sym (digits_last 19 n h)) f

-- the last digit of a number from 10 on, behind the others
pub last_digit : {b b₁ b₂ : List ℕ} {at p q : ℕ} (n : ℕ) → 10 ≤ n → n < 2 ^ 64 → Puts b at (decimal (n / 10)) p b₁ →
    Puts b₁ p ((48 + n % 10) ∷ []) q b₂ → Puts b at (decimal n) q b₂
last_digit n more fits f g = puts_as (sym (decimal_more n more fits)) (puts_then f g)
