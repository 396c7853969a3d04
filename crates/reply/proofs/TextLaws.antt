-- Laws of the message texts: which text a refusal has, and how long it is. Assumes nothing.
use Rattle.prelude.proofs.Basics.{ℕ, ◌+◌, ◌^◌, ◌≤◌, ◌<◌, arith, ◌≡◌, List, [], ◌++◌, append-nil, length, length-append}
use Rattle.prelude.proofs.Basics.{eqb, eq-eqb, ne_eqb, both}
use Rattle.reply.specs.Decimal.{decimal}
use Rattle.reply.specs.Text.{ascii, kind_name, unsupported, text}
use Rattle.reply.proofs.DecimalLaws.{decimal_within, decimal_short}

pub kind_array : (kind : ℕ) → kind ≡ 3 → ascii "ARRAY" ≡ kind_name kind
kind_array kind e = rw (eq-eqb kind 3 e)

pub kind_object : (kind : ℕ) → (kind ≡ 3 → ⊥) → ascii "OBJECT" ≡ kind_name kind
kind_object kind e = rw (ne_eqb kind 3 e)

-- ---- text, a number, text

pub numbered_length : (before after : List ℕ) (n : ℕ) →
    length (before ++ decimal n ++ after) ≡ length before + length (decimal n) + length after
numbered_length before after n = simp length-append

-- ---- the text of each refusal

pub text_7 : {reason : ℕ} (number kind : ℕ) → reason ≡ 7 →
    ascii "Statement with ID=" ++ decimal number ++ ascii " was not prepared." ≡ text reason number kind
unfolding text
text_7 number kind e = rw e

pub text_8 : {reason : ℕ} (number kind : ℕ) → reason ≡ 8 → unsupported number kind ≡ text reason number kind
unfolding text
text_8 number kind e = rw e

pub text_9 : {reason : ℕ} (number kind : ℕ) → reason ≡ 9 →
    ascii "There is no argument for statement placeholder at position: " ++ decimal number ++ [] ≡ text reason number
    kind
unfolding text
text_9 number kind e = rw (e, append-nil)

pub text_10 : {reason : ℕ} (number kind : ℕ) → reason ≡ 10 →
    ascii "Cursor with ID=" ++ decimal number ++ ascii " was not opened." ≡ text reason number kind
unfolding text
text_10 number kind e = rw e

pub text_11 : {reason : ℕ} (number kind : ℕ) → reason ≡ 11 →
    ascii "No more data in cursor (cursor id:'" ++ decimal number ++ ascii "')" ≡ text reason number kind
unfolding text
text_11 number kind e = rw e

pub text_other : (reason number kind : ℕ) → (reason ≡ 7 → ⊥) → (reason ≡ 8 → ⊥) → (reason ≡ 9 → ⊥) →
    (reason ≡ 10 → ⊥) → (reason ≡ 11 → ⊥) →
    ascii "Refused (" ++ decimal reason ++ ascii ")." ≡ text reason number kind
unfolding text
text_other reason number kind a b c d e =
    simp (ne_eqb reason 7 a, ne_eqb reason 8 b, ne_eqb reason 9 c, ne_eqb reason 10 d, ne_eqb reason 11 e)

-- ---- lengths

pub kind_length : (kind : ℕ) → length (kind_name kind) ≤ 6
kind_length kind = both (λ (l : List ℕ). length l ≤ 6) (eqb kind 3) (ascii "ARRAY") (ascii "OBJECT")
    (λ _. omega arith) (λ _. omega arith)

unsupported_length : (index kind : ℕ) → length (unsupported index kind) ≤ 92 + length (decimal index)
unsupported_length index kind =
    simp length-append (omega (arith, kind_length kind))

-- the longest is that of 8
pub text_length : (reason number kind : ℕ) → length (text reason number kind) ≤ 92 + length (decimal number)
unfolding text
text_length reason number kind =
    both P (eqb reason 7) _ _ (λ _. simp length-append (omega arith))
    (λ _.
    both P (eqb reason 8) _ _ (λ _. unsupported_length number kind)
    (λ _.
    both P (eqb reason 9) _ _ (λ _. simp length-append (omega arith))
    (λ _.
    both P (eqb reason 10) _ _ (λ _. simp length-append (omega arith))
    (λ _.
    both P (eqb reason 11) _ _ (λ _. simp length-append (omega arith))
    (λ _. simp length-append (omega (arith, decimal_within reason)))))))
  where
    P : List ℕ → Type 0
    P l = length l ≤ 92 + length (decimal number)

pub text_within : (reason number kind : ℕ) → length (text reason number kind) ≤ 112
text_within reason number kind = omega (arith, text_length reason number kind, decimal_within number)

pub text_small : (reason number kind : ℕ) → number < 2 ^ 32 → length (text reason number kind) ≤ 102
text_small reason number kind h = omega (arith, text_length reason number kind, decimal_short number 9 (omega arith))
