-- Bytes that stand somewhere in a byte string. Assumes nothing.
use Rattle.prelude.proofs.Basics.{ℕ, ◌+◌, ◌≤◌, arith, Bool, true, false, cond, ◌≡◌, refl, sym, ap, ◌∙◌, List, [], ◌++◌}
use Rattle.prelude.proofs.Basics.{append-nil, append_assoc, length, get_or, take, drop, length-append, length-drop}
use Rattle.prelude.proofs.Basics.{length-take, drop-append-le, drop_at, drop-drop, get_or-drop, length-take-le, take-add}
use Rattle.prelude.proofs.Basics.{take-append-le, take_at, leb, le-leb, leb-false, leb-true, lt-leb}

-- ---- tests

-- a choice between two, each the image of another
pub chosen_alike : {A B : Type 0} (f : A → B) (b : Bool) {x y : A} {u v : B} → u ≡ f x → v ≡ f y →
    cond b u v ≡ f (cond b x y)
chosen_alike f true p q = p
chosen_alike f false p q = q

pub leb_add : (d a b : ℕ) → leb (d + a) (d + b) ≡ leb a b
leb_add d a b = go (leb a b) refl
  where
    go : (t : Bool) → leb a b ≡ t → leb (d + a) (d + b) ≡ leb a b
    go true e = le-leb (d + a) (d + b) (omega (arith, leb-true a b e)) ∙ sym e
    go false e = lt-leb (d + a) (d + b) (omega (arith, leb-false a b e)) ∙ sym e

-- ---- the bytes from a place to the end

pub record Tail (s : List ℕ) (d : ℕ) (t : List ℕ) : Type 0 where
  pub within : d ≤ length s
  pub is : drop d s ≡ t

module _ {s : List ℕ} {d : ℕ} {t : List ℕ} (k : Tail s d t) where
  pub tail_length : length s ≡ d + length t
  tail_length = omega (arith, ap length k.is, length-drop d s, k.within)

  pub tail_byte : (i : ℕ) → get_or s (d + i) 0 ≡ get_or t i 0
  tail_byte i = sym (get_or-drop d s i 0) ∙ ap (λ (l : List ℕ). get_or l i 0) k.is

  -- cut off behind some of them
  pub tail_take : (n : ℕ) → n ≤ length t → Tail (take (d + n) s) d (take n t)
  tail_take n h =
      record {
        within = omega (arith, length-take (d + n) s, tail_length);
        is =
            ap (drop d) (take-add d n s)
            ∙ drop_at (take d s) (take n (drop d s)) d (length-take-le d s k.within)
            ∙ ap (take n) k.is;
      }

-- ---- bytes at a place, and others behind them

pub record Stands (s : List ℕ) (at : ℕ) (bs q : List ℕ) : Type 0 where
  pub within : at ≤ length s
  pub there : drop at s ≡ bs ++ q

module _ {s : List ℕ} {at : ℕ} {bs q : List ℕ} (k : Stands s at bs q) where
  pub stands_length : length s ≡ at + length bs + length q
  stands_length = omega (arith, ap length k.there, length-drop at s, length-append bs q, k.within)

  pub stands_bytes : take (length bs) (drop at s) ≡ bs
  stands_bytes = ap (take (length bs)) k.there ∙ take_at bs q (length bs) refl

  pub stands_cut : Tail (take (at + length bs) s) at bs
  stands_cut =
      record {
        within = omega (arith, length-take (at + length bs) s, stands_length);
        is =
            ap (drop at) (take-add at (length bs) s)
            ∙ drop_at (take at s) (take (length bs) (drop at s)) at (length-take-le at s k.within)
            ∙ stands_bytes;
      }

pub tail_stands : {s : List ℕ} {d : ℕ} {t : List ℕ} → Tail s d t → Stands s d t []
tail_stands {s} {d} {t} k = record { within = k.within; there = k.is ∙ sym (append-nil t) }

-- of two parts one behind the other
module _ {s : List ℕ} {at : ℕ} (xs ys : List ℕ) {q : List ℕ} (k : Stands s at (xs ++ ys) q) where
  pub stands_first : Stands s at xs (ys ++ q)
  stands_first = record { within = k.within; there = k.there ∙ append_assoc xs ys q }

  pub stands_next : Stands s (at + length xs) ys q
  stands_next =
      record {
        within = omega (arith, stands_length k, length-append xs ys);
        there =
            sym (drop-drop (length xs) at s)
            ∙ ap (drop (length xs)) (k.there ∙ append_assoc xs ys q)
            ∙ drop_at xs (ys ++ q) (length xs) refl;
      }

pub stands_as : {s : List ℕ} {at : ℕ} {bs cs q : List ℕ} → bs ≡ cs → Stands s at bs q → Stands s at cs q
stands_as {q = q} e k = record { within = k.within; there = k.there ∙ ap (λ (l : List ℕ). l ++ q) e }

-- cut off behind some of the bytes
pub stands_take : {s : List ℕ} {at : ℕ} {bs q : List ℕ} → Stands s at bs q → (n : ℕ) → n ≤ length bs →
    Tail (take (at + n) s) at (take n bs)
stands_take {s} {at} {bs} {q} k n h =
    record {
      within = omega (arith, length-take (at + n) s, stands_length k);
      is =
          ap (drop at) (take-add at n s)
          ∙ drop_at (take at s) (take n (drop at s)) at (length-take-le at s k.within)
          ∙ ap (take n) k.there
          ∙ take-append-le n bs q h;
    }

-- with more bytes behind the whole
pub stands_more : {s : List ℕ} {at : ℕ} {bs q : List ℕ} (r : List ℕ) → Stands s at bs q → Stands (s ++ r) at bs (q ++ r)
stands_more {s} {at} {bs} {q} r k =
    record {
      within = omega (arith, length-append s r, k.within);
      there = drop-append-le at s r k.within ∙ ap (λ (l : List ℕ). l ++ r) k.there ∙ append_assoc bs q r;
    }
