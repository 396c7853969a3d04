-- A frame's head, case by case. Assumes nothing.
use Rattle.prelude.proofs.Basics.{ℕ, ◌+◌, ◌≤◌, arith, Bool, true, false, cond, ◌≡◌, refl, sym, ap, ◌∙◌, List}
use Rattle.prelude.proofs.Basics.{length, get_or, leb, le-leb, le-ltb, leb-true, ne_eqb}
use Rattle.scalar.specs.Fixed.{fixed_at}
use Rattle.varint.specs.declared.Number.{Number}
use Rattle.message.proofs.Names.{little, framed, length_bytes, max_length, length_of, head_of}
use Rattle.std.specs.Prelude.{Option, Some, None}
use Rattle.varint.specs.Number.{some_number}

fixed_cases : (s : List ℕ) (f : Option Number) → f ≡ fixed_at length_bytes s 0 →
    (b : Bool) → leb length_bytes (length s) ≡ b →
    f ≡ cond b (some_number (little length_bytes s 0) length_bytes) None
fixed_cases s f e b h = e ∙ ap (λ (x : Bool). cond x (some_number (little length_bytes s 0) length_bytes) None) h

abbrev value_in : Option Number → ℕ
value_in (Some r) = r.value
value_in None = 0

module _ (s : List ℕ) {v next : ℕ} (e : some_number v next ≡ fixed_at length_bytes s 0) where
  pub head_there : (length_bytes ≤ length s) × (v ≡ length_of s)
  head_there = go (leb length_bytes (length s)) refl
    where
      go : (b : Bool) → leb length_bytes (length s) ≡ b → (length_bytes ≤ length s) × (v ≡ length_of s)
      go true h = (leb-true length_bytes (length s) h, ap value_in (fixed_cases s (some_number v next) e true h))
      go false h =
          absurd (let z = fixed_cases s (some_number v next) e false h in let y : ◌≡◌ {A = ℕ} 0 1 = cc in omega arith)

  there : leb length_bytes (length s) ≡ true
  there = le-leb length_bytes (length s) head_there.0

  pub head_whole : (v ≡ 0 → ⊥) → v ≤ max_length → length_bytes + v ≤ length s →
      framed (get_or s length_bytes 0) (length_bytes + v) ≡ head_of s
  head_whole h g c =
      ap (λ (n : ℕ). framed (get_or s length_bytes 0) (length_bytes + n)) head_there.1
      ∙ sym
      (simp (
        there,
        ne_eqb (length_of s) 0 (λ z. h (head_there.1 ∙ z)),
        le-ltb max_length (length_of s) (omega (arith, head_there.1)),
        le-ltb (length s) (length_bytes + length_of s) (omega (arith, head_there.1)),
      ))
