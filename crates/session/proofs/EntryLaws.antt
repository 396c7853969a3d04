-- Laws on one entry. Assumes nothing.
use Rattle.prelude.proofs.Basics.{ℕ, ◌≤◌, arith, ◌-◌, Bool, true, false, not, ◌&&◌, cond, ◌≡◌, refl, sym, ap, ◌∙◌, ne_eqb}
use mir.Val.{bool_byte}
use Rattle.session.proofs.Names.{flag, owes, Cursor}

-- a flag that is 0, and one that is not
pub flag_off : (live : ℕ) → live ≡ 0 → flag live ≡ false
flag_off live e = rw e

pub flag_on : (live : ℕ) → (live ≡ 0 → ⊥) → flag live ≡ true
flag_on live h = rw (ne_eqb live 0 h) refl

pub free_yes : (live : ℕ) → live ≡ 0 → not (flag live) ≡ true
free_yes live e = ap not (flag_off live e)

pub free_no : (live : ℕ) → (live ≡ 0 → ⊥) → not (flag live) ≡ false
free_no live h = ap not (flag_on live h)

pub tells_off : (live : ℕ) (b : Bool) → live ≡ 0 → flag live ≡ flag live && b
tells_off live b e = flag_off live e ∙ sym (ap (λ x. x && b) (flag_off live e))

pub tells_on : (live : ℕ) (b : Bool) → (live ≡ 0 → ⊥) → b ≡ flag live && b
tells_on live b h = sym (ap (λ x. x && b) (flag_on live h))

pub one_off : (live : ℕ) → live ≡ 0 → ◌≡◌ {A = ℕ} 0 (cond (flag live) 1 0)
one_off live e = sym (ap (λ x. cond {A = ℕ} x 1 0) (flag_off live e))

pub one_on : (live : ℕ) → (live ≡ 0 → ⊥) → ◌≡◌ {A = ℕ} 1 (cond (flag live) 1 0)
one_on live h = sym (ap (λ x. cond {A = ℕ} x 1 0) (flag_on live h))

module _ (c : Cursor) where
  pub owes_dead : c.live ≡ 0 → 0 ≡ owes c
  owes_dead e = sym (ap (λ x. cond x (c.rows - c.sent) 0) (flag_off c.live e))

  pub owes_live : (n : ℕ) → (c.live ≡ 0 → ⊥) → n ≡ c.rows - c.sent → n ≡ owes c
  owes_live n h e = e ∙ sym (ap (λ x. cond x (c.rows - c.sent) 0) (flag_on c.live h))

-- a test as a number
pub bit_of : (b : Bool) → bool_byte b ≡ cond b 1 0
bit_of true = refl
bit_of false = refl

pub bit_small : (b : Bool) → bool_byte b ≤ 1
bit_small true = omega arith
bit_small false = omega arith
