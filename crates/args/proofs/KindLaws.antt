-- The Any type of what a scalar's bits carry. Assumes nothing.
use Rattle.prelude.proofs.Basics.{ℕ, Bool, true, false, cond, ◌≡◌, sym}
use Rattle.args.proofs.Names.{Argument, any_type_of}

-- a number or a NaN: a scalar either way
pub either_scalar : (b : Bool) (x y : Argument) → any_type_of x ≡ 1 → any_type_of y ≡ 1 → ◌≡◌ {A = ℕ} 1
    (any_type_of (cond b x y))
either_scalar true x y e f = sym e
either_scalar false x y e f = sym f
