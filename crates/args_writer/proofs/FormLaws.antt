-- A bare `x != x` asks whether x is a NaN: a NaN, and nothing else, differs from itself. Assumes nothing.
use Rattle.prelude.proofs.Basics.{ℕ, arith, Bool, true, false, not, ◌≡◌, refl, ap, T}
use lib.Ieee.{Float, nan, inf, fin, is_nan, ne}
use lib.Ieee.Compare.{differs_from_itself, nan_differs}

pub nan_told : (x : Float) → ne x x ≡ true → is_nan x ≡ true
unfolding is_nan
nan_told x e = ap is_nan (differs_from_itself x (rw e tt))

pub nan_not : (x : Float) → ne x x ≡ false → is_nan x ≡ false
unfolding is_nan
nan_not nan e = absurd (let d = nan_differs in let z : ◌≡◌ {A = ℕ} 0 1 = cc in omega arith)
nan_not (inf s) e = refl
nan_not (fin s m d) e = refl

pub nan_asked : (x : Float) → is_nan x ≡ false → T (not (is_nan x))
nan_asked x e = rw e tt
