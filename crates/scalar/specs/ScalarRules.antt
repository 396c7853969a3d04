-- What holds of scalars beside their definitions: nothing is lost (W5, W6), and each has its type (L8).
use Rattle.std.specs.Prelude.{◌≡◌, ℕ, ◌-◌, ◌^◌, ◌<◌, [], ◌∷◌, map, ℤ, pos, negsuc}
use Rattle.scalar.specs.Zigzag.{zigzag, unzigzag}
use Rattle.scalar.specs.Argument.{signed_of, double_of, float_of, type_of, values_of}

-- zigzag loses nothing, either way; with the four examples of W5
pub record ZigzagBothWays : Type 0 where
  pub back : (z : ℤ) → unzigzag (zigzag z) ≡ z
  pub forth : (n : ℕ) → zigzag (unzigzag n) ≡ n
  pub samples : map zigzag (pos 0 ∷ negsuc 0 ∷ pos 1 ∷ negsuc (2 ^ 63 - 1) ∷ []) ≡ 0 ∷ 1 ∷ 2 ∷ (2 ^ 64 - 1) ∷ []

-- an argument holds the bits that it came with: every sint, double and float, NaNs too
pub record BitsKept : Type 0 where
  pub sint : (n : ℕ) → values_of (signed_of n) ≡ n ∷ []
  pub double : (n : ℕ) → n < 2 ^ 64 → values_of (double_of n) ≡ n ∷ []
  pub float : (n : ℕ) → n < 2 ^ 32 → values_of (float_of n) ≡ n ∷ []

-- a double is of Scalar type 5 and a float of 6, a NaN too
pub record FloatsTyped : Type 0 where
  pub double : (n : ℕ) → type_of (double_of n) ≡ 5
  pub float : (n : ℕ) → type_of (float_of n) ≡ 6
