-- The value of an argument, case by case. Assumes nothing.
use Rattle.prelude.proofs.Basics.{ℕ, Bool, true, false, cond, ◌≡◌, List, ne_eqb, yes, no as without}
use Rattle.scalar.specs.declared.argument.Argument.TheVariants as Va
use Rattle.args.proofs.Names.{Argument, value_of, start_of, len_of, low32, Part, Slots, bad, bytes_of, of_type}
use Rattle.args.proofs.Names.{scalar_of}
use Rattle.args.proofs.Names.{of_any_type, any_of}

module _ (b : Bool) (x : Slots) where
  abbrev chosen : Argument
  chosen = cond b (Va.Octets (start_of x 1) (len_of x 1)) (Va.String (start_of x 1) (len_of x 1))

  pub bytes_bad : x.good ≡ false → bad ≡ bytes_of b x
  bytes_bad g = without chosen bad g

module _ (s : List ℕ) (ps : List Part) (x : Slots) where
  pub scalar_bad : x.good ≡ false → bad ≡ scalar_of s ps x
  unfolding scalar_of
  scalar_bad g = without (of_type s ps x (low32 (value_of x 1))) bad g

  pub scalar_good : x.good ≡ true → of_type s ps x (low32 (value_of x 1)) ≡ scalar_of s ps x
  unfolding scalar_of
  scalar_good g = yes (of_type s ps x (low32 (value_of x 1))) bad g

  pub any_bad : x.good ≡ false → bad ≡ any_of s ps x
  unfolding any_of
  any_bad g = without (of_any_type s ps x (low32 (value_of x 1))) bad g

  pub any_good : x.good ≡ true → of_any_type s ps x (low32 (value_of x 1)) ≡ any_of s ps x
  unfolding any_of
  any_good g = yes (of_any_type s ps x (low32 (value_of x 1))) bad g

  -- an unlisted type
  pub type_none : (t : ℕ) → (t ≡ 1 → ⊥) → (t ≡ 2 → ⊥) → (t ≡ 3 → ⊥) → (t ≡ 4 → ⊥) → (t ≡ 5 → ⊥) → (t ≡ 6 → ⊥) →
      (t ≡ 7 → ⊥) →
      (t ≡ 8 → ⊥) → bad ≡ of_type s ps x t
  unfolding of_type
  type_none t a b c d e f g h =
      simp (
        ne_eqb t 1 a,
        ne_eqb t 2 b,
        ne_eqb t 3 c,
        ne_eqb t 4 d,
        ne_eqb t 5 e,
        ne_eqb t 6 f,
        ne_eqb t 7 g,
        ne_eqb t
            8 h,
      )

  pub any_type_none : (t : ℕ) → (t ≡ 1 → ⊥) → (t ≡ 2 → ⊥) → (t ≡ 3 → ⊥) → bad ≡ of_any_type s ps x t
  unfolding of_any_type
  any_type_none t a b c = simp (ne_eqb t 1 a, ne_eqb t 2 b, ne_eqb t 3 c)
