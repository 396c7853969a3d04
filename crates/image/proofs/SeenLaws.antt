-- An entry whose slot was not seen is not live yet. Assumes nothing.
use Rattle.prelude.proofs.Basics.{ℕ, ◌<◌, ◌%◌, arith, Bool, true, false, ◌&&◌, true≢false, ◌≡◌, refl, sym, ap, Option}
use Rattle.prelude.proofs.Basics.{◌∙◌, mod-lt, List, length, get_or, set, replicate, length-set, get_or-set_same}
use Rattle.prelude.proofs.Basics.{get_or-set_other, eqb, eqb-true, eqb-false}
use lib.ListN.{length-replicate}
use Rattle.session.specs.Lists.{how_many, put}
use Rattle.session.proofs.SumLaws.{one, sum_put_le}
use Rattle.image.specs.private.Ends.{slots}

pub slot_inside : (id : ℕ) → id % slots < slots
slot_inside id = let some : 0 < slots = omega arith in mod-lt id some

-- entries that are live or not, and have a number
module _ {A : Type 0} (live : A → Bool) (num : A → ℕ) where
  pub record Unseen (seen : List Bool) (xs : List A) : Type 0 where
    pub long : length seen ≡ slots
    pub none : (id : ℕ) → get_or seen (id % slots) false ≡ false → how_many (λ y. live y && eqb (num y) id) xs ≡ 0

  pub unseen_starts : (xs : List A) → ((id : ℕ) → how_many (λ y. live y && eqb (num y) id) xs ≡ 0) →
      Unseen (replicate slots false) xs
  unseen_starts xs h = record { long = length-replicate slots false; none = λ id _. h id }

  module _ {seen : List Bool} {xs : List A} (u : Unseen seen xs) (y : A) (lives : live y ≡ true) (at : Option ℕ) where
    abbrev marked : List Bool
    marked = set seen (num y % slots) true

    -- the slot of the new number is seen
    own-seen : get_or marked (num y % slots) false ≡ true
    own-seen =
        let inside : num y % slots < length seen = omega (arith, slot_inside (num y), u.long) in
        get_or-set_same seen (num y % slots) true false inside

    still-none : (id : ℕ) → get_or marked (id % slots) false ≡ false →
        how_many (λ y. live y && eqb (num y) id) (put xs at y) ≡ 0
    still-none id h = go (eqb (id % slots) (num y % slots)) refl (eqb (num y) id) refl
      where
        go : (a : Bool) → eqb (id % slots) (num y % slots) ≡ a → (b : Bool) → eqb (num y) id ≡ b →
            how_many (λ y. live y && eqb (num y) id) (put xs at y) ≡ 0
        go true f b g =
            absurd (true≢false (sym own-seen
            ∙ ap (λ (n : ℕ). get_or marked n false) (sym (eqb-true (id % slots) (num y % slots) f))
            ∙ h))
        go false f true g =
            absurd (eqb-false (id % slots) (num y % slots) f (ap (λ (n : ℕ). n % slots) (sym (eqb-true (num y) id g))))
        go false f false g =
            omega (
              arith,
              sum_put_le (λ y. one (live y && eqb (num y) id)) y xs at,
              ap one (ap (λ (b : Bool). b && eqb (num y) id) lives ∙ g),
              u.none id
                  (sym (get_or-set_other seen (num y % slots) (id % slots) true false
                  (eqb-false (id % slots) (num y % slots) f)) ∙ h),
            )

    pub unseen_goes_on : {ys : List A} → ys ≡ put xs at y → Unseen marked ys
    unseen_goes_on f =
        record {
          long = length-set seen (num y % slots) true ∙ u.long;
          none = λ id h. ap (how_many (λ y. live y && eqb (num y) id)) f ∙ still-none id h;
        }
