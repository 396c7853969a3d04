-- What is found of a message tells how many parts each of its fields with bytes has. Assumes nothing.
use Rattle.prelude.proofs.Basics.{ℕ, suc, arith, Bool, true, ◌≡◌, refl, sym, ap, ap₂, ◌∙◌, List, [], ◌∷◌}
use Rattle.prelude.proofs.Basics.{length, ne_eqb}
use Rattle.layout.proofs.Names.{len, row_for, wire_of, fields_at, parts_of, parts_in, Part, Slots}
use Rattle.layout.specs.Part.{value_of, len_of}
use Rattle.layout.specs.Merged.{one_part, merged}
use Rattle.layout.specs.MergedRules.{holds_bytes, Keeps}
use Rattle.layout.specs.private.Found.{up_to_two, slot_at, Holds}
use Rattle.layout.specs.declared.found.Slot.{Slot}
use Rattle.layout.specs.declared.found.Found.{Found}
use Rattle.layout.specs.private.Counted.{Counted}
use Rattle.layout.proofs.FoundLaws.{held_value, held_start, held_times, bytes_long}
use Rattle.layout.proofs.KeepsLaws.{parts_kept, one_only}
use Rattle.layout.proofs.MergedPlaceLaws.{merged_long}

held_counted : {x : Slots} {g : Bool} {found : Found} → Holds x g found → (k : ℕ) (ps : List Part) → Keeps x k ps →
    len_of x k ≡ value_of x k → Counted ps (slot_at found k)
held_counted {x} h k ps keeps long =
    record {
      many = held_times h k ∙ ap up_to_two keeps.count;
      one = λ e.
          one_only x k ps keeps (keeps.count ∙ e)
          ∙ ap₂ (λ (a b : ℕ). one_part a b) (sym (held_start h k)) (long ∙ sym (held_value h k));
    }

module _ (rows : List (List ℕ)) (k : ℕ) (holds : holds_bytes rows k ≡ true) (wire : wire_of (row_for rows k) ≡ len)
    {g : Bool} {found : Found} where
  pub merged_counted : (s : List ℕ) (ps : List Part) → Holds (merged rows s ps) g found → g ≡ true →
      Counted (parts_in k s ps) (slot_at found k)
  merged_counted s ps h e =
      held_counted h k (parts_in k s ps) (parts_kept.inner rows k s ps holds (sym h.answer ∙ e))
      (merged_long rows k wire s ps)

  pub fields_counted : (s : List ℕ) (from : ℕ) → Holds (fields_at rows s from) g found → g ≡ true →
      Counted (parts_of k s from) (slot_at found k)
  fields_counted s from h e =
      held_counted h k (parts_of k s from) (parts_kept.whole rows k s from holds (sym h.answer ∙ e))
      (bytes_long rows k wire s from)

-- ---- what is told of the parts

-- two or more
up_two : (m : ℕ) → up_to_two (suc (suc m)) ≡ 2
up_two m = simp (ne_eqb (suc (suc m)) 0 (λ e. omega arith), ne_eqb (suc (suc m)) 1 (λ e. omega arith))

module _ {ps : List Part} {slot : Slot} (c : Counted ps slot) where
  pub counted_none : slot.times ≡ 0 → ps ≡ []
  counted_none e = go ps (sym c.many ∙ e)
    where
      go : (qs : List Part) → up_to_two (length qs) ≡ 0 → qs ≡ []
      go [] h = refl
      go (q ∷ []) h = absurd (omega (arith, h))
      go (q ∷ (r ∷ qs)) h = absurd (omega (arith, sym (up_two (length qs)) ∙ h))

  pub counted_one : slot.times ≡ 1 → ps ≡ one_part slot.start slot.value
  counted_one e = go ps (sym c.many ∙ e) c.one
    where
      go : (qs : List Part) → up_to_two (length qs) ≡ 1 → (length qs ≡ 1 → qs ≡ one_part slot.start slot.value) →
          qs ≡ one_part slot.start slot.value
      go [] h f = absurd (omega (arith, h))
      go (q ∷ []) h f = f refl
      go (q ∷ (r ∷ qs)) h f = absurd (omega (arith, sym (up_two (length qs)) ∙ h))

-- two parts at least
pub record Several (ps : List Part) : Type 0 where
  pub first : Part
  pub second : Part
  pub rest : List Part
  pub are : ps ≡ first ∷ (second ∷ rest)

pub counted_several : {ps : List Part} {slot : Slot} → Counted ps slot → (slot.times ≡ 0 → ⊥) →
    (slot.times ≡ 1 → ⊥) → Several ps
counted_several {ps} c none one = go ps refl
  where
    go : (qs : List Part) → ps ≡ qs → Several ps
    go [] e = absurd (none (c.many ∙ ap (λ (l : List Part). up_to_two (length l)) e))
    go (q ∷ []) e = absurd (one (c.many ∙ ap (λ (l : List Part). up_to_two (length l)) e))
    go (q ∷ (r ∷ qs)) e = record { first = q; second = r; rest = qs; are = e }
