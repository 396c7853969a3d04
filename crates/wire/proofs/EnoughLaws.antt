-- Fuel that is enough for the bytes left makes no difference to a group. Assumes nothing.
use Rattle.prelude.proofs.Basics.{ℕ, zero, suc, ◌+◌, ◌≤◌, ◌<◌, arith, cond, ◌≡◌, refl, sym, ap, ◌∙◌, List, length, eqb}
use Rattle.wire.proofs.Names.{tag_at, skip_value, and_then, group_field, group_fields, group_end, PastTag, PastSkip}
use Rattle.wire.proofs.Names.{Tag}
use Rattle.wire.specs.GroupRules.{EnoughFields}
use Rattle.wire.proofs.PastLaws.{tag_past, skip_past, group_past}
use Rattle.wire.proofs.GroupLaws.{fields_end}
use Rattle.std.specs.Prelude.{Option, Some, None}

-- ways on that agree from here on
then_same : (p end : ℕ) (x : Option ℕ) → PastSkip p end x → (f g : ℕ → Option ℕ) → ((q : ℕ) → p ≤ q → f q ≡ g q) →
    and_then x f ≡ and_then x g
then_same p end (Some q) h f g e = e q h.0
then_same p end None h f g e = refl

module _ (inner : ℕ → ℕ → Option ℕ) (s : List ℕ) (number : ℕ)
    (inner-past : (n p : ℕ) → PastSkip p (length s) (inner n p)) where
  field_same : (at : ℕ) (t : Option Tag) → PastTag at (length s) t → (f g : ℕ → Option ℕ) → ((q : ℕ) → at < q → f q ≡ g q) →
      group_field inner f s number t ≡ group_field inner g s number t
  field_same at (Some r) h f g e =
      ap (λ (x : Option ℕ). ended (cond (eqb r.wire 3) x (and_then (skip_value s r.wire r.next) f)))
      (on (inner r.number r.next) (inner-past r.number r.next))
      ∙ ap (λ (x : Option ℕ). ended (cond (eqb r.wire 3) (and_then (inner r.number r.next) g) x))
      (on (skip_value s r.wire r.next) (skip_past s r.wire r.next))
    where
      ended : Option ℕ → Option ℕ
      ended x = cond (eqb r.wire 4) (cond (eqb r.number number) (Some r.next) None) x

      on : (x : Option ℕ) → PastSkip r.next (length s) x → and_then x f ≡ and_then x g
      on x p = then_same r.next (length s) x p f g (λ q i. e q (omega (arith, h.0)))
  field_same at None h f g e = refl

  fields_same : (m n at : ℕ) → length s ≤ at + m → length s ≤ at + n →
      group_fields inner m s at number ≡ group_fields inner n s at number
  unfolding group_fields
  fields_same zero n at h i =
      fields_end inner zero s at number (omega arith) ∙ sym (fields_end inner n s at number (omega arith))
  fields_same (suc m) zero at h i =
      fields_end inner (suc m) s at number (omega arith) ∙ sym (fields_end inner zero s at number (omega arith))
  fields_same (suc m) (suc n) at h i =
      field_same at (tag_at s at) (tag_past s at) (λ q. group_fields inner m s q number)
      (λ q. group_fields inner n s q number)
      (λ q j. fields_same m n q (omega arith) (omega arith))

pub enough_fields : EnoughFields
unfolding group_end
enough_fields depth most s at number h =
    fields_same (λ n p. group_end depth s p n) s number (λ n p. group_past depth s p n) most (length s) at h
    (omega arith)
