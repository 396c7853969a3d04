-- A good stretch of args fields, read where it stands in a message. Assumes nothing.
use Rattle.prelude.proofs.Basics.{ℕ, zero, suc, ◌+◌, ◌≤◌, ◌<◌, arith, add-zero, Bool, true, false, not, cond, ◌≡◌, refl}
use Rattle.prelude.proofs.Basics.{sym, ap, subst, ◌∙◌, List, ◌∷◌, length, get_or, set, eqb, eqb-false, lt-ltb}
use Rattle.prelude.proofs.Basics.{less_or_not}
use Rattle.wire.proofs.MovedLaws.{moved_field, field_moved}
use Rattle.wire.proofs.AgreeLaws.{field_longer}
use Rattle.args.specs.Value.{argument_in}
use Rattle.args.proofs.ArgsFieldLaws.{args_number_lem}
use Rattle.writer.proofs.Names.{Stands, stands_length, field_at, Field, use_of, noted, Use, Slots, Listing}
use Rattle.writer.proofs.Names.{goes_on_lem, is_args, any_type_of, field_inside, on_arg, args_from, good_stretch}
use Rattle.writer.proofs.FieldLaws.{Reads}
use Rattle.std.specs.Prelude.{Option, Some, None}
use Rattle.wire.specs.Field.{some_field}

-- good args fields from the place i to the end of a
pub data Stretch (a : List ℕ) : ℕ → Type 0 where
  done : {i : ℕ} → i ≡ length a → Stretch a i
  more : {i v st ln next : ℕ} → field_at a i ≡ some_field 2 2 v st ln next → (any_type_of (argument_in a st ln) ≡ 0 → ⊥) →
      Stretch a next →
      Stretch a i

module _ (a : List ℕ) where
  -- one field that is judged good
  stretch-on : (m i : ℕ) → ((next : ℕ) → i < next → next ≤ length a → args_from m a next ≡ true → Stretch a next) →
      (f : Option Field) → field_at a i ≡ f →
      on_arg a (λ next. args_from m a next) f ≡ true → Stretch a i
  stretch-on m i on None e g = absurd (let z : ◌≡◌ {A = ℕ} 0 1 = cc in omega arith)
  stretch-on m i on (Some r) e g =
      go (is_args r.number r.wire r.value) refl (eqb (any_type_of (argument_in a r.start r.len)) 0) refl g
    where
      go : (b : Bool) → is_args r.number r.wire r.value ≡ b → (z : Bool) → eqb (any_type_of (argument_in a r.start r.len)) 0 ≡ z →
          cond b (cond (not z) (args_from m a r.next) false) false ≡ true → Stretch a i
      go true eb false ez h =
          let inside = field_inside a i e in
          let two = args_number_lem r.number r.wire r.value eb in
          let args : some_field r.number r.wire r.value r.start r.len r.next ≡ some_field 2 2 r.value r.start r.len r.next = rw (two.0, two.1) in
          more (e ∙ args) (eqb-false (any_type_of (argument_in a r.start r.len)) 0 ez) (on r.next inside.1 inside.2 h)
      go true eb true ez h = absurd (let z : ◌≡◌ {A = ℕ} 0 1 = cc in omega arith)
      go false eb z ez h = absurd (let z : ◌≡◌ {A = ℕ} 0 1 = cc in omega arith)

  stretch-from : (m i : ℕ) → length a ≤ i + m → i ≤ length a → args_from m a i ≡ true → Stretch a i
  unfolding args_from
  stretch-from zero i h g e = let z : i ≡ length a = omega arith in done z
  stretch-from (suc m) i h g e =
      less_or_not i (length a)
      (λ l. stretch-on m i (λ next b c. stretch-from m next (omega arith) c) (field_at a i) refl
      (rw (lt-ltb i (length a) l) at e))
      (λ l. let z : i ≡ length a = omega arith in done z)

  pub stretch_of : good_stretch a ≡ true → Stretch a 0
  stretch_of e = stretch-from (length a) 0 (omega arith) (omega arith) e

-- how many
abbrev pub field_count : {a : List ℕ} {i : ℕ} → Stretch a i → ℕ
field_count (done e) = 0
field_count (more e b k) = suc (field_count k)

-- ---- among the fields of a message

-- n occurrences more of field 2
unfoldable pub bump : ℕ → List ℕ → List ℕ
bump zero l = l
bump (suc n) l = bump n (set l 2 (get_or l 2 0 + 1))

pub bumped : (n x y z : ℕ) (l : List ℕ) → bump n (x ∷ y ∷ z ∷ l) ≡ x ∷ y ∷ (z + n) ∷ l
unfolding bump
bumped zero x y z l = ap (λ (k : ℕ). x ∷ y ∷ k ∷ l) (sym (add-zero z))
bumped (suc n) x y z l =
    let e : z + 1 + n ≡ z + suc n = omega arith in
    bumped n x y (z + 1) l ∙ ap (λ (k : ℕ). x ∷ y ∷ k ∷ l) e

abbrev pub with_count : Slots → List ℕ → Slots
with_count x l = record { good = x.good; count = l; value = x.value; start = x.start; len = x.len }

-- the field at a place of the stretch, where the stretch stands
module _ {s : List ℕ} {at : ℕ} {a q : List ℕ} (k : Stands s at a q) where
  pub there : (i : ℕ) {v st ln next : ℕ} → field_at a i ≡ some_field 2 2 v st ln next →
      field_at s (at + i) ≡ some_field 2 2 v (at + st) ln (at + next)
  there i {v} {st} {ln} {next} e =
      field_moved (record { within = k.within; is = k.there }) i
      ∙ ap (moved_field at) (field_longer a q i e)

  listing-stretch : (rows : List (List ℕ)) → ((v : ℕ) → use_of rows 2 2 v ≡ Use.Counted) →
      (from i : ℕ) (x : Slots) (g : Stretch a i) →
      Listing rows s from (at + i) x →
      Listing rows s from (at + length a) (with_count x (bump (field_count g) x.count))
  unfolding bump
  listing-stretch rows c from i x (done e) l = subst (λ (p : ℕ). Listing rows s from (at + p) x) e l
  listing-stretch rows c from i x (more {v = v} {st = st} {ln = ln} {next = next} e b g) l =
      let inside = field_inside a i e in
      listing-stretch rows c from next (noted Use.Counted x 2 v (at + st) ln) g
      (goes_on_lem l (omega (arith, stands_length k)) (there i e) Use.Counted (sym (c v)))

pub reads_stretch : (rows : List (List ℕ)) → ((v : ℕ) → use_of rows 2 2 v ≡ Use.Counted) →
    (a : List ℕ) (g : Stretch a 0) →
    Reads rows a (λ at x. with_count x (bump (field_count g) x.count))
reads_stretch rows c a g =
    record {
      on = λ s from at q x k l.
          let e : at ≡ at + 0 = omega arith in
          listing-stretch k rows c from 0 x g (subst (λ (p : ℕ). Listing rows s from p x) e l);
    }
