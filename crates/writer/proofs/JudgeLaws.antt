-- Judging a stretch of args fields, one turn of the loop at a time; the types. Assumes nothing.
use Rattle.prelude.proofs.Basics.{ℕ, zero, suc, ◌+◌, ◌-◌, ◌≤◌, ◌<◌, arith, Bool, true, false, not, cond, ◌≡◌, refl, sym}
use Rattle.prelude.proofs.Basics.{ap, ◌∙◌, List, length, eq-eqb, le-ltb, lt-ltb, ne_eqb, yes, no as without, before_suc}
use Rattle.protocol.specs.Client as Client
use Rattle.args.specs.Value.{argument_in}
use Rattle.args.proofs.ArgsFieldLaws.{no_wire}
use Rattle.message.specs.Operation as Operation
use Rattle.writer.proofs.Names.{field_at, PastField, Field, field_past, is_args, any_type_of, is_args_lem, no_number}
use Rattle.writer.proofs.Names.{is_good, on_arg, args_from, good_stretch, is_type, good_prepare, accepted_as}
use Rattle.std.specs.Prelude.{Option, None}
use Rattle.wire.specs.Field.{some_field}

-- where the loop stands: what is left at p answers for the whole stretch
pub record Judging (s : List ℕ) (p : ℕ) : Type 0 where
  pub most : ℕ
  pub enough : length s ≤ p + most
  pub whole : args_from most s p ≡ good_stretch s

pub starts : (s : List ℕ) → Judging s 0
starts s = record { most = length s; enough = omega arith; whole = refl }

pub judged_end : (most : ℕ) (s : List ℕ) (p : ℕ) → length s ≤ p → args_from most s p ≡ true
unfolding args_from
judged_end zero s p h = refl
judged_end (suc m) s p h = simp (le-ltb p (length s) h)

pub ends : {s : List ℕ} {p : ℕ} → Judging s p → length s ≤ p → true ≡ good_stretch s
ends {s} {p} k h = sym (judged_end k.most s p h) ∙ k.whole

pub unroll : (most : ℕ) (s : List ℕ) (p : ℕ) → 0 < most → p < length s →
    args_from most s p ≡ on_arg s (λ next. args_from (most - 1) s next) (field_at s p)
unfolding args_from
unroll zero s p g h = absurd (omega arith)
unroll (suc m) s p g h =
    simp (lt-ltb p (length s) h) (ap (λ (k : ℕ). on_arg s (λ next. args_from k s next) (field_at s p)) (before_suc m))

module _ {s : List ℕ} {p : ℕ} (k : Judging s p) (inside : p < length s) where
  turn : (f : Option Field) → field_at s p ≡ f → on_arg s (λ next. args_from (k.most - 1) s next) f ≡ good_stretch s
  turn f e =
      sym
      (unroll k.most s p (omega (arith, k.enough)) inside
      ∙ ap (on_arg s (λ next. args_from (k.most - 1) s next)) e)
      ∙ k.whole

  pub no_field : field_at s p ≡ None → false ≡ good_stretch s
  no_field e = turn None e

  module _ {number wire v start len next : ℕ} (e : field_at s p ≡ some_field number wire v start len next) where
    pub advances : p < next
    advances = go (field_past s p)
      where
        go : PastField p (length s) (field_at s p) → p < next
        go = rw e (λ h. h.2)

    abbrev rest : Bool
    rest = cond (is_good (argument_in s start len)) (args_from (k.most - 1) s next) false

    by_args : (b : Bool) → b ≡ is_args number wire v → cond b rest false ≡ good_stretch s
    by_args b h = ap (λ (c : Bool). cond c rest false) h ∙ turn (some_field number wire v start len next) e

    pub other_number : (number ≡ 2 → ⊥) → false ≡ good_stretch s
    other_number h = by_args false (no_number number wire v h)

    pub other_wire : number ≡ 2 → (wire ≡ 2 → ⊥) → false ≡ good_stretch s
    other_wire h g = by_args false (no_wire number wire v h g)

    pub bad_argument : number ≡ 2 → wire ≡ 2 → any_type_of (argument_in s start len) ≡ 0 → false ≡ good_stretch s
    bad_argument h g b =
        without (args_from (k.most - 1) s next) false (ap not (eq-eqb (any_type_of (argument_in s start len)) 0 b))
        ∙ by_args true (is_args_lem number wire v h g)

    pub goes_on_lem : number ≡ 2 → wire ≡ 2 → (any_type_of (argument_in s start len) ≡ 0 → ⊥) → Judging s next
    goes_on_lem h g b =
        record {
          most = k.most - 1;
          enough = omega (arith, k.enough, advances);
          whole =
              yes (args_from (k.most - 1) s next) false (ap not (ne_eqb (any_type_of (argument_in s start len)) 0 b))
              ∙ by_args true (is_args_lem number wire v h g);
        }

-- a type of a Prepare's statement that is none of the five
pub type_none : (t : ℕ) → (t ≡ Operation.find → ⊥) → (t ≡ Operation.insert → ⊥) → (t ≡ Operation.update → ⊥) →
    (t ≡ Operation.delete → ⊥) → (t ≡ Operation.stmt_execute → ⊥) → false ≡ is_type t
type_none t a b c d e =
    simp (
      ne_eqb t Operation.find a,
      ne_eqb t Operation.insert b,
      ne_eqb t Operation.update c,
      ne_eqb t Operation.delete d,
      ne_eqb t Operation.stmt_execute e,
    )

-- a message type that is none of the eight
pub kind_none : (kind operation : ℕ) (body args : List ℕ) → (kind ≡ Client.reset → ⊥) →
    (kind ≡ Client.session_close → ⊥) →
    (kind ≡ Client.prepare → ⊥) → (kind ≡ Client.execute → ⊥) → (kind ≡ Client.deallocate → ⊥) →
    (kind ≡ Client.open' → ⊥) → (kind ≡ Client.close → ⊥) → (kind ≡ Client.fetch → ⊥) →
    false ≡ accepted_as kind operation body args
unfolding accepted_as
kind_none kind operation body args a b c d e f g h =
    without true _ (ne_eqb kind Client.fetch h)
    ∙ without true _ (ne_eqb kind Client.close g)
    ∙ without (good_stretch args) _ (ne_eqb kind Client.open' f)
    ∙ without true _ (ne_eqb kind Client.deallocate e)
    ∙ without (good_stretch args) _ (ne_eqb kind Client.execute d)
    ∙ without (good_prepare operation body) _ (ne_eqb kind Client.prepare c)
    ∙ without true _ (ne_eqb kind Client.session_close b)
    ∙ without true _ (ne_eqb kind Client.reset a)
