-- Whether every argument of a message is good, field by field. Assumes nothing.
use Rattle.prelude.proofs.Basics.{ℕ, ◌≤◌, ◌<◌, arith, Bool, true, false, cond, ◌≡◌, refl, sym, ap, ◌∙◌, List, []}
use Rattle.prelude.proofs.Basics.{◌∷◌, length, eqb, eq-eqb, eqb-false, ne_eqb}
use Rattle.args.proofs.Names.{Argument, field_at, argument_in, arguments_at, any_type_of}
use Rattle.args.proofs.Names.{no_arguments, bad_arguments, with_type, together, arguments_in, Arguments}
use Rattle.std.specs.Prelude.{Err}
use Rattle.protocol.specs.declared.reason.Reason.{Reason}
use Rattle.args.specs.private.Bound.{tests_args}
use Rattle.args.proofs.PlaceLaws.{starts, no_field, next_end, next_placed}
use Rattle.args.proofs.ArgumentsLaws.{type_good, from_none, from_found}
use Rattle.args.proofs.BoundLaws.{tests}
use Rattle.args.proofs.UnreadLaws.{args_at, args_past}
use Rattle.std.specs.Prelude.{None}
use Rattle.wire.specs.Field.{some_field}

-- each is good
abbrev good_args : List Argument → Bool
good_args [] = true
good_args (a ∷ rest) = cond (eqb (any_type_of a) 0) false (good_args rest)

together_good : (x : Arguments) → x.good ≡ true → (all : List Argument) → (together x all).good ≡ good_args all
unfolding together
together_good x g [] = g
together_good x g (a ∷ rest) =
    go (eqb (any_type_of a) 0) refl
    (λ e. together_good (with_type x (any_type_of a)) (type_good x (any_type_of a) e ∙ g) rest)
  where
    go : (b : Bool) → eqb (any_type_of a) 0 ≡ b →
        ((any_type_of a ≡ 0 → ⊥) → (together (with_type x (any_type_of a)) rest).good ≡ good_args rest) →
        (cond b bad_arguments (together (with_type x (any_type_of a)) rest)).good ≡ cond b false (good_args rest)
    go true e on = refl
    go false e on = on (eqb-false (any_type_of a) 0 e)

-- from the place p on the arguments answer for all
pub record Judging (s : List ℕ) (from p : ℕ) : Type 0 where
  pub whole : good_args (arguments_at s p) ≡ (arguments_in s from).good

pub judging : (s : List ℕ) (from : ℕ) → Judging s from from
judging s from = record { whole = sym (together_good (no_arguments from (length s)) refl (arguments_at s from)) }

module _ {s : List ℕ} {from p : ℕ} (j : Judging s from p) where
  pub judged : length s ≤ p → true ≡ (arguments_in s from).good
  judged h = ap good_args (sym (from_none (length s) s p (next_end s p h))) ∙ j.whole

  module _ (inside : p < length s) where
    pub judged_bad : field_at s p ≡ None → false ≡ (arguments_in s from).good
    judged_bad e =
        ap good_args
        (sym
        (from_found (length s) s p (omega arith)
        (sym (next_placed s p (Err Reason.BadPayload) (no_field (starts s p) inside e)))))
        ∙ j.whole

    module _ {number wire v start n next : ℕ} (e : field_at s p ≡ some_field number wire v start n next) where
      pub judged_other : tests_args number wire ≡ false → Judging s from next
      judged_other h =
          record { whole = ap good_args (sym (args_past s p e (tests number wire v ∙ h))) ∙ j.whole }

      module _ (h : tests_args number wire ≡ true) where
        here : arguments_at s p ≡ argument_in s start n ∷ arguments_at s next
        here = args_at s p e (tests number wire v ∙ h)

        pub judged_spoilt : any_type_of (argument_in s start n) ≡ 0 → false ≡ (arguments_in s from).good
        judged_spoilt z =
            ap (λ (b : Bool). cond b false (good_args (arguments_at s next)))
            (sym (eq-eqb (any_type_of (argument_in s start n)) 0 z))
            ∙ ap good_args (sym here)
            ∙ j.whole

        pub judged_good : (any_type_of (argument_in s start n) ≡ 0 → ⊥) → Judging s from next
        judged_good z =
            record {
              whole =
                  ap (λ (b : Bool). cond b false (good_args (arguments_at s next)))
                  (sym (ne_eqb (any_type_of (argument_in s start n)) 0 z))
                  ∙ ap good_args (sym here)
                  ∙ j.whole;
            }
