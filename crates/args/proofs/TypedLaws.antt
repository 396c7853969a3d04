-- A scalar that is read has the type that its message names. Assumes nothing.
use Rattle.prelude.proofs.Basics.{ℕ, arith, Bool, true, false, not, cond, ◌≡◌, sym, ◌∙◌, List, eqb, eqb-true, both}
use Rattle.scalar.specs.Argument.{type_of}
use Rattle.scalar.specs.declared.argument.Argument.TheVariants as Va
use Rattle.scalar.proofs.ArgumentLaws.{floats_typed}
use Rattle.args.proofs.Names.{signed_of, double_of, float_of, reason_of, Argument, bytes, rows_of, parts_in, merged}
use Rattle.args.proofs.Names.{count_of}
use Rattle.args.proofs.Names.{value_of, start_of, len_of, low32, Part, Slots, bad, present, bytes_of, bytes_in}
use Rattle.args.proofs.Names.{of_type}
use Rattle.args.proofs.Names.{scalar_of}
use Rattle.args.specs.Typed.{ReadAsTyped}

-- of the type t, if it is not refused
abbrev Of : ℕ → Argument → Type 0
Of t a = reason_of a ≡ 0 → type_of a ≡ t

bad_of : (t : ℕ) → Of t bad
bad_of t h = absurd (omega arith)

present_of : (t count : ℕ) (a : Argument) → Of t a → Of t (present count a)
present_of t count a h = both (Of t) (eqb count 0) bad a (λ _. bad_of t) (λ _. h)

bytes_of_lem : (t : ℕ) (octets : Bool) (x : Slots) → type_of
    (cond octets (Va.Octets (start_of x 1) (len_of x 1)) (Va.String (start_of x 1) (len_of x 1))) ≡ t →
    Of t (bytes_of octets x)
bytes_of_lem t octets x e = both (Of t) x.good _ bad (λ _ _. e) (λ _. bad_of t)

type_of_lem : (s : List ℕ) (ps : List Part) (x : Slots) (t : ℕ) → Of t (of_type s ps x t)
unfolding of_type
type_of_lem s ps x t =
    both (Of t) (eqb t 1) _ _ (λ e. present_of t (count_of x 2) (signed_of (value_of x 2)) (λ _. sym (eqb-true t 1 e)))
    (λ _.
    both (Of t) (eqb t 2) _ _ (λ e. present_of t (count_of x 3) (Va.Unsigned (value_of x 3)) (λ _. sym (eqb-true t 2 e)))
    (λ _.
    both (Of t) (eqb t 3) _ _ (λ e _. sym (eqb-true t 3 e))
    (λ _.
    both (Of t) (eqb t 4) _ _
    (λ e.
    present_of t (count_of x 5) (bytes_in true s (parts_in 5 s ps))
    (bytes_of_lem t true (merged (rows_of bytes) s (parts_in 5 s ps)) (sym (eqb-true t 4 e))))
    (λ _.
    both (Of t) (eqb t 5) _ _
    (λ e.
    present_of t (count_of x 6) (double_of (value_of x 6))
    (λ _. floats_typed.double (value_of x 6) ∙ sym (eqb-true t 5 e)))
    (λ _.
    both (Of t) (eqb t 6) _ _
    (λ e.
    present_of t (count_of x 7) (float_of (low32 (value_of x 7)))
    (λ _. floats_typed.float (low32 (value_of x 7)) ∙ sym (eqb-true t 6 e)))
    (λ _.
    both (Of t) (eqb t 7) _ _
    (λ e. present_of t (count_of x 8) (Va.Bool (not (eqb (value_of x 8) 0))) (λ _. sym (eqb-true t 7 e)))
    (λ _.
    both (Of t) (eqb t 8) _ _
    (λ e.
    present_of t (count_of x 9) (bytes_in false s (parts_in 9 s ps))
    (bytes_of_lem t false (merged (rows_of bytes) s (parts_in 9 s ps)) (sym (eqb-true t 8 e))))
    (λ _. bad_of t))))))))

pub read_as_typed : ReadAsTyped
unfolding scalar_of
read_as_typed s ps x =
    both (Of (low32 (value_of x 1))) x.good (of_type s ps x (low32 (value_of x 1))) bad
    (λ _. type_of_lem s ps x (low32 (value_of x 1)))
    (λ _. bad_of (low32 (value_of x 1)))
