-- Fuel that is enough for the bytes left makes no difference to a stretch. Assumes nothing.
use Rattle.prelude.proofs.Basics.{ℕ, zero, suc, ◌+◌, ◌≤◌, ◌<◌, arith, Bool, true, false, cond, ◌≡◌, refl, sym, ap, List}
use Rattle.prelude.proofs.Basics.{length, ltb, le-ltb}
use Rattle.args.specs.Value.{argument_in}
use Rattle.writer.proofs.Names.{field_at, PastField, Field, field_past, is_args, is_good, on_arg, args_from}
use Rattle.writer.specs.JudgeRules.{EnoughFields}
use Rattle.std.specs.Prelude.{Option, Some, None}

module _ (s : List ℕ) where
  -- ways on that agree from here on
  field_same : (at : ℕ) (z : Option Field) → PastField at (length s) z → (f g : ℕ → Bool) → ((q : ℕ) → at < q → f q ≡ g q) →
      on_arg s f z ≡ on_arg s g z
  field_same at (Some r) h f g e =
      ap (λ (x : Bool). cond (is_args r.number r.wire r.value) (cond (is_good (argument_in s r.start r.len)) x false) false)
      (e r.next h.2)
  field_same at None h f g e = refl

  none_left : (m at : ℕ) → length s ≤ at → args_from m s at ≡ true
  unfolding args_from
  none_left zero at h = refl
  none_left (suc m) at h = rw (le-ltb at (length s) h)

  stretch-same : (m n at : ℕ) → length s ≤ at + m → length s ≤ at + n → args_from m s at ≡ args_from n s at
  unfolding args_from
  stretch-same zero n at h i = sym (none_left n at (omega arith))
  stretch-same (suc m) zero at h i = none_left (suc m) at (omega arith)
  stretch-same (suc m) (suc n) at h i =
      ap (λ (x : Bool). cond (ltb at (length s)) x true)
      (field_same at (field_at s at) (field_past s at) (λ next. args_from m s next) (λ next. args_from n s next)
      (λ q j. stretch-same m n q (omega arith) (omega arith)))

pub enough_fields : EnoughFields
enough_fields most s h = stretch-same s most (length s) 0 (omega arith) (omega arith)
