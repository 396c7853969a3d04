-- Appending, by the ways out. Assumes nothing.
use Rattle.prelude.proofs.Basics.{ℕ, ◌+◌, ◌≤◌, ◌<◌, arith, true, false, ◌≡◌, refl, ap, subst, ◌∙◌, List}
use Rattle.prelude.proofs.Basics.{length, sets-eq, le-leb, lt-leb}
use Rattle.std.specs.Prelude.{Some}
use Rattle.protocol.specs.Reason as Reason
use Rattle.encode.specs.Puts.{Puts}
use Rattle.writer.specs.declared.Sent.{Sent}
use Rattle.writer.specs.Write.{sent}
use Rattle.args_writer.proofs.Names.{type_of, Argument, writable, arg_field, append_reason, appended_of, left_by, Form}
use Rattle.args_writer.specs.Scalar.{arg_bytes}
use Rattle.args_writer.specs.private.Form.{Forms, value_in}

module _ (a : Argument) (src buf : List ℕ) (at : ℕ) where
  -- the two equations of the contract
  abbrev pub Did : Sent → List ℕ → Type 0
  Did r b₁ = (r ≡ appended_of a src (length buf) at) × (b₁ ≡ left_by a src buf at)

  pub did_bad : writable a src ≡ false → Did (sent Reason.bad_payload 0) buf
  unfolding append_reason appended_of left_by
  did_bad e = rw e (refl, refl)

  full : writable a src ≡ true → length buf < at + length (arg_field a src) → Did (sent Reason.no_room 0) buf
  unfolding append_reason appended_of left_by
  full e h = rw (e, lt-leb (at + length (arg_field a src)) (length buf) h) (refl, refl)

  appended : {q : ℕ} {b₁ : List ℕ} → writable a src ≡ true → at + length (arg_field a src) ≤ length buf →
      Puts buf at (arg_field a src) q b₁ → Did (sent Reason.accepted q) b₁
  unfolding append_reason appended_of left_by
  appended {q} e h f =
      let end : q ≡ at + length (arg_field a src) = omega (arith, f.behind) in
      rw (e, le-leb (at + length (arg_field a src)) (length buf) h)
      (ap (λ (n : ℕ). sent Reason.accepted n) end, f.stored ∙ sets-eq (arg_field a src) buf at h)

  -- as the code has it, by the form
  module _ (f : Form) (is : Forms a src (Some f)) where
    abbrev bytes : List ℕ
    bytes = arg_bytes f.kind (value_in f.value)

    field_is : bytes ≡ arg_field a src
    field_is = ap (λ (t : ℕ). arg_bytes t (value_in f.value)) is.1.0 ∙ ap (arg_bytes (type_of a)) is.1.1

    pub did_full : {n : ℕ} → n ≡ length bytes → length buf < at + n → Did (sent Reason.no_room 0) buf
    did_full m h = full is.0 (omega (arith, m, ap length field_is))

    pub did_all : {q : ℕ} {b₁ : List ℕ} → at + length bytes ≤ length buf → Puts buf at bytes q b₁ →
        Did (sent Reason.accepted q) b₁
    did_all {q} {b₁} h f =
        appended is.0 (omega (arith, ap length field_is)) (subst (λ (l : List ℕ). Puts buf at l q b₁) field_is f)
