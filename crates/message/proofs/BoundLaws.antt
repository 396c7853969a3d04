-- An Execute, and a StmtExecute's body, by what one pass over it finds. Assumes nothing.
use Rattle.prelude.proofs.Basics.{Option, Some, None}
use Rattle.prelude.proofs.Basics.{ℕ, ◌+◌, Bool, true, false, ◌≡◌, refl, sym, ap, ◌∙◌, List, take}
use Rattle.args.specs.private.Pair.{text_in}
use Rattle.args.specs.private.Bound.{rows_by, bound_in, args_of}
use Rattle.args.specs.declared.bound.Bound.{Bound}
use Rattle.std.specs.Prelude.{Some, None}
use Rattle.layout.specs.Fields.{field_list}
use Rattle.message.specs.private.Parts.{execute_by}
use Rattle.args.proofs.TextLaws.{text_kept, text_arguments}
use Rattle.args.proofs.BoundLaws.{bound_lost, found_arguments, lost_arguments, has_one, lacks_one}
use Rattle.message.proofs.Names.{Part, stmt_execute, rows_of, row_for, has_required, embedded, value_of, low32, Slots}
use Rattle.message.proofs.Names.{good_list, no_arguments, bad_arguments, arguments_in, Arguments, told, bound_found}
use Rattle.message.proofs.Names.{optional_of, truth_of, bad_execute, arguments_within, execute_of}
use Rattle.message.proofs.Names.{execute_in, body_in, Execute}
use Rattle.message.specs.Operation as Operation
use Rattle.message.proofs.MessageLaws.{within_there, execute_bad, execute_worse, execute_good, body_stmt_bad}
use Rattle.message.proofs.MessageLaws.{body_stmt}

module _ (text : Bool) (s : List ℕ) (at n : ℕ) where
  abbrev slots : Slots
  slots = embedded (rows_by text) s at n

  -- the arguments as both messages have them
  there : slots.good ≡ true → arguments_in (take (at + n) s) at ≡ arguments_within s at n
  there g = within_there s at n (good_list (rows_by text) s at (at + n) g).0

  module _ {b : Bound} {one : ℕ} (e : Some b ≡ bound_in text s at n) (o : b.one ≡ Some one) where
    found-good : slots.good ≡ true
    found-good = let f = bound_found text s at n e in ap (λ (x : Slots). x.good) (has_one text s at n f o).0 ∙ f.sound

    found-args : args_of b at (at + n) ≡ arguments_within s at n
    found-args = found_arguments text s at n (bound_found text s at n e) ∙ there found-good

  lost-args : None ≡ bound_in text s at n → slots.good ≡ true → bad_arguments ≡ arguments_within s at n
  lost-args e g = lost_arguments text s at n (bound_lost text s at n e g) ∙ there g

module _ (s : List ℕ) (at n : ℕ) where
  abbrev run : Slots
  run = embedded (rows_by false) s at n

  pub run_lost : None ≡ bound_in false s at n → bad_execute ≡ execute_in s at n
  unfolding execute_in
  run_lost e = go run.good refl
    where
      go : (g : Bool) → run.good ≡ g → bad_execute ≡ execute_of run (arguments_within s at n)
      go false d = execute_bad run (arguments_within s at n) d
      go true d =
          execute_worse run (arguments_within s at n) d
          (sym (ap (λ (a : Arguments). a.good) (lost-args false s at n e d)))

  abbrev made : ℕ → Option ℕ → Arguments → Execute
  made stmt compact a = record { stmt = low32 stmt; compact = truth_of compact; args = a }

  abbrev list : Slots
  list = field_list (rows_by false) (take (at + n) s) at

  pub run_lacks : {b : Bound} → Some b ≡ bound_in false s at n → b.one ≡ None → bad_execute ≡ execute_in s at n
  unfolding execute_in
  run_lacks e o =
      execute_bad run (arguments_within s at n) (lacks_one false s at n (bound_found false s at n e) o)

  pub run_found : {b : Bound} {one : ℕ} → Some b ≡ bound_in false s at n → b.one ≡ Some one →
      execute_by b one at (at + n) ≡ execute_in s at n
  unfolding execute_in
  run_found {b} {one} e o =
      let f = bound_found false s at n e in
      let h = has_one false s at n f o in
      let a = found-args false s at n e o in
      ap (λ (c : Bound). made one c.three (args_of b at (at + n))) f.is
      ∙ ap (λ (v : ℕ). made v (optional_of list 3) (args_of b at (at + n))) h.1
      ∙ ap (λ (x : Slots). made (value_of x 1) (optional_of x 3) (args_of b at (at + n))) (sym h.0)
      ∙ ap (made (value_of run 1) (optional_of run 3)) a
      ∙ execute_good run (arguments_within s at n) (found-good false s at n e o)
      (sym (ap (λ (c : Arguments). c.good) a))

module _ (s : List ℕ) (t at n : ℕ) (stmt : t ≡ Operation.stmt_execute) where
  abbrev body : Slots
  body = embedded (rows_by true) s at n

  pub body_lost : None ≡ bound_in true s at n → bad_arguments ≡ body_in s t at n
  body_lost e = go body.good refl
    where
      go : (g : Bool) → body.good ≡ g → bad_arguments ≡ body_in s t at n
      go false d = body_stmt_bad s t at n body stmt refl d
      go true d = lost-args true s at n e d ∙ body_stmt s t at n body stmt refl d

  pub body_lacks : {b : Bound} → Some b ≡ bound_in true s at n → b.one ≡ None → bad_arguments ≡ body_in s t at n
  body_lacks e o = body_stmt_bad s t at n body stmt refl (lacks_one true s at n (bound_found true s at n e) o)

  pub body_found : {b : Bound} {one : ℕ} → Some b ≡ bound_in true s at n → b.one ≡ Some one →
      args_of b at (at + n) ≡ body_in s t at n
  body_found e o = found-args true s at n e o ∙ body_stmt s t at n body stmt refl (found-good true s at n e o)

-- a text alone: a body without arguments
pub body_text : (s : List ℕ) (t at n : ℕ) → t ≡ Operation.stmt_execute → {p : Part} →
    text_in s at n ≡ Some p → no_arguments at (at + n) ≡ body_in s t at n
unfolding rows_of row_for has_required
body_text s t at n stmt e =
    text_arguments s at n e
    ∙ within_there s at n (told s at n e).0
    ∙ body_stmt s t at n (embedded (rows_of stmt_execute) s at n) stmt refl
    (ap (λ (x : Slots). x.good) (sym (text_kept s at n e (rows_of stmt_execute) refl)))
