-- Which field the table calls repeated: number 2 with bytes, of an Execute and of a StmtExecute. Assumes nothing.
use Rattle.prelude.proofs.Basics.{ℕ, arith, Bool, true, false, not, ◌&&◌, ◌||◌, cond, ◌≡◌, refl, sym, ap, ◌∙◌, List, []}
use Rattle.prelude.proofs.Basics.{◌∷◌, eqb, ltb, eqb-false, eqb-true, ne_eqb, both}
use Rattle.protocol.specs.Client as Client
use Rattle.layout.specs.Row.{number_of, takes}
use Rattle.layout.specs.Table.{stmt_execute}
use Rattle.layout.specs.Fields.{is_counted}
use Rattle.args.proofs.Names.{len, rows_of, wire_of, is_repeated, slot_count, row_for, use_of, Use, is_args}
use Rattle.args.specs.ArgumentsRules.{args_number, ArgsField}

-- no row of another number is a repeated one
abbrev only_args : List (List ℕ) → Bool
only_args [] = true
only_args (r ∷ rs) = (eqb (number_of r) args_number || not (is_repeated r)) && only_args rs

row_once : (r : List ℕ) (b : Bool) → ((eqb (number_of r) args_number || not (is_repeated r)) && b) ≡ true →
    (number_of r ≡ args_number → ⊥) → (is_repeated r ≡ false) × (b ≡ true)
row_once r b e h = go (is_repeated r) b (rw (ne_eqb (number_of r) args_number h) at e)
  where
    go : (c d : Bool) → (not c && d) ≡ true → (c ≡ false) × (d ≡ true)
    go true d f = absurd (let z : ◌≡◌ {A = ℕ} 0 1 = cc in omega arith)
    go false d f = (refl, f)

later : (a b : Bool) → (a && b) ≡ true → b ≡ true
later true b e = e
later false b e = absurd (let z : ◌≡◌ {A = ℕ} 0 1 = cc in omega arith)

other_once : (rows : List (List ℕ)) (number : ℕ) → only_args rows ≡ true → (number ≡ args_number → ⊥) →
    is_repeated (row_for rows number) ≡ false
unfolding row_for
other_once [] number e h = refl
other_once (r ∷ rs) number e h =
    go (eqb (number_of r) number) refl
    (other_once rs number (later (eqb (number_of r) args_number || not (is_repeated r)) (only_args rs) e) h)
  where
    go : (b : Bool) → eqb (number_of r) number ≡ b → is_repeated (row_for rs number) ≡ false →
        is_repeated (cond b r (row_for rs number)) ≡ false
    go true f rest = (row_once r (only_args rs) e (λ z. h (sym (eqb-true (number_of r) number f) ∙ z))).0
    go false f rest = rest

uncounted : (a b : Bool) → b ≡ false → is_counted (cond a (cond b Use.Counted Use.Kept) Use.Unknown) ≡ false
uncounted true true e = e
uncounted true false e = refl
uncounted false b e = refl

uncounted_wire : (row : List ℕ) (number wire value : ℕ) → (wire_of row ≡ wire → ⊥) →
    is_counted (cond (takes row number wire value) (cond (is_repeated row) Use.Counted Use.Kept) Use.Unknown) ≡ false
uncounted_wire row number wire value h =
    ap (λ (b : Bool). is_counted (cond b (cond (is_repeated row) Use.Counted Use.Kept) Use.Unknown))
    (both No (ltb number slot_count) _ _
    (λ _. both No (eqb (number_of row) number) _ _ (λ _. rw (ne_eqb (wire_of row) wire h)) (λ _. refl)) (λ _. refl))
  where
    No : Bool → Type 0
    No b = b ≡ false

-- rows whose one repeated field is of this number, with bytes
module _ (rows : List (List ℕ)) (only : true ≡ only_args rows) (bytes : len ≡ wire_of (row_for rows args_number))
    (counts : (value : ℕ) → Use.Counted ≡ use_of rows args_number len value) where
  by-wire : (wire value : ℕ) → is_counted (use_of rows args_number wire value) ≡ eqb wire len
  by-wire wire value = go (eqb wire len) refl
    where
      go : (b : Bool) → eqb wire len ≡ b → is_counted (use_of rows args_number wire value) ≡ b
      go true e =
          ap (λ (w : ℕ). is_counted (use_of rows args_number w value)) (eqb-true wire len e)
          ∙ ap is_counted (sym (counts value))
      go false e =
          uncounted_wire (row_for rows args_number) args_number wire value
          (λ z. eqb-false wire len e (sym (bytes ∙ z)))

  repeated-field : (number wire value : ℕ) →
      is_counted (use_of rows number wire value) ≡ (eqb number args_number && eqb wire len)
  repeated-field number wire value = go (eqb number args_number) refl
    where
      go : (b : Bool) → eqb number args_number ≡ b → is_counted (use_of rows number wire value) ≡ (b && eqb wire len)
      go true e =
          ap (λ (n : ℕ). is_counted (use_of rows n wire value)) (eqb-true number args_number e) ∙ by-wire wire value
      go false e =
          uncounted (takes (row_for rows number) number wire value) (is_repeated (row_for rows number))
          (other_once rows number (sym only) (eqb-false number args_number e))

execute_field : (number wire value : ℕ) → is_args number wire value ≡ (eqb number args_number && eqb wire len)
unfolding rows_of row_for
execute_field = repeated-field (rows_of Client.execute) refl refl (λ value. refl)

stmt_field : (number wire value : ℕ) →
    is_counted (use_of (rows_of stmt_execute) number wire value) ≡ (eqb number args_number && eqb wire len)
unfolding rows_of row_for
stmt_field = repeated-field (rows_of stmt_execute) refl refl (λ value. refl)

pub args_field_lem : ArgsField
args_field_lem =
    record {
      alike = λ number wire value. stmt_field number wire value ∙ sym (execute_field number wire value);
      tested = execute_field;
    }

module _ (number wire value : ℕ) where
  pub args_number_lem : is_args number wire value ≡ true → (number ≡ args_number) × (wire ≡ len)
  args_number_lem e = go (eqb number args_number) refl (eqb wire len) refl (sym (execute_field number wire value) ∙ e)
    where
      go : (b : Bool) → eqb number args_number ≡ b → (c : Bool) → eqb wire len ≡ c → (b && c) ≡ true →
          (number ≡ args_number) × (wire ≡ len)
      go true f true g h = (eqb-true number args_number f, eqb-true wire len g)
      go true f false g h = absurd (let z : ◌≡◌ {A = ℕ} 0 1 = cc in omega arith)
      go false f c g h = absurd (let z : ◌≡◌ {A = ℕ} 0 1 = cc in omega arith)

  pub is_args_lem : number ≡ args_number → wire ≡ len → true ≡ is_args number wire value
  is_args_lem e f = sym (execute_field number wire value ∙ rw (e, f))

  pub no_wire : number ≡ args_number → (wire ≡ len → ⊥) → false ≡ is_args number wire value
  no_wire e f = sym (execute_field number wire value ∙ rw (e, ne_eqb wire len f))

  pub no_number : (number ≡ args_number → ⊥) → false ≡ is_args number wire value
  no_number e = sym (execute_field number wire value ∙ rw (ne_eqb number args_number e))
