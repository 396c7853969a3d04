-- Whether an argument is padded, by the type of its Any and of its Scalar. Assumes nothing.
use Rattle.prelude.proofs.Basics.{ℕ, ◌+◌, ◌*◌, ◌≤◌, ◌<◌, arith, Bool, true, false, ◌||◌, cond, ◌≡◌, refl, sym, ap, ap₂}
use Rattle.prelude.proofs.Basics.{◌∙◌, List, eqb, yes, or_assoc, or_false}
use Rattle.std.specs.Prelude.{Some}
use Rattle.args.proofs.Names.{Pair, Argument, any, scalar, rows_of, row_for, has_required, embedded, value_of, low32}
use Rattle.args.proofs.Names.{one_part, merged, part_padded, parts_padded, Part, Slots, one_part_lem, scalar_of}
use Rattle.args.proofs.Names.{scalar_in}
use Rattle.args.proofs.Names.{any_of, scalar_parts, argument_in, any_type_of, bytes_padded, inside_scalar, scalar_padded}
use Rattle.args.proofs.Names.{inside_any, argument_padded}
use Rattle.args.specs.private.Pair.{lone_in, pair_padded}
use Rattle.args.proofs.PairLaws.{lone_kept, pair_kept, pair_bytes}
use Rattle.args.proofs.PaddedLaws.{pair_part, pair_absorbed, lone_part}
use Rattle.args.proofs.ScalarLaws.{Held, inner_one, scalar_parted}
use Rattle.args.proofs.ValueLaws.{scalar_bad, any_bad}

-- ---- by the type

module _ (s : List ℕ) (ps : List Part) (x : Slots) where
  pub scalar_by_type : x.good ≡ true → (t : ℕ) → low32 (value_of x 1) ≡ t → bytes_padded s ps t ≡ inside_scalar s ps x
  unfolding inside_scalar
  scalar_by_type g t e = ap (bytes_padded s ps) (sym e) ∙ yes _ false g

  pub any_by_type : x.good ≡ true → (t : ℕ) → low32 (value_of x 1) ≡ t →
      cond (eqb t 1) (scalar_padded s ps) false ≡ inside_any s ps x
  unfolding inside_any
  any_by_type g t e = ap (λ (k : ℕ). cond (eqb k 1) (scalar_padded s ps) false) (sym e) ∙ yes _ false g

-- ---- a good argument has good lists

no_scalar : (a : Argument) → any_type_of a ≡ 0 → 0 < any_type_of a → ⊥
no_scalar a e h = omega arith

module _ (s : List ℕ) (ps : List Part) (x : Slots) where
  pub scalar_listed : 0 < any_type_of (scalar_of s ps x) → x.good ≡ true
  scalar_listed h = go x.good refl
    where
      go : (b : Bool) → x.good ≡ b → b ≡ true
      go true e = refl
      go false e = absurd (no_scalar (scalar_of s ps x) (ap any_type_of (sym (scalar_bad s ps x e))) h)

  pub any_listed : 0 < any_type_of (any_of s ps x) → x.good ≡ true
  any_listed h = go x.good refl
    where
      go : (b : Bool) → x.good ≡ b → b ≡ true
      go true e = refl
      go false e = absurd (no_scalar (any_of s ps x) (ap any_type_of (sym (any_bad s ps x e))) h)

-- ---- the short ways

-- a list of its own that says what was read, and nothing inside
module _ (s : List ℕ) (at n : ℕ) where
  pub one_flag : part_padded s at n ≡ parts_padded s (one_part at n)
  unfolding parts_padded
  one_flag = or_false (part_padded s at n)

  pub scalar_in_lem : {p q : Bool} → p ≡ part_padded s at n →
      q ≡ inside_scalar s (one_part at n) (embedded (rows_of scalar) s at n) → (p || q) ≡ scalar_padded s (one_part at n)
  unfolding scalar_padded
  scalar_in_lem e f =
      ap₂ ◌||◌ (e ∙ one_flag)
      (f
      ∙ ap (inside_scalar s (one_part at n)) (sym (one_part_lem (rows_of scalar) s (record { start = at; len = n }))))

  pub any_in : {p q : Bool} → p ≡ part_padded s at n →
      q ≡ inside_any s (scalar_parts s at n) (embedded (rows_of any) s at n) → (p || q) ≡ argument_padded s at n
  unfolding argument_padded
  any_in e f = ap₂ ◌||◌ e f

  -- types alone
  pub null_flag : Some 3 ≡ lone_in s at n → scalar_padded s (one_part at n) ≡ false
  unfolding rows_of row_for has_required inside_scalar
  null_flag p =
      sym (scalar_in_lem (sym (lone_part s at n p))
      (ap (inside_scalar s (one_part at n)) (lone_kept s at n (rows_of scalar) 3 p refl)))

  pub object_flag : Some 2 ≡ lone_in s at n → argument_padded s at n ≡ false
  unfolding rows_of row_for has_required inside_any
  object_flag p =
      sym (any_in (sym (lone_part s at n p))
      (ap (inside_any s (scalar_parts s at n)) (lone_kept s at n (rows_of any) 2 p refl)))

  pub array_flag : Some 3 ≡ lone_in s at n → argument_padded s at n ≡ false
  unfolding rows_of row_for has_required inside_any
  array_flag p =
      sym (any_in (sym (lone_part s at n p))
      (ap (inside_any s (scalar_parts s at n)) (lone_kept s at n (rows_of any) 3 p refl)))

  -- the pair, and then the long way, of a good message
  pub scalar_again : 0 < any_type_of (scalar_in s (one_part at n)) →
      (pair_padded s at n || scalar_padded s (one_part at n)) ≡ scalar_padded s (one_part at n)
  unfolding scalar_padded
  scalar_again h =
      let p : Part = record { start = at; len = n } in
      let inside = inside_scalar s (one_part at n) (merged (rows_of scalar) s (one_part at n)) in
      sym (or_assoc (pair_padded s at n) (parts_padded s (one_part at n)) inside)
      ∙ ap (λ (b : Bool). b || inside)
      (ap (λ (b : Bool). pair_padded s at n || b) (sym one_flag)
      ∙ pair_absorbed s at n (rows_of scalar)
      (ap (λ (x : Slots). x.good) (sym (one_part_lem (rows_of scalar) s p))
      ∙ scalar_listed s (one_part at n) (merged (rows_of scalar) s (one_part at n)) h)
      ∙ one_flag)

  pub any_again : 0 < any_type_of (argument_in s at n) →
      (pair_padded s at n || argument_padded s at n) ≡ argument_padded s at n
  unfolding argument_padded
  any_again h =
      let inside = inside_any s (scalar_parts s at n) (embedded (rows_of any) s at n) in
      sym (or_assoc (pair_padded s at n) (part_padded s at n) inside)
      ∙ ap (λ (b : Bool). b || inside)
      (pair_absorbed s at n (rows_of any) (any_listed s (scalar_parts s at n) (embedded (rows_of any) s at n) h))

module _ {s : List ℕ} {at n : ℕ} {p : Pair} (h : Held s at n p) where
  -- a number, a double, a float and a bool have nothing inside
  plain : (kind key : ℕ) → p.key ≡ kind * 256 + key → 8 ≤ key → key < 128 →
      false ≡ inside_scalar s (one_part at n) (embedded (rows_of scalar) s at n) →
      pair_padded s at n ≡ scalar_padded s (one_part at n)
  plain kind key k some short e =
      or_false (pair_padded s at n) ∙ scalar_in_lem s at n (pair_part h kind key k some short) e

  pub sint_flag : p.key ≡ 1 * 256 + 16 → pair_padded s at n ≡ scalar_padded s (one_part at n)
  unfolding rows_of row_for has_required inside_scalar
  sint_flag k = plain 1 16 k (omega arith) (omega arith)
      (ap (inside_scalar s (one_part at n))
      (pair_kept s at n h.is (rows_of scalar) 1 16 k (omega arith) refl refl))

  pub uint_flag : p.key ≡ 2 * 256 + 24 → pair_padded s at n ≡ scalar_padded s (one_part at n)
  unfolding rows_of row_for has_required inside_scalar
  uint_flag k = plain 2 24 k (omega arith) (omega arith)
      (ap (inside_scalar s (one_part at n))
      (pair_kept s at n h.is (rows_of scalar) 2 24 k (omega arith) refl refl))

  pub double_flag : p.key ≡ 5 * 256 + 49 → pair_padded s at n ≡ scalar_padded s (one_part at n)
  unfolding rows_of row_for has_required inside_scalar
  double_flag k = plain 5 49 k (omega arith) (omega arith)
      (ap (inside_scalar s (one_part at n))
      (pair_kept s at n h.is (rows_of scalar) 5 49 k (omega arith) refl refl))

  pub float_flag : p.key ≡ 6 * 256 + 61 → pair_padded s at n ≡ scalar_padded s (one_part at n)
  unfolding rows_of row_for has_required inside_scalar
  float_flag k = plain 6 61 k (omega arith) (omega arith)
      (ap (inside_scalar s (one_part at n))
      (pair_kept s at n h.is (rows_of scalar) 6 61 k (omega arith) refl refl))

  pub bool_flag : p.key ≡ 7 * 256 + 64 → pair_padded s at n ≡ scalar_padded s (one_part at n)
  unfolding rows_of row_for has_required inside_scalar
  bool_flag k = plain 7 64 k (omega arith) (omega arith)
      (ap (inside_scalar s (one_part at n))
      (pair_kept s at n h.is (rows_of scalar) 7 64 k (omega arith) refl refl))

  -- octets and strings have their message, an Any its scalar
  pub octets_flag : p.key ≡ 4 * 256 + 42 →
      (pair_padded s at n || part_padded s p.start p.value) ≡ scalar_padded s (one_part at n)
  unfolding rows_of row_for has_required inside_scalar
  octets_flag k = scalar_in_lem s at n (pair_part h 4 42 k (omega arith) (omega arith))
      (one_flag s p.start p.value
      ∙ ap (parts_padded s) (sym (inner_one h 4 42 k (omega arith) (omega arith) refl))
      ∙ ap (inside_scalar s (one_part at n))
      (pair_bytes s at n h.is (rows_of scalar) 4 42 k (omega arith) refl refl refl))

  pub string_flag : p.key ≡ 8 * 256 + 74 →
      (pair_padded s at n || part_padded s p.start p.value) ≡ scalar_padded s (one_part at n)
  unfolding rows_of row_for has_required inside_scalar
  string_flag k = scalar_in_lem s at n (pair_part h 8 74 k (omega arith) (omega arith))
      (one_flag s p.start p.value
      ∙ ap (parts_padded s) (sym (inner_one h 8 74 k (omega arith) (omega arith) refl))
      ∙ ap (inside_scalar s (one_part at n))
      (pair_bytes s at n h.is (rows_of scalar) 8 74 k (omega arith) refl refl refl))

  pub scalar_flag : p.key ≡ 1 * 256 + 18 →
      (pair_padded s at n || scalar_padded s (one_part p.start p.value)) ≡ argument_padded s at n
  unfolding rows_of row_for has_required inside_any
  scalar_flag k = any_in s at n (pair_part h 1 18 k (omega arith) (omega arith))
      (ap (scalar_padded s) (sym (scalar_parted h k))
      ∙ ap (inside_any s (scalar_parts s at n))
      (pair_bytes s at n h.is (rows_of any) 1 18 k (omega arith) refl refl refl))
