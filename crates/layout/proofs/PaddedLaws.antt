-- Whether a list is padded, field by field. Assumes nothing.
use Rattle.prelude.proofs.Basics.{ℕ, zero, suc, ◌+◌, ◌-◌, ◌≤◌, ◌<◌, arith, Bool, false, ◌||◌, ◌≡◌, refl, sym, ap, ◌∙◌}
use Rattle.prelude.proofs.Basics.{List, length, take, le-leb, le-ltb, lt-leb, lt-ltb, before_suc, or_assoc, or_false}
use Rattle.prelude.proofs.Basics.{or_same}
use Rattle.wire.specs.Padded.{field_padded}
use Rattle.layout.proofs.Names.{field_at, PastField, Field, field_past, onward, padded_from, list_padded, padded_to}
use Rattle.layout.specs.Padded.{padded_list}
use Rattle.std.specs.Prelude.{Option, None}
use Rattle.wire.specs.Field.{some_field}

pub flag_end : (inside : Option Field → Bool) (most : ℕ) (s : List ℕ) (p : ℕ) → length s ≤ p →
    padded_from inside most s p ≡ false
unfolding padded_from
flag_end inside zero s p h = refl
flag_end inside (suc m) s p h = simp (le-ltb p (length s) h)

-- one field, and those behind it
pub flag_turn : (inside : Option Field → Bool) (most : ℕ) (s : List ℕ) (p : ℕ) → 0 < most → p < length s → (f : Option Field) →
    field_at s p ≡ f →
    padded_from inside most s p
    ≡ (field_padded s p || (inside f || onward (λ next. padded_from inside (most - 1) s next) f))
unfolding padded_from
flag_turn inside zero s p g h f e = absurd (omega arith)
flag_turn inside (suc m) s p g h f e =
    simp (lt-ltb p (length s) h)
    (ap
    (λ (x : Option Field). field_padded s p || (inside x || onward (λ next. padded_from inside m s next) x)) e
    ∙ ap (λ (k : ℕ). field_padded s p || (inside f || onward (λ next. padded_from inside k s next) f)) (before_suc m))

-- a field that was read ends further on
pub field_ahead : (s : List ℕ) (p : ℕ) {number wire value start len next : ℕ} →
    field_at s p ≡ some_field number wire value start len next → p < next
field_ahead s p {next = next} e = go (field_past s p)
  where
    go : PastField p (length s) (field_at s p) → p < next
    go = rw e (λ h. h.2)

-- where a walk over the fields stands: the flag, and what is left, say what it said before and what the whole list does
pub record Marking (inside : Option Field → Bool) (s : List ℕ) (from p : ℕ) (before flag : Bool) : Type 0 where
  pub most : ℕ
  pub enough : length s ≤ p + most
  pub whole : (flag || padded_from inside most s p) ≡ (before || padded_list inside s from)

pub marks : (inside : Option Field → Bool) (s : List ℕ) (from : ℕ) (before : Bool) → Marking inside s from from before before
marks inside s from before = record { most = length s; enough = omega arith; whole = refl }

module _ {inside : Option Field → Bool} {s : List ℕ} {from p : ℕ} {before flag : Bool}
    (m : Marking inside s from p before flag) where
  pub marked : length s ≤ p → flag ≡ (before || padded_list inside s from)
  marked h = or_false flag ∙ or_same flag (sym (flag_end inside m.most s p h)) ∙ m.whole

  module _ (h : p < length s) where
    turn : (f : Option Field) → field_at s p ≡ f →
        (flag || (field_padded s p || (inside f || onward (λ next. padded_from inside (m.most - 1) s next) f)))
        ≡ (before || padded_list inside s from)
    turn f e =
        or_same flag (sym (flag_turn inside m.most s p (omega (arith, m.enough)) h f e)) ∙ m.whole

    -- behind a bad field nothing is read
    pub marks_bad : field_at s p ≡ None → inside None ≡ false → {now : Bool} →
        now ≡ (flag || field_padded s p) →
        now ≡ (before || padded_list inside s from)
    marks_bad e z q =
        q
        ∙ or_same flag
        (or_false (field_padded s p) ∙ or_same (field_padded s p) (ap (λ (b : Bool). b || false) (sym z)))
        ∙ turn None e

    pub marks_on : {number wire value start len next : ℕ} →
        field_at s p ≡ some_field number wire value start len next → {own now : Bool} →
        own ≡ (flag || field_padded s p) → now ≡ (own || inside (some_field number wire value start len next)) →
        Marking inside s from next before now
    marks_on {number} {wire} {value} {start} {len} {next} e q r =
        let f = some_field number wire value start len next in
        let rest = padded_from inside (m.most - 1) s next in
        record {
          most = m.most - 1;
          enough = omega (arith, m.enough, field_ahead s p e);
          whole =
              ap (λ (b : Bool). b || rest) (r ∙ ap (λ (b : Bool). b || inside f) q)
              ∙ or_assoc (flag || field_padded s p) (inside f) rest
              ∙ or_assoc flag (field_padded s p) (inside f || rest)
              ∙ turn f e;
        }

-- ---- up to a place

pub padded_outside : (s : List ℕ) (from end : ℕ) → length s < end → padded_to s from end ≡ false
padded_outside s from end h = simp (lt-leb end (length s) h)

pub padded_inside : (s : List ℕ) (from end : ℕ) → end ≤ length s →
    list_padded (take end s) from ≡ padded_to s from end
padded_inside s from end h = simp (le-leb end (length s) h)
