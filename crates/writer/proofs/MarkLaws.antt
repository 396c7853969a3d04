-- Whether bytes are padded, part by part: those of a written field are not. Assumes nothing.
use Rattle.prelude.proofs.Basics.{ℕ, ◌+◌, ◌-◌, ◌*◌, ◌^◌, ◌≤◌, ◌<◌, arith, Bool, true, false, ◌||◌, cond, ◌≡◌, refl, sym}
use Rattle.prelude.proofs.Basics.{ap, ap₂, subst, ◌∙◌, List, [], ◌++◌, length, take, length-append, le-leb, yes}
use Rattle.prelude.proofs.Basics.{no as without, or_assoc, or_false, or_same}
use Rattle.varint.proofs.FlagLaws.{plain_there}
use Rattle.wire.specs.Padded.{value_padded}
use Rattle.wire.proofs.PaddedLaws.{field_flag}
use Rattle.wire.proofs.MovedFlagLaws.{field_flag_stands}
use Rattle.layout.specs.Padded.{padded_list, nothing_inside, part_padded}
use Rattle.layout.proofs.PaddedLaws.{flag_end, flag_turn, padded_inside}
use Rattle.args.specs.Padded.{bound_padded}
use Rattle.args.proofs.MovedFlagLaws.{argument_flag_moved}
use Rattle.writer.proofs.Names.{varint_bytes, Tail, tail_length, Stands, stands_length, stands_cut, tail_stands}
use Rattle.writer.proofs.Names.{stands_first, stands_next, field_at, field_padded, Field, padded_from, is_args}
use Rattle.writer.proofs.Names.{inside_args, argument_padded, execute_padded, is_args_lem, no_number, field_inside}
use Rattle.writer.proofs.Names.{number_field, optional_field, bytes_field, stretch_padded}
use Rattle.writer.proofs.FieldLaws.{tag_reads, behind_tag, number_reads, bytes_reads, stands_inside}
use Rattle.writer.proofs.StretchLaws.{Stretch, done, more, there}
use Rattle.std.specs.Prelude.{Option}
use Rattle.wire.specs.Field.{some_field}
use Rattle.wire.specs.Tag.{some_tag}

-- ---- one field

-- its tag is the shortest, and its value has no varint or the shortest
pub field_plain : (g num w at : ℕ) (s q : List ℕ) → g ≡ num * 8 + w → 0 < num → num < 10 → w < 6 →
    Stands s at (varint_bytes g) q → value_padded s w (behind_tag at g) ≡ false → field_padded s at ≡ false
field_plain g num w at s q e some few c k plain =
    sym (field_flag s at (some_tag num w (behind_tag at g)) (tag_reads g num w at s q e some few c k))
    ∙ ap₂ ◌||◌ (plain_there g at s q (omega arith) k.there) plain

module _ (num at : ℕ) (s q : List ℕ) (some : 0 < num) (few : num < 10) where
  number-plain : (v : ℕ) → v < 2 ^ 64 → Stands s at (number_field num v) q → field_padded s at ≡ false
  unfolding number_field
  number-plain v h k =
      let tag = varint_bytes (num * 8) in
      field_plain (num * 8) num 0 at s (varint_bytes v ++ q) (omega arith) some few (omega arith)
      (stands_first tag (varint_bytes v) k)
      (plain_there v (behind_tag at (num * 8)) s q h (stands_next tag (varint_bytes v) k).there)

  bytes-plain : (bs : List ℕ) → length bs < 2 ^ 64 → Stands s at (bytes_field num bs) q → field_padded s at ≡ false
  unfolding bytes_field
  bytes-plain bs h k =
      let tag = varint_bytes (num * 8 + 2) in
      let n = varint_bytes (length bs) in
      let front = stands_first (tag ++ n) bs k in
      field_plain (num * 8 + 2) num 2 at s (n ++ (bs ++ q)) refl some few (omega arith) (stands_first tag n front)
      (plain_there (length bs) (behind_tag at (num * 8 + 2)) s (bs ++ q) h (stands_next tag n front).there)

-- ---- part by part

-- what counts inside a field of a byte string
abbrev pub Inside : Type 0
Inside = List ℕ → Option Field → Bool

abbrev pub own_only : Inside
own_only s = nothing_inside

-- wherever these bytes stand, a walk over the fields of a message finds in them what b says, and goes on behind them
pub record Says (inside : Inside) (bs : List ℕ) (b : Bool) : Type 0 where
  pub on : (s : List ℕ) (at : ℕ) (q : List ℕ) (m : ℕ) → Stands s at bs q → length s ≤ at + m →
      (n : ℕ)
      × (length s ≤ at + length bs + n)
      × (padded_from (inside s) m s at ≡ (b || padded_from (inside s) n s (at + length bs)))

pub says_as : {inside : Inside} {bs : List ℕ} {b c : Bool} → b ≡ c → Says inside bs b → Says inside bs c
says_as {inside} {bs} e r = subst (Says inside bs) e r

pub says_none : (inside : Inside) → Says inside [] false
says_none inside =
    record {
      on = λ s at q m k l.
          let e : at ≡ at + 0 = omega arith in
          (m, omega arith, ap (padded_from (inside s) m s) e);
    }

pub says_then : {inside : Inside} {xs ys : List ℕ} {a b : Bool} → Says inside xs a → Says inside ys b →
    Says inside (xs ++ ys) (a || b)
says_then {inside} {xs} {ys} {a} {b} f g =
    record {
      on = λ s at q m k l.
          let x = f.on s at (ys ++ q) m (stands_first xs ys k) l in
          let y = g.on s (at + length xs) q x.0 (stands_next xs ys k) x.1 in
          let e : at + length xs + length ys ≡ at + length (xs ++ ys) = omega (arith, length-append xs ys) in (
            y.0,
            omega (arith, y.1, e),
            x.2
                ∙ or_same a y.2
                ∙ sym (or_assoc a b (padded_from (inside s) y.0 s (at + length xs + length ys)))
                ∙ ap (λ (p : ℕ). (a || b) || padded_from (inside s) y.0 s p) e,
          );
    }

-- all of it, where the bytes go to the end
pub says_whole : {inside : Inside} {bs : List ℕ} {b : Bool} {s : List ℕ} {at : ℕ} → Says inside bs b → Tail s at bs →
    padded_list (inside s) s at ≡ b
says_whole {inside} {bs} {b} {s} {at} r k =
    let x = r.on s at [] (length s) (tail_stands k) (omega arith) in
    x.2
    ∙ or_same b (flag_end (inside s) x.0 s (at + length bs) (omega (arith, tail_length k)))
    ∙ sym (or_false b)

module _ {bs : List ℕ} {b : Bool} {s q : List ℕ} {at : ℕ} where
  -- a message inside another
  pub says_part : Says own_only bs b → Stands s at bs q → part_padded s at (length bs) ≡ b
  says_part r k =
      sym (padded_inside s at (at + length bs) (omega (arith, stands_length k))) ∙ says_whole r (stands_cut k)

  pub says_execute : Says inside_args bs b → Stands s at bs q → execute_padded s at (length bs) ≡ b
  unfolding execute_padded
  says_execute r k =
      sym (yes (bound_padded (take (at + length bs) s) at) false
      (le-leb (at + length bs) (length s) (omega (arith, stands_length k))))
      ∙ says_whole r (stands_cut k)

-- ---- one field, and what is behind it

pub one_field : (inside : Option Field → Bool) (s : List ℕ) (at m : ℕ) {n w v st ln next : ℕ} →
    field_at s at ≡ some_field n w v st ln next → length s ≤ at + m → {own within : Bool} → field_padded s at ≡ own →
    inside (some_field n w v st ln next) ≡ within →
    padded_from inside m s at ≡ (own || (within || padded_from inside (m - 1) s next))
one_field inside s at m {n} {w} {v} {st} {ln} {next} e enough f g =
    let ahead = field_inside s at e in
    flag_turn inside m s at (omega arith) (omega arith) (some_field n w v st ln next) e
    ∙ ap₂ (λ (a b : Bool). a || (b || padded_from inside (m - 1) s next)) f g

-- nothing counts inside a field that is no args field
other_inside : (num : ℕ) → (num ≡ 2 → ⊥) → (s : List ℕ) (w v st ln next : ℕ) →
    inside_args s (some_field num w v st ln next) ≡ false
other_inside num z s w v st ln next = sym (without (argument_padded s st ln) false (sym (no_number num w v z)))

module _ (inside : Inside) (num : ℕ) (some : 0 < num) (few : num < 10)
    (none : (s : List ℕ) (w v st ln next : ℕ) → inside s (some_field num w v st ln next) ≡ false) where
  says-plain-number : (v : ℕ) → v < 2 ^ 64 → Says inside (number_field num v) false
  says-plain-number v h =
      record {
        on = λ s at q m k l.
            let e = number_reads num at s q some few v h k in
            let ahead = field_inside s at e in (
              m - 1,
              omega arith,
              one_field (inside s) s at m e l (number-plain num at s q some few v h k) (none s 0 v _ _ _),
            );
      }

  says-plain-bytes : (bs : List ℕ) → length bs < 2 ^ 64 → Says inside (bytes_field num bs) false
  says-plain-bytes bs h =
      record {
        on = λ s at q m k l.
            let e = bytes_reads num at s q some few bs h k in
            let ahead = field_inside s at e in (
              m - 1,
              omega arith,
              one_field (inside s) s at m e l (bytes-plain num at s q some few bs h k) (none s 2 (length bs) _ _ _),
            );
      }

  says-plain-optional : (b : Bool) (v : ℕ) → v < 2 ^ 64 → Says inside (optional_field b num v) false
  unfolding optional_field
  says-plain-optional true v h = says-plain-number v h
  says-plain-optional false v h = says_none inside

-- ---- a stretch

module _ {s : List ℕ} {at : ℕ} {a q : List ℕ} (k : Stands s at a q) where
  stretch-says : (i : ℕ) → Stretch a i → (m n : ℕ) → length s ≤ at + i + m → length a ≤ i + n →
      (r : ℕ)
      × (length s ≤ at + length a + r)
      × (padded_from (inside_args s) m s (at + i)
      ≡ (padded_from (inside_args a) n a i || padded_from (inside_args s) r s (at + length a)))
  stretch-says i (done e) m n h g = (
    m,
    omega arith,
    ap (λ (p : ℕ). padded_from (inside_args s) m s (at + p)) e
        ∙ ap (λ (b : Bool). b || padded_from (inside_args s) m s (at + length a))
        (sym (flag_end (inside_args a) n a i (omega arith))),
  )
  stretch-says i (more {v = v} {st = st} {ln = ln} {next = next} e b r) m n h g =
      let inside = field_inside a i e in
      let long = stands_length k in
      let x = stretch-says next r (m - 1) (n - 1) (omega arith) (omega arith) in
      let own = field_padded a i in
      let within = cond (is_args 2 2 v) (argument_padded a st ln) false in
      let rest = padded_from (inside_args a) (n - 1) a next in
      let behind = padded_from (inside_args s) x.0 s (at + length a) in (
        x.0,
        x.1,
        one_field (inside_args s) s (at + i) m (there k i e) h (field_flag_stands k i e)
            (ap (λ (b : Bool). cond (is_args 2 2 v) b false) (argument_flag_moved k st ln inside.0))
            ∙ ap (λ (b : Bool). own || (within || b)) x.2
            ∙ or_same own (sym (or_assoc within rest behind))
            ∙ sym (or_assoc own (within || rest) behind)
            ∙ ap (λ (b : Bool). b || behind) (sym (one_field (inside_args a) a i n e g refl refl)),
      )

pub says_stretch : (a : List ℕ) → Stretch a 0 → Says inside_args a (stretch_padded a)
says_stretch a g =
    record {
      on = λ s at q m k l.
          let e : at + 0 ≡ at = omega arith in
          let x = stretch-says k 0 g m (length a) (omega arith) (omega arith) in
          (x.0, x.1, ap (padded_from (inside_args s) m s) (sym e) ∙ x.2);
    }

-- an args field, by its argument
pub says_args : (bs : List ℕ) {b : Bool} → length bs < 2 ^ 64 → argument_padded bs 0 (length bs) ≡ b →
    Says inside_args (bytes_field 2 bs) b
says_args bs h inner =
    record {
      on = λ s at q m k l.
          let e = bytes_reads 2 at s q (omega arith) (omega arith) bs h k in
          let ahead = field_inside s at e in
          let start = behind_tag (behind_tag at 18) (length bs) in
          let place : start ≡ start + 0 = omega arith in (
            m - 1,
            omega arith,
            one_field (inside_args s) s at m e l (bytes-plain 2 at s q (omega arith) (omega arith) bs h k)
                (sym (yes (argument_padded s start (length bs)) false (sym (is_args_lem 2 2 (length bs) refl refl)))
                ∙ ap (λ (p : ℕ). argument_padded s p (length bs)) place
                ∙ argument_flag_moved (stands_inside 2 bs k) 0 (length bs) (omega arith)
                ∙ inner),
          );
    }

-- ---- by what counts inside

module _ (num : ℕ) (some : 0 < num) (few : num < 10) where
  pub says_number : (v : ℕ) → v < 2 ^ 64 → Says own_only (number_field num v) false
  says_number = says-plain-number own_only num some few (λ s w v st ln next. refl)

  pub says_bytes : (bs : List ℕ) → length bs < 2 ^ 64 → Says own_only (bytes_field num bs) false
  says_bytes = says-plain-bytes own_only num some few (λ s w v st ln next. refl)

  pub says_optional : (b : Bool) (v : ℕ) → v < 2 ^ 64 → Says own_only (optional_field b num v) false
  says_optional = says-plain-optional own_only num some few (λ s w v st ln next. refl)

  pub says_other : (num ≡ 2 → ⊥) → (b : Bool) (v : ℕ) → v < 2 ^ 64 → Says inside_args (optional_field b num v) false
  says_other z = says-plain-optional inside_args num some few (other_inside num z)
