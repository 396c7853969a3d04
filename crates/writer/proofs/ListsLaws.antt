-- The arguments in written bytes, part by part. Assumes nothing.
use Rattle.prelude.proofs.Basics.{ℕ, zero, suc, ◌+◌, ◌^◌, ◌≤◌, ◌<◌, arith, Bool, true, false, cond, ◌≡◌, refl, sym, ap}
use Rattle.prelude.proofs.Basics.{◌∙◌, List, [], ◌∷◌, ◌++◌, map, append-nil, append_assoc, length, length-append}
use Rattle.prelude.proofs.Basics.{ne_eqb}
use Rattle.args.specs.Value.{argument_in}
use Rattle.args.specs.Arguments.{arg_place, next_argument, placed_at, found_argument}
use Rattle.std.specs.Prelude.{Option, Some, None}
use Rattle.args.specs.declared.arguments.NextArgument.{NextArgument}
use Rattle.args.proofs.PlaceLaws.{starts, found, other_number, next_end, next_placed}
use Rattle.args.proofs.ArgumentsLaws.{from_none as args_none}
use Rattle.args.proofs.MovedArgLaws.{argument_moved, args_found}
use Rattle.args.proofs.EnoughLaws.{enough_fields}
use Rattle.writer.proofs.Names.{Tail, tail_length, Stands, stands_length, tail_stands, stands_first, stands_next}
use Rattle.writer.proofs.Names.{Argument, field_at, arguments_at, any_type_of, bad_arguments, with_type}
use Rattle.writer.proofs.Names.{arguments_from, together, moved, Arguments, type_good, field_inside, number_field}
use Rattle.writer.proofs.Names.{optional_field}
use Rattle.writer.proofs.FieldLaws.{number_reads}
use Rattle.writer.proofs.StretchLaws.{Stretch, done, more, there}
use Rattle.wire.specs.Field.{some_field}

-- an args field is the next argument
pub next_finds : (s : List ℕ) (p : ℕ) {v st ln next : ℕ} → field_at s p ≡ some_field 2 2 v st ln next →
    next_argument s p ≡ found_argument (argument_in s st ln) next
next_finds s p {v} {st} {ln} {next} e =
    let inside = field_inside s p e in
    sym (next_placed s p (placed_at st ln next) (found (starts s p) (omega arith) e refl refl))

-- any other field is passed over
pub next_skips : (s : List ℕ) (p : ℕ) {n w v st ln next : ℕ} → (n ≡ 2 → ⊥) → field_at s p ≡ some_field n w v st ln next →
    next_argument s p ≡ next_argument s next
next_skips s p {n} {w} {v} {st} {ln} {next} z e =
    let inside = field_inside s p e in
    let k = other_number (starts s p) (omega arith) e z in
    sym (next_placed s p (arg_place s next) (sym (enough_fields k.most s next k.enough) ∙ k.whole))
    ∙ next_placed s next (arg_place s next) refl

args_zero : (s : List ℕ) (p : ℕ) → arguments_from 0 s p ≡ []
unfolding arguments_from
args_zero s p = refl

args_skip : (m : ℕ) (s : List ℕ) (p next : ℕ) → next_argument s p ≡ next_argument s next →
    arguments_from m s p ≡ arguments_from m s next
args_skip m s p next e = go m (next_argument s next) refl
  where
    go : (m : ℕ) (x : Option NextArgument) → next_argument s next ≡ x → arguments_from m s p ≡ arguments_from m s next
    go m None f = args_none m s p (e ∙ f) ∙ sym (args_none m s next f)
    go zero (Some found) f = args_zero s p ∙ sym (args_zero s next)
    go (suc m) (Some found) f = args_found m s p (e ∙ f) ∙ sym (args_found m s next f)

-- wherever these bytes stand, the arguments from there on are l of the place, and those behind the bytes
pub record Lists (bs : List ℕ) (l : ℕ → List Argument) : Type 0 where
  pub on : (s : List ℕ) (at : ℕ) (q : List ℕ) (m : ℕ) → Stands s at bs q → length s ≤ at + m →
      (n : ℕ) × (length s ≤ at + length bs + n) × (arguments_from m s at ≡ l at ++ arguments_from n s (at + length bs))

pub lists_number : (num v : ℕ) → 0 < num → num < 10 → (num ≡ 2 → ⊥) → v < 2 ^ 64 → Lists (number_field num v) (λ _. [])
lists_number num v some few z h =
    record {
      on = λ s at q m k l. (
        m,
        omega arith,
        args_skip m s at (at + length (number_field num v)) (next_skips s at z
            (number_reads num at s q some few v h k)),
      );
    }

pub lists_optional : (b : Bool) (num v : ℕ) → 0 < num → num < 10 → (num ≡ 2 → ⊥) → v < 2 ^ 64 →
    Lists (optional_field b num v) (λ _. [])
unfolding optional_field
lists_optional true num v some few z h = lists_number num v some few z h
lists_optional false num v some few z h =
    record {
      on = λ s at q m k l.
          let e : at ≡ at + 0 = omega arith in
          (m, omega arith, ap (arguments_from m s) e);
    }

pub lists_then : {xs ys : List ℕ} {f g : ℕ → List Argument} → Lists xs f → Lists ys g →
    Lists (xs ++ ys) (λ at. f at ++ g (at + length xs))
lists_then {xs} {ys} {f} {g} a b =
    record {
      on = λ s at q m k l.
          let x = a.on s at (ys ++ q) m (stands_first xs ys k) l in
          let y = b.on s (at + length xs) q x.0 (stands_next xs ys k) x.1 in
          let e : at + length xs + length ys ≡ at + length (xs ++ ys) = omega (arith, length-append xs ys) in (
            y.0,
            omega (arith, y.1, e),
            x.2
                ∙ ap (λ (r : List Argument). f at ++ r) y.2
                ∙ sym (append_assoc (f at) (g (at + length xs)) (arguments_from y.0 s (at + length xs + length ys)))
                ∙ ap (λ (p : ℕ). f at ++ g (at + length xs) ++ arguments_from y.0 s p) e,
          );
    }

-- all of them, where the bytes go to the end
pub lists_whole : {bs : List ℕ} {l : ℕ → List Argument} {s : List ℕ} {at : ℕ} → Lists bs l → Tail s at bs →
    arguments_at s at ≡ l at
lists_whole {bs} {l} {s} {at} r k =
    let x = r.on s at [] (length s) (tail_stands k) (omega arith) in
    x.2
    ∙ ap (λ (y : List Argument). l at ++ y)
    (args_none x.0 s (at + length bs) (next_end s (at + length bs) (omega (arith, tail_length k))))
    ∙ append-nil (l at)

-- ---- a stretch

module _ {s : List ℕ} {at : ℕ} {a q : List ℕ} (k : Stands s at a q) where
  stretch-lists : (i : ℕ) → Stretch a i → (m n : ℕ) → length s ≤ at + i + m → length a ≤ i + n →
      (r : ℕ) × (length s ≤ at + length a + r) × (arguments_from m s (at + i) ≡ map (moved at)
      (arguments_from n a i) ++ arguments_from r s (at + length a))
  stretch-lists i (done e) m n h g = (
    m,
    omega arith,
    ap (λ (p : ℕ). arguments_from m s (at + p)) e
        ∙ ap (λ (l : List Argument). map (moved at) l ++ arguments_from m s (at + length a))
        (sym (args_none n a i (next_end a i (omega arith)))),
  )
  stretch-lists i (more e b r) zero n h g = let inside = field_inside a i e in absurd (omega (arith, stands_length k))
  stretch-lists i (more e b r) (suc m) zero h g = let inside = field_inside a i e in absurd (omega arith)
  stretch-lists i (more {v = v} {st = st} {ln = ln} {next = next} e b r) (suc m) (suc n) h g =
      let inside = field_inside a i e in
      let x = stretch-lists next r m n (omega arith) (omega arith) in (
        x.0,
        x.1,
        args_found m s (at + i) (next_finds s (at + i) (there k i e))
            ∙ ap (λ (y : Argument). y ∷ arguments_from m s (at + next)) (argument_moved k st ln inside.0)
            ∙ ap (λ (l : List Argument). moved at (argument_in a st ln) ∷ l) x.2
            ∙ ap (λ (l : List Argument). map (moved at) l ++ arguments_from x.0 s (at + length a))
            (sym (args_found n a i (next_finds a i e))),
      )

pub lists_stretch : (a : List ℕ) → Stretch a 0 → Lists a (λ at. map (moved at) (arguments_at a 0))
lists_stretch a g =
    record {
      on = λ s at q m k l.
          let e : at + 0 ≡ at = omega arith in
          let x = stretch-lists k 0 g m (length a) (omega arith) (omega arith) in
          (x.0, x.1, ap (arguments_from m s) (sym e) ∙ x.2);
    }

together_none : (x : Arguments) (l : List Argument) → l ≡ [] → (together x l).good ≡ x.good
unfolding together
together_none x l e = ap (λ (y : List Argument). (together x y).good) e

together_more : (x : Arguments) (a : Argument) (r l : List Argument) → (any_type_of a ≡ 0 → ⊥) → l ≡ a ∷ r →
    (together x l).good ≡ (together (with_type x (any_type_of a)) r).good
unfolding together
together_more x a r l b e =
    ap (λ (y : List Argument). (together x y).good) e
    ∙ ap (λ (t : Bool). (cond t bad_arguments (together (with_type x (any_type_of a)) r)).good) (ne_eqb (any_type_of a) 0 b)

-- each of them is good
pub stretch_good : (a : List ℕ) (i : ℕ) → Stretch a i → (n : ℕ) → length a ≤ i + n → (x : Arguments) → x.good ≡ true →
    (together x (arguments_from n a i)).good ≡ true
stretch_good a i (done e) n h x g =
    together_none x (arguments_from n a i) (args_none n a i (next_end a i (omega arith))) ∙ g
stretch_good a i (more e b r) zero h x g = let inside = field_inside a i e in absurd (omega arith)
stretch_good a i (more {st = st} {ln = ln} {next = next} e b r) (suc n) h x g =
    let inside = field_inside a i e in
    let t = any_type_of (argument_in a st ln) in
    together_more x (argument_in a st ln) (arguments_from n a next) (arguments_from (suc n) a i) b
    (args_found n a i (next_finds a i e))
    ∙ stretch_good a next r n (omega arith) (with_type x t) (type_good x t b ∙ g)
