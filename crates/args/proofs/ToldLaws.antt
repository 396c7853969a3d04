-- What is told of arguments: their number, and the first object or array among them. Assumes nothing.
use Rattle.prelude.proofs.Basics.{ℕ, ◌+◌, ◌≤◌, ◌<◌, arith, add-one, true, ◌≡◌, refl, sym, ap, subst, ◌∙◌, List, [], ◌∷◌}
use Rattle.prelude.proofs.Basics.{length, get_or, le-ltb, lt-ltb, less_or_not}
use Rattle.args.proofs.Names.{Argument, bad, arguments_at, any_type_of, no_arguments, counted, with_type, together}
use Rattle.args.proofs.Names.{Arguments}
use Rattle.args.specs.ArgumentsRules.{first_other, FirstTold}
use Rattle.args.proofs.ArgumentsLaws.{type_scalar, type_later, type_first, together_none, together_bad}
use Rattle.args.proofs.ArgumentsLaws.{together_on}

-- the arguments behind others: more are counted, and the first object or array is kept once it is found
record Keeps (x y : Arguments) (n : ℕ) : Type 0 where
  count : y.count ≡ x.count + n
  kind : y.kind ≡ x.kind
  index : y.index ≡ x.index

record Finds (x y : Arguments) (all : List Argument) : Type 0 where
  count : y.count ≡ x.count + length all
  kind : y.kind ≡ any_type_of (get_or all (first_other all) bad)
  index : (y.kind ≡ 0 → ⊥) → y.index ≡ x.count + first_other all

-- a good list has no bad argument first
good_first : (x : Arguments) (a : Argument) (rest : List Argument) → (together x (a ∷ rest)).good ≡ true →
    any_type_of a ≡ 0 → ⊥
good_first x a rest g h =
    let e = ap (λ (y : Arguments). y.good) (together_bad x a rest h) in
    let z : ◌≡◌ {A = ℕ} 0 1 = cc in
    omega arith

-- one argument more, and the rest
module _ (x : Arguments) (a : Argument) (rest : List Argument) (g : (together x (a ∷ rest)).good ≡ true)
    (z : Arguments) (e : z ≡ with_type x (any_type_of a)) where
  goes : together z rest ≡ together x (a ∷ rest)
  goes = ap (λ (y : Arguments). together y rest) e ∙ sym (together_on x a rest (good_first x a rest g))

  still : (together z rest).good ≡ true
  still = ap (λ (y : Arguments). y.good) goes ∙ g

keeps : (x : Arguments) (all : List Argument) → (x.kind ≡ 0 → ⊥) → (together x all).good ≡ true →
    Keeps x (together x all) (length all)
keeps x [] k g = rw (together_none x) (record { count = omega arith; kind = refl; index = refl })
keeps x (a ∷ rest) k g =
    let z = counted x x.kind x.index in
    let e : z ≡ with_type x (any_type_of a) =
    less_or_not (any_type_of a) 2 (λ h. type_scalar x (any_type_of a) (good_first x a rest g) h)
    (λ h. type_later x (any_type_of a) (good_first x a rest g) h k) in
    let m = keeps z rest k (still x a rest g z e) in
    subst (λ (y : Arguments). Keeps x y (length (a ∷ rest))) (goes x a rest g z e)
    (record { count = omega (arith, m.count); kind = m.kind; index = m.index })

-- behind a scalar the first is one place further on
scalar_first : (a : Argument) (rest : List Argument) → any_type_of a < 2 → first_other rest + 1 ≡ first_other (a ∷ rest)
scalar_first a rest h = simp (lt-ltb (any_type_of a) 2 h)

other_first : (a : Argument) (rest : List Argument) → 2 ≤ any_type_of a → ◌≡◌ {A = ℕ} 0 (first_other (a ∷ rest))
other_first a rest h = simp (le-ltb (any_type_of a) 2 h)

further : (a : Argument) (rest : List Argument) (n : ℕ) → get_or rest n bad ≡ get_or (a ∷ rest) (n + 1) bad
further a rest n = rw add-one

module _ (x : Arguments) (a : Argument) (rest : List Argument) {y : Arguments} where
  scalar-finds : any_type_of a < 2 → Finds (counted x x.kind x.index) y rest → Finds x y (a ∷ rest)
  scalar-finds h m =
      record {
        count = omega (arith, m.count);
        kind =
            m.kind
            ∙ ap any_type_of
            (further a rest (first_other rest) ∙ ap (λ (n : ℕ). get_or (a ∷ rest) n bad) (scalar_first a rest h));
        index = λ n. omega (arith, m.index n, scalar_first a rest h);
      }

  other-finds : 2 ≤ any_type_of a → Keeps (counted x (any_type_of a) x.count) y (length rest) → Finds x y (a ∷ rest)
  other-finds h m =
      record {
        count = omega (arith, m.count);
        kind = m.kind ∙ ap (λ (n : ℕ). any_type_of (get_or (a ∷ rest) n bad)) (other_first a rest h);
        index = λ _. omega (arith, m.index, other_first a rest h);
      }

finds : (x : Arguments) (all : List Argument) → x.kind ≡ 0 → (together x all).good ≡ true →
    Finds x (together x all) all
finds x [] k g =
    rw (together_none x) (record { count = omega arith; kind = k; index = λ n. absurd (n k) })
finds x (a ∷ rest) k g =
    less_or_not (any_type_of a) 2
    (λ h.
    let z = counted x x.kind x.index in
    let e = type_scalar x (any_type_of a) (good_first x a rest g) h in
    subst (λ (y : Arguments). Finds x y (a ∷ rest)) (goes x a rest g z e)
    (scalar-finds x a rest h (finds z rest k (still x a rest g z e))))
    (λ h.
    let z = counted x (any_type_of a) x.count in
    let e = type_first x (any_type_of a) (good_first x a rest g) h k in
    subst (λ (y : Arguments). Finds x y (a ∷ rest)) (goes x a rest g z e)
    (other-finds x a rest h (keeps z rest (good_first x a rest g) (still x a rest g z e))))

pub first_told : FirstTold
first_told s from g =
    let m = finds (no_arguments from (length s)) (arguments_at s from) refl g in
    record {
      count = omega (arith, m.count);
      kind = m.kind;
      index = λ k. omega (arith, m.index k);
    }
