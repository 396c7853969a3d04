-- The arguments of a message by their index, moved; and what they say together. Assumes nothing.
use Rattle.prelude.proofs.Basics.{ℕ, ◌+◌, Bool, true, false, cond, ◌≡◌, refl, sym, ap, ◌∙◌, List, [], ◌∷◌, map, get_or}
use Rattle.prelude.proofs.Basics.{eqb, ltb, eqb-false}
use lib.ListN.{get_or-map}
use Rattle.scalar.specs.declared.argument.Argument.TheVariants as Va
use Rattle.args.specs.Arguments.{counted, handed_out, nth_argument}
pub use Rattle.args.proofs.ArgumentsLaws.{together_kept}
use Rattle.writer.proofs.Names.{Argument, arguments_at, any_type_of, bad_arguments, with_type, together, moved}
use Rattle.writer.proofs.Names.{Arguments, type_good, TellAlike}

-- ---- one by its index

refused_moved : (b : Bool) (d n : ℕ) →
    cond b (Va.Refused n) (Va.Refused n) ≡ moved d (cond b (Va.Refused n) (Va.Refused n))
refused_moved true d n = refl
refused_moved false d n = refl

pub handed_out_moved : (d : ℕ) (a : Argument) → handed_out (moved d a) ≡ moved d (handed_out a)
handed_out_moved d (Va.Signed z) = refl
handed_out_moved d (Va.Unsigned n) = refl
handed_out_moved d Va.Null = refl
handed_out_moved d (Va.Octets start len) = refl
handed_out_moved d (Va.Double x) = refl
handed_out_moved d (Va.DoubleNan n) = refl
handed_out_moved d (Va.Float x) = refl
handed_out_moved d (Va.FloatNan n) = refl
handed_out_moved d (Va.Bool b) = refl
handed_out_moved d (Va.String start len) = refl
handed_out_moved d Va.Object = refl
handed_out_moved d Va.Array = refl
handed_out_moved d (Va.Refused n) = refused_moved (eqb n 0) d n

pub type_moved : (d : ℕ) (a : Argument) → any_type_of (moved d a) ≡ any_type_of a
type_moved d (Va.Signed z) = refl
type_moved d (Va.Unsigned n) = refl
type_moved d Va.Null = refl
type_moved d (Va.Octets start len) = refl
type_moved d (Va.Double x) = refl
type_moved d (Va.DoubleNan n) = refl
type_moved d (Va.Float x) = refl
type_moved d (Va.FloatNan n) = refl
type_moved d (Va.Bool b) = refl
type_moved d (Va.String start len) = refl
type_moved d Va.Object = refl
type_moved d Va.Array = refl
type_moved d (Va.Refused n) = refl

pub nth_moved : (d : ℕ) (s : List ℕ) (at : ℕ) (t : List ℕ) → arguments_at s at ≡ map (moved d) (arguments_at t 0) →
    (i : ℕ) →
    nth_argument s at i ≡ moved d (nth_argument t 0 i)
nth_moved d s at t e i =
    ap (λ (l : List Argument). handed_out (get_or l i (Va.Refused 9))) e
    ∙ ap handed_out (get_or-map (moved d) (arguments_at t 0) i (Va.Refused 9))
    ∙ handed_out_moved d (get_or (arguments_at t 0) i (Va.Refused 9))

-- ---- together

pub together_moved : (d : ℕ) (x y : Arguments) (l : List Argument) → x.good ≡ y.good →
    (together x (map (moved d) l)).good ≡ (together y l).good
unfolding together
together_moved d x y [] e = e
together_moved d x y (a ∷ l) e =
    rw (type_moved d a) (go (λ z. together_moved d (with_type x (any_type_of a)) (with_type y (any_type_of a)) l z)
    (eqb (any_type_of a) 0) refl)
  where
    go : (((with_type x (any_type_of a)).good ≡ (with_type y (any_type_of a)).good) →
        (together (with_type x (any_type_of a)) (map (moved d) l)).good ≡ (together (with_type y (any_type_of a)) l).good) →
        (b : Bool) → eqb (any_type_of a) 0 ≡ b →
        (cond b bad_arguments (together (with_type x (any_type_of a)) (map (moved d) l))).good ≡ (cond b bad_arguments
        (together (with_type y (any_type_of a)) l)).good
    go on true f = refl
    go on false f =
        let h = eqb-false (any_type_of a) 0 f in
        on (type_good x (any_type_of a) h ∙ e ∙ sym (type_good y (any_type_of a) h))

-- together they tell the same, wherever they stand
type_tells : (x y : Arguments) (t : ℕ) → TellAlike x y → TellAlike (with_type x t) (with_type y t)
type_tells x y t h = rw h.kind (go (eqb t 0) (ltb t 2) (eqb y.kind 0))
  where
    more : x.count + 1 ≡ y.count + 1
    more = ap (λ (n : ℕ). n + 1) h.count

    go : (a b c : Bool) →
        TellAlike
        (cond a bad_arguments
        (cond b (counted x y.kind x.index)
        (cond c (counted x t x.count) (counted x y.kind x.index))))
        (cond a bad_arguments
        (cond b (counted y y.kind y.index)
        (cond c (counted y t y.count) (counted y y.kind y.index))))
    go true b c = record { count = refl; kind = refl; index = refl }
    go false true c = record { count = more; kind = refl; index = h.index }
    go false false true = record { count = more; kind = refl; index = h.count }
    go false false false = record { count = more; kind = refl; index = h.index }

pub together_tells : (d : ℕ) (x y : Arguments) (l : List Argument) → TellAlike x y →
    TellAlike (together x (map (moved d) l)) (together y l)
unfolding together
together_tells d x y [] h = h
together_tells d x y (a ∷ l) h =
    rw (type_moved d a)
    (go (eqb (any_type_of a) 0)
    (together_tells d (with_type x (any_type_of a)) (with_type y (any_type_of a)) l (type_tells x y (any_type_of a) h)))
  where
    go : (b : Bool) →
        TellAlike (together (with_type x (any_type_of a)) (map (moved d) l)) (together (with_type y (any_type_of a)) l) →
        TellAlike (cond b bad_arguments (together (with_type x (any_type_of a)) (map (moved d) l)))
        (cond b bad_arguments (together (with_type y (any_type_of a)) l))
    go true on = record { count = refl; kind = refl; index = refl }
    go false on = on
