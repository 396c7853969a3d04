-- Going through all arguments, one turn of the loop at a time. Assumes nothing.
use Rattle.prelude.proofs.Basics.{ℕ, zero, suc, ◌+◌, ◌-◌, ◌≤◌, ◌<◌, arith, Bool, true, false, cond, ◌≡◌, refl, sym, ap}
use Rattle.prelude.proofs.Basics.{◌∙◌, List, [], ◌∷◌, length, get_or, eqb, ltb, eq-eqb, eqb-false, le-ltb}
use Rattle.prelude.proofs.Basics.{lt-ltb, ne_eqb, both, before_suc}
use Rattle.std.specs.Prelude.{Option, Some, None}
use Rattle.std.specs.Option.{is_some}
use Rattle.scalar.specs.declared.argument.Argument.TheVariants as Va
use Rattle.args.proofs.Names.{reason_of, Argument, next_argument, and_more, arguments_from, arguments_at, any_type_of}
use Rattle.args.proofs.Names.{no_arguments, bad_arguments, counted, with_type, together, arguments_in, handed_out}
use Rattle.args.proofs.Names.{number_of, type_number, AnyType, EndsBy, GoesOn, Arguments, NextArgument}
use Rattle.args.specs.WithinRules.{FewArguments, NthWithin}
use Rattle.args.proofs.PlaceLaws.{next_goes_on, next_end}
use Rattle.args.proofs.WithinLaws.{ends_later}

-- every Any type has a number
pub any_numbered : (any : AnyType) → 0 < number_of any
any_numbered AnyType.Scalar = omega arith
any_numbered AnyType.Object = omega arith
any_numbered AnyType.Array = omega arith

pub typed : (any : Option AnyType) → is_some any ≡ true → 0 < type_number any
typed (Some any) h = any_numbered any
typed None h = absurd (let z : ◌≡◌ {A = ℕ} 0 1 = cc in omega arith)

pub untyped : (any : Option AnyType) → is_some any ≡ false → type_number any ≡ 0
untyped (Some any) h = absurd (let z : ◌≡◌ {A = ℕ} 0 1 = cc in omega arith)
untyped None h = refl

-- one argument more, by its Any type
module _ (x : Arguments) (t : ℕ) where
  pub type_scalar : (t ≡ 0 → ⊥) → t < 2 → counted x x.kind x.index ≡ with_type x t
  type_scalar h g = simp (ne_eqb t 0 h, lt-ltb t 2 g)

  pub type_later : (t ≡ 0 → ⊥) → 2 ≤ t → (x.kind ≡ 0 → ⊥) → counted x x.kind x.index ≡ with_type x t
  type_later h g k = simp (ne_eqb t 0 h, le-ltb t 2 g, ne_eqb x.kind 0 k)

  pub type_first : (t ≡ 0 → ⊥) → 2 ≤ t → x.kind ≡ 0 → counted x t x.count ≡ with_type x t
  type_first h g k = simp (ne_eqb t 0 h, le-ltb t 2 g, eq-eqb x.kind 0 k)

  count-up : (b c : Bool) → (cond b (counted x x.kind x.index)
      (cond c (counted x t x.count) (counted x x.kind x.index))).count ≡ x.count + 1
  count-up true c = refl
  count-up false true = refl
  count-up false false = refl

  good-kept : (b c : Bool) → (cond b (counted x x.kind x.index)
      (cond c (counted x t x.count) (counted x x.kind x.index))).good ≡ x.good
  good-kept true c = refl
  good-kept false true = refl
  good-kept false false = refl

  -- an argument that is no bad one is counted and spoils nothing
  pub type_count : (t ≡ 0 → ⊥) → (with_type x t).count ≡ x.count + 1
  type_count h = rw (ne_eqb t 0 h) (count-up (ltb t 2) (eqb x.kind 0))

  pub type_good : (t ≡ 0 → ⊥) → (with_type x t).good ≡ x.good
  type_good h = rw (ne_eqb t 0 h) (good-kept (ltb t 2) (eqb x.kind 0))

pub from_none : (most : ℕ) (s : List ℕ) (p : ℕ) → next_argument s p ≡ None → arguments_from most s p ≡ []
unfolding arguments_from
from_none zero s p e = refl
from_none (suc m) s p e = ap (and_more (λ next. arguments_from m s next)) e

pub from_found : (most : ℕ) (s : List ℕ) (p : ℕ) {found : NextArgument} → 0 < most →
    next_argument s p ≡ Some found →
    arguments_from most s p ≡ found.value ∷ arguments_from (most - 1) s found.next
unfolding arguments_from
from_found zero s p g e = absurd (omega arith)
from_found (suc m) s p {found} g e =
    ap (and_more (λ q. arguments_from m s q)) e
    ∙ ap (λ (k : ℕ). found.value ∷ arguments_from k s found.next) (before_suc m)

pub advances : (s : List ℕ) (p : ℕ) {found : NextArgument} → next_argument s p ≡ Some found →
    (p < found.next) × (found.next ≤ length s)
advances s p {found} e = go (next_goes_on s p)
  where
    go : GoesOn p (length s) (next_argument s p) → (p < found.next) × (found.next ≤ length s)
    go = rw e (λ h. (h.0, h.1))

-- the list of them, one argument at a time
module _ (s : List ℕ) where
  more-few : (p : ℕ) (x : Option NextArgument) → GoesOn p (length s) x → (more : ℕ → List Argument) →
      ((q : ℕ) → length (more q) ≤ length s - q) → length (and_more more x) ≤ length s - p
  more-few p (Some found) h more m = omega (arith, m found.next)
  more-few p None h more m = omega arith

  from-few : (most p : ℕ) → length (arguments_from most s p) ≤ length s - p
  unfolding arguments_from
  from-few zero p = omega arith
  from-few (suc most) p =
      more-few p (next_argument s p) (next_goes_on s p) (λ next. arguments_from most s next) (from-few most)

  -- each of a list ends within the bytes
  Each : List Argument → Type 0
  Each l = (k : ℕ) → EndsBy (length s) (get_or l k (Va.Refused 9))

  more-each : (p : ℕ) (x : Option NextArgument) → GoesOn p (length s) x → (more : ℕ → List Argument) →
      ((q : ℕ) → Each (more q)) → Each (and_more more x)
  unfolding Each
  more-each p (Some found) h more m zero = ends_later found.next (length s) h.1 found.value h.2
  more-each p (Some found) h more m (suc k) = m found.next k
  more-each p None h more m k = tt

  from_each : (most p : ℕ) → Each (arguments_from most s p)
  unfolding arguments_from Each
  from_each zero p = λ k. tt
  from_each (suc most) p =
      more-each p (next_argument s p) (next_goes_on s p) (λ next. arguments_from most s next) (from_each most)

  handed-out-ends : (n : ℕ) (a : Argument) → EndsBy n a → EndsBy n (handed_out a)
  handed-out-ends n a h = both (EndsBy n) (eqb (reason_of a) 0) a (Va.Refused (reason_of a)) (λ _. h) (λ _. tt)

pub few_arguments_lem : FewArguments
few_arguments_lem s from = from-few s (length s) from

pub nth_within : NthWithin
unfolding Each
nth_within s from index =
    handed-out-ends s (length s) (get_or (arguments_at s from) index (Va.Refused 9)) (from_each s (length s) from index)

pub together_none : (x : Arguments) → together x [] ≡ x
unfolding together
together_none x = refl

pub together_bad : (x : Arguments) (a : Argument) (rest : List Argument) → any_type_of a ≡ 0 →
    together x (a ∷ rest) ≡ bad_arguments
unfolding together
together_bad x a rest h = simp (eq-eqb (any_type_of a) 0 h)

pub together_on : (x : Arguments) (a : Argument) (rest : List Argument) → (any_type_of a ≡ 0 → ⊥) →
    together x (a ∷ rest) ≡ together (with_type x (any_type_of a)) rest
unfolding together
together_on x a rest h =
    ap (λ (b : Bool). cond b bad_arguments (together (with_type x (any_type_of a)) rest)) (ne_eqb (any_type_of a) 0 h)

-- what good arguments leave as it was
type_kept : (x : Arguments) (t : ℕ) → (t ≡ 0 → ⊥) → ((with_type x t).start ≡ x.start) × ((with_type x t).end ≡ x.end)
type_kept x t h = rw (ne_eqb t 0 h) (go (ltb t 2) (eqb x.kind 0))
  where
    go : (b c : Bool) →
        ((cond b (counted x x.kind x.index)
        (cond c (counted x t x.count) (counted x x.kind x.index))).start ≡ x.start)
        × ((cond b (counted x x.kind x.index)
        (cond c (counted x t x.count) (counted x x.kind x.index))).end ≡ x.end)
    go true c = (refl, refl)
    go false true = (refl, refl)
    go false false = (refl, refl)

pub together_kept : (x : Arguments) (l : List Argument) → (together x l).good ≡ true →
    ((together x l).start ≡ x.start) × ((together x l).end ≡ x.end)
unfolding together
together_kept x [] g = (refl, refl)
together_kept x (a ∷ l) g =
    go (λ h. together_kept (with_type x (any_type_of a)) l h) (eqb (any_type_of a) 0) refl g
  where
    go : ((together (with_type x (any_type_of a)) l).good ≡ true →
        ((together (with_type x (any_type_of a)) l).start ≡ (with_type x (any_type_of a)).start) × ((together
        (with_type x (any_type_of a)) l).end ≡ (with_type x (any_type_of a)).end)) →
        (b : Bool) → eqb (any_type_of a) 0 ≡ b →
        (cond b bad_arguments (together (with_type x (any_type_of a)) l)).good ≡ true →
        ((cond b bad_arguments (together (with_type x (any_type_of a)) l)).start ≡ x.start) × ((cond b bad_arguments
        (together (with_type x (any_type_of a)) l)).end ≡ x.end)
    go on true e h = absurd (let z : ◌≡◌ {A = ℕ} 0 1 = cc in omega arith)
    go on false e h =
        let w = on h in
        let v = type_kept x (any_type_of a) (eqb-false (any_type_of a) 0 e) in
        (w.0 ∙ v.0, w.1 ∙ v.1)

-- where the loop stands: what is left at p, on top of x, answers for all
pub record Walking (s : List ℕ) (from p : ℕ) (x : Arguments) : Type 0 where
  pub most : ℕ
  pub enough : length s ≤ p + most
  pub good : x.good ≡ true
  pub small : x.count ≤ p
  pub whole : together x (arguments_from most s p) ≡ arguments_in s from

pub starts : (s : List ℕ) (from : ℕ) → Walking s from from (no_arguments from (length s))
starts s from = record { most = length s; enough = omega arith; good = refl; small = omega arith; whole = refl }

-- where the next argument is the same from a later place on, the loop may stand there
from_same : (most : ℕ) (s : List ℕ) (p q : ℕ) → next_argument s p ≡ next_argument s q
    → arguments_from most s p ≡ arguments_from most s q
unfolding arguments_from
from_same zero s p q e = refl
from_same (suc m) s p q e = ap (and_more (λ next. arguments_from m s next)) e

pub passes : {s : List ℕ} {from p q : ℕ} {x : Arguments} → Walking s from p x → p ≤ q
    → next_argument s p ≡ next_argument s q → Walking s from q x
passes {s} {from} {p} {q} {x} k h e =
    record {
      most = k.most;
      enough = omega (arith, k.enough);
      good = k.good;
      small = omega (arith, k.small);
      whole = ap (together x) (sym (from_same k.most s p q e)) ∙ k.whole;
    }

module _ {s : List ℕ} {from p : ℕ} {x : Arguments} (k : Walking s from p x) where
  pub none_left : next_argument s p ≡ None → x ≡ arguments_in s from
  none_left e = sym (together_none x) ∙ ap (together x) (sym (from_none k.most s p e)) ∙ k.whole

  pub ends : length s ≤ p → x ≡ arguments_in s from
  ends h = none_left (next_end s p h)

  module _ (inside : p < length s) {found : NextArgument} (e : next_argument s p ≡ Some found)
      (t : ℕ) (u : t ≡ any_type_of found.value) where
    turn : together x (found.value ∷ arguments_from (k.most - 1) s found.next) ≡ arguments_in s from
    turn = ap (together x) (sym (from_found k.most s p (omega (arith, k.enough)) e)) ∙ k.whole

    pub spoiled : t ≡ 0 → bad_arguments ≡ arguments_in s from
    spoiled h =
        sym (together_bad x found.value (arguments_from (k.most - 1) s found.next) (sym u ∙ h))
        ∙ turn

    pub goes_on_lem : 0 < t → Walking s from found.next (with_type x t)
    goes_on_lem some =
        let h : t ≡ 0 → ⊥ = λ z. omega (arith, some, z) in
        record {
          most = k.most - 1;
          enough = omega (arith, k.enough, advances s p e);
          good = type_good x t h ∙ k.good;
          small = omega (arith, k.small, type_count x t h, advances s p e);
          whole =
              ap (λ (m : ℕ). together (with_type x m) (arguments_from (k.most - 1) s found.next)) u
              ∙ sym (together_on x found.value (arguments_from (k.most - 1) s found.next) (λ z. h (u ∙ z)))
              ∙ turn;
        }

-- ---- what all together come to: of the same bytes, or bad

pub record Spans (x y : Arguments) : Type 0 where
  pub from : y.good ≡ true → y.start ≡ x.start
  pub upto : y.good ≡ true → y.end ≡ x.end
  pub bad : y.good ≡ false → bad_arguments ≡ y

spoilt : (x : Arguments) → Spans x bad_arguments
spoilt x = record { from = no; upto = no; bad = λ _. refl }
  where
    no : {A : Type 0} → ◌≡◌ {A = Bool} false true → A
    no h = absurd (let z : ◌≡◌ {A = ℕ} 0 1 = cc in omega arith)

kept_span : {x y : Arguments} → y.start ≡ x.start → y.end ≡ x.end → y.good ≡ true → Spans x y
kept_span a b g =
    record { from = λ _. a; upto = λ _. b; bad = λ h. absurd (let z : ◌≡◌ {A = ℕ} 0 1 = cc in omega arith) }

type_spans : (x : Arguments) (t : ℕ) → x.good ≡ true → Spans x (with_type x t)
type_spans x t g =
    both (Spans x) (eqb t 0) _ _
    (λ _. spoilt x)
    (λ _. both (Spans x) (ltb t 2) _ _ (λ _. same)
    (λ _. both (Spans x) (eqb x.kind 0) _ _ (λ _. same) (λ _. same)))
  where
    same : {kind index : ℕ} → Spans x (counted x kind index)
    same = kept_span refl refl g

pub spans : (l : List Argument) (x : Arguments) → x.good ≡ true → Spans x (together x l)
unfolding together
spans [] x g = kept_span refl refl g
spans (a ∷ rest) x g =
    both (Spans x) (eqb (any_type_of a) 0) _ _
    (λ _. spoilt x)
    (λ e.
    let h = type_good x (any_type_of a) (eqb-false (any_type_of a) 0 e) ∙ g in
    let s = type_spans x (any_type_of a) g in
    let r = spans rest (with_type x (any_type_of a)) h in
    record { from = λ k. r.from k ∙ s.from h; upto = λ k. r.upto k ∙ s.upto h; bad = r.bad })

-- looking for the argument with an index: how many are left to pass at p
pub record Counting (s : List ℕ) (from index p left : ℕ) : Type 0 where
  pub most : ℕ
  pub enough : length s ≤ p + most
  pub whole : get_or (arguments_from most s p) left (Va.Refused 9) ≡ get_or (arguments_at s from) index (Va.Refused 9)

pub count_starts : (s : List ℕ) (from index : ℕ) → Counting s from index from index
count_starts s from index = record { most = length s; enough = omega arith; whole = refl }

module _ {s : List ℕ} {from index p left : ℕ} (k : Counting s from index p left) where
  pub count_none : next_argument s p ≡ None → Va.Refused 9 ≡ get_or (arguments_at s from) index (Va.Refused 9)
  count_none e =
      ap (λ (l : List Argument). get_or l left (Va.Refused 9)) (sym (from_none k.most s p e)) ∙ k.whole

  pub count_end : length s ≤ p → Va.Refused 9 ≡ get_or (arguments_at s from) index (Va.Refused 9)
  count_end h = count_none (next_end s p h)

  module _ (inside : p < length s) {found : NextArgument} (e : next_argument s p ≡ Some found) where
    turn_at : get_or (found.value ∷ arguments_from (k.most - 1) s found.next) left (Va.Refused 9)
        ≡ get_or (arguments_at s from) index (Va.Refused 9)
    turn_at =
        ap (λ (l : List Argument). get_or l left (Va.Refused 9))
        (sym (from_found k.most s p (omega (arith, k.enough)) e))
        ∙ k.whole

    pub count_hit : left ≡ 0 → found.value ≡ get_or (arguments_at s from) index (Va.Refused 9)
    count_hit h =
        ap (λ (n : ℕ). get_or (found.value ∷ arguments_from (k.most - 1) s found.next) n (Va.Refused 9)) (sym h)
        ∙ turn_at

    pub count_on : (left ≡ 0 → ⊥) → Counting s from index found.next (left - 1)
    count_on h =
        record {
          most = k.most - 1;
          enough = omega (arith, k.enough, advances s p e);
          whole = passed left h ∙ turn_at;
        }
      where
        passed : (n : ℕ) → (n ≡ 0 → ⊥) →
            get_or (arguments_from (k.most - 1) s found.next) (n - 1) (Va.Refused 9) ≡ get_or
            (found.value ∷ arguments_from (k.most - 1) s found.next) n (Va.Refused 9)
        passed zero z = absurd (z refl)
        passed (suc m) z = ap (λ (j : ℕ). get_or (arguments_from (k.most - 1) s found.next) j (Va.Refused 9))
            (sym (before_suc m))
