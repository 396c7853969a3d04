-- Going from part to part, whatever is done with each: what is found, and what the flag says. Assumes nothing.
use Rattle.prelude.proofs.Basics.{ℕ, zero, suc, ◌+◌, ◌≤◌, ◌<◌, arith, Bool, true, false, ◌||◌, cond, ◌≡◌, refl, sym, ap}
use Rattle.prelude.proofs.Basics.{subst, ◌∙◌, List, [], ◌∷◌, ◌++◌, length, take, length-take-le, take-take}
use Rattle.prelude.proofs.Basics.{take-length, append-nil, eqb, ltb}
use Rattle.prelude.proofs.Basics.{eq-eqb, le-leb, ne_eqb, both, yes, no, or_assoc, or_false, or_same}
use Rattle.layout.proofs.Names.{field_at, PastField, Field, field_past, len, bad_slots, fields_onto, end_of, is_part}
use Rattle.layout.proofs.Names.{part_by, parts_from, parts_of, parts_in, part_onto, parts_onto, list_padded, Part}
use Rattle.layout.proofs.Names.{Slots}
use Rattle.layout.specs.Padded.{part_padded, parts_padded}
use Rattle.layout.specs.private.Found.{Noted, Listed, Adds}
use Rattle.layout.specs.declared.found.Found.{Found}
use Rattle.layout.specs.private.Parts.{First, left}
use Rattle.layout.specs.declared.merge.NextPart.{NextPart}
use Rattle.layout.specs.declared.parts.Parts.{Parts}
use Rattle.layout.proofs.PartsLaws.{parts_end, parts_on}
use Rattle.layout.proofs.JointLaws.{not_both}
use Rattle.layout.proofs.PaddedLaws.{field_ahead, padded_inside}
use Rattle.std.specs.Prelude.{Option, Some, None}
use Rattle.wire.specs.Field.{some_field}

-- ---- one part after the other

-- what was found is slots from which the parts that are left come to y
pub record Merging (rows : List (List ℕ)) (s : List ℕ) (y : Slots) (ps : List Part) (found : Found) : Type 0 where
  pub slots : Slots
  pub sound : slots.good ≡ true
  pub whole : parts_onto rows s ps slots ≡ y
  pub held : Noted slots found

-- each part ends by e
unfoldable pub AllWithin : ℕ → List Part → Type 0
AllWithin e [] = Unit {0}
AllWithin e (p ∷ ps) = (end_of p ≤ e) × AllWithin e ps

-- where a walk over parts stands, of which these are left
pub record Passing (rows : List (List ℕ)) (s : List ℕ) (all : List Part) (found₀ : Found) (padded₀ : Bool)
    (ps : List Part) (found : Found) (padded : Bool) : Type 0 where
  pub within : AllWithin (length s) ps
  pub onto : (x : Slots) → x.good ≡ true → Noted x found₀ → Merging rows s (parts_onto rows s all x) ps found
  pub flag : (padded || parts_padded s ps) ≡ (padded₀ || parts_padded s all)

pub passing : (rows : List (List ℕ)) (s : List ℕ) (ps : List Part) (found : Found) (padded : Bool) →
    AllWithin (length s) ps → Passing rows s ps found padded ps found padded
passing rows s ps found padded within =
    record {
      within = within;
      onto = λ x good n. record { slots = x; sound = good; whole = refl; held = n };
      flag = refl;
    }

module _ {rows : List (List ℕ)} {s : List ℕ} {all : List Part} {found₀ : Found} {padded₀ : Bool} {ps : List Part}
    {found : Found} {padded : Bool} (l : Passing rows s all found₀ padded₀ ps found padded) where
  -- no part is left
  module _ (none : ps ≡ []) where
    pub passed : Adds (parts_onto rows s all) found₀ true found
    unfolding parts_onto
    passed = record { onto = λ x good n. here x (l.onto x good n) }
      where
        here : (x : Slots) → Merging rows s (parts_onto rows s all x) ps found →
            Listed (parts_onto rows s all x) true found
        here x m =
            subst (λ (y : Slots). Listed y true found)
            (sym (ap (λ (ps : List Part). parts_onto rows s ps m.slots) none) ∙ m.whole)
            (record { answer = sym m.sound; held = λ _. m.held; bad = λ e. not_both m.sound e })

    pub passed_flag : padded ≡ (padded₀ || parts_padded s all)
    unfolding parts_padded
    passed_flag = or_false padded ∙ ap (λ (ps : List Part). padded || parts_padded s ps) (sym none) ∙ l.flag

  -- a part, and others
  module _ {p : Part} {qs : List Part} (first : ps ≡ p ∷ qs) where
    pub part_within : end_of p ≤ length s
    unfolding AllWithin
    part_within = (subst (AllWithin (length s)) first l.within).0

    module _ {found' : Found} where
      pub passes : {padded' : Bool} → Adds (part_onto rows s p) found true found' →
          padded' ≡ (padded || part_padded s p.start p.len) → Passing rows s all found₀ padded₀ qs found' padded'
      unfolding AllWithin parts_onto parts_padded
      passes {padded'} a w =
          record {
            within = (subst (AllWithin (length s)) first l.within).1;
            onto = λ x good m. on x (l.onto x good m);
            flag =
                ap (λ (b : Bool). b || parts_padded s qs) w
                ∙ or_assoc padded (part_padded s p.start p.len) (parts_padded s qs)
                ∙ ap (λ (ps : List Part). padded || parts_padded s ps) (sym first)
                ∙ l.flag;
          }
        where
          on : (x : Slots) → Merging rows s (parts_onto rows s all x) ps found →
              Merging rows s (parts_onto rows s all x) qs found'
          on x m =
              let listed = a.onto m.slots m.sound m.held in
              let good = sym listed.answer in
              record {
                slots = part_onto rows s p m.slots;
                sound = good;
                whole =
                    yes (parts_onto rows s qs (part_onto rows s p m.slots)) bad_slots good
                    ∙ ap (λ (ps : List Part). parts_onto rows s ps m.slots) (sym first)
                    ∙ m.whole;
                held = listed.held good;
              }

      pub spoils : Adds (part_onto rows s p) found false found' → Adds (parts_onto rows s all) found₀ false found'
      unfolding parts_onto
      spoils a = record { onto = λ x good m. bad x (l.onto x good m) }
        where
          bad : (x : Slots) → Merging rows s (parts_onto rows s all x) ps found →
              Listed (parts_onto rows s all x) false found'
          bad x m =
              let listed = a.onto m.slots m.sound m.held in
              subst (λ (y : Slots). Listed y false found')
              (no (parts_onto rows s qs (part_onto rows s p m.slots)) bad_slots (sym listed.answer)
              ∙ ap (λ (ps : List Part). parts_onto rows s ps m.slots) (sym first)
              ∙ m.whole)
              (record { answer = refl; held = λ e. not_both e refl; bad = λ _. refl })

-- ---- bytes that were cut off behind a part

-- a part within the first e bytes reads alike there
module _ (rows : List (List ℕ)) (s : List ℕ) (e : ℕ) (few : e ≤ length s) where
  size : length (take e s) ≡ e
  size = length-take-le e s few

  module _ (p : Part) (inside : end_of p ≤ e) where
    part_cut : (x : Slots) → part_onto rows (take e s) p x ≡ part_onto rows s p x
    part_cut x =
        rw (
          le-leb (end_of p) (length (take e s)) (omega (arith, size)),
          le-leb (end_of p) (length s) (omega arith),
          take-take (end_of p) e s inside,
        )

    flag-cut : part_padded (take e s) p.start p.len ≡ part_padded s p.start p.len
    flag-cut =
        rw (
          le-leb (end_of p) (length (take e s)) (omega (arith, size)),
          le-leb (end_of p) (length s) (omega arith),
          take-take (end_of p) e s inside,
        )

by_within : (k : ℕ) (at end : ℕ) (more : ℕ → List Part) → ((q : ℕ) → AllWithin end (more q)) → (z : Option Field) →
    PastField at end z → AllWithin end (part_by k more z)
unfolding AllWithin
by_within k at end more on (Some r) h =
    both (AllWithin end) (is_part k r.number r.wire) _ _ (λ _. (omega arith, on r.next)) (λ _. on r.next)
by_within k at end more on None h = tt

-- those of a message lie within its bytes
pub parts_within : (k : ℕ) (s : List ℕ) (most at : ℕ) → AllWithin (length s) (parts_from most k s at)
unfolding AllWithin parts_from
parts_within k s zero at = tt
parts_within k s (suc most) at =
    both (AllWithin (length s)) (ltb at (length s)) _ _
    (λ _.
    by_within k at (length s) (λ next. parts_from most k s next) (λ q. parts_within k s most q) (field_at s at)
    (field_past s at))
    (λ _. tt)

pub parts_cut : (rows : List (List ℕ)) (s : List ℕ) (e : ℕ) → e ≤ length s → (ps : List Part) → AllWithin e ps →
    (x : Slots) → parts_onto rows (take e s) ps x ≡ parts_onto rows s ps x
unfolding parts_onto AllWithin
parts_cut rows s e few [] w x = refl
parts_cut rows s e few (p ∷ ps) w x =
    let q = part_cut rows s e few p w.0 x in
    ap (λ (y : Slots). cond y.good (parts_onto rows (take e s) ps y) bad_slots) q
    ∙ ap (λ (y : Slots). cond (part_onto rows s p x).good y bad_slots)
    (parts_cut rows s e few ps w.1 (part_onto rows s p x))

-- where the parts of a message begin, and those of each of its parts
pub left_of : (k : ℕ) (s : List ℕ) (from : ℕ) →
    parts_of k (take (length s) s) from ++ parts_in k s (parts_of k s (length s)) ≡ parts_of k s from
unfolding parts_in
left_of k s from =
    ap (λ (ps : List Part). parts_of k (take (length s) s) from ++ parts_in k s ps)
    (parts_end k s (length s) (length s) (omega arith))
    ∙ append-nil (parts_of k (take (length s) s) from)
    ∙ ap (λ (l : List ℕ). parts_of k l from) (take-length s)

pub left_in : (k : ℕ) (s : List ℕ) (ps : List Part) →
    parts_of k (take (length s) s) (length s) ++ parts_in k s ps ≡ parts_in k s ps
left_in k s ps =
    ap (λ (l : List ℕ). parts_of k l (length s) ++ parts_in k s ps) (take-length s)
    ∙ ap (λ (qs : List Part). qs ++ parts_in k s ps) (parts_end k s (length s) (length s) (omega arith))

pub flags_cut : (s : List ℕ) (e : ℕ) → e ≤ length s → (ps : List Part) → AllWithin e ps →
    parts_padded (take e s) ps ≡ parts_padded s ps
unfolding parts_padded AllWithin
flags_cut s e few [] w = refl
flags_cut s e few (p ∷ ps) w =
    ap (λ (b : Bool). b || parts_padded (take e s) ps) (flag-cut [] s e few p w.0)
    ∙ or_same (part_padded s p.start p.len) (flags_cut s e few ps w.1)

-- ---- for the functions

-- a part of a message ends within its bytes
part_ends : (s : List ℕ) (p : ℕ) {number wire v start n next : ℕ} →
    field_at s p ≡ some_field number wire v start n next → (start + n ≤ length s) × (next ≤ length s)
part_ends s p {start = start} {n = n} {next = next} e = go (field_past s p)
  where
    go : PastField p (length s) (field_at s p) → (start + n ≤ length s) × (next ≤ length s)
    go = rw e (λ h. (omega arith, omega arith))

-- going on to the next part
module _ (k : ℕ) (s : List ℕ) (p : ℕ) (inside : p < length s) where
  pub no_more : field_at s p ≡ None → parts_of k s p ≡ []
  no_more e = parts_on k s p inside None e

  module _ {number wire v start n next : ℕ} (e : field_at s p ≡ some_field number wire v start n next) where
    pub passes_by : is_part k number wire ≡ false → parts_of k s next ≡ parts_of k s p
    passes_by q =
        no (record { start = start; len = n } ∷ parts_of k s next) (parts_of k s next) q
        ∙ sym (parts_on k s p inside _ e)

    pub first_here : {at : ℕ} → parts_of k s p ≡ parts_of k s at → at ≤ p → is_part k number wire ≡ true →
        First k s at (record { part = record { start = start; len = n }; next = next })
    first_here same before q =
        record {
          parts =
              sym same
              ∙ parts_on k s p inside _ e
              ∙ sym (yes (record { start = start; len = n } ∷ parts_of k s next) (parts_of k s next) q);
          inside = (part_ends s p e).0;
          onward = omega (arith, before, field_ahead s p e);
          within = (part_ends s p e).1;
        }

-- the parts that are left, in the part that is being looked through and behind it
module _ (p : Parts) where
  abbrev behind : List Part
  behind = parts_in p.number p.s.now (parts_of p.outer p.s.now p.next)

  pub left_one : {found : NextPart} → First p.number (take p.end p.s.now) p.at found →
      left p ≡ found.part ∷ parts_of p.number (take p.end p.s.now) found.next ++ behind
  left_one f = ap (λ (ps : List Part). ps ++ behind) f.parts

  module _ (none : parts_of p.number (take p.end p.s.now) p.at ≡ []) where
    left_behind : left p ≡ behind
    left_behind = ap (λ (ps : List Part). ps ++ behind) none

    pub left_none : parts_of p.outer p.s.now p.next ≡ [] → left p ≡ []
    unfolding parts_in
    left_none e = left_behind ∙ ap (parts_in p.number p.s.now) e

    pub left_inside : {found : NextPart} → First p.outer p.s.now p.next found →
        parts_of p.number (take (end_of found.part) p.s.now) found.part.start
        ++ parts_in p.number p.s.now (parts_of p.outer p.s.now found.next)
        ≡ left p
    unfolding parts_in
    left_inside f = sym (left_behind ∙ ap (parts_in p.number p.s.now) f.parts)

adds_as : {f h : Slots → Slots} {found₀ found : Found} {r : Bool} → ((x : Slots) → x.good ≡ true → f x ≡ h x) →
    Adds f found₀ r found → Adds h found₀ r found
adds_as {found = found} {r = r} e a =
    record { onto = λ x good n. subst (λ (y : Slots). Listed y r found) (e x good) (a.onto x good n) }

module _ (rows : List (List ℕ)) (s : List ℕ) {found₀ found : Found} {r : Bool} where
  module _ (p : Part) (inside : end_of p ≤ length s) where
    pub own_adds : Adds (fields_onto rows (take (end_of p) s) p.start) found₀ r found →
        Adds (part_onto rows s p) found₀ r found
    own_adds =
        adds_as
        (λ x _.
        yes (fields_onto rows (take (end_of p) s) p.start x) bad_slots (le-leb (end_of p) (length s) inside))

module _ (s : List ℕ) where
  module _ (p : Part) (inside : end_of p ≤ length s) where
    pub own_flag : list_padded (take (end_of p) s) p.start ≡ part_padded s p.start p.len
    own_flag = padded_inside s p.start (end_of p) inside

module _ (k number wire : ℕ) where
  pub other_number : (number ≡ k → ⊥) → false ≡ is_part k number wire
  other_number h = rw (ne_eqb number k h)

  pub this_number : number ≡ k → eqb wire len ≡ is_part k number wire
  this_number h = rw (eq-eqb number k h)
