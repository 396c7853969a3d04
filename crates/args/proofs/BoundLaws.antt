-- One pass over a message with arguments, one turn of the loop at a time: its own fields beside the field list, its
-- arguments beside the list of them. Assumes nothing.
use Rattle.prelude.proofs.Basics.{ℕ, ◌+◌, ◌≤◌, ◌<◌, arith, Bool, true, false, not, ◌&&◌, cond, ◌≡◌, refl}
use Rattle.prelude.proofs.Basics.{sym, ap, subst, ◌∙◌, List, length, get_or, set, take, length-set, get_or-set_other}
use Rattle.prelude.proofs.Basics.{get_or-set_same, length-take-le, eqb, leb, eq-eqb, eqb-false, eqb-true, le-leb}
use Rattle.prelude.proofs.Basics.{leb-true, lt-leb, ne_eqb, both, yes, no}
use Rattle.layout.proofs.CountLaws.{noted_length}
use Rattle.layout.proofs.FieldsLaws as Fields
use Rattle.args.proofs.Names.{field_at, rows_of, row_for, no_slots, bad_slots, use_of, noted, field_list}
use Rattle.args.proofs.Names.{checked, fields_at, has_required, embedded, value_of, Use, Slots, part_within}
use Rattle.args.proofs.Names.{argument_in, is_args, next_argument, arguments_at, any_type_of, no_arguments}
use Rattle.args.proofs.Names.{bad_arguments, with_type, arguments_in, argument_padded, inside_args, Arguments}
use Rattle.args.proofs.Names.{found_argument, Bound}
use Rattle.args.specs.Padded.{bound_padded, execute_padded}
use Rattle.args.specs.private.Bound.{rows_by, wire_by, tests_args, nothing, with_field, own_of, found}
use Rattle.args.specs.private.Bound.{kept_in}
use Rattle.args.specs.private.Bound.{bound_of, bound_at, bound_in, args_of}
use Rattle.std.specs.Prelude.{Option, Some, None, IsSome, option_map}
use Rattle.args.specs.declared.bound.Own.{Own}
use Rattle.args.proofs.ArgsFieldLaws.{args_field_lem}
use Rattle.args.proofs.PlaceLaws as Place
use Rattle.args.proofs.EnoughLaws.{next_skips}
use Rattle.args.proofs.ArgumentsLaws.{Walking}
use Rattle.args.proofs.ArgumentsLaws as Walk
use Rattle.std.specs.Prelude.{Option, Some, None}
use Rattle.wire.specs.Field.{some_field}

module _ (k : Own) (own number wire value : ℕ) where
  pub with_other : (wire ≡ own → ⊥) → k ≡ with_field k own number wire value
  with_other h = no _ k (ne_eqb wire own h)

  module _ (is : wire ≡ own) where
    pub with_one : number ≡ 1 →
        record { one = Some value; three = k.three } ≡ with_field k own number wire value
    with_one h = yes _ _ (eq-eqb number 1 h) ∙ yes _ k (eq-eqb wire own is)

    pub with_three : (number ≡ 1 → ⊥) → number ≡ 3 →
        record { one = k.one; three = Some value } ≡ with_field k own number wire value
    with_three n h = yes _ k (eq-eqb number 3 h) ∙ no _ _ (ne_eqb number 1 n) ∙ yes _ k (eq-eqb wire own is)

    pub with_none : (number ≡ 1 → ⊥) → (number ≡ 3 → ⊥) → k ≡ with_field k own number wire value
    with_none n h = no _ k (ne_eqb number 3 h) ∙ no _ _ (ne_eqb number 1 n) ∙ yes _ k (eq-eqb wire own is)

-- ---- what is kept of the fields is what their slots hold

-- a field of another number changes nothing at a place
module _ (x : Slots) (number v start len k : ℕ) (h : k ≡ number → ⊥) where
  count-apart : (u : Use) → get_or x.count k 0 ≡ get_or (noted u x number v start len).count k 0
  count-apart Use.Unknown = refl
  count-apart Use.Counted = sym (get_or-set_other x.count number k (get_or x.count number 0 + 1) 0 h)
  count-apart Use.Kept = sym (get_or-set_other x.count number k (get_or x.count number 0 + 1) 0 h)

  value-apart : (u : Use) → get_or x.value k 0 ≡ get_or (noted u x number v start len).value k 0
  value-apart Use.Unknown = refl
  value-apart Use.Counted = refl
  value-apart Use.Kept = sym (get_or-set_other x.value number k v 0 h)

values_long : (x : Slots) (number v start len : ℕ) (u : Use) →
    length (noted u x number v start len).value ≡ length x.value
values_long x number v start len Use.Unknown = refl
values_long x number v start len Use.Counted = refl
values_long x number v start len Use.Kept = length-set x.value number v

-- good slots of full length, of which these fields are kept
pub record Holding (k : Own) (x : Slots) : Type 0 where
  pub sound : x.good ≡ true
  pub counts : length x.count ≡ 10
  pub values : length x.value ≡ 10
  pub own : k ≡ own_of x

-- fields 1 and 3 by their counts and values
abbrev make : ℕ → ℕ → ℕ → ℕ → Own
make c v d w = record { one = cond (eqb c 0) None (Some v); three = cond (eqb d 0) None (Some w) }

module _ (x : Slots) (number v start len : ℕ) (u : Use) where
  abbrev then : Slots
  then = noted u x number v start len

  -- neither of the two
  own-apart : (number ≡ 1 → ⊥) → (number ≡ 3 → ⊥) → own_of x ≡ own_of then
  own-apart a b =
      let a' : 1 ≡ number → ⊥ = λ e. a (sym e) in
      let b' : 3 ≡ number → ⊥ = λ e. b (sym e) in
      ap (λ (c : ℕ). make c (value_of x 1) (get_or x.count 3 0) (value_of x 3))
      (count-apart x number v start len 1 a' u)
      ∙ ap (λ (w : ℕ). make (get_or then.count 1 0) w (get_or x.count 3 0) (value_of x 3))
      (value-apart x number v start len 1 a' u)
      ∙ ap (λ (c : ℕ). make (get_or then.count 1 0) (value_of then 1) c (value_of x 3))
      (count-apart x number v start len 3 b' u)
      ∙ ap (make (get_or then.count 1 0) (value_of then 1) (get_or then.count 3 0))
      (value-apart x number v start len 3 b' u)

one_more : (n : ℕ) → false ≡ eqb (n + 1) 0
one_more n = sym (ne_eqb (n + 1) 0 (λ h. omega arith))

module _ (x : Slots) (v start len : ℕ) (counts : length x.count ≡ 10) (values : length x.value ≡ 10) where
  seen_at : (k : ℕ) → k < 10 → false ≡ eqb (get_or (set x.count k (get_or x.count k 0 + 1)) k 0) 0
  seen_at k h =
      one_more (get_or x.count k 0)
      ∙ ap (λ (n : ℕ). eqb n 0)
      (sym (get_or-set_same x.count k (get_or x.count k 0 + 1) 0 (omega (arith, counts))))

  held_at : (k : ℕ) → k < 10 → v ≡ get_or (set x.value k v) k 0
  held_at k h = sym (get_or-set_same x.value k v 0 (omega (arith, values)))

  one_kept : record { one = Some v; three = (own_of x).three }
      ≡ own_of (noted Use.Kept x 1 v start len)
  one_kept =
      rw (
        ← (seen_at 1 (omega arith)),
        ← (held_at 1 (omega arith)),
        ← (count-apart x 1 v start len 3 (λ h. omega arith) Use.Kept),
        ← (value-apart x 1 v start len 3 (λ h. omega arith) Use.Kept),
      )

  three-kept : record { one = (own_of x).one; three = Some v }
      ≡ own_of (noted Use.Kept x 3 v start len)
  three-kept =
      rw (
        ← (seen_at 3 (omega arith)),
        ← (held_at 3 (omega arith)),
        ← (count-apart x 3 v start len 1 (λ h. omega arith) Use.Kept),
        ← (value-apart x 3 v start len 1 (λ h. omega arith) Use.Kept),
      )

-- what both messages' rows make of these two fields
one_taken : (text : Bool) (v : ℕ) → Use.Kept ≡ use_of (rows_by text) 1 (wire_by text) v
unfolding rows_of row_for
one_taken true v = refl
one_taken false v = refl

three_taken : (text : Bool) (v : ℕ) → Use.Kept ≡ use_of (rows_by text) 3 (wire_by text) v
unfolding rows_of row_for
three_taken true v = refl
three_taken false v = refl

one_left : (text : Bool) (wire v : ℕ) → (wire ≡ wire_by text → ⊥) → use_of (rows_by text) 1 wire v ≡ Use.Unknown
unfolding rows_of row_for
one_left true wire v h = simp (ne_eqb 2 wire (λ e. h (sym e)))
one_left false wire v h = simp (ne_eqb 0 wire (λ e. h (sym e)))

three_left : (text : Bool) (wire v : ℕ) → (wire ≡ wire_by text → ⊥) → use_of (rows_by text) 3 wire v ≡ Use.Unknown
unfolding rows_of row_for
three_left true wire v h = simp (ne_eqb 2 wire (λ e. h (sym e)))
three_left false wire v h = simp (ne_eqb 0 wire (λ e. h (sym e)))

module _ (text : Bool) (x : Slots) (number wire v start len : ℕ) (counts : length x.count ≡ 10)
    (values : length x.value ≡ 10) where
  abbrev own : ℕ
  own = wire_by text

  abbrev used : Use
  used = use_of (rows_by text) number wire v

  as-kept : (k : ℕ) → number ≡ k → used ≡ Use.Kept → own_of (noted Use.Kept x k v start len) ≡ own_of
      (noted used x number v start len)
  as-kept k e u =
      ap (λ (n : ℕ). own_of (noted Use.Kept x n v start len)) (sym e) ∙ ap
      (λ (w : Use). own_of (noted w x number v start len)) (sym u)

  as-left : used ≡ Use.Unknown → own_of x ≡ own_of (noted used x number v start len)
  as-left u = ap (λ (w : Use). own_of (noted w x number v start len)) (sym u)

  taken : (k : ℕ) → number ≡ k → wire ≡ own → Use.Kept ≡ use_of (rows_by text) k own v → used ≡ Use.Kept
  taken k e f g = ap (λ (n : ℕ). use_of (rows_by text) n wire v) e ∙ ap (λ (w : ℕ). use_of (rows_by text) k w v) f ∙ sym g

  noted-own : with_field (own_of x) own number wire v ≡ own_of (noted used x number v start len)
  noted-own = go (eqb wire own) refl (eqb number 1) refl (eqb number 3) refl
    where
      go : (w : Bool) → eqb wire own ≡ w → (a : Bool) → eqb number 1 ≡ a → (b : Bool) → eqb number 3 ≡ b →
          with_field (own_of x) own number wire v ≡ own_of (noted used x number v start len)
      go true e true f b g =
          let is = eqb-true wire own e in
          let n = eqb-true number 1 f in
          sym (with_one (own_of x) own number wire v is n)
          ∙ one_kept x v start len counts values
          ∙ as-kept 1 n (taken 1 n is (one_taken text v))
      go true e false f true g =
          let is = eqb-true wire own e in
          let n = eqb-true number 3 g in
          sym (with_three (own_of x) own number wire v is (eqb-false number 1 f) n)
          ∙ three-kept x v start len counts values
          ∙ as-kept 3 n (taken 3 n is (three_taken text v))
      go w e false f false g =
          apart w e ∙ own-apart x number v start len used (eqb-false number 1 f) (eqb-false number 3 g)
        where
          apart : (w : Bool) → eqb wire own ≡ w → with_field (own_of x) own number wire v ≡ own_of x
          apart true d =
              sym
              (with_none (own_of x) own number wire v (eqb-true wire own d) (eqb-false number 1 f)
              (eqb-false number 3 g))
          apart false d = sym (with_other (own_of x) own number wire v (eqb-false wire own d))
      go false e true f b g =
          let h = eqb-false wire own e in
          sym (with_other (own_of x) own number wire v h)
          ∙ as-left (ap (λ (n : ℕ). use_of (rows_by text) n wire v) (eqb-true number 1 f) ∙ one_left text wire v h)
      go false e false f true g =
          let h = eqb-false wire own e in
          sym (with_other (own_of x) own number wire v h)
          ∙ as-left (ap (λ (n : ℕ). use_of (rows_by text) n wire v) (eqb-true number 3 g) ∙ three_left text wire v h)

-- ---- the loop

args_are : (number wire : ℕ) → tests_args number wire ≡ true → (number ≡ 2) × (wire ≡ 2)
args_are number wire = go (eqb number 2) refl
  where
    go : (b : Bool) → eqb number 2 ≡ b → cond b (eqb wire 2) false ≡ true → (number ≡ 2) × (wire ≡ 2)
    go true e h = (eqb-true number 2 e, eqb-true wire 2 h)
    go false e h = absurd (let z : ◌≡◌ {A = ℕ} 0 1 = cc in omega arith)

args_no : (number wire : ℕ) → tests_args number wire ≡ false → number ≡ 2 → wire ≡ 2 → ⊥
args_no number wire h a b =
    let e : tests_args number wire ≡ true = simp (eq-eqb number 2 a, eq-eqb wire 2 b) in
    let z : ◌≡◌ {A = ℕ} 0 1 = cc in omega arith

-- where it stands: what is kept is of slots that answer for the whole field list, and so are the arguments of theirs
pub record Binding (text : Bool) (s : List ℕ) (from p : ℕ) (x : Arguments) (k : Own) : Type 0 where
  pub slots : Slots
  pub holding : Holding k slots
  pub listing : Fields.Listing (rows_by text) s from p slots
  pub walking : Walking s from p x

pub binds : (text : Bool) (s : List ℕ) (from : ℕ) → Binding text s from from (no_arguments from (length s)) nothing
binds text s from =
    record {
      slots = no_slots;
      holding = record { sound = refl; counts = refl; values = refl; own = refl };
      listing = Fields.starts (rows_by text) s from;
      walking = Walk.starts s from;
    }

pub none_found : IsSome {T = Bound} None → ⊥
none_found h = let z : ◌≡◌ {A = ℕ} 0 1 = cc in omega arith

bad_slots_lem : (x : Slots) (a : Arguments) → x.good ≡ false → None ≡ bound_of x a
unfolding bound_of
bad_slots_lem x a h = no _ None h

bad_args : (x : Slots) (a : Arguments) → a.good ≡ false → None ≡ bound_of x a
unfolding bound_of
bad_args x a h = both (λ (b : Option Bound). None ≡ b) x.good _ _ (λ _. no _ None h) (λ _. refl)

good_both : (x : Slots) (a : Arguments) → x.good ≡ true → a.good ≡ true → Some (found (own_of x) a) ≡ bound_of x a
unfolding bound_of
good_both x a g h = yes _ None h ∙ yes _ None g

module _ {text : Bool} {s : List ℕ} {from p : ℕ} {x : Arguments} {k : Own} (b : Binding text s from p x k) where
  abbrev fields : Slots
  fields = field_list (rows_by text) s from

  pub done : length s ≤ p → Some (found k x) ≡ bound_at text s from
  done h =
      let y = Fields.ends b.listing h in
      let a = Walk.ends b.walking h in
      ap (λ (o : Own). Some (found o x)) b.holding.own
      ∙ good_both b.slots x b.holding.sound b.walking.good
      ∙ ap (λ (z : Slots). bound_of z x) y
      ∙ ap (bound_of fields) a

  module _ (inside : p < length s) where
    pub no_field : field_at s p ≡ None → None ≡ bound_at text s from
    no_field e = bad_slots_lem fields (arguments_in s from)
        (ap (λ (z : Slots). z.good) (sym (Fields.no_field b.listing inside e)))

    module _ {number wire v start len next : ℕ} (e : field_at s p ≡ some_field number wire v start len next) where
      pub ahead : p < next
      ahead = Fields.advances b.listing inside e

      abbrev use-here : Use
      use-here = use_of (rows_by text) number wire v

      -- the slots behind the field, of which k' is kept
      slots-on : {k' : Own} → k' ≡ own_of (noted use-here b.slots number v start len) →
          Holding k' (noted use-here b.slots number v start len)
      slots-on h =
          record {
            sound = sound-on use-here;
            counts = noted_length b.slots number v start len use-here ∙ b.holding.counts;
            values = values_long b.slots number v start len use-here ∙ b.holding.values;
            own = h;
          }
        where
          sound-on : (u : Use) → (noted u b.slots number v start len).good ≡ true
          sound-on Use.Unknown = b.holding.sound
          sound-on Use.Counted = b.holding.sound
          sound-on Use.Kept = b.holding.sound

      pub passes : tests_args number wire ≡ false → Binding text s from next x (with_field k (wire_by text) number wire v)
      passes h =
          record {
            slots = noted use-here b.slots number v start len;
            holding =
                slots-on
                (ap (λ (o : Own). with_field o (wire_by text) number wire v) b.holding.own
                ∙ noted-own text b.slots number wire v start len b.holding.counts b.holding.values);
            listing = Fields.goes_on_lem b.listing inside e use-here refl;
            walking = Walk.passes b.walking (omega (arith, ahead)) (next_skips s p inside e (args_no number wire h));
          }

      module _ (h : tests_args number wire ≡ true) (t : ℕ) (u : t ≡ any_type_of (argument_in s start len)) where
        here : next_argument s p ≡ found_argument (argument_in s start len) next
        here =
            let a = args_are number wire h in
            sym (Place.next_placed s p _ (Place.found (Place.starts s p) inside e a.0 a.1))

        pub spoils : t ≡ 0 → None ≡ bound_at text s from
        spoils g =
            bad_args fields (arguments_in s from)
            (ap (λ (a : Arguments). a.good) (sym (Walk.spoiled b.walking inside here t u g)))

        pub counts_one : 0 < t → Binding text s from next (with_type x t) k
        counts_one g =
            record {
              slots = noted use-here b.slots number v start len;
              holding =
                  let a = args_are number wire h in
                  slots-on
                  (b.holding.own
                  ∙ own-apart b.slots number v start len use-here (λ z. omega (arith, a.0))
                  (λ z. omega (arith, a.0)));
              listing = Fields.goes_on_lem b.listing inside e use-here refl;
              walking = Walk.goes_on_lem b.walking inside here t u g;
            }

-- ---- in part of the bytes

module _ (text : Bool) (s : List ℕ) (at n : ℕ) where
  pub bound_past : length s < at + n → None ≡ bound_in text s at n
  unfolding bound_in
  bound_past h = no _ None (lt-leb (at + n) (length s) h)

  pub bound_cut : at + n ≤ length s → bound_at text (take (at + n) s) at ≡ bound_in text s at n
  unfolding bound_in
  bound_cut h = yes _ None (le-leb (at + n) (length s) h)

module _ (s : List ℕ) (at n : ℕ) where
  pub execute_past : length s < at + n → execute_padded s at n ≡ false
  unfolding execute_padded
  execute_past h = sym (no _ false (lt-leb (at + n) (length s) h))

  pub execute_cut : at + n ≤ length s → bound_padded (take (at + n) s) at ≡ execute_padded s at n
  unfolding execute_padded
  execute_cut h = yes _ false (le-leb (at + n) (length s) h)

-- an args field by the code's test
pub tests : (number wire v : ℕ) → is_args number wire v ≡ tests_args number wire
tests number wire v = args_field_lem.tested number wire v ∙ go (eqb number 2)
  where
    go : (a : Bool) → (a && eqb wire 2) ≡ cond a (eqb wire 2) false
    go true = refl
    go false = refl

module _ (s : List ℕ) (number wire v start len next : ℕ) where
  pub inside_args_lem : tests_args number wire ≡ true →
      argument_padded s start len ≡ inside_args s (some_field number wire v start len next)
  inside_args_lem h = yes _ false (tests number wire v ∙ h)

  pub inside_other : tests_args number wire ≡ false → inside_args s (some_field number wire v start len next) ≡ false
  inside_other h = sym (no _ false (tests number wire v ∙ h))

-- ---- what the answer says: there is one exactly where fields and arguments are good

-- field 1 alone is required
asked : (text : Bool) (count : List ℕ) → cond (not (eqb (get_or count 1 0) 0)) true false ≡ has_required
    (rows_by text) count
unfolding rows_of has_required
asked true count = refl
asked false count = refl

itself : (b : Bool) → cond b true false ≡ b
itself true = refl
itself false = refl

required : (text : Bool) (count : List ℕ) {b : Bool} → eqb (get_or count 1 0) 0 ≡ b → has_required
    (rows_by text) count ≡ not b
required text count e = sym (asked text count) ∙ itself (not (eqb (get_or count 1 0) 0)) ∙ ap not e

checked_sound : (rows : List (List ℕ)) (x : Slots) → x.good ≡ false → (checked rows x).good ≡ false
checked_sound rows x h = both (λ (y : Slots). y.good ≡ false) (has_required rows x.count) _ _ (λ _. h) (λ _. refl)

module _ (text : Bool) (s : List ℕ) (at n : ℕ) where
  abbrev list : Slots
  list = field_list (rows_by text) (take (at + n) s) at

  abbrev pub read : Arguments
  read = arguments_in (take (at + n) s) at

  abbrev part : Slots
  part = embedded (rows_by text) s at n

  pub record Found (b : Bound) : Type 0 where
    pub inside : at + n ≤ length s
    pub sound : list.good ≡ true
    pub good : read.good ≡ true
    pub is : b ≡ found (own_of list) read

  -- where there is none, fields or arguments are bad
  Says : Option Bound → Type 0
  Says (Some b) = Found b
  Says None = part.good ≡ true → read.good ≡ false

  unlisted : {A : Type 0} → part.good ≡ false → part.good ≡ true → A
  unlisted h g = absurd (let z : ◌≡◌ {A = ℕ} 0 1 = cc in omega arith)

  says : Says (bound_in text s at n)
  unfolding bound_in bound_of Says
  says =
      both Says (leb (at + n) (length s)) _ _
      (λ i.
      let within = leb-true (at + n) (length s) i in
      both Says list.good _ _
      (λ g. both Says read.good (Some (found (own_of list) read)) None
      (λ h. record { inside = within; sound = g; good = h; is = refl })
      (λ h _. h))
      (λ g.
      unlisted
      (ap (λ (y : Slots). y.good) (sym (part_within (rows_by text) s at n within))
      ∙ checked_sound (rows_by text) list g)))
      (λ i. unlisted (ap (λ (b : Bool). (cond b (fields_at (rows_by text) (take (at + n) s) at) bad_slots).good) i))

  pub bound_found : {b : Bound} → Some b ≡ bound_in text s at n → Found b
  unfolding Says
  bound_found e = subst Says (sym e) says

  pub bound_lost : None ≡ bound_in text s at n → part.good ≡ true → read.good ≡ false
  unfolding Says
  bound_lost e = subst Says (sym e) says

  -- what one of the two says of field 1: the message is good where it is there, and only there
  With : Option ℕ → Type 0
  With (Some one) = (part ≡ list) × (one ≡ value_of list 1)
  With None = part.good ≡ false

  told_by : at + n ≤ length s → (b : Bool) → eqb (get_or list.count 1 0) 0 ≡ b → With (cond b None (Some (value_of list 1)))
  unfolding With
  told_by within true e =
      ap (λ (y : Slots). y.good)
      (sym
      (Fields.checked_bad (rows_by text) list (required text list.count e) ∙ part_within (rows_by text) s at n within))
  told_by within false e = (
    sym
        (Fields.checked_good (rows_by text) list (required text list.count e) ∙ part_within (rows_by text) s at n within),
    refl,
  )

  one_told : {b : Bound} → Found b → With b.one
  one_told f =
      subst With (sym (ap (λ (c : Bound). c.one) f.is))
      (told_by f.inside (eqb (get_or list.count 1 0) 0) refl)

  pub has_one : {b : Bound} {one : ℕ} → Found b → b.one ≡ Some one → (part ≡ list) × (one ≡ value_of list 1)
  unfolding With
  has_one f e = subst With e (one_told f)

  pub lacks_one : {b : Bound} → Found b → b.one ≡ None → part.good ≡ false
  unfolding With
  lacks_one f e = subst With e (one_told f)

  -- the arguments of what is found
  pub found_arguments : {b : Bound} → Found b → args_of b at (at + n) ≡ read
  found_arguments f =
      let span = Walk.spans (arguments_at (take (at + n) s) at) (no_arguments at (length (take (at + n) s))) refl in
      let end : at + n ≡ read.end = sym (length-take-le (at + n) s f.inside) ∙ sym (span.upto f.good) in
      ap (λ (c : Bound). args_of c at (at + n)) f.is
      ∙ ap (λ (g : Bool). spread g at (at + n)) (sym f.good)
      ∙ ap (λ (k : ℕ). spread read.good k (at + n)) (sym (span.from f.good))
      ∙ ap (spread read.good read.start) end
    where
      spread : Bool → ℕ → ℕ → Arguments
      spread g start end =
          record { good = g; count = read.count; kind = read.kind; index = read.index; start = start; end = end }

  -- bad arguments are nothing else
  pub lost_arguments : read.good ≡ false → bad_arguments ≡ read
  lost_arguments h =
      (Walk.spans (arguments_at (take (at + n) s) at) (no_arguments at (length (take (at + n) s))) refl).bad h
