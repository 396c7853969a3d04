-- Reading a field list, one turn of the loop at a time, and its required fields. Assumes nothing.
use Rattle.prelude.proofs.Basics.{ℕ, zero, suc, ◌+◌, ◌-◌, ◌≤◌, ◌<◌, arith, add-one, Bool, true, false, cond, ◌≡◌}
use Rattle.prelude.proofs.Basics.{refl, sym, ap, subst, ◌∙◌, List, [], ◌∷◌, map, length, get_or, set, take, drop}
use Rattle.prelude.proofs.Basics.{drop_of_length-le, drop-cons, eqb, ltb, eq-eqb, eqb-false}
use Rattle.prelude.proofs.Basics.{eqb-true, le-leb, le-ltb, lt-leb, lt-ltb, ltb-true, ne_eqb, before_suc}
use Rattle.layout.specs.Row.{columns, columns_of}
use Rattle.layout.specs.declared.row.Row.{Row}
use Rattle.layout.proofs.RowLaws.{past_row}
use Rattle.layout.proofs.Names.{field_at, PastField, Field, field_past, number_of, no_row, slot_count, takes}
use Rattle.layout.proofs.Names.{no_slots, bad_slots, use_by, use_of, noted, on_field, fields_from, fields_onto}
use Rattle.layout.proofs.Names.{field_list, has_required, checked, fields_at, fields_to, Use, Slots}
use Rattle.layout.specs.Fields.{met}
use Rattle.layout.specs.private.Found.{up_to_two, no_slot, slot_at, found_times, found_values, found_starts}
use Rattle.layout.specs.private.Found.{Noted, Notes}
use Rattle.layout.specs.private.Found.{Listed, Holds}
use Rattle.layout.specs.declared.found.Slot.{Slot}
use Rattle.layout.specs.declared.found.Found.{Found}
use Rattle.std.proofs.Math.ListN.{get_or-map}
use Rattle.std.proofs.lemmas.List.{map-set}
use Rattle.std.proofs.Math.Seq.{map-set_same}
use Rattle.std.specs.Prelude.{Option, None}
use Rattle.wire.specs.Field.{some_field}

module _ (row : List ℕ) (number wire value : ℕ) where
  pub use_unknown : takes row number wire value ≡ false → Use.Unknown ≡ use_by row number wire value
  use_unknown e = simp e

  pub use_counted : takes row number wire value ≡ true → get_or row 4 0 ≡ 1 → Use.Counted ≡ use_by row number wire value
  use_counted e h = simp (e, eq-eqb (get_or row 4 0) 1 h)

  pub use_kept : takes row number wire value ≡ true → (get_or row 4 0 ≡ 1 → ⊥) → Use.Kept ≡ use_by row number wire value
  use_kept e h = simp (e, ne_eqb (get_or row 4 0) 1 h)

-- the row that no number has takes no field
pub use_none : (number wire value : ℕ) → 0 < number → Use.Unknown ≡ use_by no_row number wire value
use_none number wire value h = use_unknown no_row number wire value (go (ltb number slot_count) refl)
  where
    go : (b : Bool) → ltb number slot_count ≡ b → takes no_row number wire value ≡ false
    go true e = simp (e, ne_eqb 0 number (λ z. omega arith))
    go false e = simp e

-- a row that takes a field has a slot for it
pub use_slot : (rows : List (List ℕ)) (number wire value : ℕ) → (use_of rows number wire value ≡ Use.Unknown → ⊥) →
    number < slot_count
use_slot rows number wire value h = go (ltb number slot_count) refl
  where
    go : (b : Bool) → ltb number slot_count ≡ b → number < slot_count
    go true e = ltb-true number slot_count e
    go false e = absurd (h (simp e))

pub counted_slot : (rows : List (List ℕ)) (number wire value : ℕ) → Use.Counted ≡ use_of rows number wire value →
    number < slot_count
counted_slot rows number wire value e = use_slot rows number wire value
    (λ u. let z : ◌≡◌ {A = ℕ} 0 1 = cc in omega arith)

pub kept_slot : (rows : List (List ℕ)) (number wire value : ℕ) → Use.Kept ≡ use_of rows number wire value →
    number < slot_count
kept_slot rows number wire value e = use_slot rows number wire value (λ u. let z : ◌≡◌ {A = ℕ} 0 1 = cc in omega arith)

-- where a walk stands: what is left at p, behind what x holds, comes to y
pub record Towards (rows : List (List ℕ)) (s : List ℕ) (p : ℕ) (x y : Slots) : Type 0 where
  pub most : ℕ
  pub enough : length s ≤ p + most
  pub whole : fields_from most rows s p x ≡ y

-- to the whole list
abbrev pub Listing : List (List ℕ) → List ℕ → ℕ → ℕ → Slots → Type 0
Listing rows s from p x = Towards rows s p x (field_list rows s from)

pub starts_onto : (rows : List (List ℕ)) (s : List ℕ) (from : ℕ) (x : Slots) →
    Towards rows s from x (fields_onto rows s from x)
starts_onto rows s from x = record { most = length s; enough = omega arith; whole = refl }

pub starts : (rows : List (List ℕ)) (s : List ℕ) (from : ℕ) → Listing rows s from from no_slots
starts rows s from = starts_onto rows s from no_slots

pub from_end : (most : ℕ) (rows : List (List ℕ)) (s : List ℕ) (p : ℕ) (x : Slots) → length s ≤ p →
    fields_from most rows s p x ≡ x
unfolding fields_from
from_end zero rows s p x h = refl
from_end (suc m) rows s p x h = simp (le-ltb p (length s) h)

pub ends : {rows : List (List ℕ)} {s : List ℕ} {p : ℕ} {x y : Slots} → Towards rows s p x y → length s ≤ p → x ≡ y
ends {rows} {s} {p} {x} l h = sym (from_end l.most rows s p x h) ∙ l.whole

unroll : (most : ℕ) (rows : List (List ℕ)) (s : List ℕ) (p : ℕ) (x : Slots) → 0 < most → p < length s →
    fields_from most rows s p x ≡ on_field rows x (λ next y. fields_from (most - 1) rows s next y) (field_at s p)
unfolding fields_from
unroll zero rows s p x g h = absurd (omega arith)
unroll (suc m) rows s p x g h =
    simp (lt-ltb p (length s) h)
    (ap (λ (k : ℕ). on_field rows x (λ next y. fields_from k rows s next y) (field_at s p)) (before_suc m))

module _ {rows : List (List ℕ)} {s : List ℕ} {p : ℕ} {x y : Slots} (l : Towards rows s p x y)
    (inside : p < length s) where
  turn : (f : Option Field) → field_at s p ≡ f → on_field rows x (λ next z. fields_from (l.most - 1) rows s next z) f ≡ y
  turn f e =
      sym
      (unroll l.most rows s p x (omega (arith, l.enough)) inside
      ∙ ap (on_field rows x (λ next z. fields_from (l.most - 1) rows s next z)) e)
      ∙ l.whole

  pub no_field : field_at s p ≡ None → bad_slots ≡ y
  no_field e = turn None e

  module _ {number wire value start len next : ℕ} (e : field_at s p ≡ some_field number wire value start len next) where
    pub advances : p < next
    advances = go (field_past s p)
      where
        go : PastField p (length s) (field_at s p) → p < next
        go = rw e (λ h. h.2)

    pub goes_on_lem : (u : Use) → u ≡ use_of rows number wire value →
        Towards rows s next (noted u x number value start len) y
    goes_on_lem u v =
        record {
          most = l.most - 1;
          enough = omega (arith, l.enough, advances);
          whole =
              ap (λ (w : Use). fields_from (l.most - 1) rows s next (noted w x number value start len)) v
              ∙ turn (some_field number wire value start len next) e;
        }

-- ---- what is found

-- a number up to two says whether it is none, and what one more comes to
pub up_to_none : (n : ℕ) → eqb (up_to_two n) 0 ≡ eqb n 0
up_to_none n = go (eqb n 0) refl (eqb n 1) refl
  where
    go : (b : Bool) → eqb n 0 ≡ b → (c : Bool) → eqb n 1 ≡ c → eqb (up_to_two n) 0 ≡ eqb n 0
    go true e c f = rw e
    go false e true f = rw (e, f)
    go false e false f = rw (e, f)

pub get_d_times : (l : List ℕ) (k : ℕ) → get_or (map up_to_two l) k 0 ≡ up_to_two (get_or l k 0)
get_d_times [] k = refl
get_d_times (x ∷ l) zero = refl
get_d_times (x ∷ l) (suc k) = get_d_times l k

pub more_than_none : (n : ℕ) → n ≡ 0 → 1 ≡ up_to_two (n + 1)
more_than_none n e = rw e

pub more_than_some : (n : ℕ) → (n ≡ 0 → ⊥) → 2 ≡ up_to_two (n + 1)
more_than_some n h = simp (ne_eqb (n + 1) 0 (λ e. omega arith), ne_eqb (n + 1) 1 (λ e. h (omega arith)))

once_more : (n : ℕ) → up_to_two (up_to_two n + 1) ≡ up_to_two (n + 1)
once_more n = go (eqb n 0) refl
  where
    go : (b : Bool) → eqb n 0 ≡ b → up_to_two (up_to_two n + 1) ≡ up_to_two (n + 1)
    go true e = let z = eqb-true n 0 e in rw z
    go false e =
        sym (more_than_some (up_to_two n) (λ z. eqb-false n 0 e (eqb-true n 0 (sym (up_to_none n) ∙ eq-eqb _ 0 z))))
        ∙ more_than_some n (eqb-false n 0 e)

-- the array after one more of the number k
times_set : (l : List ℕ) (k : ℕ) {v : ℕ} → v ≡ up_to_two (get_or (map up_to_two l) k 0 + 1) →
    set (map up_to_two l) k v ≡ map up_to_two (set l k (get_or l k 0 + 1))
times_set l k e =
    ap (set (map up_to_two l) k)
    (e ∙ ap (λ (n : ℕ). up_to_two (n + 1)) (get_d_times l k) ∙ once_more (get_or l k 0))
    ∙ sym (map-set up_to_two l k (get_or l k 0 + 1))

-- what is noted of a number, in each of the three lists
module _ (found : Found) (k : ℕ) where
  pub times_at : get_or (found_times found) k 0 ≡ (slot_at found k).times
  times_at = get_or-map (λ (slot : Slot). slot.times) found.slots k no_slot

  pub value_at : get_or (found_values found) k 0 ≡ (slot_at found k).value
  value_at = get_or-map (λ (slot : Slot). slot.value) found.slots k no_slot

  pub start_at : get_or (found_starts found) k 0 ≡ (slot_at found k).start
  start_at = get_or-map (λ (slot : Slot). slot.start) found.slots k no_slot

-- one more of the number k
module _ {x : Slots} {found : Found} (h : Noted x found) (k : ℕ) {times : ℕ}
    (more : times ≡ up_to_two ((slot_at found k).times + 1)) where
  counts : set (found_times found) k times ≡ map up_to_two (set x.count k (get_or x.count k 0 + 1))
  counts =
      ap (λ (l : List ℕ). set l k times) h.times_are
      ∙ times_set x.count k
      (more
      ∙ ap (λ (n : ℕ). up_to_two (n + 1)) (sym (times_at found k) ∙ ap (λ (l : List ℕ). get_or l k 0) h.times_are))

  module _ (value start len : ℕ) where
    pub notes_counted : Noted (noted Use.Counted x k value start len)
        (record {
          slots = set found.slots k
              (record { times = times; value = (slot_at found k).value; start = (slot_at found k).start });
        })
    notes_counted =
        record {
          times_are = map-set (λ (slot : Slot). slot.times) found.slots k _ ∙ counts;
          value_is = map-set_same (λ (slot : Slot). slot.value) found.slots k _ no_slot refl ∙ h.value_is;
          start_is = map-set_same (λ (slot : Slot). slot.start) found.slots k _ no_slot refl ∙ h.start_is;
        }

    pub notes_kept : Noted (noted Use.Kept x k value start len)
        (record { slots = set found.slots k (record { times = times; value = value; start = start }) })
    notes_kept =
        record {
          times_are = map-set (λ (slot : Slot). slot.times) found.slots k _ ∙ counts;
          value_is =
              map-set (λ (slot : Slot). slot.value) found.slots k _ ∙ ap (λ (l : List ℕ). set l k value) h.value_is;
          start_is =
              map-set (λ (slot : Slot). slot.start) found.slots k _ ∙ ap (λ (l : List ℕ). set l k start) h.start_is;
        }

-- where the loop stands: what was found is slots from which what is left comes to y
pub record Filling (rows : List (List ℕ)) (s : List ℕ) (y : Slots) (p : ℕ) (found : Found) : Type 0
  where
    pub slots : Slots
    pub sound : slots.good ≡ true
    pub towards : Towards rows s p slots y
    pub held : Noted slots found

pub filling : (rows : List (List ℕ)) (s : List ℕ) (from : ℕ) {found : Found} (x : Slots) →
    x.good ≡ true → Noted x found → Filling rows s (fields_onto rows s from x) from found
filling rows s from x g h = record { slots = x; sound = g; towards = starts_onto rows s from x; held = h }

module _ {rows : List (List ℕ)} {s : List ℕ} {y : Slots} {p : ℕ} {found : Found}
    (l : Filling rows s y p found) where
  pub filled : length s ≤ p → Listed y true found
  filled h =
      subst (λ (z : Slots). Listed z true found) (ends l.towards h)
      (record {
        answer = sym l.sound;
        held = λ _. l.held;
        bad = λ e. absurd (let z : ◌≡◌ {A = ℕ} 0 1 = cc l.sound in omega arith);
      })

  pub spoiled : p < length s → field_at s p ≡ None → Listed y false found
  spoiled h e =
      subst (λ (z : Slots). Listed z false found) (no_field l.towards h e)
      (record { answer = refl; held = λ t. absurd (let z : ◌≡◌ {A = ℕ} 0 1 = cc in omega arith); bad = λ _. refl })

  module _ (inside : p < length s) {number wire value start len next : ℕ}
      (e : field_at s p ≡ some_field number wire value start len next) where
    pub fills_unknown : Use.Unknown ≡ use_of rows number wire value → Filling rows s y next found
    fills_unknown u =
        record {
          slots = l.slots;
          sound = l.sound;
          towards = goes_on_lem l.towards inside e Use.Unknown u;
          held = l.held;
        }

    module _ {found' : Found} where
      pub fills_counted : Use.Counted ≡ use_of rows number wire value →
          Notes Use.Counted number value start found found' → Filling rows s y next found'
      fills_counted u n =
          record {
            slots = noted Use.Counted l.slots number value start len;
            sound = l.sound;
            towards = goes_on_lem l.towards inside e Use.Counted u;
            held = n.onto l.slots len l.held;
          }

      pub fills_kept : Use.Kept ≡ use_of rows number wire value →
          Notes Use.Kept number value start found found' → Filling rows s y next found'
      fills_kept u n =
          record {
            slots = noted Use.Kept l.slots number value start len;
            sound = l.sound;
            towards = goes_on_lem l.towards inside e Use.Kept u;
            held = n.onto l.slots len l.held;
          }

-- ---- required fields

-- row by row
module _ (rows : List Row) (times : List ℕ) (i : ℕ) where
  pub need_end : length rows ≤ i → true ≡ has_required (columns_of (drop i rows)) times
  unfolding has_required
  need_end h = rw (drop_of_length-le rows h)

  pub need_met : i < length rows → met (columns (get_or rows i past_row)) times ≡ true →
      has_required (columns_of (drop (i + 1) rows)) times ≡ has_required (columns_of (drop i rows)) times
  unfolding has_required
  need_met h e = rw (add-one, drop-cons rows i past_row h) (simp e)

  pub need_missing : i < length rows → met (columns (get_or rows i past_row)) times ≡ false →
      false ≡ has_required (columns_of (drop i rows)) times
  unfolding has_required
  need_missing h e = rw (drop-cons rows i past_row h) (simp e)

-- what is noted says as much as the counts
times_required : (rows : List (List ℕ)) (count : List ℕ) → has_required rows (map up_to_two count) ≡ has_required rows count
unfolding has_required
times_required [] count = refl
times_required (r ∷ rs) count =
    rw (get_d_times count (number_of r), up_to_none (get_or count (number_of r) 0), times_required rs count)

pub checked_good : (rows : List (List ℕ)) (x : Slots) → has_required rows x.count ≡ true → x ≡ checked rows x
checked_good rows x e = simp e

pub checked_bad : (rows : List (List ℕ)) (x : Slots) → has_required rows x.count ≡ false → bad_slots ≡ checked rows x
checked_bad rows x e = simp e

-- ---- the message that is found

same_either : (b : Bool) (x : Slots) → x ≡ cond b x x
same_either true x = refl
same_either false x = refl

-- nothing is an empty list
pub holds_none : {found : Found} → Noted bad_slots found → Noted no_slots found
holds_none h = record { times_are = h.times_are; value_is = h.value_is; start_is = h.start_is }

-- a list whose required fields were asked for
module _ (rows : List (List ℕ)) {x : Slots} {g : Bool} {found : Found} (l : Listed x g found) where
  module _ (good : g ≡ true) where
    kept : Noted x found
    kept = l.held (sym l.answer ∙ good)

    required : {b : Bool} → has_required rows (found_times found) ≡ b → has_required rows x.count ≡ b
    required e = sym (ap (has_required rows) kept.times_are ∙ times_required rows x.count) ∙ e

    pub lists_good : has_required rows (found_times found) ≡ true → Holds (checked rows x) true found
    lists_good e =
        subst (λ (y : Slots). Holds y true found) (checked_good rows x (required e))
        (record { answer = sym good ∙ l.answer; held = kept })

  module _ {found' : Found} (n : Noted bad_slots found') where
    empty : bad_slots ≡ checked rows x → Holds (checked rows x) false found'
    empty e = subst (λ (y : Slots). Holds y false found') e (record { answer = refl; held = n })

    pub lists_missing : g ≡ true → has_required rows (found_times found) ≡ false →
        Holds (checked rows x) false found'
    lists_missing good e = empty (checked_bad rows x (required good e))

    pub lists_bad : g ≡ false → Holds (checked rows x) false found'
    lists_bad e =
        empty
        (same_either (has_required rows bad_slots.count) bad_slots
        ∙ ap (checked rows) (sym (l.bad (sym l.answer ∙ e))))

-- a good message is a good list
pub checked_from : (rows : List (List ℕ)) (x : Slots) → (checked rows x).good ≡ true → x.good ≡ true
checked_from rows x = go (has_required rows x.count)
  where
    go : (b : Bool) → (cond b x bad_slots).good ≡ true → x.good ≡ true
    go true e = e
    go false e = absurd (let z : ◌≡◌ {A = ℕ} 0 1 = cc in omega arith)

pub settled_good : (rows : List (List ℕ)) {x : Slots} {g r : Bool} {before after : Found} → Listed x g before →
    Holds (checked rows x) r after → r ≡ true → g ≡ true
settled_good rows {x} l h e = l.answer ∙ checked_from rows x (sym h.answer ∙ e)

-- a message that ends inside the bytes, or not
module _ (rows : List (List ℕ)) (s : List ℕ) (from end : ℕ) {found : Found} where
  pub holds_inside : {g : Bool} → end ≤ length s → Holds (fields_at rows (take end s) from) g found →
      Holds (fields_to rows s from end) g found
  holds_inside {g} h = subst (λ (y : Slots). Holds y g found) (simp (le-leb end (length s) h))

  pub holds_outside : length s < end → Noted bad_slots found →
      Holds (fields_to rows s from end) false found
  holds_outside h n =
      subst (λ (y : Slots). Holds y false found) (simp (lt-leb end (length s) h))
      (record { answer = refl; held = n })
