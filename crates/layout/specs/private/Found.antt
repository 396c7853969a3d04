-- A field list as its reader finds it. For contracts inside the library; what is promised does not cite it.
use Rattle.std.specs.Prelude.{ℕ, Bool, true, false, cond, ◌≡◌, List, map, get_or, eqb}
use Rattle.layout.specs.Slots.{bad_slots}
use Rattle.layout.specs.Fields.{noted, checked}
use Rattle.layout.specs.declared.fields.Use.{Use}
use Rattle.layout.specs.declared.found.Slot.{Slot}
use Rattle.layout.specs.declared.found.Found.{Found}
use Rattle.layout.specs.declared.slots.Slots.{Slots}

-- how often each field number occurs, as far as it matters: never, once, or more often
abbrev pub up_to_two : ℕ → ℕ
up_to_two count = cond (eqb count 0) 0 (cond (eqb count 1) 1 2)

abbrev pub times_of : Slots → List ℕ
times_of x = map up_to_two x.count

-- what is found of a field number; past the last one it occurs never
abbrev pub no_slot : Slot
no_slot = record { times = 0; value = 0; start = 0 }

abbrev pub slot_at : Found → ℕ → Slot
slot_at found k = get_or found.slots k no_slot

-- by field number: how often each occurs, the value and the place
abbrev pub found_times : Found → List ℕ
found_times found = map (λ (slot : Slot). slot.times) found.slots

abbrev pub found_values : Found → List ℕ
found_values found = map (λ (slot : Slot). slot.value) found.slots

abbrev pub found_starts : Found → List ℕ
found_starts found = map (λ (slot : Slot). slot.start) found.slots

-- what is found is these slots
pub record Noted (x : Slots) (found : Found) : Type 0 where
  pub times_are : found_times found ≡ times_of x
  pub value_is : found_values found ≡ x.value
  pub start_is : found_starts found ≡ x.start

-- whatever slots were found before, there is now one field more
pub record Notes (u : Use) (k value start : ℕ) (before after : Found) : Type 0 where
  pub onto : (x : Slots) (len : ℕ) → Noted x before → Noted (noted u x k value start len) after

-- whether the list is good; if it is it was found, else it is the one that holds nothing
pub record Listed (x : Slots) (good : Bool) (found : Found) : Type 0 where
  pub answer : good ≡ x.good
  pub held : x.good ≡ true → Noted x found
  pub bad : x.good ≡ false → x ≡ bad_slots

-- whatever good slots were found before, it is now what f makes of them
pub record Adds (f : Slots → Slots) (before : Found) (good : Bool) (after : Found) : Type 0 where
  pub onto : (x : Slots) → x.good ≡ true → Noted x before → Listed (f x) good after

-- an answer, and a message's slots found
pub record Holds (x : Slots) (good : Bool) (found : Found) : Type 0 where
  pub answer : good ≡ x.good
  pub held : Noted x found

-- whatever list was found before, it is now the message with these rows that it is
pub record Settles (rows : List (List ℕ)) (listed : Bool) (before : Found) (good : Bool) (after : Found) : Type 0 where
  pub message : (x : Slots) → Listed x listed before → Holds (checked rows x) good after
