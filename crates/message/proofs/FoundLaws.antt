-- Frames from what was found of their fields. Assumes nothing.
use Rattle.prelude.proofs.Basics.{Option, Some, None}
use Rattle.prelude.proofs.Basics.{ℕ, Bool, true, false, cond, ◌≡◌, refl, sym, ap, subst, ◌∙◌, List, length, eqb}
use Rattle.prelude.proofs.Basics.{eqb-true, eqb-false, both, yes, no as without, Some, None}
use Rattle.protocol.specs.Client as Client
use Rattle.protocol.specs.Fields as Fields
use Rattle.layout.specs.MergedRules.{holds_bytes}
use Rattle.layout.specs.private.Found.{slot_at}
use Rattle.layout.specs.declared.found.Slot.{Slot}
use Rattle.layout.specs.declared.found.Found.{Found}
use Rattle.layout.proofs.FoundLaws.{held_value, held_none}
use Rattle.layout.proofs.CountedLaws.{merged_counted, fields_counted, counted_none, counted_one, Several}
use Rattle.layout.proofs.CountedLaws.{counted_several}
use Rattle.message.proofs.Names.{prepare_stmt, open_stmt, len, rows_of, wire_of, row_for, fields_at, count_of, value_of}
use Rattle.message.proofs.Names.{low32, parts_of, parts_in, merged, Holds, Counted, Part, Slots}
use Rattle.message.proofs.Names.{held_good}
use Rattle.message.proofs.Names.{payload, twice, optional_of, fetch_in, executes_good, open_by}
use Rattle.message.proofs.Names.{open_inside, open_parts, open_frame, bodies_good, prepare_by, prepare_inside}
use Rattle.message.proofs.Names.{stmt_parts, prepare_frame, Frame, Request}
use Rattle.message.specs.Operation as Operation
use Rattle.message.specs.Payload.{optional}
use Rattle.message.specs.Prepare.{prepare_typed}
use Rattle.message.specs.private.Parts.{once, Whole, chosen_at, chosen_by, chosen_of, of_chosen, Chooses, inner_at, inner_by, inner_of, of_inner}
use Rattle.message.specs.private.Parts.{Runs}
use Rattle.message.proofs.MessageLaws.{payload_bad, payload_good}

-- an optional field
optional_held : {x : Slots} {g : Bool} {found : Found} → Holds x g found → (k : ℕ) →
    optional (slot_at found k).times (slot_at found k).value ≡ optional_of x k
optional_held {x} {found = found} h k =
    ap (λ (b : Bool). cond b None (Some (slot_at found k).value)) (held_none h k) ∙ ap (optional (count_of x k)) (held_value h k)

-- a Fetch may have fetch_rows in field 2
module _ (s : List ℕ) {x : Slots} {g : Bool} {found : Found} (h : Holds x g found) where
  abbrev asking : ℕ → Option ℕ → Request
  asking id rows = Request.Fetch (record { cursor = low32 id; rows = rows })

  pub fetch_spoiled : g ≡ false → Frame.BadPayload (length s) Client.fetch ≡ fetch_in s x
  fetch_spoiled e = payload_bad s Client.fetch (asking (value_of x 1) (optional_of x 2)) (held_good h e)

  pub fetch_held : g ≡ true →
      Frame.Good (length s) (asking (slot_at found 1).value (optional (slot_at found 2).times (slot_at found 2).value)) ≡ fetch_in s x
  fetch_held e =
      ap (λ (n : ℕ). Frame.Good (length s) (asking n (optional (slot_at found 2).times (slot_at found 2).value))) (held_value h 1)
      ∙ ap (λ (o : Option ℕ). Frame.Good (length s) (asking (value_of x 1) o)) (optional_held h 2)
      ∙ payload_good s Client.fetch (asking (value_of x 1) (optional_of x 2)) (held_good h e)

-- ---- an Open

-- its Execute, by how often it occurs
module _ (s : List ℕ) (id : ℕ) (rows : Option ℕ) where
  execute-several : {es : List Part} → Several es →
      twice (length s) Client.open' (executes_good s es) ≡ open_by s id rows es
  execute-several {es} v =
      subst (λ (l : List Part). twice (length s) Client.open' (executes_good s l) ≡ open_by s id rows l) (sym v.are)
      refl

  module _ (ps : List Part) {slot : Slot}
      (c : Counted (parts_in Fields.open_execute s ps) slot) where
    inner-by : of_inner s ps id rows (inner_by slot) ≡ open_by s id rows (parts_in Fields.open_execute s ps)
    inner-by = go (eqb slot.times 0) refl (eqb slot.times 1) refl
      where
        go : (a : Bool) → eqb slot.times 0 ≡ a → (b : Bool) → eqb slot.times 1 ≡ b →
            of_inner s ps id rows (cond a None (Some (inner_at (cond b (Some (record { start = slot.start; len = slot.value })) None))))
            ≡ open_by s id rows (parts_in Fields.open_execute s ps)
        go true e b f = ap (open_by s id rows) (sym (counted_none c (eqb-true slot.times 0 e)))
        go false e true f = ap (open_by s id rows) (sym (counted_one c (eqb-true slot.times 1 f)))
        go false e false f =
            execute-several (counted_several c (eqb-false slot.times 0 e) (eqb-false slot.times 1 f))

execute_row : (holds_bytes (rows_of open_stmt) 2 ≡ true) × (wire_of (row_for (rows_of open_stmt) 2) ≡ len)
unfolding rows_of row_for
execute_row = (refl, refl)

-- by its statement in these parts
module _ (s : List ℕ) (ps : List Part) {g : Bool} {found : Found} (h : Holds (merged (rows_of open_stmt) s ps) g found)
  where
    abbrev unopened : Frame
    unopened = Frame.BadPayload (length s) Client.open'

    pub inner_counted : g ≡ true → Counted (parts_in 2 s ps) (slot_at found 2)
    inner_counted e = merged_counted (rows_of open_stmt) 2 execute_row.0 execute_row.1 s ps h e

    pub open_held : g ≡ true → Runs s ps (inner_of found)
    open_held e id rows =
        inner-by s id rows ps (inner_counted e)
        ∙ yes (open_by s id rows (parts_in Fields.open_execute s ps)) unopened (held_good h e)

stmt_row_lem : (holds_bytes (rows_of Client.open') 4 ≡ true) × (wire_of (row_for (rows_of Client.open') 4) ≡ len)
    × (holds_bytes (rows_of Client.prepare) 2 ≡ true) × (wire_of (row_for (rows_of Client.prepare) 2) ≡ len)
unfolding rows_of row_for
stmt_row_lem = (refl, refl, refl, refl)

-- where a message that comes once stands
whole_once : (k : ℕ) (s : List ℕ) {slot : Slot} → Counted (parts_of k s payload) slot → Whole k s (once slot)
whole_once k s {slot} c = go (eqb slot.times 1) refl
  where
    go : (b : Bool) → eqb slot.times 1 ≡ b →
        Whole k s (cond b (Some (record { start = slot.start; len = slot.value })) None)
    go true e = counted_one c (eqb-true slot.times 1 e)
    go false e = tt

-- whole
module _ (s : List ℕ) {g : Bool} {found : Found} (h : Holds (fields_at (rows_of Client.open') s payload) g found) where
  abbrev opened : Slots
  opened = fields_at (rows_of Client.open') s payload

  abbrev inside : Frame
  inside = open_inside s (value_of opened 1) (optional_of opened 5) (open_parts s)

  pub open_refused : g ≡ false → Frame.BadPayload (length s) Client.open' ≡ open_frame s
  unfolding open_frame
  open_refused e = without inside (Frame.BadPayload (length s) Client.open') (held_good h e)

  pub open_whole : g ≡ true →
      open_inside s (slot_at found 1).value (optional (slot_at found 5).times (slot_at found 5).value) (open_parts s) ≡ open_frame s
  unfolding open_frame
  open_whole e =
      ap (λ (i : ℕ). open_inside s i (optional (slot_at found 5).times (slot_at found 5).value) (open_parts s)) (held_value h 1)
      ∙ ap (λ (o : Option ℕ). open_inside s (value_of opened 1) o (open_parts s)) (optional_held h 5)
      ∙ yes inside (Frame.BadPayload (length s) Client.open') (held_good h e)

  pub open_once : g ≡ true → Whole Fields.open_stmt s (once (slot_at found 4))
  open_once e =
      whole_once 4 s (fields_counted (rows_of Client.open') 4 stmt_row_lem.0 stmt_row_lem.1 s payload h e)

-- ---- a Prepare

-- its chosen body, by how often it occurs
module _ (s : List ℕ) (id operation : ℕ) where
  body-several : {bs : List Part} → Several bs →
      twice (length s) Client.prepare (bodies_good s operation bs) ≡ prepare_by s id operation bs
  body-several {bs} v =
      subst
      (λ (l : List Part). twice (length s) Client.prepare (bodies_good s operation l) ≡ prepare_by s id operation l)
      (sym v.are) refl

  module _ (ps : List Part) {slot : Slot}
      (c : Counted (parts_in (Operation.field_of operation) s ps) slot) where
    chosen_by_lem : of_chosen s ps id (chosen_by operation slot)
        ≡ prepare_by s id operation (parts_in (Operation.field_of operation) s ps)
    chosen_by_lem = go (eqb slot.times 0) refl (eqb slot.times 1) refl
      where
        go : (a : Bool) → eqb slot.times 0 ≡ a → (b : Bool) → eqb slot.times 1 ≡ b →
            of_chosen s ps id
            (cond a None
            (Some (chosen_at operation (cond b (Some (record { start = slot.start; len = slot.value })) None))))
            ≡ prepare_by s id operation (parts_in (Operation.field_of operation) s ps)
        go true e b f = ap (prepare_by s id operation) (sym (counted_none c (eqb-true slot.times 0 e)))
        go false e true f = ap (prepare_by s id operation) (sym (counted_one c (eqb-true slot.times 1 f)))
        go false e false f =
            body-several (counted_several c (eqb-false slot.times 0 e) (eqb-false slot.times 1 f))

body_row : (t : ℕ) →
    (holds_bytes (rows_of prepare_stmt) (Operation.field_of t) ≡ true)
    × (wire_of (row_for (rows_of prepare_stmt) (Operation.field_of t)) ≡ len)
unfolding rows_of row_for
body_row t =
    both P (eqb t Operation.find) 2 _ (λ _. (refl, refl))
    (λ _. both P (eqb t Operation.insert) 3 _ (λ _. (refl, refl))
    (λ _. both P (eqb t Operation.update) 4 _ (λ _. (refl, refl))
    (λ _. both P (eqb t Operation.delete) 5 6 (λ _. (refl, refl)) (λ _. (refl, refl)))))
  where
    P : ℕ → Type 0
    P k = (holds_bytes (rows_of prepare_stmt) k ≡ true) × (wire_of (row_for (rows_of prepare_stmt) k) ≡ len)

-- by its statement in these parts
module _ (s : List ℕ) (ps : List Part) {g : Bool} {found : Found}
    (h : Holds (merged (rows_of prepare_stmt) s ps) g found) where
  abbrev unprepared : Frame
  unprepared = Frame.BadPayload (length s) Client.prepare

  pub prepare_held : g ≡ true → Chooses s ps (chosen_of found)
  prepare_held e id =
      let t = low32 (slot_at found 1).value in
      chosen_by_lem s id t ps
      (merged_counted (rows_of prepare_stmt) (Operation.field_of t) (body_row t).0 (body_row t).1 s ps h e)
      ∙ ap (λ (n : ℕ). prepare_typed s id ps (low32 n)) (held_value h 1)
      ∙ yes (prepare_typed s id ps (low32 (value_of (merged (rows_of prepare_stmt) s ps) 1))) unprepared (held_good h e)

-- whole
module _ (s : List ℕ) {g : Bool} {found : Found} (h : Holds (fields_at (rows_of Client.prepare) s payload) g found) where
  abbrev prepared : Slots
  prepared = fields_at (rows_of Client.prepare) s payload

  abbrev within : Frame
  within = prepare_inside s (value_of prepared 1) (stmt_parts s)

  pub prepare_refused : g ≡ false → Frame.BadPayload (length s) Client.prepare ≡ prepare_frame s
  unfolding prepare_frame
  prepare_refused e = without within (Frame.BadPayload (length s) Client.prepare) (held_good h e)

  pub prepare_whole : g ≡ true → prepare_inside s (slot_at found 1).value (stmt_parts s) ≡ prepare_frame s
  unfolding prepare_frame
  prepare_whole e =
      ap (λ (i : ℕ). prepare_inside s i (stmt_parts s)) (held_value h 1)
      ∙ yes within (Frame.BadPayload (length s) Client.prepare) (held_good h e)

  pub prepare_once : g ≡ true → Whole Fields.prepare_stmt s (once (slot_at found 2))
  prepare_once e =
      whole_once 2 s (fields_counted (rows_of Client.prepare) 2 stmt_row_lem.2 stmt_row_lem.3 s payload h e)
