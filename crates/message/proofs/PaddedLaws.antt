-- Whether a message is padded, by what its readers find. Assumes nothing.
use Rattle.prelude.proofs.Basics.{ℕ, ◌+◌, ◌%◌, ◌≤◌, ◌<◌, arith, Bool, true, false, ◌||◌, cond, ◌≡◌, refl, sym, ap}
use Rattle.prelude.proofs.Basics.{subst, ◌∙◌, List, length, get_or, eqb, eqb-true, both, or_false, or_same, or_then}
use Rattle.prelude.proofs.Basics.{Option, Some, None}
use Rattle.protocol.specs.Reason as Reason
use Rattle.protocol.specs.declared.reason.Reason as Declared
use Rattle.wire.specs.Padded.{value_padded}
use Rattle.wire.proofs.PaddedLaws.{quick_flag}
use Rattle.layout.specs.Padded.{nothing_inside}
use Rattle.layout.proofs.CountedLaws.{counted_one}
use Rattle.layout.specs.declared.found.Slot.{Slot}
use Rattle.layout.proofs.PaddedLaws.{Marking, marks, marks_on, marked}
use Rattle.args.specs.private.Pair.{pair_padded}
use Rattle.args.proofs.PaddedLaws.{pair_absorbed}
use Rattle.message.proofs.Names.{varint_at, padded_at, of_varint, as_length, field_at, field_padded}
use Rattle.message.proofs.Names.{prepare_stmt, open_stmt, rows_of, one_part, parts_in, parts_padded, Counted}
use Rattle.message.proofs.Names.{Part, Slots, one_part_lem, one_flag, execute_padded, head_of, payload, frame_in}
use Rattle.message.proofs.Names.{frame_of}
use Rattle.message.proofs.Names.{own_padded, executes_padded, open_stmt_padded, kind_padded, head_padded, padded_of}
use Rattle.message.proofs.Names.{Inner, Chosen, Frame, twice}
use Rattle.message.specs.Frame.{refused_head}
use Rattle.message.specs.Padded.{where_read}
use Rattle.message.specs.private.First.{id_tag, Starts}
use Rattle.message.specs.private.Marks.{Tells, Reads, TellsChosen, TellsInner}
use Rattle.message.specs.private.Parts.{inner_at, inner_by}
use Rattle.message.proofs.OuterLaws.{rows_field}
use Rattle.message.proofs.FirstLaws.{number_behind, bytes_behind}
use Rattle.varint.specs.Number.{some_number}
use Rattle.wire.specs.Field.{some_field}
use Rattle.wire.specs.Value.{some_value}

-- ---- a frame that holds a request

pub tells_as : (r : Frame) (flag : Bool) {p q : Bool} → p ≡ q → Tells r flag p → Tells r flag q
tells_as Frame.NotAllThere flag e t = tt
tells_as Frame.BadLength flag e t = tt
tells_as (Frame.UnknownType used) flag e t = tt
tells_as (Frame.BadPayload used kind) flag e t = tt
tells_as (Frame.BodyTwice used kind) flag e t = t ∙ e
tells_as (Frame.Good used q) flag e t = t ∙ e

-- by the type that a frame was read as
pub as_kind : (s : List ℕ) (r : Frame) (flag : Bool) {kind n : ℕ} → kind ≡ n →
    (r ≡ frame_in s n) × Tells r flag (kind_padded s n) →
    (r ≡ frame_in s kind) × Tells r flag (kind_padded s kind)
as_kind s r flag e h = (h.0 ∙ ap (frame_in s) (sym e), tells_as r flag (ap (kind_padded s) (sym e)) h.1)

pub tells : (r : Frame) {flag p : Bool} → flag ≡ p → Tells r flag p
tells Frame.NotAllThere e = tt
tells Frame.BadLength e = tt
tells (Frame.UnknownType used) e = tt
tells (Frame.BadPayload used kind) e = tt
tells (Frame.BodyTwice used kind) e = e
tells (Frame.Good used q) e = e

-- of a body twice, where it is good
pub tells_twice : (r : Frame) (used kind : ℕ) (good : Bool) {flag p : Bool} → r ≡ twice used kind good →
    (good ≡ true → flag ≡ p) → Tells r flag p
tells_twice r used kind good {flag} {p} e h = subst (λ (x : Frame). Tells x flag p) (sym e) (go good h)
  where
    go : (b : Bool) → (b ≡ true → flag ≡ p) → Tells (twice used kind b) flag p
    go true h = h refl
    go false h = tt

pub refused_tells : (reason : Declared.Reason) (flag p : Bool) → Tells (refused_head reason) flag p
refused_tells reason flag p =
    both (λ (r : Frame). Tells r flag p) (eqb (Reason.number_of reason) Reason.bad_length) Frame.BadLength Frame.NotAllThere (λ _. tt)
    (λ _. tt)

pub frame_tells : (s : List ℕ) (r : Frame) (flag : Bool) → r ≡ frame_of s → {p : Bool} → p ≡ head_padded s (head_of s) →
    Tells r flag p → Tells r flag (padded_of s)
unfolding padded_of
frame_tells s Frame.NotAllThere flag f e t = tt
frame_tells s Frame.BadLength flag f e t = tt
frame_tells s (Frame.UnknownType used) flag f e t = tt
frame_tells s (Frame.BadPayload used kind) flag f e t = tt
frame_tells s (Frame.BodyTwice used kind) flag f e t =
    t ∙ e ∙ ap (λ (x : Frame). where_read x (head_padded s (head_of s))) f
frame_tells s (Frame.Good used q) flag f e t = t ∙ e ∙ ap (λ (x : Frame). where_read x (head_padded s (head_of s))) f

-- ---- own fields

-- the id that stands first, and a field behind it whose tag has one byte
module _ {s : List ℕ} {tag id next : ℕ} (b : Starts s tag id next) where
  first-flag : padded_at s (payload + 1) ≡ field_padded s payload
  first-flag = quick_flag s payload id_tag b.there (sym b.id_is) (omega arith) 0 (omega arith) refl (omega arith)

  behind-first : {before flag : Bool} → flag ≡ (before || padded_at s (payload + 1)) →
      Marking nothing_inside s payload b.end before flag
  behind-first {before} {flag} e =
      marks_on (marks nothing_inside s payload before) b.there b.one (e ∙ or_same before first-flag)
      (or_false flag)

  module _ (some : 8 ≤ tag) (short : tag < 128) where
    second-flag : (wire : ℕ) → tag % 8 ≡ wire → wire < 6 → value_padded s wire next ≡ field_padded s b.end
    second-flag wire e w =
        ap (value_padded s wire) b.next_is
        ∙ quick_flag s b.end tag b.inside (sym b.tag_is) short wire some e w

    -- behind a second field that is a number or has bytes
    module _ (wire : ℕ) (e : tag % 8 ≡ wire) (w : wire < 6) (own : padded_at s next ≡ value_padded s wire next)
        {number v start len end : ℕ} (f : field_at s b.end ≡ some_field number wire v start len end) where
      pub behind_second : {before one two : Bool} → one ≡ (before || padded_at s (payload + 1)) →
          two ≡ (one || padded_at s next) → Marking nothing_inside s payload end before two
      behind_second {before} {one} {two} p q =
          marks_on (behind-first p) b.inside f (q ∙ or_same one (own ∙ second-flag wire e w)) (or_false two)

-- the short way of a Fetch
pub fetch_flag : {s : List ℕ} {id next v end : ℕ} → length s ≤ end → Starts s 16 id next →
    varint_at s next ≡ some_number v end → {one two : Bool} → one ≡ (false || padded_at s (payload + 1)) →
    two ≡ (one || padded_at s next) → two ≡ own_padded s
fetch_flag {next = next} past b f p q =
    marked {before = false}
    (behind_second b (omega arith) (omega arith) 0 refl (omega arith) refl
    (number_behind b (omega arith) (omega arith) refl (ap (of_varint next) f)) p q)
    past

-- the short way of a Prepare: its statement stands in field 2
pub prepare_flag : {s : List ℕ} {id next v start len end : ℕ} → length s ≤ end → (b : Starts s 18 id next) →
    as_length s next ≡ some_value v start len end → {one two : Bool} → one ≡ (false || padded_at s (payload + 1)) →
    two ≡ (one || padded_at s next) → two ≡ own_padded s
prepare_flag past b f p q =
    marked {before = false}
    (behind_second b (omega arith) (omega arith) 2 refl (omega arith) refl
    (bytes_behind b (omega arith) (omega arith) refl f) p q)
    past

-- ---- statements

-- an Execute that stands once, behind the statement's own fields
pub execute_flag : (s : List ℕ) (ps : List Part) {start len : ℕ} → parts_in 2 s ps ≡ one_part start len →
    (parts_padded s ps || execute_padded s start len) ≡ open_stmt_padded s ps
unfolding open_stmt_padded executes_padded
execute_flag s ps {start} {len} e =
    or_same (parts_padded s ps) (or_false (execute_padded s start len) ∙ ap (executes_padded s) (sym e))

pub executes_flag : (s : List ℕ) (ps : List Part) →
    (parts_padded s ps || executes_padded s (parts_in 2 s ps)) ≡ open_stmt_padded s ps
unfolding open_stmt_padded
executes_flag s ps = refl

-- what the pair read of a good statement counts once
module _ (s : List ℕ) (at n : ℕ) where
  again : (rows : List (List ℕ)) (before : Bool) {mid flag : Bool} → mid ≡ (before || pair_padded s at n) →
      Reads rows s (one_part at n) mid flag → Reads rows s (one_part at n) before flag
  again rows before p (q, good) = (
    or_then before (pair_padded s at n) (parts_padded s (one_part at n)) p q
        (ap (λ (b : Bool). pair_padded s at n || b) (sym (one_flag s at n))
        ∙ pair_absorbed s at n rows
        (ap (λ (x : Slots). x.good) (sym (one_part_lem rows s (record { start = at; len = n }))) ∙ good)
        ∙ one_flag s at n),
    good,
  )

  pub chosen_again : (r : Option Chosen) (before mid flag : Bool) → mid ≡ (before || pair_padded s at n) →
      TellsChosen s (one_part at n) r mid flag → TellsChosen s (one_part at n) r before flag
  chosen_again (Some chosen) before mid flag p q = again (rows_of prepare_stmt) before p q
  chosen_again None before mid flag p q = tt

  pub inner_again : (r : Option Inner) (before mid flag : Bool) → mid ≡ (before || pair_padded s at n) →
      TellsInner s (one_part at n) r mid flag → TellsInner s (one_part at n) r before flag
  inner_again (Some (Inner.Once body)) before mid flag p (q, one) = (again (rows_of open_stmt) before p q, one)
  inner_again (Some Inner.Twice) before mid flag p q = again (rows_of open_stmt) before p q
  inner_again None before mid flag p q = tt

-- the flag of what a good statement chooses
pub chosen_tells : (s : List ℕ) (ps : List Part) (r : Option Chosen) (before flag : Bool) →
    Reads (rows_of prepare_stmt) s ps before flag → TellsChosen s ps r before flag
chosen_tells s ps (Some chosen) before flag h = h
chosen_tells s ps None before flag h = tt

pub inner_tells : (s : List ℕ) (ps : List Part) (slot : Slot) → Counted (parts_in 2 s ps) slot →
    (before flag : Bool) → Reads (rows_of open_stmt) s ps before flag → TellsInner s ps (inner_by slot) before flag
inner_tells s ps slot c before flag h = go (eqb slot.times 0) (eqb slot.times 1) refl
  where
    go : (a b : Bool) → eqb slot.times 1 ≡ b →
        TellsInner s ps (cond a None (Some (inner_at (cond b (Some (record { start = slot.start; len = slot.value })) None)))) before flag
    go true b e = tt
    go false true e = (h, counted_one c (eqb-true slot.times 1 e))
    go false false e = h

-- ---- an Open's own fields

module _ {s : List ℕ} {id behind v start len next : ℕ} (b : Starts s 34 id behind)
    (f : as_length s behind ≡ some_value v start len next) (before : Bool) {one two : Bool}
    (p : one ≡ (before || padded_at s (payload + 1))) (q : two ≡ (one || padded_at s behind)) where
  behind-stmt : Marking nothing_inside s payload next before two
  behind-stmt =
      behind_second b (omega arith) (omega arith) 2 refl (omega arith) refl
      (bytes_behind b (omega arith) (omega arith) refl f) p q

  pub outer_two : length s ≤ next → two ≡ (before || own_padded s)
  outer_two past = marked behind-stmt past

  pub outer_three : next < length s → get_or s next 0 ≡ 40 → {rows end : ℕ} →
      varint_at s (next + 1) ≡ some_number rows end → length s ≤ end → {three : Bool} →
      three ≡ (two || padded_at s (next + 1)) → three ≡ (before || own_padded s)
  outer_three more at g past {three} r =
      marked
      (marks_on behind-stmt more (rows_field b f more at g)
      (r ∙ or_same two (quick_flag s next 40 more (sym at) (omega arith) 0 (omega arith) refl (omega arith)))
      (or_false three))
      past
