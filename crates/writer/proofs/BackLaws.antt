-- From a written frame to the request that it holds. Assumes nothing.
use Rattle.prelude.proofs.Basics.{ℕ, ◌+◌, ◌^◌, ◌≤◌, ◌<◌, arith, mod-eq_of_lt, Bool, true, false, cond, ◌≡◌, refl, sym}
use Rattle.prelude.proofs.Basics.{ap, ◌∙◌, List, [], ◌∷◌, ◌++◌, length, length-append, take_at}
use Rattle.protocol.specs.Client as Client
use Rattle.scalar.specs.Fixed.{little}
use Rattle.scalar.proofs.FixedLaws.{fixed_whole}
use Rattle.layout.specs.Table.{rows_of}
use Rattle.layout.specs.Part.{value_of}
use Rattle.message.specs.Frame.{of_head}
use Rattle.message.specs.Payload.{if_good}
use Rattle.message.specs.Simple.{reset_frame, session_close_frame, deallocate_frame, close_frame, fetch_in, fetch_frame}
use Rattle.message.proofs.HeadLaws.{head_whole}
use Rattle.writer.proofs.Names.{Tail, row_for, no_slots, use_of, fields_at, fields_from, has_required, low32, Use}
use Rattle.writer.proofs.Names.{Slots, max_length, framed, head_of, payload, frame_in, frame_of, Frame, Request, number_field}
use Rattle.writer.proofs.Names.{optional_field, four_bytes, frame, given}
use Rattle.writer.proofs.FieldLaws.{with_number, reads_number, reads_optional, reads_then, whole_good}
use Rattle.writer.proofs.WriteLaws.{frame_length}

-- ---- the head

little_head : (n kind : ℕ) (l : List ℕ) → n ≤ max_length → little 4 (four_bytes n ++ (kind ∷ l)) 0 ≡ n
unfolding little
little_head n kind l h = omega arith

module _ (kind : ℕ) (content rest : List ℕ) (fits : length content + 1 ≤ max_length) where
  abbrev s : List ℕ
  s = frame kind content ++ rest

  pub head_is : head_of s ≡ framed kind (4 + (length content + 1))
  head_is =
      sym
      (head_whole s {next = 0 + 4}
      (fixed_whole 4 s 0 (length content + 1) (omega arith)
      (sym (little_head (length content + 1) kind (content ++ rest) fits)))
      (λ z. omega arith) fits (omega (arith, length-append content rest)))

  pub frame_is : frame_of s ≡ frame_in (frame kind content) kind
  unfolding frame_of
  frame_is =
      ap (of_head s) head_is
      ∙ ap (λ (l : List ℕ). frame_in l kind)
      (take_at (frame kind content) rest (4 + (length content + 1)) (omega (arith, frame_length kind content)))

-- the payload in its frame
pub payload_tail : (kind : ℕ) (content : List ℕ) → Tail (frame kind content) payload content
payload_tail kind content = record { within = omega (arith, frame_length kind content); is = refl }

-- ---- messages with no message inside

-- a uint32 keeps its value
low_kept : (v : ℕ) → v < 2 ^ 32 → low32 v ≡ v
low_kept v h = mod-eq_of_lt h

pub reset_back : reset_frame (frame Client.reset []) ≡ Frame.Good 5 Request.Reset
unfolding reset_frame has_required fields_from
reset_back = refl

pub session_close_back : session_close_frame (frame Client.session_close []) ≡ Frame.Good 5 Request.SessionClose
unfolding session_close_frame has_required fields_from
session_close_back = refl

-- what the rows take
module _ (v : ℕ) where
  kept-deallocate : Use.Kept ≡ use_of (rows_of Client.deallocate) 1 0 v
  unfolding rows_of row_for
  kept-deallocate = refl

  kept-close : Use.Kept ≡ use_of (rows_of Client.close) 1 0 v
  unfolding rows_of row_for
  kept-close = refl

  kept-fetch : (Use.Kept ≡ use_of (rows_of Client.fetch) 1 0 v) × (Use.Kept ≡ use_of (rows_of Client.fetch) 2 0 v)
  unfolding rows_of row_for
  kept-fetch = (refl, refl)

-- one required field, in slot 1
abbrev one_count : List ℕ
one_count = 0 ∷ 1 ∷ 0 ∷ 0 ∷ 0 ∷ 0 ∷ 0 ∷ 0 ∷ 0 ∷ 0 ∷ []

one_there : (has_required (rows_of Client.deallocate) one_count ≡ true)
    × (has_required (rows_of Client.close) one_count ≡ true)
    × (has_required (rows_of Client.fetch) one_count ≡ true)
    × (has_required (rows_of Client.fetch) (0 ∷ 1 ∷ 1 ∷ 0 ∷ 0 ∷ 0 ∷ 0 ∷ 0 ∷ 0 ∷ 0 ∷ []) ≡ true)
unfolding rows_of row_for has_required
one_there = (refl, refl, refl, refl)

-- Deallocate and Close have an id alone
module _ (kind : ℕ) (q : ℕ → Request) (id : ℕ) where
  abbrev named : List ℕ
  named = frame kind (number_field 1 id)

  abbrev named_in : Slots → Frame
  named_in x = if_good named kind x.good (q (low32 (value_of x 1)))

  named_back : id < 2 ^ 32 → Use.Kept ≡ use_of (rows_of kind) 1 0 id → has_required (rows_of kind) one_count ≡ true →
      named_in (fields_at (rows_of kind) named payload) ≡ Frame.Good (length named) (q id)
  named_back h kept needed =
      ap named_in
      (whole_good (reads_number (rows_of kind) 1 id kept (omega arith) (omega arith) (omega arith))
      (payload_tail kind (number_field 1 id)) needed)
      ∙ ap (λ (v : ℕ). Frame.Good (length named) (q v)) (low_kept id h)

pub deallocate_back : (stmt : ℕ) → stmt < 2 ^ 32 →
    deallocate_frame (frame Client.deallocate (number_field 1 stmt))
    ≡ Frame.Good (length (frame Client.deallocate (number_field 1 stmt))) (Request.Deallocate stmt)
unfolding deallocate_frame
deallocate_back stmt h =
    named_back Client.deallocate Request.Deallocate stmt h (kept-deallocate stmt) one_there.0

pub close_back : (cursor : ℕ) → cursor < 2 ^ 32 →
    close_frame (frame Client.close (number_field 1 cursor))
    ≡ Frame.Good (length (frame Client.close (number_field 1 cursor))) (Request.Close cursor)
unfolding close_frame
close_back cursor h = named_back Client.close Request.Close cursor h (kept-close cursor) one_there.1

-- the slots of a Fetch
abbrev fetch_slots : ℕ → ℕ → Bool → Slots
fetch_slots cursor rows b =
    cond b (with_number 2 rows (payload + length (number_field 1 cursor)) (with_number 1 cursor payload no_slots))
    (with_number 1 cursor payload no_slots)

abbrev fetching : ℕ → Bool → ℕ → Request
fetching cursor b rows = Request.Fetch (record { cursor = cursor; rows = given b rows })

fetch_needed : (cursor rows : ℕ) (b : Bool) → has_required (rows_of Client.fetch) (fetch_slots cursor rows b).count ≡ true
fetch_needed cursor rows true = one_there.3
fetch_needed cursor rows false = one_there.2

fetch_taken : (cursor rows : ℕ) (b : Bool) (s : List ℕ) →
    fetch_in s (fetch_slots cursor rows b) ≡ Frame.Good (length s) (fetching (low32 cursor) b rows)
fetch_taken cursor rows true s = refl
fetch_taken cursor rows false s = refl

pub fetch_back : (cursor rows : ℕ) (b : Bool) → cursor < 2 ^ 32 → rows < 2 ^ 64 →
    fetch_frame (frame Client.fetch (number_field 1 cursor ++ optional_field b 2 rows))
    ≡ Frame.Good (length (frame Client.fetch (number_field 1 cursor ++ optional_field b 2 rows)))
    (Request.Fetch (record { cursor = cursor; rows = given b rows }))
unfolding fetch_frame
fetch_back cursor rows b h g =
    let content = number_field 1 cursor ++ optional_field b 2 rows in
    let s = frame Client.fetch content in
    let r =
    reads_then (reads_number (rows_of Client.fetch) 1 cursor (kept-fetch cursor).0 (omega arith) (omega arith)
    (omega arith))
    (reads_optional (rows_of Client.fetch) b 2 rows (kept-fetch rows).1 (omega arith) (omega arith) g) in
    ap (fetch_in s) (whole_good r (payload_tail Client.fetch content) (fetch_needed cursor rows b))
    ∙ fetch_taken cursor rows b s
    ∙ ap (λ (v : ℕ). Frame.Good (length s) (fetching v b rows)) (low_kept cursor h)
