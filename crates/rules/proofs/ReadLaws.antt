-- Every request that a frame gives has numbers of 32 bits: ids are cut to them, and a frame has fewer bytes. Assumes
-- nothing.
use Rattle.prelude.proofs.Basics.{Option, Some, None}
use Rattle.prelude.proofs.Basics.{ℕ, zero, suc, ◌+◌, ◌-◌, ◌%◌, ◌^◌, ◌≤◌, ◌<◌, arith, le_trans, mod-lt, Bool, List, []}
use Rattle.prelude.proofs.Basics.{◌∷◌, length, take, length-take, eqb, leb, ltb, ltb-false, both, Ok, Err}
use Rattle.protocol.specs.Client.{reset, session_close, execute, deallocate, close}
use Rattle.protocol.specs.Reason as Reason
use Rattle.scalar.specs.declared.argument.Argument.{Argument}
use Rattle.layout.specs.Table.{rows_of, prepare_stmt, stmt_execute, open_stmt}
use Rattle.layout.specs.Fields.{fields_at}
use Rattle.layout.specs.declared.slots.Slots.{Slots}
use Rattle.layout.specs.Part.{embedded, value_of, low32}
use Rattle.layout.specs.Merged.{parts_in, merged}
use Rattle.layout.specs.declared.part.Part.{Part}
use Rattle.args.specs.Arguments.{no_arguments, bad_arguments, counted, with_type, any_type_of, together, arguments_from}
use Rattle.args.specs.Arguments.{arguments_at, arguments_in, next_argument, and_more}
use Rattle.args.specs.declared.arguments.Arguments.{Arguments}
use Rattle.std.specs.Prelude.{Option, Some, None}
use Rattle.args.specs.declared.arguments.NextArgument.{NextArgument}
use Rattle.message.specs.Operation as Operation
use Rattle.message.specs.Payload.{payload, if_good, twice, optional_of, truth_of}
use Rattle.message.specs.Simple.{reset_frame, session_close_frame, deallocate_frame, close_frame, fetch_frame}
use Rattle.message.specs.Execute.{bad_execute, arguments_within, execute_of, execute_in, execute_frame, executes_good}
use Rattle.message.specs.Execute.{open_by, open_inside, open_parts, open_frame}
use Rattle.message.specs.Prepare.{body_in, bodies_good, prepare_by, prepare_typed, prepare_inside, stmt_parts, prepare_frame}
use Rattle.message.specs.declared.request.Execute.{Execute}
use Rattle.rules.proofs.Names.{prepare, open', fetch, length_bytes, max_length, length_of, head_of, of_head, frame_in}
use Rattle.rules.proofs.Names.{frame_of, HeadResult, Frame, Request, max_number, Read, ReadIn}
use Rattle.rules.specs.Read.{FramesAreRead}

-- ---- at most k arguments

pub record Few (k : ℕ) (x : Arguments) : Type 0 where
  pub count : x.count ≤ k
  pub index : x.index ≤ k

none_few : (k start end : ℕ) → Few k (no_arguments start end)
none_few k start end = record { count = omega arith; index = omega arith }

bad_few : (k : ℕ) → Few k bad_arguments
bad_few k = record { count = omega arith; index = omega arith }

counted_few : (k kind index : ℕ) (x : Arguments) → Few k x → index ≤ k → Few (suc k) (counted x kind index)
counted_few k kind index x h g = record { count = omega (arith, h.count); index = omega arith }

type_few : (k t : ℕ) (x : Arguments) → Few k x → Few (suc k) (with_type x t)
type_few k t x h =
    both (Few (suc k)) (eqb t 0) _ _ (λ _. bad_few (suc k))
    (λ _. both (Few (suc k)) (ltb t 2) _ _ (λ _. counted_few k x.kind x.index x h h.index)
    (λ _. both (Few (suc k)) (eqb x.kind 0) _ _ (λ _. counted_few k t x.count x h h.count)
    (λ _. counted_few k x.kind x.index x h h.index)))

few_more : {k n : ℕ} {x : Arguments} → k ≤ n → Few k x → Few n x
few_more h l = record { count = le_trans l.count h; index = le_trans l.index h }

together_few : (n k : ℕ) (x : Arguments) (l : List Argument) → Few k x → k + length l ≤ n → Few n (together x l)
unfolding together
together_few n k x [] h g = few_more (omega arith) h
together_few n k x (a ∷ l) h g =
    both (Few n) (eqb (any_type_of a) 0) _ _ (λ _. bad_few n)
    (λ _. together_few n (suc k) (with_type x (any_type_of a)) l (type_few k (any_type_of a) x h) (omega arith))

and_more_few : (n : ℕ) (more : ℕ → List Argument) → ((q : ℕ) → length (more q) ≤ n) → (a : Option NextArgument) →
    length (and_more more a) ≤ suc n
and_more_few n more h (Some found) = omega (arith, h found.next)
and_more_few n more h None = omega arith

arguments_few : (n : ℕ) (s : List ℕ) (at : ℕ) → length (arguments_from n s at) ≤ n
unfolding arguments_from
arguments_few zero s at = omega arith
arguments_few (suc n) s at = and_more_few n (λ q. arguments_from n s q) (λ q. arguments_few n s q) (next_argument s at)

arguments_in_few : (n : ℕ) (s : List ℕ) (from : ℕ) → length s ≤ n → Few n (arguments_in s from)
arguments_in_few n s from h =
    together_few n 0 (no_arguments from (length s)) (arguments_at s from) (none_few 0 from (length s))
    (omega (arith, arguments_few (length s) s from))

within_few : (n : ℕ) (s : List ℕ) (at k : ℕ) → length s ≤ n → Few n (arguments_within s at k)
unfolding arguments_within
within_few n s at k h =
    both (Few n) (leb (at + k) (length s)) _ _
    (λ _. arguments_in_few n (take (at + k) s) at (omega (arith, length-take (at + k) s))) (λ _. bad_few n)

-- ---- the messages, in a frame of at most 2 ^ 32 - 1 bytes

low : (v : ℕ) → low32 v ≤ max_number
low v = let h : v % 2 ^ 32 < 2 ^ 32 = mod-lt v (omega arith) in omega arith

none_read : Few max_number (no_arguments 0 0)
none_read = none_few max_number 0 0

-- a payload that may be bad
pub if_good_read : (s : List ℕ) (kind : ℕ) (good : Bool) (q : Request) → Read q → ReadIn (if_good s kind good q)
if_good_read s kind good q h = both ReadIn good (Frame.Good (length s) q) (Frame.BadPayload (length s) kind) (λ _. h)
    (λ _. tt)

-- a body that occurs more than once
twice_read : (s : List ℕ) (kind : ℕ) (good : Bool) → ReadIn (twice (length s) kind good)
twice_read s kind good =
    both ReadIn good (Frame.BodyTwice (length s) kind) (Frame.BadPayload (length s) kind) (λ _. tt) (λ _. tt)

reset_read : Read Request.Reset
reset_read = record {
  stmt_small = omega arith;
  cursor_small = omega arith;
  index_small = omega arith;
  count_small = omega
      arith;
}

session_close_read : Read Request.SessionClose
session_close_read = record {
  stmt_small = omega arith;
  cursor_small = omega arith;
  index_small = omega arith;
  count_small = omega arith;
}

deallocate_read : (v : ℕ) → Read (Request.Deallocate (low32 v))
deallocate_read v = record {
  stmt_small = low v;
  cursor_small = omega arith;
  index_small = omega arith;
  count_small =
      omega arith;
}

close_read : (v : ℕ) → Read (Request.Close (low32 v))
close_read v = record {
  stmt_small = omega arith;
  cursor_small = low v;
  index_small = omega arith;
  count_small = omega
      arith;
}

fetch_read : (v : ℕ) (rows : Option ℕ) → Read (Request.Fetch (record { cursor = low32 v; rows = rows }))
fetch_read v rows = record {
  stmt_small = omega arith;
  cursor_small = low v;
  index_small = omega arith;
  count_small =
      omega arith;
}

-- an Execute, also the one in an Open
record Short (x : Execute) : Type 0 where
  stmt_short : x.stmt ≤ max_number
  args_few : Few max_number x.args

execute_read : (x : Execute) → Short x → Read (Request.Execute x)
execute_read x h =
    record {
      stmt_small = h.stmt_short;
      cursor_small = omega arith;
      index_small = h.args_few.index;
      count_small = h.args_few.count;
    }

open_read : (v : ℕ) (rows : Option ℕ) (body : Part) (x : Execute) → Short x →
    Read (Request.Open (record { cursor = low32 v; rows = rows; body = body; execute = x }))
open_read v rows body x h =
    record {
      stmt_small = h.stmt_short;
      cursor_small = low v;
      index_small = h.args_few.index;
      count_small = h.args_few.count;
    }

prepare_read_lem : (v operation : ℕ) (body : Part) (args : Arguments) → Few max_number args →
    Read (Request.Prepare (record { stmt = low32 v; operation = operation; body = body; args = args }))
prepare_read_lem v operation body args h =
    record { stmt_small = low v; cursor_small = omega arith; index_small = h.index; count_small = h.count }

module _ (s : List ℕ) (long : length s ≤ max_number) where
  bad-short : Short bad_execute
  bad-short = record { stmt_short = omega arith; args_few = bad_few max_number }

  execute_short : (x : Slots) (a : Arguments) → Few max_number a → Short (execute_of x a)
  execute_short x a h =
      both Short x.good _ bad_execute
      (λ _. both Short a.good (record { stmt = low32 (value_of x 1); compact = truth_of (optional_of x 3); args = a })
      bad_execute
      (λ _. record { stmt_short = low (value_of x 1); args_few = h }) (λ _. bad-short))
      (λ _. bad-short)

  in-short : (at n : ℕ) → Short (execute_in s at n)
  unfolding execute_in
  in-short at n =
      execute_short (embedded (rows_of execute) s at n) (arguments_within s at n) (within_few max_number s at n long)

  execute-frame : ReadIn (execute_frame s)
  unfolding execute_frame
  execute-frame =
      let x = execute_in s payload (length s - payload) in
      if_good_read s execute x.args.good (Request.Execute x)
      (execute_read x (in-short payload (length s - payload)))

  open_by_lem : (id : ℕ) (rows : Option ℕ) (es : List Part) → ReadIn (open_by s id rows es)
  open_by_lem id rows [] = tt
  open_by_lem id rows (e ∷ []) =
      let x = execute_in s e.start e.len in
      if_good_read s open' x.args.good _ (open_read id rows e x (in-short e.start e.len))
  open_by_lem id rows (e ∷ (f ∷ es)) = twice_read s open' (executes_good s (e ∷ (f ∷ es)))

  open-inside : (id : ℕ) (rows : Option ℕ) (ps : List Part) → ReadIn (open_inside s id rows ps)
  open-inside id rows ps =
      both ReadIn (merged (rows_of open_stmt) s ps).good _ (Frame.BadPayload (length s) open')
      (λ _. open_by_lem id rows (parts_in 2 s ps)) (λ _. tt)

  open-frame : ReadIn (open_frame s)
  unfolding open_frame
  open-frame =
      let x = fields_at (rows_of open') s payload in
      both ReadIn x.good (open_inside s (value_of x 1) (optional_of x 5) (open_parts s))
      (Frame.BadPayload (length s) open')
      (λ _. open-inside (value_of x 1) (optional_of x 5) (open_parts s)) (λ _. tt)

  body-few : (t at n : ℕ) → Few max_number (body_in s t at n)
  unfolding body_in
  body-few t at n =
      both (Few max_number) (eqb t Operation.stmt_execute) _ _
      (λ _. both (Few max_number) (embedded (rows_of stmt_execute) s at n).good (arguments_within s at n) bad_arguments
      (λ _. within_few max_number s at n long) (λ _. bad_few max_number))
      (λ _. both (Few max_number) (embedded [] s at n).good (no_arguments 0 0) bad_arguments (λ _. none_read)
      (λ _. bad_few max_number))

  prepare-by : (id t : ℕ) (bs : List Part) → ReadIn (prepare_by s id t bs)
  prepare-by id t [] = tt
  prepare-by id t (b ∷ []) =
      let args = body_in s t b.start b.len in
      if_good_read s prepare args.good _ (prepare_read_lem id t b args (body-few t b.start b.len))
  prepare-by id t (b ∷ (c ∷ bs)) = twice_read s prepare (bodies_good s t (b ∷ (c ∷ bs)))

  prepare-inside : (id : ℕ) (ps : List Part) → ReadIn (prepare_inside s id ps)
  prepare-inside id ps =
      let y = merged (rows_of prepare_stmt) s ps in
      let t = low32 (value_of y 1) in
      both ReadIn y.good (prepare_typed s id ps t) (Frame.BadPayload (length s) prepare)
      (λ _. prepare-by id t (parts_in (Operation.field_of t) s ps)) (λ _. tt)

  prepare-frame : ReadIn (prepare_frame s)
  unfolding prepare_frame
  prepare-frame =
      let x = fields_at (rows_of prepare) s payload in
      both ReadIn x.good (prepare_inside s (value_of x 1) (stmt_parts s)) (Frame.BadPayload (length s) prepare)
      (λ _. prepare-inside (value_of x 1) (stmt_parts s)) (λ _. tt)

  reset-frame : ReadIn (reset_frame s)
  unfolding reset_frame
  reset-frame = if_good_read s reset (fields_at [] s payload).good Request.Reset reset_read

  session-close-frame : ReadIn (session_close_frame s)
  unfolding session_close_frame
  session-close-frame = if_good_read s session_close (fields_at [] s payload).good Request.SessionClose
      session_close_read

  deallocate-frame : ReadIn (deallocate_frame s)
  unfolding deallocate_frame
  deallocate-frame =
      let x = fields_at (rows_of deallocate) s payload in
      if_good_read s deallocate x.good (Request.Deallocate (low32 (value_of x 1))) (deallocate_read (value_of x 1))

  close-frame : ReadIn (close_frame s)
  unfolding close_frame
  close-frame =
      let x = fields_at (rows_of close) s payload in
      if_good_read s close x.good (Request.Close (low32 (value_of x 1))) (close_read (value_of x 1))

  fetch-frame : ReadIn (fetch_frame s)
  unfolding fetch_frame
  fetch-frame =
      let x = fields_at (rows_of fetch) s payload in
      if_good_read s fetch x.good (Request.Fetch (record { cursor = low32 (value_of x 1); rows = optional_of x 2 }))
      (fetch_read (value_of x 1) (optional_of x 2))

  frame-read : (kind : ℕ) → ReadIn (frame_in s kind)
  unfolding frame_in
  frame-read kind =
      both ReadIn (eqb kind reset) (reset_frame s) _ (λ _. reset-frame)
      (λ _. both ReadIn (eqb kind session_close) (session_close_frame s) _ (λ _. session-close-frame)
      (λ _. both ReadIn (eqb kind prepare) (prepare_frame s) _ (λ _. prepare-frame)
      (λ _. both ReadIn (eqb kind execute) (execute_frame s) _ (λ _. execute-frame)
      (λ _. both ReadIn (eqb kind deallocate) (deallocate_frame s) _ (λ _. deallocate-frame)
      (λ _. both ReadIn (eqb kind open') (open_frame s) _ (λ _. open-frame)
      (λ _. both ReadIn (eqb kind close) (close_frame s) _ (λ _. close-frame)
      (λ _. both ReadIn (eqb kind fetch) (fetch_frame s) (Frame.UnknownType (length s)) (λ _. fetch-frame)
      (λ _. tt))))))))

-- ---- a frame

-- a frame has at most 65,536 bytes
abbrev Headed : HeadResult → Type 0
Headed (Ok head) = head.end ≤ length_bytes + max_length
Headed (Err reason) = Unit {0}

headed : (s : List ℕ) → Headed (head_of s)
headed s =
    both Headed (leb length_bytes (length s)) _ _
    (λ _. both Headed (eqb (length_of s) 0) _ _ (λ _. tt)
    (λ _. both Headed (ltb max_length (length_of s)) _ _ (λ _. tt)
    (λ e. both Headed (ltb (length s) (length_bytes + length_of s)) _ _ (λ _. tt)
    (λ _. omega (arith, ltb-false max_length (length_of s) e)))))
    (λ _. tt)

of_head_read : (s : List ℕ) (h : HeadResult) → Headed h → ReadIn (of_head s h)
of_head_read s (Ok head) h = frame-read (take head.end s) (omega (arith, length-take head.end s)) head.kind
of_head_read s (Err reason) h = both ReadIn (eqb (Reason.number_of reason) Reason.bad_length) Frame.BadLength Frame.NotAllThere (λ _. tt)
    (λ _. tt)

pub frames_are_read : FramesAreRead
unfolding frame_of
frames_are_read s = of_head_read s (head_of s) (headed s)
