-- A written message reads back as itself. Assumes nothing.
use Rattle.prelude.proofs.Basics.{ℕ, ◌+◌, ◌≤◌, arith, Bool, true, false, cond, ◌≡◌, refl, sym, ap, subst, ◌∙◌, List, []}
use Rattle.prelude.proofs.Basics.{◌++◌, map, length, take, drop, take-append-le, eqb, leb, eq-eqb, eqb-false, eqb-true}
use Rattle.prelude.proofs.Basics.{le-leb, leb-true, yes}
use Rattle.protocol.specs.Client as Client
use Rattle.protocol.specs.Reason as Reason
use Rattle.varint.proofs.TailLaws.{stands_bytes, stands_more}
use Rattle.message.specs.Operation as Operation
use Rattle.message.specs.Request.{kind_of, stmt_of, cursor_of, rows_of, compact_of, operation_of, body_of, args_of, no_optional}
use Rattle.message.specs.Request.{no_part}
use Rattle.message.specs.Prepare.{body_in as judged}
use Rattle.message.specs.Frame.{part_of, body_in, argument_in}
use Rattle.encode.specs.Put.{written}
use Rattle.writer.proofs.Names.{Stands, stands_length, tail_stands, same_or_not, arguments_at, no_arguments}
use Rattle.writer.proofs.Names.{arguments_in, arguments_from, together, moved, Arguments, max_length, payload}
use Rattle.writer.proofs.Names.{frame_in, frame_of, Frame, Request, number_field, frame, good_stretch, is_type}
use Rattle.writer.proofs.Names.{good_body, good_prepare, accepted_as, accepted, execute_payload, prepare_stmt_payload}
use Rattle.writer.proofs.Names.{prepare_payload, open_stmt_payload, open_payload, fetch_payload, payload_as, payload_of}
use Rattle.writer.proofs.Names.{frame_bytes, draft_reason, left_of, Sized, has_args, given, TellAlike, Draft}
use Rattle.writer.specs.Write.{write_reason}
use Rattle.writer.specs.RoundTrip.{has_stmt, has_cursor, has_rows, args_bytes, ReadsAs, arguments_of, RoundTrip}
use Rattle.writer.specs.RoundTrip.{WrittenReads}
use Rattle.writer.proofs.JudgeLaws.{kind_none}
use Rattle.writer.proofs.WriteLaws.{frame_length}
use Rattle.writer.proofs.ArgListLaws.{nth_moved, together_tells}
use Rattle.writer.proofs.StretchLaws.{stretch_of}
use Rattle.writer.proofs.BackLaws.{frame_is, payload_tail, reset_back, session_close_back, deallocate_back}
use Rattle.writer.proofs.BackLaws.{close_back, fetch_back}
use Rattle.writer.proofs.ExecuteBackLaws.{Held, args_stand, args_held, execute-back, stmt_stands, run_stands}
use Rattle.writer.proofs.ExecuteBackLaws.{run_at, open_back}
use Rattle.writer.proofs.PrepareBackLaws.{stmt_stands as prepare-stmt-stands, body_at, body_stands, body_held}
use Rattle.writer.proofs.PrepareBackLaws.{body_plain, prepare_back}

-- a draft of another kind
abbrev with_kind : Draft → ℕ → Draft
with_kind d k =
    record {
      kind = k;
      stmt = d.stmt;
      cursor = d.cursor;
      hasrows = d.hasrows;
      rows = d.rows;
      hascompact = d.hascompact;
      compact = d.compact;
      operation = d.operation;
    }

-- what is expected of the request q that is read of the bytes
record Expected (d : Draft) (body args bytes : List ℕ) (q : Request) : Type 0 where
  kind : kind_of q ≡ d.kind
  stmt : stmt_of q ≡ cond (has_stmt d.kind) d.stmt 0
  cursor : cursor_of q ≡ cond (has_cursor d.kind) d.cursor 0
  rows : rows_of q ≡ cond (has_rows d.kind) (given d.hasrows d.rows) no_optional
  compact : compact_of q ≡ cond (has_args d.kind) (given d.hascompact (cond d.compact 1 0)) no_optional
  operation : operation_of q ≡ cond (eqb d.kind Client.prepare) d.operation 0
  chosen : body_in bytes (body_of q) ≡
      cond (eqb d.kind Client.prepare) body (cond (eqb d.kind Client.open') (execute_payload d args) [])
  place : ℕ
  stands : take (length (args_bytes d body args)) (drop place bytes) ≡ args_bytes d body args
  arguments : arguments_of bytes q ≡ map (moved place) (arguments_at (args_bytes d body args) 0)
  told : TellAlike (args_of q) (arguments_in (args_bytes d body args) 0)

reads_as : (d : Draft) {body args bytes : List ℕ} {q : Request} →
    frame_of bytes ≡ Frame.Good (length (frame_bytes d body args)) q →
    Expected d body args bytes q → ReadsAs d body args bytes
reads_as d {body} {args} {bytes} {q} e x =
    record {
      request = q;
      good = e;
      kind = x.kind;
      stmt = x.stmt;
      cursor = x.cursor;
      rows = x.rows;
      compact = x.compact;
      operation = x.operation;
      chosen = ap (λ (f : Frame). body_in bytes (part_of f)) e ∙ x.chosen;
      place = x.place;
      stands = x.stands;
      arguments = x.arguments;
      told = x.told;
      argument = λ i.
          ap (argument_in bytes i) e
          ∙ nth_moved x.place (take (args_of q).end bytes) (args_of q).start (args_bytes d body args)
          x.arguments i;
    }

-- arguments that are held in the frame, read of it with more bytes behind
held_arguments : (s rest : List ℕ) (at n p : ℕ) (t : List ℕ) (a : Arguments) →
    Held s at n (map (moved p) (arguments_at t 0)) a → at + n ≤ length s →
    arguments_at (take a.end (s ++ rest)) a.start ≡ map (moved p) (arguments_at t 0)
held_arguments s rest at n p t a h g =
    ap (λ (k : ℕ). arguments_at (take k (s ++ rest)) a.start) h.end
    ∙ ap (λ (k : ℕ). arguments_at (take (at + n) (s ++ rest)) k) h.start
    ∙ ap (λ (l : List ℕ). arguments_at l at) (take-append-le (at + n) s rest g)
    ∙ h.list

-- and what they tell together
held_told : (s : List ℕ) (at n p : ℕ) (t : List ℕ) (a : Arguments) →
    Held s at n (map (moved p) (arguments_at t 0)) a → TellAlike a (arguments_in t 0)
held_told s at n p t a h =
    subst (λ (x : Arguments). TellAlike x (arguments_in t 0)) (sym h.all)
    (together_tells p (no_arguments at h.size) (no_arguments 0 (length t)) (arguments_at t 0)
    (record { count = refl; kind = refl; index = refl }))

pub good_prepare_lem : (t : ℕ) (body : List ℕ) → good_prepare t body ≡ true → (is_type t ≡ true) × (good_body t body ≡ true)
good_prepare_lem t body = go (is_type t)
  where
    go : (b : Bool) → cond b (good_body t body) false ≡ true → (b ≡ true) × (good_body t body ≡ true)
    go true e = (refl, e)
    go false e = absurd (let z : ◌≡◌ {A = ℕ} 0 1 = cc in omega arith)

module _ (d : Draft) (body args rest : List ℕ) (sized : Sized d) where
  -- what is shown for each kind
  abbrev Back : ℕ → Type 0
  Back k =
      length (payload_of (with_kind d k) body args) + 1 ≤ max_length →
      ReadsAs (with_kind d k) body args (frame_bytes (with_kind d k) body args ++ rest)

  -- a message with neither body nor arguments
  simple : (k : ℕ) (q : Request) (bytes : List ℕ) → kind_of q ≡ k → stmt_of q ≡ cond (has_stmt k) d.stmt 0 →
      cursor_of q ≡ cond (has_cursor k) d.cursor 0 →
      rows_of q ≡ cond (has_rows k) (given d.hasrows d.rows) no_optional →
      compact_of q ≡ no_optional → operation_of q ≡ 0 → body_of q ≡ no_part → args_of q ≡ no_arguments 0 0 →
      has_args k ≡ false →
      eqb k Client.prepare ≡ false → eqb k Client.open' ≡ false → Expected (with_kind d k) body args bytes q
  unfolding arguments_from together
  simple k q bytes is e f g c o p n a b h =
      record {
        kind = is;
        stmt = e;
        cursor = f;
        rows = g;
        compact = rw (a, c);
        operation = rw (b, o);
        chosen = rw (b, h, p);
        place = 0;
        stands = rw (a, b);
        arguments = rw (a, b, n);
        told = rw (a, b, n) (record { count = refl; kind = refl; index = refl });
      }

  back-reset : Back Client.reset
  unfolding payload_as frame_in
  back-reset fits =
      reads_as (with_kind d Client.reset) (frame_is Client.reset [] rest fits ∙ reset_back)
      (simple Client.reset Request.Reset _ refl refl refl refl refl refl refl refl refl refl refl)

  back-session-close : Back Client.session_close
  unfolding payload_as frame_in
  back-session-close fits =
      reads_as (with_kind d Client.session_close) (frame_is Client.session_close [] rest fits ∙ session_close_back)
      (simple Client.session_close Request.SessionClose _ refl refl refl refl refl refl refl refl refl refl refl)

  back-deallocate : Back Client.deallocate
  unfolding payload_as frame_in
  back-deallocate fits =
      reads_as (with_kind d Client.deallocate)
      (frame_is Client.deallocate (number_field 1 d.stmt) rest fits ∙ deallocate_back d.stmt sized.stmt)
      (simple Client.deallocate (Request.Deallocate d.stmt) _ refl refl refl refl refl refl refl refl refl refl refl)

  back-close : Back Client.close
  unfolding payload_as frame_in
  back-close fits =
      reads_as (with_kind d Client.close)
      (frame_is Client.close (number_field 1 d.cursor) rest fits ∙ close_back d.cursor sized.cursor)
      (simple Client.close (Request.Close d.cursor) _ refl refl refl refl refl refl refl refl refl refl refl)

  back-fetch : Back Client.fetch
  unfolding payload_as frame_in fetch_payload
  back-fetch fits =
      reads_as (with_kind d Client.fetch)
      (frame_is Client.fetch (fetch_payload d) rest fits
      ∙ fetch_back d.cursor d.rows d.hasrows sized.cursor sized.rows)
      (simple Client.fetch (Request.Fetch (record { cursor = d.cursor; rows = given d.hasrows d.rows })) _ refl
      refl refl refl refl refl
      refl refl refl refl refl)

  back-execute : good_stretch args ≡ true → Back Client.execute
  unfolding payload_as frame_in execute_payload
  back-execute good fits =
      let s = frame Client.execute (execute_payload d args) in
      let g = stretch_of args good in
      let k = tail_stands (payload_tail Client.execute (execute_payload d args)) in
      let a = args_stand d.stmt d.hascompact d.compact args g sized.stmt k in
      let p = payload + length (number_field 1 d.stmt) in
      let held = args_held d.stmt d.hascompact d.compact args g sized.stmt k in
      reads_as (with_kind d Client.execute)
      (frame_is Client.execute (execute_payload d args) rest fits
      ∙ execute-back d.stmt d.hascompact d.compact args g sized.stmt)
      (record {
        kind = refl;
        stmt = refl;
        cursor = refl;
        rows = refl;
        compact = refl;
        operation = refl;
        chosen = refl;
        place = p;
        stands = stands_bytes (stands_more rest a);
        arguments =
            held_arguments s rest payload (length (execute_payload d args)) p args _ held
            (omega (arith, stands_length k));
        told = held_told s payload (length (execute_payload d args)) p args _ held;
      })

  back-open : good_stretch args ≡ true → Back Client.open'
  unfolding payload_as frame_in execute_payload open_stmt_payload open_payload
  back-open good fits =
      let s = frame Client.open' (open_payload d args) in
      let g = stretch_of args good in
      let e = execute_payload d args in
      let stmt =
      stmt_stands d.stmt d.hascompact d.compact args g sized.stmt d.cursor d.rows d.hasrows
      sized.cursor sized.rows in
      let k = run_stands d.stmt d.hascompact d.compact args g sized.stmt d.cursor d.rows d.hasrows
      sized.cursor sized.rows in
      let at = run_at d.stmt d.hascompact d.compact args g sized.stmt d.cursor d.rows d.hasrows
      sized.cursor sized.rows in
      let p = at + length (number_field 1 d.stmt) in
      let long = frame_length Client.open' (open_payload d args) in
      let held = args_held d.stmt d.hascompact d.compact args g sized.stmt k in
      reads_as (with_kind d Client.open')
      (frame_is Client.open' (open_payload d args) rest fits
      ∙ open_back d.stmt d.hascompact d.compact args g sized.stmt d.cursor d.rows d.hasrows
      sized.cursor sized.rows
      (omega (arith, stands_length stmt)) (omega (arith, stands_length k)))
      (record {
        kind = refl;
        stmt = refl;
        cursor = refl;
        rows = refl;
        compact = refl;
        operation = refl;
        chosen = stands_bytes (stands_more rest k);
        place = p;
        stands =
            stands_bytes (stands_more rest (args_stand d.stmt d.hascompact d.compact args g sized.stmt k));
        arguments = held_arguments s rest at (length e) p args _ held (omega (arith, stands_length k));
        told = held_told s at (length e) p args _ held;
      })

  -- the arguments of a Prepare: those of its body, or none
  module _ (s : List ℕ) (at : ℕ) (k : Stands s at body []) (good : good_body d.operation body ≡ true) where
    -- where they stand, and what is read there
    record Carries (t : List ℕ) (a : Arguments) : Type 0 where
      place : ℕ
      stands : take (length t) (drop place (s ++ rest)) ≡ t
      arguments : arguments_at (take a.end (s ++ rest)) a.start ≡ map (moved place) (arguments_at t 0)
      told : TellAlike a (arguments_in t 0)

    prepare-args : (b : Bool) → eqb d.operation Operation.stmt_execute ≡ b →
        Carries (cond b body []) (judged s d.operation at (length body))
    unfolding arguments_from together
    prepare-args true e =
        let held = body_held body k d.operation (eqb-true d.operation Operation.stmt_execute e) good in
        record {
          place = at;
          stands = stands_bytes (stands_more rest k);
          arguments = held_arguments s rest at (length body) at body _ held (omega (arith, stands_length k));
          told = held_told s at (length body) at body _ held;
        }
    prepare-args false e =
        let none = body_plain body k d.operation (eqb-false d.operation Operation.stmt_execute e) good in
        record {
          place = 0;
          stands = refl;
          arguments = ap (λ (a : Arguments). arguments_at (take a.end (s ++ rest)) a.start) none;
          told =
              subst (λ (a : Arguments). TellAlike a (arguments_in [] 0)) (sym none)
              (record { count = refl; kind = refl; index = refl });
        }

  back-prepare : good_prepare d.operation body ≡ true → Back Client.prepare
  unfolding payload_as frame_in prepare_stmt_payload prepare_payload
  back-prepare good fits =
      let s = frame Client.prepare (prepare_payload d body) in
      let t = good_prepare_lem d.operation body good in
      let at = body_at d.stmt d.operation body sized.stmt t.0 in
      let k = body_stands d.stmt d.operation body sized.stmt t.0 in
      let stmt = prepare-stmt-stands d.stmt d.operation body sized.stmt t.0 in
      let long = frame_length Client.prepare (prepare_payload d body) in
      let a = prepare-args s at k t.1 (eqb d.operation Operation.stmt_execute) refl in
      reads_as (with_kind d Client.prepare)
      (frame_is Client.prepare (prepare_payload d body) rest fits
      ∙ prepare_back d.stmt d.operation body sized.stmt t.0 t.1 (omega (arith, stands_length stmt))
      (omega (arith, stands_length k)))
      (record {
        kind = refl;
        stmt = refl;
        cursor = refl;
        rows = refl;
        compact = refl;
        operation = refl;
        chosen = stands_bytes (stands_more rest k);
        place = a.place;
        stands = a.stands;
        arguments = a.arguments;
        told = a.told;
      })

-- ---- every kind

module _ (P : ℕ → Type 0) (operation : ℕ) (body args : List ℕ) (reset : P Client.reset)
    (session-close : P Client.session_close)
    (prepare : good_prepare operation body ≡ true → P Client.prepare)
    (execute : good_stretch args ≡ true → P Client.execute)
    (deallocate : P Client.deallocate) (open' : good_stretch args ≡ true → P Client.open') (close : P Client.close)
    (fetch : P Client.fetch) where
  pub accepted_kinds : (kind : ℕ) → accepted_as kind operation body args ≡ true → P kind
  unfolding accepted_as
  accepted_kinds kind h =
      same_or_not kind Client.reset (λ e. subst P (sym e) reset)
      (λ n6.
      same_or_not kind Client.session_close (λ e. subst P (sym e) session-close)
      (λ n7.
      same_or_not kind Client.prepare (λ e. subst P (sym e) (prepare (subst Good e h)))
      (λ n40.
      same_or_not kind Client.execute (λ e. subst P (sym e) (execute (subst Good e h)))
      (λ n41.
      same_or_not kind Client.deallocate (λ e. subst P (sym e) deallocate)
      (λ n42.
      same_or_not kind Client.open' (λ e. subst P (sym e) (open' (subst Good e h)))
      (λ n43.
      same_or_not kind Client.close (λ e. subst P (sym e) close)
      (λ n44.
      same_or_not kind Client.fetch (λ e. subst P (sym e) fetch)
      (λ n45.
      absurd
      (let f = kind_none kind operation body args n6 n7 n40 n41 n42 n43 n44 n45 in
      let z : ◌≡◌ {A = ℕ} 0 1 = cc in
      omega arith)))))))))
    where
      Good : ℕ → Type 0
      Good k = accepted_as k operation body args ≡ true

-- a draft that is not refused
pub not_refused : (d : Draft) (body args : List ℕ) → draft_reason d body args ≡ Reason.accepted →
    (accepted d body args ≡ true) × (length (payload_of d body args) + 1 ≤ max_length)
unfolding draft_reason
not_refused d body args = go (accepted d body args) (leb (length (payload_of d body args) + 1) max_length) refl
  where
    go : (a b : Bool) → leb (length (payload_of d body args) + 1) max_length ≡ b →
        cond a (cond b Reason.accepted Reason.bad_length) Reason.bad_payload ≡ Reason.accepted →
        (a ≡ true) × (length (payload_of d body args) + 1 ≤ max_length)
    go true true e h = (refl, leb-true (length (payload_of d body args) + 1) max_length e)
    go true false e h = absurd (omega arith)
    go false b e h = absurd (omega arith)

pub round_trip : RoundTrip
round_trip d body args rest sized h =
    let f = not_refused d body args h in
    accepted_kinds (Back d body args rest sized) d.operation body args (back-reset d body args rest sized)
    (back-session-close d body args rest sized)
    (back-prepare d body args rest sized) (back-execute d body args rest sized) (back-deallocate d body args rest sized)
    (back-open d body args rest sized) (back-close d body args rest sized) (back-fetch d body args rest sized) d.kind
    f.0 f.1

-- a draft that is written
pub written_fits : (d : Draft) (body args : List ℕ) (room : ℕ) → write_reason d body args room ≡ Reason.accepted →
    (draft_reason d body args ≡ Reason.accepted) × (length (frame_bytes d body args) ≤ room)
written_fits d body args room =
    go (eqb (draft_reason d body args) Reason.accepted) refl (leb (length (frame_bytes d body args)) room) refl
  where
    go : (a : Bool) → eqb (draft_reason d body args) Reason.accepted ≡ a → (b : Bool) →
        leb (length (frame_bytes d body args)) room ≡ b →
        cond a (cond b Reason.accepted Reason.no_room) (draft_reason d body args) ≡ Reason.accepted →
        (draft_reason d body args ≡ Reason.accepted) × (length (frame_bytes d body args) ≤ room)
    go true e true f h =
        (eqb-true (draft_reason d body args) Reason.accepted e, leb-true (length (frame_bytes d body args)) room f)
    go true e false f h = absurd (omega arith)
    go false e b f h = absurd (eqb-false (draft_reason d body args) Reason.accepted e h)

-- the buffer afterwards: the frame, and what stood behind it
pub left_is : (d : Draft) (body args buf : List ℕ) → write_reason d body args (length buf) ≡ Reason.accepted →
    left_of d body args buf ≡ frame_bytes d body args ++ drop (0 + length (frame_bytes d body args)) buf
unfolding left_of
left_is d body args buf h =
    sym (yes (written buf 0 (frame_bytes d body args)) buf
    (eq-eqb (write_reason d body args (length buf)) Reason.accepted h))
    ∙ sym
    (yes (frame_bytes d body args ++ drop (0 + length (frame_bytes d body args)) buf) buf
    (le-leb (0 + length (frame_bytes d body args)) (length buf)
    (omega (arith, (written_fits d body args (length buf) h).1))))

pub written_reads : WrittenReads
written_reads d body args buf sized h =
    subst (λ (l : List ℕ). ReadsAs d body args l) (sym (left_is d body args buf h))
    (round_trip d body args (drop (0 + length (frame_bytes d body args)) buf) sized
    (written_fits d body args (length buf) h).0)
