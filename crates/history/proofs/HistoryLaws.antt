-- Demand 3. The invariant ties the openings that the tally holds to the live cursors of the table: under every weight
-- the two have the same sum. Assumes nothing.
use Rattle.prelude.proofs.Basics.{ℕ, ◌+◌, ◌-◌, ◌≤◌, min, arith, le_trans, Bool, true, false, not, ◌&&◌, cond}
use Rattle.prelude.proofs.Basics.{true≢false, false≢true, ◌≡◌, refl, sym, ap, subst, ◌∙◌, List, [], ◌∷◌, length}
use Rattle.prelude.proofs.Basics.{get_or, take, eqb, eq-eqb, eqb-false, eqb-true, ltb-false, ne_eqb, not-true, both}
use Rattle.prelude.proofs.Basics.{Option, Some, None}
use mathlib.Core.Bool.{or-false}
use Rattle.protocol.specs.Client.{open', fetch}
use Rattle.protocol.specs.Reason as Reason
use Rattle.message.specs.Request.{cursor_of}
use Rattle.message.specs.Frame.{frame_of}
use Rattle.message.specs.declared.request.Fetch.{Fetch as Asked}
use Rattle.message.specs.declared.request.Open.{Open as Opens}
use Rattle.message.specs.declared.request.Request.{Request}
use Rattle.message.specs.declared.request.Request.TheVariants.{Reset, SessionClose, Prepare, Execute, Deallocate, Open}
use Rattle.message.specs.declared.request.Request.TheVariants.{Close, Fetch}
use Rattle.message.specs.declared.request.Frame.{Frame}
use Rattle.message.specs.declared.request.Frame.TheVariants.{Good}
use Rattle.session.specs.declared.Cursor.{Cursor}
use Rattle.session.specs.Session.{Session}
use Rattle.session.specs.Lists.{sum_by, how_many, All, change, changed, entry_at}
use Rattle.session.specs.Entry.{no_cursor, new_cursor, is_live_cursor, is_cursor, raise}
use Rattle.session.specs.Tables.{fresh, cursor_at, cursor_place, live_cursor, ends}
use Rattle.session.specs.Sound.{Sound}
use Rattle.session.proofs.PlaceLaws.{Passes, found}
use Rattle.session.proofs.SumLaws.{one, sum_same, sum_map, counted, all_append}
use Rattle.session.proofs.TableLaws.{fresh_sound, fetched_as}
use Rattle.encode.specs.Put.{written}
use Rattle.reply.specs.declared.Reply.{Reply}
use Rattle.reply.specs.Reply.{reply_bytes}
use Rattle.reply.specs.ReplyRules.{min_buffer, is_done}
use Rattle.reply.specs.Frames.{holds_done}
use Rattle.reply.proofs.ReplyLaws.{tells_done}
use Rattle.rules.specs.declared.Report.{Report}
use Rattle.rules.specs.Kind.{one_of, on_good}
use Rattle.rules.specs.Report.{suits}
use Rattle.rules.specs.Rows.{first_row, row_count, fetch_count, open_count}
use Rattle.rules.specs.Read.{Read, ReadIn}
use Rattle.rules.specs.Ending.{ends_it, ends_cursor}
use Rattle.rules.specs.Refusal.{step_reason}
use Rattle.rules.specs.Decision.{session_after, reply_to, end_of, accepted}
use Rattle.rules.specs.Step.{Step, reply_of, too_short, step_by, step_on, short, step_of}
use Rattle.rules.proofs.BufferLaws.{reply_fits}
use Rattle.rules.proofs.EndingLaws.{ends_as_listed}
use Rattle.rules.proofs.ReadLaws.{frames_are_read}
use Rattle.rules.proofs.RefusalLaws.{Looked, Took}
use Rattle.rules.proofs.StepLaws.{refused_step, step_has, reply_front}
use Rattle.rules.proofs.SoundLaws.{after_sound}
use Rattle.history.specs.Tally.{Segment, Opening, Tally, sent, kept, endings, is_of, longer, adds, fed_on, fed}
use Rattle.history.specs.Start.{start_of}
use Rattle.history.specs.Run.{Input, run, leaves, told_by, told, fed_by, tallied}
use Rattle.history.specs.History.{tally_of, state_by, reached_from, Proper, all_sent, TellsDone, TellDone, Kept}
use Rattle.history.specs.History.{Demand3From, Demand3, SoundFrom, ReachesSound}
use Rattle.history.proofs.ListLaws.{sum_kept, sum_all, sum_only, all_kept, kept_pass, all_map}
use Rattle.history.proofs.ListLaws.{all_imp, all_both, all_zero}
use Rattle.history.proofs.OpeningLaws.{sent_longer, goes_on_lem, begins, sent_or_not}
use Rattle.history.proofs.TableLaws.{Weight, weigh, table, off, plus, unless_own, ends_weigh, open_weigh}
use Rattle.history.proofs.TableLaws.{fetch_weigh, as_cursor, openings}
use Rattle.history.proofs.StartLaws.{starts_empty, start_weighs, start_proper}

-- ---- the invariant

record Inv (s : Session) (t : Tally) : Type 0 where
  sound : Sound s
  same : (w : Weight) → openings w t.live ≡ table w s.cursors
  live : All Proper t.live
  ended : All Proper t.ended
  none : t.strays ≡ 0

starts : (s : Session) → Sound s → Inv s (start_of s)
unfolding All
starts s h =
    record {
      sound = h;
      same = start_weighs s h;
      live = start_proper s h;
      ended = tt;
      none = refl;
    }

-- what the live openings have still to send, by the weight that is the rows unsent
owing : (os : List Opening) → openings (λ c. c.rows - c.sent) os ≡ sum_by (λ o. o.rows - sent o) os
owing os = sum_same (λ o. o.first + o.rows - (o.first + sent o)) (λ o. o.rows - sent o) (λ o. omega arith) os

-- ---- the cursor that a Fetch is of, in its place

record Held (s : Session) (id : ℕ) : Type 0 where
  place : ℕ
  passes : Passes (is_cursor id) no_cursor s.cursors place
  it : live_cursor s id ≡ get_or s.cursors place no_cursor

held : (s : Session) (id : ℕ) → not (is_live_cursor (live_cursor s id)) ≡ false → Held s id
held s id h = go (cursor_at s id) refl
  where
    go : (x : Option ℕ) → cursor_at s id ≡ x → Held s id
    go (Some i) e =
        record {
          place = i;
          passes = found (is_cursor id) no_cursor s.cursors i e;
          it = ap (λ x. entry_at s.cursors x no_cursor) e;
        }
    go None e = absurd (true≢false (sym (ap (λ x. not (is_live_cursor (entry_at s.cursors x no_cursor))) e)
        ∙ h))

-- an opening with a cursor id has these rows reported and sent
abbrev Has : ℕ → Cursor → Opening → Type 0
Has k c o = is_of k o ≡ true → (o.first + o.rows ≡ c.rows) × (o.first + sent o ≡ c.sent)

-- 1 for a cursor of an id with other rows
abbrev others : ℕ → Cursor → Weight
others k c x = cond (eqb x.id k) (one (not (eqb x.rows c.rows && eqb x.sent c.sent))) 0

has_of : (k : ℕ) (c : Cursor) (o : Opening) → others k c (as_cursor o) ≡ 0 → Has k c o
has_of k c o e h =
    go (eqb (o.first + o.rows) c.rows) refl (eqb (o.first + sent o) c.sent) refl (rw h at e)
  where
    go : (a : Bool) → eqb (o.first + o.rows) c.rows ≡ a → (b : Bool) → eqb (o.first + sent o) c.sent ≡ b →
        one (not (a && b)) ≡ 0 →
        (o.first + o.rows ≡ c.rows) × (o.first + sent o ≡ c.sent)
    go true f true g z = (eqb-true (o.first + o.rows) c.rows f, eqb-true (o.first + sent o) c.sent g)
    go true f false g z = absurd (omega arith)
    go false f b g z = absurd (omega arith)

-- a test of two numbers, by what is left between them
left_none : (rows n : ℕ) → n ≤ rows → eqb (rows - n) 0 ≡ eqb n rows
left_none rows n h = go (eqb n rows) refl
  where
    go : (b : Bool) → eqb n rows ≡ b → eqb (rows - n) 0 ≡ b
    go true e = eq-eqb (rows - n) 0 (omega (arith, eqb-true n rows e))
    go false e = ne_eqb (rows - n) 0 (λ z. eqb-false n rows e (omega arith))

done_end : (left : ℕ) → is_done (end_of left) ≡ eqb left 0
done_end left = go (eqb left 0)
  where
    go : (b : Bool) → is_done (cond b Reply.Done Reply.Suspended) ≡ b
    go true = refl
    go false = refl

-- ---- an accepted request

module _ (s : Session) (t : Tally) (h : Inv s t) where
  -- after the endings the openings are the cursors that do not end
  left : (q : Request) (w : Weight) → openings w (endings q t).live ≡ table (off (ends_it q) w) s.cursors
  left q w =
      sum_kept (λ o. not (ends_it q o.cursor o.stmt)) (λ o. w (as_cursor o)) t.live ∙ h.same (off (ends_it q) w)

  left-proper : (q : Request) → All Proper (endings q t).live
  left-proper q = all_kept Proper (λ o. not (ends_it q o.cursor o.stmt)) t.live h.live

  ended-proper : (q : Request) → All Proper (endings q t).ended
  ended-proper q =
      all_append Proper (kept (λ o. ends_it q o.cursor o.stmt) t.live) t.ended
      (all_kept Proper (λ o. ends_it q o.cursor o.stmt) t.live h.live) h.ended

  module _ (r : Report) where
    abbrev part : Request → Segment
    part q = record { first = first_row s q; count = row_count s q r }

    abbrev added : Request → Tally
    added q = adds q r (part q) (endings q t)

    -- what a reply with FetchDone or without says of the openings that the request is for
    abbrev Says : ℕ → Bool → List Opening → Type 0
    Says k d os = All (λ o. is_of k o ≡ true → d ≡ all_sent o) os

    -- a request that only ends openings
    ends-only : (q : Request) → (session_after s q r).cursors ≡ ends (ends_cursor q) s.cursors → (w : Weight) →
        openings w (endings q t).live ≡ table w (session_after s q r).cursors
    ends-only q e w = left q w ∙ sym (ends_weigh (ends_cursor q) (ends_it q) w (λ c f. rw f) s.cursors)
        ∙ ap (table w) (sym e)

    -- ---- an Open

    module _ (o : Opens) (l : Looked s (Open o)) where
      opening_same : (w : Weight) → openings w (added (Open o)).live ≡ table w (session_after s (Open o) r).cursors
      unfolding session_after ends_it row_count sum_by
      opening_same w =
          let stmt = o.execute.stmt in
          let n = open_count o.rows r.rows in
          let y : 0 + r.rows ≡ r.rows = omega arith in
          let z : 0 + (n + 0) ≡ n = omega arith in
          let new =
          ap (λ (k : ℕ). w (new_cursor o.cursor stmt k (0 + (n + 0)))) y
          ∙ ap (λ (k : ℕ). w (new_cursor o.cursor stmt r.rows k)) z in
          omega (
            arith,
            new,
            left (Open o) w,
            open_weigh (ends_it (Open o)) o.cursor (λ k stmt. or-false (eqb k o.cursor)) w s.cursors
                (h.sound.cursor_once o.cursor) stmt r.rows n (cursor_place s o.cursor) refl l.cursor_placed,
          )

      opening-proper : All Proper (added (Open o)).live
      unfolding All row_count first_row
      opening-proper = (
        begins o.cursor o.execute.stmt r.rows (part (Open o)) refl (omega arith),
        left-proper (Open o),
      )

      -- no other opening has its cursor id any more
      gone : (x : Opening) → not (ends_it (Open o) x.cursor x.stmt) ≡ true → is_of o.cursor x ≡ true → ⊥
      unfolding ends_it
      gone x e f =
          true≢false (sym f ∙ sym (or-false (eqb x.cursor o.cursor)) ∙ not-true _ e)

      -- all rows of the new opening are sent exactly when its Open sent as many as were reported
      opening-all : eqb (open_count o.rows r.rows + 0) r.rows
          ≡ all_sent
          (record {
            cursor = o.cursor;
            stmt = o.execute.stmt;
            first = 0;
            rows = r.rows;
            segments = part (Open o) ∷
                [];
          })
      unfolding row_count sum_by
      opening-all = refl

      opening-tells : Says o.cursor (is_done (reply_to s (Open o) r)) (added (Open o)).live
      unfolding All reply_to row_count first_row sum_by
      opening-tells =
          let n = open_count o.rows r.rows in
          let z : 0 + n ≡ n + 0 = omega arith in (
            λ _.
                done_end (r.rows - (0 + n))
                ∙ left_none r.rows (0 + n) (omega arith)
                ∙ ap (λ (k : ℕ). eqb k r.rows) z
                ∙ opening-all,
            all_imp (λ x. not (ends_it (Open o) x.cursor x.stmt) ≡ true)
                (λ x. is_of o.cursor x ≡ true → is_done (reply_to s (Open o) r) ≡ all_sent x)
                (λ x e f. absurd (gone x e f))
                (endings (Open o) t).live (kept_pass (λ x. not (ends_it (Open o) x.cursor x.stmt)) t.live),
          )

    -- ---- a Fetch

    module _ (f : Asked) (l : Looked s (Fetch f)) where
      abbrev it : Cursor
      it = live_cursor s f.cursor

      abbrev strange : Weight
      strange = others f.cursor it

      abbrev os : List Opening
      os = (endings (Fetch f) t).live

      at_held : Held s f.cursor → table strange s.cursors ≡ 0
      at_held g =
          sum_only (is_cursor f.cursor) (weigh strange)
          (unless_own (λ id stmt. eqb id f.cursor) f.cursor (λ id stmt. refl)
          (λ c. one (not (eqb c.rows it.rows && eqb c.sent it.sent))))
          no_cursor refl s.cursors g.place (h.sound.cursor_once f.cursor) g.passes
          ∙ ap (weigh strange) (sym g.it)
          ∙ none (is_live_cursor it) (eqb it.id f.cursor) (eqb it.rows it.rows && eqb it.sent it.sent)
          (rw (eq-eqb it.rows it.rows refl, eq-eqb it.sent it.sent refl))
        where
          none : (a b c : Bool) → c ≡ true → ◌≡◌ {A = ℕ} (cond a (cond b (one (not c)) 0) 0) 0
          none true true c e = rw e
          none true false c e = refl
          none false b c e = refl

      -- a Fetch ends nothing
      fetch-left : (w : Weight) → openings w os ≡ table w s.cursors
      unfolding ends_it
      fetch-left w = left (Fetch f) w

      -- the openings of its cursor id have its rows
      have : All (Has f.cursor it) os
      have =
          all_imp (λ o. strange (as_cursor o) ≡ 0) (Has f.cursor it) (has_of f.cursor it) os
          (all_zero (λ o. strange (as_cursor o)) os (fetch-left strange ∙ at_held (held s f.cursor l.cursor_live)))

      abbrev n : ℕ
      n = fetch_count it f.rows

      abbrev g : Segment
      g = record { first = it.sent; count = n }

      raised : (o : Opening) → (o.first + o.rows ≡ it.rows) × (o.first + sent o ≡ it.sent) →
          as_cursor (longer g o) ≡ raise n (as_cursor o)
      raised o e =
          let m : o.first + sent (longer g o) ≡ o.first + sent o + min n (o.first + o.rows - (o.first + sent o)) =
          omega (arith, sent_longer g o) in
          ap (new_cursor o.cursor o.stmt (o.first + o.rows)) m

      fetching-one : (w : Weight) (o : Opening) → Has f.cursor it o →
          w (as_cursor (change (is_of f.cursor) (longer g) o)) ≡ plus f.cursor n w (as_cursor o)
      fetching-one w o e =
          both (λ x. w (as_cursor x) ≡ plus f.cursor n w (as_cursor o)) (is_of f.cursor o) (longer g o) o
          (λ k. rw k (ap w (raised o (e k)))) (λ k. rw k)

      fetching-same : (w : Weight) → openings w (changed (is_of f.cursor) (longer g) os) ≡ table w
          (changed (is_cursor f.cursor) (raise n) s.cursors)
      fetching-same w =
          let change' = change (is_of f.cursor) (longer g) in
          sum_map (λ o. w (as_cursor o)) change' os
          ∙ sum_all (Has f.cursor it) (λ o. w (as_cursor (change' o))) (λ o. plus f.cursor n w (as_cursor o))
          (fetching-one w) os have
          ∙ fetch-left (plus f.cursor n w)
          ∙ sym (fetch_weigh f.cursor n w s.cursors)

      fetched-same : (w : Weight) → openings w (added (Fetch f)).live ≡ table w (session_after s (Fetch f) r).cursors
      unfolding session_after row_count first_row
      fetched-same w = fetching-same w ∙ ap (λ x. table w x.cursors) (sym (fetched_as h.sound f.cursor n))

      fetched_one : (o : Opening) → Proper o × Has f.cursor it o → Proper (change (is_of f.cursor) (longer g) o)
      fetched_one o p =
          both Proper (is_of f.cursor o) (longer g o) o
          (λ k. let e = p.1 k in goes_on_lem g o p.0 (sym e.1) (omega (arith, p.0.within))) (λ _. p.0)

      fetched-proper : All Proper (added (Fetch f)).live
      unfolding row_count first_row
      fetched-proper =
          all_map (λ o. Proper o × Has f.cursor it o) Proper (change (is_of f.cursor) (longer g)) fetched_one os
          (all_both Proper (Has f.cursor it) os (left-proper (Fetch f)) have)

      tells-one : (o : Opening) → Proper o × Has f.cursor it o →
          is_of f.cursor (change (is_of f.cursor) (longer g) o) ≡ true →
          eqb (it.rows - (it.sent + n)) 0 ≡ all_sent (change (is_of f.cursor) (longer g) o)
      tells-one o p =
          both (λ x. is_of f.cursor x ≡ true → eqb (it.rows - (it.sent + n)) 0 ≡ all_sent x) (is_of f.cursor o)
          (longer g o) o
          (λ k _. told' (p.1 k)) (λ k e. absurd (true≢false (sym e ∙ k)))
        where
          told' : (o.first + o.rows ≡ it.rows) × (o.first + sent o ≡ it.sent) →
              eqb (it.rows - (it.sent + n)) 0 ≡ all_sent (longer g o)
          told' e =
              let z : it.rows - (it.sent + n) ≡ o.rows - sent (longer g o) = omega
              (arith, e.0, e.1, sent_longer g o) in
              ap (λ (k : ℕ). eqb k 0) z
              ∙ left_none o.rows (sent (longer g o)) (omega (arith, e.0, e.1, sent_longer g o, p.0.within))

      fetched-tells : Says f.cursor (is_done (reply_to s (Fetch f) r)) (added (Fetch f)).live
      unfolding reply_to row_count first_row
      fetched-tells =
          all_imp (λ o. is_of f.cursor o ≡ true → eqb (it.rows - (it.sent + n)) 0 ≡ all_sent o)
          (λ o. is_of f.cursor o ≡ true → is_done (end_of (it.rows - (it.sent + n))) ≡ all_sent o)
          (λ o e k. done_end (it.rows - (it.sent + n)) ∙ e k) (changed (is_of f.cursor) (longer g) os)
          (all_map (λ o. Proper o × Has f.cursor it o)
          (λ o. is_of f.cursor o ≡ true → eqb (it.rows - (it.sent + n)) 0 ≡ all_sent o)
          (change (is_of f.cursor) (longer g)) tells-one os
          (all_both Proper (Has f.cursor it) os (left-proper (Fetch f)) have))

      -- one opening has its cursor id
      of-cursor : (cs : List Cursor) → table (λ c. one (eqb c.id f.cursor)) cs ≡ how_many (is_cursor f.cursor) cs
      of-cursor cs =
          sum_same (weigh (λ c. one (eqb c.id f.cursor))) (λ c. one (is_cursor f.cursor c))
          (λ c. each (is_live_cursor c) (eqb c.id f.cursor)) cs
        where
          each : (a b : Bool) → cond a (one b) 0 ≡ one (a && b)
          each true b = refl
          each false b = refl

      one-opening : how_many (is_of f.cursor) os ≡ 1
      one-opening =
          let k = held s f.cursor l.cursor_live in
          omega (
            arith,
            fetch-left (λ c. one (eqb c.id f.cursor)),
            of-cursor s.cursors,
            h.sound.cursor_once f.cursor,
            counted (is_cursor f.cursor) no_cursor s.cursors k.place k.passes,
          )

      no_stray : (added (Fetch f)).strays ≡ 0
      no_stray =
          let e = ap (λ (b : Bool). cond {A = ℕ} b 0 1) (eq-eqb (how_many (is_of f.cursor) os) 1 one-opening) in
          omega (arith, e, h.none)

    -- ---- each request

    after_same : (q : Request) → Looked s q → (w : Weight) →
        openings w (added q).live ≡ table w (session_after s q r).cursors
    after_same Reset l = ends-only Reset (ends_as_listed s Reset r h.sound)
    after_same SessionClose l = ends-only SessionClose (ends_as_listed s SessionClose r h.sound)
    after_same (Prepare p) l = ends-only (Prepare p) (ends_as_listed s (Prepare p) r h.sound)
    after_same (Execute x) l = ends-only (Execute x) (ends_as_listed s (Execute x) r h.sound)
    after_same (Deallocate stmt) l = ends-only (Deallocate stmt) (ends_as_listed s (Deallocate stmt) r h.sound)
    after_same (Open o) l = opening_same o l
    after_same (Close cursor) l = ends-only (Close cursor) (ends_as_listed s (Close cursor) r h.sound)
    after_same (Fetch f) l = fetched-same f l

    after-proper : (q : Request) → Looked s q → All Proper (added q).live
    after-proper Reset l = left-proper Reset
    after-proper SessionClose l = left-proper SessionClose
    after-proper (Prepare p) l = left-proper (Prepare p)
    after-proper (Execute x) l = left-proper (Execute x)
    after-proper (Deallocate stmt) l = left-proper (Deallocate stmt)
    after-proper (Open o) l = opening-proper o l
    after-proper (Close cursor) l = left-proper (Close cursor)
    after-proper (Fetch f) l = fetched-proper f l

    after-ended : (q : Request) → All Proper (added q).ended
    after-ended Reset = ended-proper Reset
    after-ended SessionClose = ended-proper SessionClose
    after-ended (Prepare p) = ended-proper (Prepare p)
    after-ended (Execute x) = ended-proper (Execute x)
    after-ended (Deallocate stmt) = ended-proper (Deallocate stmt)
    after-ended (Open o) = ended-proper (Open o)
    after-ended (Close cursor) = ended-proper (Close cursor)
    after-ended (Fetch f) = ended-proper (Fetch f)

    after_none : (q : Request) → Looked s q → (added q).strays ≡ 0
    after_none Reset l = h.none
    after_none SessionClose l = h.none
    after_none (Prepare p) l = h.none
    after_none (Execute x) l = h.none
    after_none (Deallocate stmt) l = h.none
    after_none (Open o) l = h.none
    after_none (Close cursor) l = h.none
    after_none (Fetch f) l = no_stray f l

    accepts : (q : Request) → Read q → Looked s q → suits q r ≡ true → Inv (session_after s q r) (added q)
    accepts q read l e =
        record {
          sound = after_sound s q r h.sound read l e;
          same = after_same q l;
          live = after-proper q l;
          ended = after-ended q;
          none = after_none q l;
        }

-- ---- what the reply says

module _ (s : Session) (t : Tally) (h : Inv s t) (r : Report) where
  -- of a request that is no Open and no Fetch nothing is said
  abbrev SaysFor : Request → Bool → List Opening → Type 0
  SaysFor q d os = All (λ o. (one_of open' fetch q && is_of (cursor_of q) o) ≡ true → d ≡ all_sent o) os

  nothing_said : (d : Bool) (os : List Opening) → All (λ o. false ≡ true → d ≡ all_sent o) os
  unfolding All
  nothing_said d [] = tt
  nothing_said d (o ∷ os) = (λ e. absurd (false≢true e), nothing_said d os)

  says : (q : Request) → Looked s q → SaysFor q (is_done (reply_to s q r))
      (adds q r (record { first = first_row s q; count = row_count s q r }) (endings q t)).live
  says Reset l = nothing_said _ _
  says SessionClose l = nothing_said _ _
  says (Prepare p) l = nothing_said _ _
  says (Execute x) l = nothing_said _ _
  says (Deallocate stmt) l = nothing_said _ _
  says (Open o) l = opening-tells s t h r o l
  says (Close cursor) l = nothing_said _ _
  says (Fetch f) l = fetched-tells s t h r f l

-- ---- steps

done_told : (reply : Reply) (buffer : List ℕ) → length (reply_bytes reply) ≤ min_buffer → short buffer ≡ false →
    holds_done (take (length (reply_bytes reply)) (written buffer 0 (reply_bytes reply))) ≡ is_done reply
done_told reply buffer fits h =
    ap holds_done (reply_front buffer (reply_bytes reply) (le_trans fits (ltb-false (length buffer) min_buffer h)))
    ∙ tells_done reply

-- what a step on a frame keeps: the invariant, and what its reply says is right
record Goes (x : Frame) (r : Report) (t : Tally) (y : Step) : Type 0 where
  keeps : Inv y.session (fed_on x r y.answer t)
  tells : All (λ o. (eqb y.answer.reason Reason.accepted && on_good false
      (λ q. one_of open' fetch q && is_of (cursor_of q) o) x) ≡ true →
      holds_done (reply_of y) ≡ all_sent o) (fed_on x r y.answer t).live

silent : (b d : Bool) (os : List Opening) → b ≡ false → (p : Opening → Bool) →
    All (λ o. (b && p o) ≡ true → d ≡ all_sent o) os
unfolding All
silent b d [] e p = tt
silent b d (o ∷ os) e p = (λ f. absurd (false≢true (sym (ap (λ (a : Bool). a && p o) e) ∙ f)), silent b d os e p)

-- a step that is refused
refused_goes : (x : Frame) (r : Report) (s : Session) (t : Tally) (y : Step) → Inv s t → y.session ≡ s →
    eqb y.answer.reason Reason.accepted ≡ false → Goes x r t y
refused_goes x r s t y h same e =
    record {
      keeps = subst (λ z. Inv z (fed_on x r y.answer t)) (sym same) (rw e h);
      tells = silent (eqb y.answer.reason Reason.accepted) (holds_done (reply_of y)) (fed_on x r y.answer t).live e
          (λ o. on_good false (λ q. one_of open' fetch q && is_of (cursor_of q) o) x);
    }

says_told : (d e : Bool) → d ≡ e → (p : Opening → Bool) (os : List Opening) → All (λ o. p o ≡ true → e ≡ all_sent o) os →
    All (λ o. p o ≡ true → d ≡ all_sent o) os
says_told d e f p os h = all_imp (λ o. p o ≡ true → e ≡ all_sent o) (λ o. p o ≡ true → d ≡ all_sent o)
    (λ o g k. f ∙ g k) os h

step_goes : (x : Frame) (r : Report) (buffer : List ℕ) (s : Session) (t : Tally) → Inv s t → ReadIn x →
    Goes x r t (step_on s x r buffer)
step_goes x r buffer s t h read =
    step_has (Goes x r t) s x r buffer
    (λ _. refused_goes x r s t (too_short s buffer) h refl refl)
    (λ used q room k. subst (λ z. Goes z r t (step_by (Good used q) buffer (accepted s r q))) (sym k.good)
    (goes used q room k))
    (λ _ some. refused_goes x r s t (refused_step s x r buffer) h refl (ne_eqb (step_reason s x r) 0 some))
  where
    goes : (used : ℕ) (q : Request) → short buffer ≡ false → Took s x r used q →
        Goes (Good used q) r t (step_by (Good used q) buffer (accepted s r q))
    goes used q room k =
        record {
          keeps = accepts s t h r q (subst ReadIn k.good read) k.look k.report;
          tells =
              says_told (holds_done (reply_of (step_by (Good used q) buffer (accepted s r q)))) (is_done (reply_to s q r))
              (done_told (reply_to s q r) buffer (reply_fits s q r) room)
              (λ o. one_of open' fetch q && is_of (cursor_of q) o)
              (adds q r (record { first = first_row s q; count = row_count s q r }) (endings q t)).live
              (says s t h r q k.look);
        }

-- ---- runs

abbrev stepped : Session → Input → Step
stepped s i = step_of s i.frame i.report i.buffer

goes_fed : (i : Input) (s : Session) (t : Tally) → Inv s t →
    Inv (stepped s i).session (fed_by (told_by i (stepped s i)) t)
unfolding fed
goes_fed i s t h = (step_goes (frame_of i.frame) i.report i.buffer s t h (frames_are_read i.frame)).keeps

goes_tells : (i : Input) (s : Session) (t : Tally) → Inv s t →
    TellsDone (told_by i (stepped s i)) (fed_by (told_by i (stepped s i)) t)
unfolding fed
goes_tells i s t h = (step_goes (frame_of i.frame) i.report i.buffer s t h (frames_are_read i.frame)).tells

run_keeps : (is : List Input) (s : Session) (t : Tally) → Inv s t →
    Inv (leaves s (run s is)) (tallied t (told is (run s is)))
unfolding run leaves told tallied
run_keeps [] s t h = h
run_keeps (i ∷ is) s t h =
    run_keeps is (stepped s i).session (fed_by (told_by i (stepped s i)) t) (goes_fed i s t h)

run_tells : (is : List Input) (s : Session) (t : Tally) → Inv s t → TellDone t (told is (run s is))
unfolding run told TellDone
run_tells [] s t h = tt
run_tells (i ∷ is) s t h =
    (goes_tells i s t h, run_tells is (stepped s i).session (fed_by (told_by i (stepped s i)) t) (goes_fed i s t h))

holds : (s : Session) → Sound s → (steps : List Input) → Inv (reached_from s steps).session
    (tally_of (reached_from s steps))
holds s sound steps = run_keeps steps s (start_of s) (starts s sound)

pub demand_3_from : Demand3From
demand_3_from s sound steps =
    let h = holds s sound steps in
    let t = tally_of (reached_from s steps) in
    record {
      live = h.live;
      ended = h.ended;
      of_one = h.none;
      tells = run_tells steps s (start_of s) (starts s sound);
      total =
          omega (
            arith,
            sent_or_not t.live h.live,
            sent_or_not t.ended h.ended,
            owing t.live,
            h.same (λ c. c.rows - c.sent),
          );
    }

pub demand_3 : Demand3
demand_3 steps = subst (λ t. Kept (state_by t fresh steps)) starts_empty (demand_3_from fresh fresh_sound steps)

pub sound_from : SoundFrom
sound_from s sound steps = (holds s sound steps).sound

pub reaches_sound : ReachesSound
reaches_sound steps = sound_from fresh fresh_sound steps
