-- Every list of operations keeps one invariant: frames handed out, then bytes left, then bytes dropped behind a bad
-- length are the bytes taken. Assumes nothing.
use Rattle.prelude.proofs.Basics.{ℕ, zero, suc, ◌≤◌, arith, Bool, true, false, cond, ◌≡◌, refl, sym, ap, ◌∙◌, inl}
use Rattle.prelude.proofs.Basics.{⊎_elim, List, [], ◌∷◌, ◌++◌, append-nil, length, take, drop, replicate, length-drop}
use Rattle.prelude.proofs.Basics.{length-take, take_all, take-length, eq-eqb, eqb-true, ne_eqb, Ok, Err}
use Rattle.protocol.specs.Reason as Reason
use Rattle.message.specs.Head.{HeadResult, length_bytes, head_of}
use Rattle.session.specs.Lists.{All}
use Rattle.session.proofs.SumLaws.{all_append}
use Rattle.streams.specs.declared.Reader.{Reader}
use Rattle.streams.specs.declared.NextFrame.{NextFrame}
use Rattle.streams.specs.Reader.{Push, stands_first, bad_first, start_over, is_part, part, held, push_of, next_of}
use Rattle.streams.specs.ReaderRules.{kept, frame_at, Pushes, Hands, HandsNone, Whole}
use Rattle.streams.specs.Reading.{Operation, push, next_frame, restart, Reading, left, pushed_by, handed_by, operate}
use Rattle.streams.specs.Reading.{operated, from_start, reading}
use Rattle.streams.specs.Stream.{joined, Stream, stream, less_dropped}
use Rattle.streams.specs.Arrivals.{Always, Conserved, HandsOutFrames, Drained, ReadInOrder, goes_on, Refuses}
use Rattle.streams.specs.Arrivals.{Stays, StaysBad, StartsEmpty, Drains, Offered, FramesArrive}
use Rattle.streams.proofs.HeldLaws.{stands_kept, pushes_behind, hands_first}
use Rattle.streams.proofs.FrontLaws.{frame_told, refused_some, refused_none, bad_told, bad_known, refusal}
use Rattle.streams.proofs.FrontLaws.{whole_told, kept_both, nothing_kept}
use Rattle.streams.proofs.StreamLaws.{Holds, holds_as, joined_holds, more_comes, one_out, four_left, stream_is}
use Rattle.streams.proofs.StreamLaws.{whole_stream, dropped_alike, behind_alike}

-- ---- nothing is held from the beginning

nothing_held : (store : List ℕ) → held store start_over ≡ []
unfolding held
nothing_held store = go (is_part (length store) start_over)
  where
    go : (b : Bool) → part store (cond b start_over start_over) ≡ []
    go true = refl
    go false = refl

pub starts_empty : StartsEmpty
unfolding operated operate
starts_empty x = nothing_held x.store

-- ---- the invariant

pub record Sound (x : Reading) : Type 0 where
  pub holds : Holds x.frames (left x) x.taken
  pub before : All Whole x.earlier

none_yet : (store : List ℕ) → Holds [] (held store start_over) []
unfolding joined All
none_yet store = holds_as refl (sym (nothing_held store)) refl (joined_holds [] [] tt nothing_kept)

-- ---- one push

-- behind a bad length nothing is taken
none_taken : (r : Reader) (arrival store : List ℕ) (after : Push) → Pushes r arrival store after →
    bad_first (held store r) ≡ true →
    ◌≡◌ {A = ℕ} after.answer.count 0
none_taken r arrival store after p t = rw t at p.count

module _ (x : Reading) (arrival : List ℕ) (after : Push) (p : Pushes x.reader arrival x.store after) where
  no_bytes : bad_first (left x) ≡ true → take after.answer.count arrival ≡ []
  no_bytes t = ap (λ (n : ℕ). take n arrival) (none_taken x.reader arrival x.store after p t)

  pushed-sound : Sound x → Sound (pushed_by x arrival after)
  pushed-sound s =
      record {
        holds =
            holds_as refl (sym p.bytes) refl (more_comes s.holds (take after.answer.count arrival) no_bytes);
        before = s.before;
      }

  -- and what is held stays
  none-pushed : kept (left x) ≡ left x → bad_first (left x) ≡ true → left (pushed_by x arrival after) ≡ left x
  none-pushed k t =
      p.bytes ∙ ap (λ (a : List ℕ). kept (left x ++ a)) (no_bytes t) ∙ ap kept (append-nil (left x)) ∙ k

-- ---- one next_frame

frame_added : (x : Reading) (next : NextFrame) → next.reason ≡ Reason.accepted →
    (handed_by x next).frames ≡ x.frames ++ (frame_at x.store next ∷ [])
frame_added x next e =
    ap (λ (b : Bool). cond b (x.frames ++ (frame_at x.store next ∷ [])) x.frames)
    (eq-eqb next.reason Reason.accepted e)

none_added : (x : Reading) (next : NextFrame) → (next.reason ≡ Reason.accepted → ⊥) →
    (handed_by x next).frames ≡ x.frames
none_added x next e =
    ap (λ (b : Bool). cond b (x.frames ++ (frame_at x.store next ∷ [])) x.frames)
    (ne_eqb next.reason Reason.accepted e)

handed_sound : (x : Reading) (next : NextFrame) (h : HeadResult) → head_of (left x) ≡ h →
    Hands x.reader x.store next h → Sound x →
    Sound (handed_by x next)
handed_sound x next (Ok head) e p s =
    record {
      holds =
          holds_as (ap (λ (f : List ℕ). x.frames ++ (f ∷ [])) (sym p.frame) ∙ sym (frame_added x next p.reason))
          (sym p.left) refl (one_out s.holds e);
      before = s.before;
    }
handed_sound x next (Err reason) e p s =
    record {
      holds =
          holds_as (sym (none_added x next (λ z. refused_some (left x) e (sym p.reason ∙ z))))
          (sym (p.left ∙ s.holds.settled)) refl s.holds;
      before = s.before;
    }

-- ---- what a reading came to

abbrev answer : Reading → Stream
answer x = record { frames = x.frames; left = left x }

parts : {s r : Stream} → s ≡ r → (s.frames ≡ r.frames) × (s.left ≡ r.left)
parts e = (ap (λ (x : Stream). x.frames) e, ap (λ (x : Stream). x.left) e)

pub offered_all : (bytes : List ℕ) (x : Reading) → x.taken ≡ bytes → Offered bytes x
offered_all bytes x e =
    record { count = length bytes; first = e ∙ sym (take-length bytes); all = inl (omega arith) }

offered_answer : (bytes : List ℕ) (x : Reading) → Offered bytes x → stream x.taken ≡ answer x →
    answer x ≡ stream bytes
offered_answer bytes x o e =
    ⊎_elim (λ h. sym e ∙ ap stream (o.first ∙ take_all o.count bytes h))
    (λ bad.
    let f : answer x ≡ stream (take o.count bytes) = sym e ∙ ap stream o.first in
    f ∙ behind_alike o.count bytes (sym (ap bad_first (parts f).1) ∙ bad)) o.all

-- ---- a bad length that stands first

record Stuck (x : Reading) : Type 0 where
  settled : kept (left x) ≡ left x
  bad : bad_first (left x) ≡ true

record Unmoved (x y : Reading) : Type 0 where
  taken : y.taken ≡ x.taken
  frames : y.frames ≡ x.frames
  rest : left y ≡ left x

stuck_on : {x y : Reading} → Unmoved x y → Stuck x → Stuck y
stuck_on u s = record { settled = ap kept u.rest ∙ s.settled ∙ sym u.rest; bad = ap bad_first u.rest ∙ s.bad }

stays_on : {x y z : Reading} → Unmoved x y → Stays y z → Stays x z
stays_on u s =
    record {
      refuses = s.refuses;
      taken = s.taken ∙ u.taken;
      frames = s.frames ∙ u.frames;
      rest = s.rest ∙ u.rest;
    }

-- ---- a list of operations

operate_sound : (o : Operation) (x : Reading) → Sound x → Sound (operate o x)
unfolding operate
operate_sound (push arrival) x s =
    pushed-sound x arrival (push_of x.reader arrival x.store) (pushes_behind x.reader arrival x.store) s
operate_sound next_frame x s =
    handed_sound x (next_of x.reader x.store) (head_of (left x)) refl (hands_first x.reader x.store) s
operate_sound restart x s =
    record {
      holds = none_yet x.store;
      before = all_append Whole x.earlier x.frames s.before s.holds.whole;
    }

operated_sound : (os : List Operation) (x : Reading) → Sound x → Sound (operated os x)
unfolding operated
operated_sound [] x s = s
operated_sound (o ∷ os) x s = operated_sound os (operate o x) (operate_sound o x s)

pub reading_sound : Always Sound
unfolding All
reading_sound store os = operated_sound os (from_start store) (record { holds = none_yet store; before = tt })

pub conserved : Conserved
conserved store os =
    let h = (reading_sound store os).holds in
    record { dropped = h.dropped; all = h.all; only_behind = h.only_behind; four = four_left h }

pub hands_out_frames : HandsOutFrames
hands_out_frames store os =
    let x = reading store os in
    let s = reading_sound store os in
    all_append Whole x.earlier x.frames s.before s.holds.whole

-- what the bytes taken come to
comes_to : Always (λ x. Drained x → stream x.taken ≡ answer x)
comes_to store os = stream_is (reading_sound store os).holds

pub read_in_order : ReadInOrder
read_in_order store os none =
    let e = parts (sym (comes_to store os none)) in
    record { frames = e.0; rest = e.1 }

abbrev pub ReadAlike : Reading → Reading → Type 0
ReadAlike x y = (x.frames ≡ y.frames) × (left x ≡ left y)

pub divided : Always
    (λ x. Always (λ y. less_dropped x.taken ≡ less_dropped y.taken → Drained x → Drained y → ReadAlike x y))
divided store os store' os' same none none' =
    parts
    (sym (comes_to store os none)
    ∙ sym (dropped_alike (reading store os).taken)
    ∙ ap stream same
    ∙ dropped_alike (reading store' os').taken
    ∙ comes_to store' os' none')

offered_to : (bytes : List ℕ) → Always (λ x. Offered bytes x → Drained x → answer x ≡ stream bytes)
offered_to bytes store os o none = offered_answer bytes (reading store os) o (comes_to store os none)

pub offered : (bytes : List ℕ) →
    Always (λ x. Always (λ y. Offered bytes x → Offered bytes y → Drained x → Drained y → ReadAlike x y))
offered bytes store os store' os' o o' none none' =
    parts (offered_to bytes store os o none ∙ sym (offered_to bytes store' os' o' none'))

pub frames_arrive : FramesArrive
frames_arrive fs w store os o none = parts (offered_to (joined fs) store os o none ∙ whole_stream fs w)

module _ (x : Reading) (s : Stuck x) where
  none-handed : HandsNone x.reader x.store Reason.bad_length (next_of x.reader x.store)
  none-handed = rw (bad_known (left x) (bad_told (left x) s.bad)) at (hands_first x.reader x.store)

  push-unmoved : (arrival : List ℕ) → Unmoved x (operate (push arrival) x)
  unfolding operate
  push-unmoved arrival =
      let after = push_of x.reader arrival x.store in
      let p = pushes_behind x.reader arrival x.store in
      record {
        taken = ap (λ (a : List ℕ). x.taken ++ a) (no_bytes x arrival after p s.bad) ∙ append-nil x.taken;
        frames = refl;
        rest = none-pushed x arrival after p s.settled s.bad;
      }

  next-unmoved : Unmoved x (operate next_frame x)
  unfolding operate
  next-unmoved =
      record {
        taken = refl;
        frames = none_added x (next_of x.reader x.store) (λ z. omega (arith, none-handed.reason));
        rest = none-handed.left ∙ s.settled;
      }

  refuses : Refuses x
  refuses =
      record {
        push = λ arrival.
            let p = pushes_behind x.reader arrival x.store in
            p.reason
            ∙ ap stands_first (none-pushed x arrival (push_of x.reader arrival x.store) p s.settled s.bad)
            ∙ eqb-true (stands_first (left x)) Reason.bad_length s.bad;
        count = λ arrival.
            none_taken x.reader arrival x.store (push_of x.reader arrival x.store)
            (pushes_behind x.reader arrival x.store) s.bad;
        next = none-handed.reason;
      }

stays : (os : List Operation) → goes_on os ≡ true → (x : Reading) → Stuck x → Stays x (operated os x)
unfolding operated
stays [] g x s = record { refuses = refuses x s; taken = refl; frames = refl; rest = refl }
stays (push arrival ∷ os) g x s =
    let u = push-unmoved x s arrival in
    stays_on u (stays os g (operate (push arrival) x) (stuck_on u s))
stays (next_frame ∷ os) g x s =
    let u = next-unmoved x s in
    stays_on u (stays os g (operate next_frame x) (stuck_on u s))
stays (restart ∷ os) g x s = absurd (let z : ◌≡◌ {A = ℕ} 0 1 = cc in omega arith)

pub stays_bad : StaysBad
stays_bad store os bad more g =
    stays more g (reading store os) (record { settled = (reading_sound store os).holds.settled; bad = bad })

-- ---- hand-outs come to an end

kept_short : (b : List ℕ) → length (kept b) ≤ length b
kept_short b =
    kept_both (λ l. length l ≤ length b) b (λ _. omega (arith, length-take length_bytes b)) (λ _. omega arith)

stays_drained : (n : ℕ) (x : Reading) → Drained x → Drained (operated (replicate n next_frame) x)
unfolding operated operate
stays_drained zero x none = none
stays_drained (suc n) x none =
    stays_drained n (operate next_frame x) (λ z. none (stands_kept (left x) ∙ ap stands_first (sym same.left) ∙ z))
  where
    same : HandsNone x.reader x.store (stands_first (left x)) (next_of x.reader x.store)
    same =
        let f = refusal (left x) none in
        rw f.1.1 (rw f.1.0 at (hands_first x.reader x.store))

-- a hand-out leaves no frame, or fewer bytes
drains_on : (n : ℕ) (x : Reading) → length (left x) ≤ suc n → (t : HeadResult) → head_of (left x) ≡ t →
    Hands x.reader x.store (next_of x.reader x.store) t →
    (length (left (operate next_frame x)) ≤ n → Drained (operated (replicate n next_frame) (operate next_frame x))) →
    Drained (operated (replicate (suc n) next_frame) x)
unfolding operated operate
drains_on n x h (Ok head) e p again =
    let end = head.end in
    let s = frame_told (left x) e in
    again (omega (arith, ap length p.left, kept_short (drop end (left x)), length-drop end (left x), s.ends))
drains_on n x h (Err reason) e p again = stays_drained (suc n) x (refused_none (left x) e)

drains_in : (n : ℕ) (x : Reading) → length (left x) ≤ n → Drained (operated (replicate n next_frame) x)
unfolding operated
drains_in zero x h = λ z. omega (arith, (whole_told (left x) z).known)
drains_in (suc n) x h =
    drains_on n x h (head_of (left x)) refl (hands_first x.reader x.store) (drains_in n (operate next_frame x))

pub drains : Drains
drains x = drains_in (length (left x)) x (omega arith)
