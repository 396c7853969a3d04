-- One push and one next_frame, told by the bytes held alone: the held bytes are always a part of the store, and what
-- is written behind them, or moved to the front with them, leaves them as they were. Assumes nothing.
use Rattle.prelude.proofs.Basics.{ℕ, ◌+◌, ◌-◌, ◌≤◌, ◌<◌, arith, Bool, true, false, ◌&&◌, cond, true≢false, ◌≡◌, refl}
use Rattle.prelude.proofs.Basics.{sym, ap, subst, ◌∙◌, ◌⊎◌, inl, inr, ⊎_elim, List, ◌++◌, length, take, drop}
use Rattle.prelude.proofs.Basics.{length-append, length-drop, drop-append-le, drop_at, drop-drop, length-take-le}
use Rattle.prelude.proofs.Basics.{take-add, take_at, take-take, eqb, leb, eq-eqb, eqb-false, eqb-true, le-leb}
use Rattle.prelude.proofs.Basics.{leb-false, leb-true, lt-leb, ne_eqb, both, yes, no, less_or_not, Ok, Err}
use Rattle.protocol.specs.Reason as Reason
use Rattle.message.specs.Head.{HeadResult, length_bytes, head_of, length_of, max_length}
use Rattle.encode.specs.Put.{written}
use Rattle.encode.proofs.PutLaws.{length_written}
use Rattle.streams.specs.declared.Reader.{Reader}
use Rattle.streams.specs.declared.NextFrame.{NextFrame}
use Rattle.streams.specs.Reader.{Push, store_size, stands_first, bad_first, reader, start_over, between, part, is_part}
use Rattle.streams.specs.Reader.{usable, held, settled, taken_count, fits_behind, reader_for, store_for, behind}
use Rattle.streams.specs.Reader.{push_on, push_at, push_of, next_by, next_of}
use Rattle.streams.specs.ReaderRules.{kept, PushesBehind, Hands, HandsFirst, Alike, PushesAlike, HandsAlike}
use Rattle.streams.specs.ReaderRules.{HeldDecides, WholeFirst, BadFirst, WaitsExactly, TakesAll, WaitHasRoom}
use Rattle.streams.proofs.FrontLaws.{first_is, frame_told, frame_known, bad_known, refused_told, whole_told}
use Rattle.streams.proofs.FrontLaws.{bad_told, bad_four, kept_bad, kept_good, kept_both}

-- ---- the bytes from one place up to another

pub length_between : (store : List ℕ) (start end : ℕ) → end ≤ length store →
    length (between store start end) ≡ end - start
length_between store start end h = length-take-le (end - start) (drop start store) (rw length-drop (omega arith))

drop_take : (n m : ℕ) (l : List ℕ) → m ≤ length l → n ≤ m → drop n (take m l) ≡ take (m - n) (drop n l)
drop_take n m l h g =
    let e : m ≡ n + (m - n) = omega arith in
    ap (λ (k : ℕ). drop n (take k l)) e
    ∙ ap (drop n) (take-add n (m - n) l)
    ∙ drop_at (take n l) (take (m - n) (drop n l)) n (length-take-le n l (omega arith))

-- the first n of them left out
pub between_drop : (store : List ℕ) (start end n : ℕ) → end ≤ length store → start + n ≤ end →
    between store (start + n) end ≡ drop n (between store start end)
between_drop store start end n h g =
    let e : end - (start + n) ≡ end - start - n = omega arith in
    ap (λ (k : ℕ). take k (drop (start + n) store)) e
    ∙ ap (take (end - start - n)) (sym (drop-drop n start store))
    ∙ sym (drop_take n (end - start) (drop start store) (rw length-drop (omega arith)) (omega arith))

-- more bytes written behind them
pub between_written : (store : List ℕ) (start end : ℕ) (bytes : List ℕ) → start ≤ end →
    end + length bytes ≤ length store →
    between (written store end bytes) start (end + length bytes) ≡ between store start end ++ bytes
between_written store start end bytes a b =
    let front = take end store in
    let rest = drop (end + length bytes) store in
    let long : length front ≡ end = length-take-le end store (omega arith) in
    let both_long : length (front ++ bytes) ≡ end + length bytes = rw length-append (omega arith) in
    ap (λ (t : Bool). between (cond t (front ++ bytes ++ rest) store) start (end + length bytes))
    (le-leb (end + length bytes) (length store) b)
    ∙ ap (take (end + length bytes - start)) (drop-append-le start (front ++ bytes) rest (omega arith))
    ∙ take_at (drop start (front ++ bytes)) rest (end + length bytes - start) (rw (length-drop, both_long))
    ∙ drop-append-le start front bytes (omega arith)
    ∙ ap (λ (l : List ℕ). l ++ bytes) (drop_take start end store (omega arith) a)

-- ---- which readers are parts of the store

module _ (size : ℕ) (r : Reader) where
  pub is_part_lem : r.start ≤ r.end → r.end ≤ size → is_part size r ≡ true
  is_part_lem a b = rw (le-leb r.start r.end a, le-leb r.end size b)

  pub is_reversed : r.end < r.start → is_part size r ≡ false
  is_reversed a = rw (lt-leb r.start r.end a)

  pub is_past : r.start ≤ r.end → size < r.end → is_part size r ≡ false
  is_past a b = rw (le-leb r.start r.end a, lt-leb r.end size b)

  pub usable_part : is_part size r ≡ true → r ≡ usable size r
  usable_part = yes r start_over

  pub usable_none : is_part size r ≡ false → start_over ≡ usable size r
  usable_none = no r start_over

-- ---- a part of the store is held

pub held_part : (store : List ℕ) (r : Reader) → is_part (length store) r ≡ true → held store r ≡ part store r
unfolding held
held_part store r e = ap (part store) (sym (usable_part (length store) r e))

-- what is used of a reader is always a part
pub record Part (store : List ℕ) (r : Reader) : Type 0 where
  pub ordered : r.start ≤ r.end
  pub within : r.end ≤ length store

parted : (store : List ℕ) (r : Reader) → is_part (length store) r ≡ true → Part store r
parted store r e = go (leb r.start r.end) refl (leb r.end (length store)) refl e
  where
    go : (a : Bool) → leb r.start r.end ≡ a → (b : Bool) → leb r.end (length store) ≡ b → (a && b) ≡ true →
        Part store r
    go true f true g z =
        record { ordered = leb-true r.start r.end f; within = leb-true r.end (length store) g }
    go true f false g z = absurd (let y : ◌≡◌ {A = ℕ} 0 1 = cc in omega arith)
    go false f b g z = absurd (let y : ◌≡◌ {A = ℕ} 0 1 = cc in omega arith)

pub usable_is : (store : List ℕ) (r : Reader) → Part store (usable (length store) r)
usable_is store r =
    both (Part store) (is_part (length store) r) r start_over (parted store r)
    (λ _. record { ordered = omega arith; within = omega arith })

-- ---- a bad length leaves its four bytes

module _ (store : List ℕ) (r : Reader) (p : Part store r) where
  long-part : length (part store r) ≡ r.end - r.start
  long-part = length_between store r.start r.end p.within

  four-there : bad_first (part store r) ≡ true → r.start + length_bytes ≤ r.end
  four-there t = omega (arith, (bad_told (part store r) t).known, long-part, p.ordered)

  pub settled_held : held store (settled store r) ≡ kept (part store r)
  settled_held =
      both (λ q. held store q ≡ kept (part store r)) (bad_first (part store r)) _ _
      (λ t.
      let h = four-there t in
      let e : r.start + length_bytes - r.start ≡ length_bytes = omega arith in
      held_part store (reader r.start (r.start + length_bytes))
      (is_part_lem (length store) (reader r.start (r.start + length_bytes)) (omega arith) (omega (arith, p.within)))
      ∙ ap (λ (k : ℕ). take k (drop r.start store)) e
      ∙ sym (take-take length_bytes (r.end - r.start) (drop r.start store) (omega arith))
      ∙ sym (kept_bad (part store r) t))
      (λ t. held_part store r (is_part_lem (length store) r p.ordered p.within) ∙ sym (kept_good (part store r) t))

-- the number of what stands first is that of what is kept
pub stands_kept : (b : List ℕ) → stands_first b ≡ stands_first (kept b)
stands_kept b =
    kept_both (λ l. stands_first b ≡ stands_first l) b
    (λ t. eqb-true (stands_first b) Reason.bad_length t
    ∙ sym (eqb-true (stands_first (take length_bytes b)) Reason.bad_length (bad_four b t))) (λ _. refl)

-- ---- a push

taken_within : (size : ℕ) (bytes arrival : List ℕ) → taken_count size bytes arrival ≤ length arrival
taken_within size bytes arrival =
    both (λ (n : ℕ). n ≤ length arrival) (bad_first bytes) _ _ (λ _. omega arith) (λ _. omega arith)

taken_fits : (size : ℕ) (bytes arrival : List ℕ) → length bytes ≤ size →
    length bytes + taken_count size bytes arrival ≤ size
taken_fits size bytes arrival h =
    both (λ (n : ℕ). length bytes + n ≤ size) (bad_first bytes) _ _ (λ _. omega arith) (λ _. omega arith)

-- where room was made for n bytes, the bytes held are the same, and n more fit
pub record Made (store : List ℕ) (r : Reader) (n : ℕ) (place : Reader) (after : List ℕ) : Type 0 where
  pub same : part after place ≡ part store r
  pub ordered : place.start ≤ place.end
  pub fits : place.end + n ≤ length after
  pub size : length after ≡ length store

made : (store : List ℕ) (r : Reader) (n : ℕ) → Part store r → length (part store r) + n ≤ length store →
    Made store r n (reader_for store r n) (store_for store r n)
made store r n p h = go (fits_behind store r n) refl
  where
    long : length (part store r) ≡ r.end - r.start
    long = long-part store r p

    go : (b : Bool) → fits_behind store r n ≡ b →
        Made store r n (cond b r (reader 0 (r.end - r.start))) (cond b store (written store 0 (part store r)))
    go true e = record { same = refl; ordered = p.ordered; fits = leb-true (r.end + n) (length store) e; size = refl }
    go false e =
        let whole : 0 + length (part store r) ≡ r.end - r.start = omega (arith, long) in
        record {
          same =
              ap (between (written store 0 (part store r)) 0) (sym whole)
              ∙ between_written store 0 0 (part store r) (omega arith) (omega arith);
          ordered = omega arith;
          fits = omega (arith, length_written store 0 (part store r), long);
          size = length_written store 0 (part store r);
        }

-- what a push comes to: the bytes held, the new ones behind them
pub record Comes (bytes : List ℕ) (count size : ℕ) (x : Push) : Type 0 where
  pub counted : x.answer.count ≡ count
  pub holds : held x.store x.answer.reader ≡ kept bytes
  pub first : x.answer.reason ≡ stands_first bytes
  pub size' : length x.store ≡ size

-- bytes put behind those of a part
put_behind : (store : List ℕ) (r : Reader) (bytes : List ℕ) → r.start ≤ r.end → r.end + length bytes ≤ length store →
    Comes (part store r ++ bytes) (length bytes) (length store) (behind store r bytes)
put_behind store r bytes a b =
    let after = written store r.end bytes in
    let q = reader r.start (r.end + length bytes) in
    let e = between_written store r.start r.end bytes a b in
    let long = length_written store r.end bytes in
    record {
      counted = refl;
      holds = settled_held after q (record { ordered = omega arith; within = omega (arith, long) }) ∙ ap kept e;
      first = ap stands_first e;
      size' = long;
    }

push_comes : (store : List ℕ) (r : Reader) → Part store r → (arrival : List ℕ) (n : ℕ) →
    n ≡ taken_count (length store) (part store r) arrival →
    Comes (part store r ++ take n arrival) n (length store) (push_on store r arrival n)
push_comes store r p arrival n e =
    let in_all : n ≤ length arrival = omega (arith, taken_within (length store) (part store r) arrival) in
    let long = length-take-le n arrival in_all in
    let fits = taken_fits (length store) (part store r) arrival (omega (arith, long-part store r p, p.within)) in
    let m = made store r n p (omega arith) in
    let x = put_behind (store_for store r n) (reader_for store r n) (take n arrival) m.ordered
    (omega (arith, m.fits)) in
    record {
      counted = x.counted ∙ long;
      holds = x.holds ∙ ap (λ (l : List ℕ). kept (l ++ take n arrival)) m.same;
      first = x.first ∙ ap (λ (l : List ℕ). stands_first (l ++ take n arrival)) m.same;
      size' = x.size' ∙ m.size;
    }

pub pushes_behind : PushesBehind
unfolding push_of push_at held
pushes_behind r arrival store =
    let u = usable (length store) r in
    let x = push_comes store u (usable_is store r) arrival (taken_count (length store) (part store u) arrival) refl in
    record {
      count = x.counted;
      bytes = x.holds ∙ ap (λ (k : ℕ). kept (part store u ++ take k arrival)) (sym x.counted);
      reason = x.first ∙ stands_kept _ ∙ ap stands_first (sym x.holds);
      size = x.size';
    }

-- ---- the next frame

hands : (store : List ℕ) (r : Reader) → Part store r → (h : HeadResult) → head_of (part store r) ≡ h → (q : Reader) →
    held store q ≡ part store r →
    Hands q store (next_by store r h) h
hands store r p (Ok head) e q same =
    let end = head.end in
    let s = frame_told (part store r) e in
    let within : r.start + end ≤ r.end = omega (arith, s.ends, s.first.there, long-part store r p, p.ordered) in
    record {
      reason = refl;
      frame = sym (take-take end (r.end - r.start) (drop r.start store) (omega arith)) ∙ ap (take end) (sym same);
      within = omega (arith, p.within);
      len = refl;
      kind = refl;
      left =
          settled_held store (reader (r.start + end) r.end) (record { ordered = within; within = p.within })
          ∙ ap kept (between_drop store r.start r.end end p.within within ∙ ap (drop end) (sym same));
    }
hands store r p (Err reason) e q same =
    record { reason = refl; len = refl; kind = refl; left = settled_held store r p ∙ ap kept (sym same) }

pub hands_first : HandsFirst
unfolding next_of held
hands_first r store =
    hands store (usable (length store) r) (usable_is store r)
    (head_of (part store (usable (length store) r))) refl r refl

-- ---- the bytes held decide

push_alike : (r r' : Reader) (arrival store store' : List ℕ) → Alike r r' store store' →
    PushesAlike (push_of r arrival store) (push_of r' arrival store')
push_alike r r' arrival store store' a =
    let x = pushes_behind r arrival store in
    let y = pushes_behind r' arrival store' in
    let counts =
    x.count
    ∙ ap (λ (n : ℕ). taken_count n (held store r) arrival) a.size
    ∙ ap (λ (b : List ℕ). taken_count (length store') b arrival) a.bytes
    ∙ sym y.count in
    let holds =
    x.bytes
    ∙ ap (λ (b : List ℕ). kept (b ++ take (push_of r arrival store).answer.count arrival)) a.bytes
    ∙ ap (λ (n : ℕ). kept (held store' r' ++ take n arrival)) counts
    ∙ sym y.bytes in
    record {
      count = counts;
      reason = x.reason ∙ ap stands_first holds ∙ sym y.reason;
      after = record { size = x.size ∙ a.size ∙ sym y.size; bytes = holds };
    }

next_alike : (r r' : Reader) (store store' : List ℕ) → Alike r r' store store' → (x y : NextFrame) (h : HeadResult) →
    Hands r store x h → Hands r' store' y h → HandsAlike store store' x y
next_alike r r' store store' a x y (Ok head) f g =
    let end = head.end in
    record {
      reason = f.reason ∙ sym g.reason;
      frame = f.frame ∙ ap (take end) a.bytes ∙ sym g.frame;
      kind = f.kind ∙ sym g.kind;
      after = record {
        size = a.size;
        bytes = f.left ∙ ap (λ (b : List ℕ). kept (drop end b)) a.bytes
            ∙ sym g.left;
      };
    }
next_alike r r' store store' a x y (Err reason) f g =
    record {
      reason = f.reason ∙ sym g.reason;
      frame =
          ap (λ (n : ℕ). take n (drop x.start store)) f.len
          ∙ sym (ap (λ (n : ℕ). take n (drop y.start store')) g.len);
      kind = f.kind ∙ sym g.kind;
      after = record { size = a.size; bytes = f.left ∙ ap kept a.bytes ∙ sym g.left };
    }

pub held_decides : HeldDecides
held_decides =
    record {
      push = push_alike;
      next =
          λ r r' store store' a.
          next_alike r r' store store' a (next_of r store) (next_of r' store') (head_of (held store r))
          (hands_first r store)
          (subst (Hands r' store' (next_of r' store')) (ap head_of (sym a.bytes)) (hands_first r' store'));
    }

-- ---- the three reasons

module _ (b : List ℕ) where
  whole_is : WholeFirst b → stands_first b ≡ Reason.accepted
  whole_is w = first_is b (frame_known b w)

  bad-is : BadFirst b → stands_first b ≡ Reason.bad_length
  bad-is w = first_is b (bad_known b w)

  neither : (h : HeadResult) → head_of b ≡ h → (WholeFirst b → ⊥) → (BadFirst b → ⊥) → stands_first b ≡ Reason.not_all_there
  neither (Ok head) e whole bad = absurd (whole (frame_told b e).first)
  neither (Err reason) e whole bad =
      ⊎_elim (λ z. first_is b e ∙ z) (λ z. absurd (bad ((refused_told b e).bad z))) (refused_told b e).known

pub waits_exactly : WaitsExactly
waits_exactly b =
    record {
      whole = (whole_told b, whole_is b);
      bad = ((λ z. bad_told b (eq-eqb (stands_first b) Reason.bad_length z)), bad-is b);
      wait = (
        (λ z. ((λ w. omega (arith, whole_is b w)), (λ w. omega (arith, bad-is b w)))),
        (λ w. neither b (head_of b) refl w.0 w.1),
      );
    }

-- ---- "wait for more" leaves room

-- bytes as many as a store has begin with a whole frame or a bad length
full_decides : (b : List ℕ) → store_size ≤ length b → (WholeFirst b → ⊥) → (BadFirst b → ⊥) → ⊥
full_decides b long whole bad = go (eqb (length_of b) 0) refl (leb (length_of b) max_length) refl
  where
    there : length_bytes ≤ length b
    there = omega arith

    go : (x : Bool) → eqb (length_of b) 0 ≡ x → (y : Bool) → leb (length_of b) max_length ≡ y → ⊥
    go true g y h = bad (record { known = there; bad = inl (eqb-true (length_of b) 0 g) })
    go false g false h = bad (record { known = there; bad = inr (leb-false (length_of b) max_length h) })
    go false g true h =
        let small = leb-true (length_of b) max_length h in
        whole (record {
          known = there;
          some = omega (arith, eqb-false (length_of b) 0 g);
          small = small;
          there =
              omega arith;
        })

wait_short : (b : List ℕ) → stands_first b ≡ Reason.not_all_there → length b < store_size
wait_short b e = go (leb store_size (length b)) refl
  where
    go : (t : Bool) → leb store_size (length b) ≡ t → length b < store_size
    go false f = leb-false store_size (length b) f
    go true f =
        let w = (waits_exactly b).wait.0 e in
        absurd (full_decides b (leb-true store_size (length b) f) w.0 w.1)

held_fits : (r : Reader) (store : List ℕ) → length (held store r) ≤ length store
unfolding held
held_fits r store =
    let p = usable_is store r in omega (arith, long-part store (usable (length store) r) p, p.within)

ordered_either : {P : Type 0} (a b : ℕ) → (a ≤ b → P) → (b < a → P) → P
ordered_either a b f g = less_or_not b a g f

taken_enough : (size : ℕ) (bytes arrival : List ℕ) → length bytes ≤ size → bad_first bytes ≡ false →
    (taken_count size bytes arrival ≡ length arrival) ⊎ (length bytes + taken_count size bytes arrival ≡ size)
taken_enough size bytes arrival h good =
    both (λ (n : ℕ). (n ≡ length arrival) ⊎ (length bytes + n ≡ size)) (bad_first bytes) _ _
    (λ t. absurd (true≢false (sym t ∙ good)))
    (λ _. ordered_either (length arrival) (size - length bytes) (λ g. inl (omega arith)) (λ g. inr (omega arith)))

pub takes_all : TakesAll
takes_all r arrival store good =
    let e = (pushes_behind r arrival store).count in
    ⊎_elim (λ z. inl (e ∙ z)) (λ z. inr (omega (arith, e)))
    (taken_enough (length store) (held store r) arrival (held_fits r store) good)

pub wait_has_room : WaitHasRoom
wait_has_room r arrival store size e some =
    let b = held store r in
    let good = ne_eqb (stands_first b) Reason.bad_length (λ y. omega (arith, e)) in
    ⊎_elim (λ z. omega arith) (λ z. omega (arith, wait_short b e)) (takes_all r arrival store good)
