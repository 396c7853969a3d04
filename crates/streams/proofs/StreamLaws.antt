-- Bytes come to one list of whole frames and one rest: frames that stand one behind the other are found again, each by
-- its own length. Assumes nothing.
use Rattle.prelude.proofs.Basics.{ℕ, zero, suc, ◌≤◌, arith, Bool, true, false, ◌≡◌, refl, sym, ap, ap₂, ◌∙◌, List, []}
use Rattle.prelude.proofs.Basics.{◌∷◌, ◌++◌, append-nil, append_assoc, length, take, drop, length-append, length-drop}
use Rattle.prelude.proofs.Basics.{length-take, take-append-drop, take-append-le, eqb-true, Ok, Err}
use mathlib.Core.Path.{subst₃}
use lib.Seq.{take-append_seam, drop-append_seam}
use Rattle.protocol.specs.Reason as Reason
use Rattle.message.specs.Head.{HeadResult, framed, length_bytes, head_of}
use Rattle.session.specs.Lists.{All}
use Rattle.session.proofs.SumLaws.{all_append}
use Rattle.streams.specs.Reader.{stands_first, bad_first}
use Rattle.streams.specs.ReaderRules.{kept, Whole}
use Rattle.streams.specs.Stream.{joined, Stream, also, stream_by, stream_from, stream, less_dropped}
use Rattle.streams.proofs.FrontLaws.{frame_told, refusal, bad_told, whole_told, refused_none, frame_good}
use Rattle.streams.proofs.FrontLaws.{frame_more, frame_whole, bad_more, bad_four, kept_bad, unkept, unkept_good}
use Rattle.streams.proofs.FrontLaws.{kept_all, kept_both, first_kept, kept_kept, nothing_first, nothing_kept}

-- ---- lists

pub all_one : {A : Type 0} (P : A → Type 0) {x : A} → P x → All P (x ∷ [])
unfolding All
all_one P h = (h, tt)

joined_more : (fs : List (List ℕ)) (f : List ℕ) → joined (fs ++ (f ∷ [])) ≡ joined fs ++ f
unfolding joined
joined_more [] f = append-nil f
joined_more (g ∷ fs) f = ap (λ (l : List ℕ). g ++ l) (joined_more fs f) ∙ sym (append_assoc g (joined fs) f)

-- a frame has bytes
enough : (fs : List (List ℕ)) → All Whole fs → length fs ≤ length (joined fs)
unfolding joined All
enough [] w = omega arith
enough (f ∷ fs) w = omega (arith, length-append f (joined fs), (frame_told f w.0).ends, enough fs w.1)

-- ---- whole frames, then bytes left, then bytes dropped behind a bad length

pub record Holds (fs : List (List ℕ)) (l t : List ℕ) : Type 0 where
  pub dropped : List ℕ
  pub all : joined fs ++ l ++ dropped ≡ t
  pub only_behind : bad_first l ≡ false → dropped ≡ []
  pub settled : kept l ≡ l
  pub whole : All Whole fs

pub holds_as : {fs gs : List (List ℕ)} {l m t u : List ℕ} → fs ≡ gs → l ≡ m → t ≡ u → Holds fs l t → Holds gs m u
holds_as = subst₃ Holds

-- nothing is dropped
pub joined_holds : (fs : List (List ℕ)) (l : List ℕ) → All Whole fs → kept l ≡ l → Holds fs l (joined fs ++ l)
joined_holds fs l w k =
    record { dropped = []; all = append-nil (joined fs ++ l); only_behind = λ _. refl; settled = k; whole = w }

-- of the bytes behind the frames some are dropped
kept_holds : {fs : List (List ℕ)} {t : List ℕ} (b : List ℕ) → All Whole fs → joined fs ++ b ≡ t → Holds fs (kept b) t
kept_holds {fs} b w e =
    record {
      dropped = unkept b;
      all = append_assoc (joined fs) (kept b) (unkept b) ∙ ap (λ (l : List ℕ). joined fs ++ l) (kept_all b) ∙ e;
      only_behind = λ z. unkept_good b (sym (first_kept b) ∙ z);
      settled = kept_kept b;
      whole = w;
    }

module _ {fs : List (List ℕ)} {l t : List ℕ} (h : Holds fs l t) where
  good-all : bad_first l ≡ false → joined fs ++ l ≡ t
  good-all e =
      sym (append-nil (joined fs ++ l)) ∙ ap (λ (d : List ℕ). joined fs ++ l ++ d) (sym (h.only_behind e)) ∙ h.all

  -- more bytes come, none of them behind a bad length
  pub more_comes : (a : List ℕ) → (bad_first l ≡ true → a ≡ []) → Holds fs (kept (l ++ a)) (t ++ a)
  more_comes a none = go (bad_first l) refl
    where
      go : (b : Bool) → bad_first l ≡ b → Holds fs (kept (l ++ a)) (t ++ a)
      go true e =
          holds_as refl (sym (ap (λ (z : List ℕ). kept (l ++ z)) (none e) ∙ ap kept (append-nil l) ∙ h.settled))
          (sym (ap (λ (z : List ℕ). t ++ z) (none e) ∙ append-nil t)) h
      go false e =
          kept_holds (l ++ a) h.whole (sym (append_assoc (joined fs) l a) ∙ ap (λ (z : List ℕ). z ++ a) (good-all e))

  -- whatever stands behind a bad length is dropped
  pub more_dropped : (a : List ℕ) → bad_first l ≡ true → Holds fs l (t ++ a)
  more_dropped a bad =
      record {
        dropped = h.dropped ++ a;
        all = sym (append_assoc (joined fs ++ l) h.dropped a) ∙ ap (λ (z : List ℕ). z ++ a) h.all;
        only_behind = λ e. absurd (let z : true ≡ false = sym bad ∙ e in let y : ◌≡◌ {A = ℕ} 0 1 = cc in omega arith);
        settled = h.settled;
        whole = h.whole;
      }

  -- the frame that stands first is handed out
  pub one_out : {kind end : ℕ} → head_of l ≡ framed kind end → Holds (fs ++ (take end l ∷ [])) (kept (drop end l)) t
  one_out {kind} {end} e =
      kept_holds (drop end l) (all_append Whole fs (take end l ∷ []) h.whole (all_one Whole (frame_whole l e)))
      (ap (λ (z : List ℕ). z ++ drop end l) (joined_more fs (take end l))
      ∙ append_assoc (joined fs) (take end l) (drop end l)
      ∙ ap (λ (z : List ℕ). joined fs ++ z) (take-append-drop end l)
      ∙ good-all (frame_good l e))

  -- of a bad length that stands first the four bytes are left
  pub four_left : bad_first l ≡ true → length l ≡ length_bytes
  four_left e =
      omega (arith, (bad_told l e).known, ap length (sym (kept_bad l e) ∙ h.settled), length-take length_bytes l)

-- ---- they are what the bytes come to

none_first : (n : ℕ) (b : List ℕ) → (stands_first b ≡ Reason.accepted → ⊥) →
    stream_from n b ≡ record { frames = []; left = kept b }
unfolding stream_from
none_first zero b none = refl
none_first (suc n) b none = ap (stream_by (stream_from n) b) (refusal b none).1.0

frames_first : (fs : List (List ℕ)) (n : ℕ) → All Whole fs → length fs ≤ n → (b : List ℕ) →
    (stands_first b ≡ Reason.accepted → ⊥) →
    stream_from n (joined fs ++ b) ≡ record { frames = fs; left = kept b }
unfolding joined stream_from All
frames_first [] n w h b none = none_first n b none
frames_first (f ∷ fs) zero w h b none = absurd (omega arith)
frames_first (f ∷ fs) (suc n) w h b none =
    let r = joined fs ++ b in
    ap (stream_from (suc n)) (append_assoc f (joined fs) b)
    ∙ ap (stream_by (stream_from n) (f ++ r)) (frame_more f r w.0)
    ∙ ap₂ (λ (x y : List ℕ). also x (stream_from n y)) (take-append_seam f r) (drop-append_seam f r)
    ∙ ap (also f) (frames_first fs n w.1 (omega arith) b none)

-- with what is dropped behind it, what is left is settled
record Rests (l d : List ℕ) : Type 0 where
  none : stands_first (l ++ d) ≡ Reason.accepted → ⊥
  same : kept (l ++ d) ≡ l

module _ {fs : List (List ℕ)} {l t : List ℕ} (h : Holds fs l t) (none : stands_first l ≡ Reason.accepted → ⊥) where
  rests : Rests l h.dropped
  rests = go (bad_first l) refl
    where
      go : (b : Bool) → bad_first l ≡ b → Rests l h.dropped
      go true e =
          let more = bad_more l h.dropped e in
          record {
            none = λ z. omega (arith, eqb-true (stands_first (l ++ h.dropped)) Reason.bad_length more);
            same =
                kept_bad (l ++ h.dropped) more
                ∙ take-append-le length_bytes l h.dropped (bad_told l e).known
                ∙ sym (kept_bad l e)
                ∙ h.settled;
          }
      go false e =
          let same : l ++ h.dropped ≡ l = ap (λ (d : List ℕ). l ++ d) (h.only_behind e) ∙ append-nil l in
          record { none = λ z. none (sym (ap stands_first same) ∙ z); same = ap kept same ∙ h.settled }

  pub stream_is : stream t ≡ record { frames = fs; left = l }
  stream_is =
      let b = l ++ h.dropped in
      let e : joined fs ++ b ≡ t = sym (append_assoc (joined fs) l h.dropped) ∙ h.all in
      ap stream (sym e)
      ∙ frames_first fs (length (joined fs ++ b)) h.whole
      (omega (arith, enough fs h.whole, length-append (joined fs) b)) b
      rests.none
      ∙ ap (λ (z : List ℕ). record { frames = fs; left = z }) rests.same

-- whole frames and nothing else
pub whole_stream : (fs : List (List ℕ)) → All Whole fs → stream (joined fs) ≡ record { frames = fs; left = [] }
whole_stream fs w =
    ap stream (sym (append-nil (joined fs)))
    ∙ stream_is (joined_holds fs [] w nothing_kept) (λ z. omega (arith, nothing_first))

-- ---- all bytes come to something

-- the frames, what is left and what is dropped are the bytes, and no frame is left
pub record Found (x : Stream) (t : List ℕ) : Type 0 where
  pub holds : Holds x.frames x.left t
  pub none : stands_first x.left ≡ Reason.accepted → ⊥

none_found : (b : List ℕ) → (stands_first b ≡ Reason.accepted → ⊥) → Found (record { frames = []; left = kept b }) b
unfolding joined All
none_found b none =
    record {
      holds = kept_holds b tt refl;
      none =
          kept_both (λ l. stands_first l ≡ Reason.accepted → ⊥) b
          (λ e z. omega (arith, eqb-true (stands_first (take length_bytes b)) Reason.bad_length (bad_four b e)))
          (λ _. none);
    }

also_found : (f : List ℕ) {x : Stream} {t t' : List ℕ} → Whole f → f ++ t ≡ t' → Found x t → Found (also f x) t'
unfolding joined All
also_found f {x} w e g =
    let h = g.holds in
    record {
      holds =
          record {
            dropped = h.dropped;
            all =
                append_assoc (f ++ joined x.frames) x.left h.dropped
                ∙ append_assoc f (joined x.frames) (x.left ++ h.dropped)
                ∙ ap (λ (l : List ℕ). f ++ l) (sym (append_assoc (joined x.frames) x.left h.dropped) ∙ h.all)
                ∙ e;
            only_behind = h.only_behind;
            settled = h.settled;
            whole = (w, h.whole);
          };
      none = g.none;
    }

from_found : (n : ℕ) (b : List ℕ) → length b ≤ n → Found (stream_from n b) b
unfolding stream_from
from_found zero b h = none_found b (λ z. omega (arith, whole_told b z))
from_found (suc n) b h = go (head_of b) refl (λ end. from_found n (drop end b))
  where
    go : (x : HeadResult) → head_of b ≡ x →
        ((end : ℕ) → length (drop end b) ≤ n → Found (stream_from n (drop end b)) (drop end b)) →
        Found (stream_by (stream_from n) b x) b
    go (Ok head) e on =
        let end = head.end in
        also_found (take end b) (frame_whole b e) (take-append-drop end b)
        (on end (omega (arith, length-drop end b, (frame_told b e).ends)))
    go (Err reason) e on = none_found b (refused_none b e)

pub stream_found : (b : List ℕ) → Found (stream b) b
stream_found b = from_found (length b) b (omega arith)

-- ---- what makes no difference

-- bytes dropped
pub dropped_alike : (b : List ℕ) → stream (less_dropped b) ≡ stream b
dropped_alike b =
    let x = stream b in
    let g = stream_found b in
    stream_is (joined_holds x.frames x.left g.holds.whole g.holds.settled) g.none

-- bytes behind a bad length
pub behind_alike : (n : ℕ) (b : List ℕ) → bad_first (stream (take n b)).left ≡ true → stream (take n b) ≡ stream b
behind_alike n b bad =
    let g = stream_found (take n b) in
    sym
    (ap stream (sym (take-append-drop n b)) ∙ stream_is (more_dropped g.holds (drop n b) bad) g.none)
