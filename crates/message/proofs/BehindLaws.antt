-- Bytes behind a frame are not read. Assumes nothing.
use Rattle.prelude.proofs.Basics.{ℕ, zero, suc, ◌+◌, ◌*◌, ◌≤◌, ◌<◌, arith, Bool, true, false, ◌≡◌, refl, sym, ap, ap₂}
use Rattle.prelude.proofs.Basics.{◌∙◌, List, ◌++◌, length, get_or, take, drop, List·getD-append, length-append}
use Rattle.prelude.proofs.Basics.{length-drop, drop-append-le, take-append-le, eqb, leb, ltb, eqb-false, le-leb}
use Rattle.prelude.proofs.Basics.{le-ltb, leb-true, ltb-false, Ok, Err}
use Rattle.protocol.specs.Reason as Reason
use Rattle.protocol.specs.declared.reason.Reason.TheVariants as Declared
use Rattle.message.proofs.Names.{little, nth_argument, length_bytes, max_length, length_of, head_of, args_of, payload}
use Rattle.message.proofs.Names.{frame_in, of_head, frame_of, reason_of, used_of, part_of, chosen_part, argument_in}
use Rattle.message.proofs.Names.{PartsInside, HeadResult, Frame}
use Rattle.message.specs.Frame.{body_in}
use Rattle.message.specs.UnreadRules.{BehindUnread}
use Rattle.message.proofs.WithinLaws.{frame_within}
use Rattle.message.proofs.UsedLaws.{lies_in_frame}

-- ---- the head

little_same : (k : ℕ) (s t : List ℕ) (at : ℕ) → ((i : ℕ) → i < at + k → get_or t i 0 ≡ get_or s i 0) →
    little k t at ≡ little k s at
unfolding little
little_same zero s t at h = refl
little_same (suc k) s t at h =
    ap₂ (λ (x y : ℕ). x + 256 * y) (h at (omega arith)) (little_same k s t (at + 1) (λ i l. h i (omega arith)))

-- no fewer bytes, the same up to the payload: the same head, if s has it
pub head_same : (s t : List ℕ) → length s ≤ length t →
    ((i : ℕ) → i < payload → i < length s → get_or t i 0 ≡ get_or s i 0) →
    (head_of s ≡ Err Declared.NotAllThere → ⊥) → head_of t ≡ head_of s
head_same s t more same some = go (leb length_bytes (length s)) refl
  where
    known : length_bytes ≤ length s → length_of t ≡ length_of s
    known h = little_same length_bytes s t 0 (λ i l. same i (omega arith) (omega arith))

    there : length_bytes ≤ length s → (a : Bool) → eqb (length_of s) 0 ≡ a → (b : Bool) →
        ltb max_length (length_of s) ≡ b → (c : Bool) → ltb (length s) (length_bytes + length_of s) ≡ c →
        head_of t ≡ head_of s
    there h true e b f c g =
        rw (known h, le-leb length_bytes (length s) h, le-leb length_bytes (length t) (omega arith), e)
    there h false e true f c g =
        rw (known h, le-leb length_bytes (length s) h, le-leb length_bytes (length t) (omega arith), e, f)
    there h false e false f true g = absurd (some (rw (le-leb length_bytes (length s) h, e, f, g)))
    there h false e false f false g =
        let l = ltb-false (length s) (length_bytes + length_of s) g in
        let z = eqb-false (length_of s) 0 e in
        rw (
          known h,
          le-leb length_bytes (length s) h,
          le-leb length_bytes (length t) (omega arith),
          e,
          f,
          g,
          le-ltb (length t) (length_bytes + length_of s) (omega arith),
          same length_bytes (omega arith) (omega arith),
        )

    go : (b : Bool) → leb length_bytes (length s) ≡ b → head_of t ≡ head_of s
    go true e =
        there (leb-true length_bytes (length s) e) (eqb (length_of s) 0) refl (ltb max_length (length_of s)) refl
        (ltb (length s) (length_bytes + length_of s)) refl
    go false e = absurd (some (rw e))

-- ---- the frame

frame_some : (s : List ℕ) → (reason_of (frame_of s) ≡ Reason.not_all_there → ⊥) →
    head_of s ≡ Err Declared.NotAllThere → ⊥
unfolding frame_of
frame_some s some e = some (rw e)

module _ (s behind : List ℕ) where
  head-behind : (h : HeadResult) → head_of s ≡ h → of_head (s ++ behind) h ≡ of_head s h
  head-behind (Ok h) e =
      ap (λ (l : List ℕ). frame_in l h.kind) (take-append-le h.end s behind (frame_within s (sym e)))
  head-behind (Err reason) e = refl

  frame_behind : (reason_of (frame_of s) ≡ Reason.not_all_there → ⊥) → frame_of (s ++ behind) ≡ frame_of s
  unfolding frame_of
  frame_behind some =
      ap (of_head (s ++ behind))
      (head_same s (s ++ behind) (omega (arith, length-append s behind)) (λ i _ h. List·getD-append s behind 0 i h)
      (frame_some s some))
      ∙ head-behind (head_of s) refl

  argument-behind : (index : ℕ) (x : Frame) → PartsInside x → used_of x ≤ length s →
      argument_in (s ++ behind) index x ≡ argument_in s index x
  argument-behind index Frame.NotAllThere w h = refl
  argument-behind index Frame.BadLength w h = refl
  argument-behind index (Frame.UnknownType used) w h = refl
  argument-behind index (Frame.BadPayload used kind) w h = refl
  argument-behind index (Frame.BodyTwice used kind) w h = refl
  argument-behind index (Frame.Good used q) w h =
      ap (λ (l : List ℕ). nth_argument l (args_of q).start index)
      (take-append-le (args_of q).end s behind (omega (arith, w.args)))

pub behind_unread : BehindUnread
behind_unread s behind some =
    let e = frame_behind s behind some in
    let w = lies_in_frame s in
    let p = chosen_part s in
    record {
      frame = e;
      body =
          ap (λ (x : Frame). body_in (s ++ behind) (part_of x)) e
          ∙ ap (take p.len) (drop-append-le p.start s behind (omega (arith, w.used, w.body)))
          ∙ take-append-le p.len (drop p.start s) behind
          (omega (arith, w.used, w.body, length-drop p.start s));
      argument = λ index.
          ap (argument_in (s ++ behind) index) e ∙ argument-behind s behind index (frame_of s) w.parts w.used;
    }
