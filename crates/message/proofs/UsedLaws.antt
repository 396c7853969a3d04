-- A whole frame is used to its last byte, and is not refused 1 or 2: every reader answers with the frame's length, be
-- its type unknown, its payload bad or good. What the frame holds lies in these bytes. Assumes nothing.
use Rattle.prelude.proofs.Basics.{ℕ, ◌+◌, ◌≤◌, arith, Bool, false, ◌||◌, ◌≡◌, refl, sym, ◌∙◌, List, [], Ok, Err}
use Rattle.prelude.proofs.Basics.{length, take, length-take, length-take-le, eqb, both}
use Rattle.protocol.specs.Reason as Reason
use Rattle.scalar.specs.declared.argument.Argument.TheVariants as Va
use Rattle.args.specs.WithinRules.{EndsBy}
use Rattle.args.proofs.ArgumentsLaws.{nth_within}
use Rattle.args.proofs.WithinLaws.{ends_later}
use Rattle.message.proofs.Names.{Part, nth_argument, head_of, args_of, frame_in, of_head, frame_of, reason_of, used_of}
use Rattle.message.proofs.Names.{part_of, chosen_part, argument_in, PartsInside, HeadResult, framed, Frame}
use Rattle.message.specs.Frame.{body_in}
use Rattle.message.specs.WithinRules.{LiesInFrame}
use Rattle.message.specs.TwiceRules.{TwiceRefused}
use Rattle.message.proofs.WithinLaws.{every_frame, frame_within}

-- the refusals of a frame that was not read
abbrev unread : ℕ → Bool
unread reason = eqb reason Reason.not_all_there || eqb reason Reason.bad_length

record Whole (n : ℕ) (x : Frame) : Type 0 where
  used : used_of x ≡ n
  read : unread (reason_of x) ≡ false
  parts : PartsInside x

kind_whole : (s : List ℕ) (kind : ℕ) → Whole (length s) (frame_in s kind)
kind_whole s =
    every_frame s (Whole (length s)) (λ kind. record { used = refl; read = refl; parts = tt })
    (λ kind. record { used = refl; read = refl; parts = tt })
    (record { used = refl; read = refl; parts = tt })
    (λ q h. record { used = refl; read = refl; parts = h })

pub uses_all : (s : List ℕ) (kind : ℕ) → used_of (frame_in s kind) ≡ length s
uses_all s kind = (kind_whole s kind).used

-- the frame that a byte string begins with
frame_whole : (s : List ℕ) {kind end : ℕ} → head_of s ≡ framed kind end → Whole (length (take end s)) (frame_of s)
unfolding frame_of
frame_whole s {kind} {end} e = rw e (kind_whole (take end s) kind)

pub whole_used : (s : List ℕ) {kind end : ℕ} → head_of s ≡ framed kind end → end ≡ length s →
    used_of (frame_of s) ≡ length s
whole_used s {kind} {end} e h = omega (arith, (frame_whole s e).used, length-take end s)

pub whole_read : (s : List ℕ) {kind end : ℕ} → head_of s ≡ framed kind end →
    (eqb (reason_of (frame_of s)) Reason.not_all_there || eqb (reason_of (frame_of s)) Reason.bad_length) ≡ false
whole_read s e = (frame_whole s e).read

-- ---- what lies in the frame

-- the used bytes of a frame that is read from n, and its parts
record Held (n : ℕ) (x : Frame) : Type 0 where
  there : used_of x ≤ n
  parts : PartsInside x

head_held : (s : List ℕ) (h : HeadResult) → Held (length s) (of_head s h)
head_held s (Ok h) =
    let w = kind_whole (take h.end s) h.kind in
    record { there = omega (arith, w.used, length-take h.end s); parts = w.parts }
head_held s (Err reason) =
    both (Held (length s)) (eqb (Reason.number_of reason) Reason.bad_length) _ _ (λ _. record { there = omega arith; parts = tt })
    (λ _. record { there = omega arith; parts = tt })

frame_held : (s : List ℕ) → Held (length s) (frame_of s)
unfolding frame_of
frame_held s = head_held s (head_of s)

pub read_within : (s : List ℕ) (x : Frame) → x ≡ frame_of s → (used_of x ≤ length s) × PartsInside x
read_within s x e = let h = frame_held s in rw e (h.there, h.parts)

part_inside : (x : Frame) → PartsInside x → (part_of x).start + (part_of x).len ≤ used_of x
part_inside Frame.NotAllThere w = omega arith
part_inside Frame.BadLength w = omega arith
part_inside (Frame.UnknownType used) w = omega arith
part_inside (Frame.BadPayload used kind) w = omega arith
part_inside (Frame.BodyTwice used kind) w = omega arith
part_inside (Frame.Good used q) w = w.body

pub chosen_within : (s : List ℕ) (p : Part) → p ≡ chosen_part s → p.start + p.len ≤ length s
chosen_within s p e =
    let h = frame_held s in
    rw e (omega (arith, h.there, part_inside (frame_of s) h.parts))

argument_inside : (s : List ℕ) (index : ℕ) (x : Frame) → PartsInside x → EndsBy (used_of x) (argument_in s index x)
argument_inside s index Frame.NotAllThere w = tt
argument_inside s index Frame.BadLength w = tt
argument_inside s index (Frame.UnknownType used) w = tt
argument_inside s index (Frame.BadPayload used kind) w = tt
argument_inside s index (Frame.BodyTwice used kind) w = tt
argument_inside s index (Frame.Good used q) w =
    let a = args_of q in
    let cut = take a.end s in
    ends_later (length cut) used (omega (arith, w.args, length-take a.end s)) (nth_argument cut a.start index)
    (nth_within cut a.start index)

pub lies_in_frame : LiesInFrame
lies_in_frame s =
    let h = frame_held s in
    record {
      used = h.there;
      whole = λ kind end e. (frame_whole s e).used ∙ length-take-le end s (frame_within s (sym e));
      body = part_inside (frame_of s) h.parts;
      parts = h.parts;
      argument = λ index. argument_inside s index (frame_of s) h.parts;
    }

-- ---- a body that occurs more than once

twice_empty : (s : List ℕ) (x : Frame) → reason_of x ≡ Reason.body_twice →
    (body_in s (part_of x) ≡ []) × ((index : ℕ) → argument_in s index x ≡ Va.Refused Reason.body_twice)
twice_empty s Frame.NotAllThere e = absurd (omega arith)
twice_empty s Frame.BadLength e = absurd (omega arith)
twice_empty s (Frame.UnknownType used) e = absurd (omega arith)
twice_empty s (Frame.BadPayload used kind) e = absurd (omega arith)
twice_empty s (Frame.BodyTwice used kind) e = (refl, λ index. refl)
twice_empty s (Frame.Good used q) e = absurd (omega arith)

pub twice_refused : TwiceRefused
twice_refused s = twice_empty s (frame_of s)
