-- What a host reads through a message lies in its frame: the chosen body, the stretch of its arguments, and the bytes
-- of each argument (A1, A4, W8).
use Rattle.std.specs.Prelude.{ℕ, ◌+◌, ◌≤◌, ◌≡◌, List, length}
use Rattle.args.specs.WithinRules.{EndsBy}
use Rattle.message.specs.Head.{framed, head_of}
use Rattle.message.specs.Request.{body_of, args_of}
use Rattle.message.specs.Frame.{frame_of, used_of, chosen_part, argument_of}
use Rattle.message.specs.declared.request.Request.{Request}
use Rattle.message.specs.declared.request.Frame.{Frame}
use Rattle.message.specs.declared.request.Frame.TheVariants.{NotAllThere, BadLength, UnknownType, BadPayload}
use Rattle.message.specs.declared.request.Frame.TheVariants.{BodyTwice, Good}

-- a request's body and arguments end within n bytes
pub record Inside (n : ℕ) (q : Request) : Type 0 where
  pub body : (body_of q).start + (body_of q).len ≤ n
  pub stretch : (args_of q).start ≤ (args_of q).end
  pub args : (args_of q).end ≤ n

-- those of a frame that holds a request, within its used bytes
abbrev pub PartsInside : Frame → Type 0
PartsInside NotAllThere = Unit {0}
PartsInside BadLength = Unit {0}
PartsInside (UnknownType used) = Unit {0}
PartsInside (BadPayload used kind) = Unit {0}
PartsInside (BodyTwice used kind) = Unit {0}
PartsInside (Good used q) = Inside used q

pub record LiesIn (s : List ℕ) : Type 0 where
  -- the used bytes are the frame's, and they are there
  pub used : used_of (frame_of s) ≤ length s
  pub whole : (kind end : ℕ) → head_of s ≡ framed kind end → used_of (frame_of s) ≡ end
  pub body : (chosen_part s).start + (chosen_part s).len ≤ used_of (frame_of s)
  pub parts : PartsInside (frame_of s)
  pub argument : (index : ℕ) → EndsBy (used_of (frame_of s)) (argument_of s index)

abbrev pub LiesInFrame : Type 0
LiesInFrame = (s : List ℕ) → LiesIn s
