-- What holds of every request that a frame gives: its numbers have 32 bits.
use Rattle.std.specs.Prelude.{ℕ, ◌≤◌, List}
use Rattle.message.specs.Request.{stmt_of, cursor_of, args_of}
use Rattle.message.specs.Frame.{frame_of}
use Rattle.message.specs.declared.request.Request.{Request}
use Rattle.message.specs.declared.request.Frame.{Frame}
use Rattle.message.specs.declared.request.Frame.TheVariants.{NotAllThere, BadLength, UnknownType, BadPayload}
use Rattle.message.specs.declared.request.Frame.TheVariants.{BodyTwice, Good}
use Rattle.session.specs.Sound.{max_number}

pub record Read (q : Request) : Type 0 where
  pub stmt_small : stmt_of q ≤ max_number
  pub cursor_small : cursor_of q ≤ max_number
  pub index_small : (args_of q).index ≤ max_number
  pub count_small : (args_of q).count ≤ max_number

abbrev pub ReadIn : Frame → Type 0
ReadIn NotAllThere = Unit {0}
ReadIn BadLength = Unit {0}
ReadIn (UnknownType used) = Unit {0}
ReadIn (BadPayload used kind) = Unit {0}
ReadIn (BodyTwice used kind) = Unit {0}
ReadIn (Good used q) = Read q

abbrev pub FramesAreRead : Type 0
FramesAreRead = (frame : List ℕ) → ReadIn (frame_of frame)
