-- What holds of the frames found in every byte string.
use Rattle.std.specs.Prelude.{ℕ, ◌≤◌, ◌≡◌, List, length}
use Rattle.reply.specs.Frames.{types_in, frame_types}

-- the number of frames is no limit: any that is enough for the bytes finds the same (T9)
abbrev pub EnoughFrames : Type 0
EnoughFrames = (n : ℕ) (s : List ℕ) → length s ≤ n → types_in n s ≡ frame_types s
