-- What a stream of bytes comes to, whoever reads it: the whole frames that stand one behind the other at its front,
-- and what is left behind them, a part of a frame or a bad length.
use Rattle.std.specs.Prelude.{ℕ, zero, suc, List, [], ◌∷◌, ◌++◌, length, take, drop, Ok, Err}
use Rattle.message.specs.Head.{HeadResult, head_of}
use Rattle.streams.specs.ReaderRules.{kept}

-- frames one behind the other
unfoldable pub joined : List (List ℕ) → List ℕ
joined [] = []
joined (f ∷ fs) = f ++ joined fs

-- the frames, and what is left
pub record Stream : Type 0 where
  pub frames : List (List ℕ)
  pub left : List ℕ

abbrev pub also : List ℕ → Stream → Stream
also frame x = record { frames = frame ∷ x.frames; left = x.left }

-- a whole frame that stands first, then the rest; of a bad length only its four bytes are left
abbrev pub stream_by : (List ℕ → Stream) → List ℕ → HeadResult → Stream
stream_by rest bytes (Ok head) = also (take head.end bytes) (rest (drop head.end bytes))
stream_by rest bytes (Err reason) = record { frames = []; left = kept bytes }

unfoldable pub stream_from : ℕ → List ℕ → Stream
stream_from zero bytes = record { frames = []; left = kept bytes }
stream_from (suc most) bytes = stream_by (stream_from most) bytes (head_of bytes)

-- there are no more frames than bytes
abbrev pub stream : List ℕ → Stream
stream bytes = stream_from (length bytes) bytes

-- "the bytes taken .. less those dropped behind a bad length", once the frames before it are handed out (N8, N9)
abbrev pub together : Stream → List ℕ
together x = joined x.frames ++ x.left

abbrev pub less_dropped : List ℕ → List ℕ
less_dropped bytes = together (stream bytes)
