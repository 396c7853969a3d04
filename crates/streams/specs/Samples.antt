-- Worked examples on both sides of a line: what a few lists of operations come to, on a small store full of other bytes
-- (N2 to N12).
use Rattle.std.specs.Prelude.{ℕ, ◌≡◌, List, [], ◌∷◌, ◌++◌, map, length, replicate}
use Rattle.protocol.specs.Reason.{accepted, not_all_there, bad_length}
use Rattle.streams.specs.Reader.{stands_first}
use Rattle.streams.specs.Reading.{Operation, push, next_frame, restart, Reading, left, reading}

-- after some operations: the frames handed out, what is left, what stands first in it, how many bytes were taken
pub record Result : Type 0 where
  pub frames : List (List ℕ)
  pub rest : List ℕ
  pub reason : ℕ
  pub taken : ℕ

abbrev pub result_of : Reading → Result
result_of x =
    record { frames = x.frames; rest = left x; reason = stands_first (left x); taken = length x.taken }

pub record Sample : Type 0 where
  pub operations : List Operation
  pub result : Result

abbrev pub sample : List Operation → List (List ℕ) → List ℕ → ℕ → ℕ → Sample
sample operations frames rest reason taken =
    record { operations = operations; result = record { frames = frames; rest = rest; reason = reason; taken = taken } }

-- 16 bytes
abbrev pub small_store : List ℕ
small_store = replicate 16 0xA5

-- ---- the bytes

-- a Reset
abbrev pub whole : List ℕ
whole = 1 ∷ 0 ∷ 0 ∷ 0 ∷ 6 ∷ []

-- a type that is none of the eight
abbrev pub other : List ℕ
other = 2 ∷ 0 ∷ 0 ∷ 0 ∷ 99 ∷ 7 ∷ []

-- a frame of 16 bytes, which fills the store
abbrev pub long : List ℕ
long = (12 ∷ 0 ∷ 0 ∷ 0 ∷ 45 ∷ []) ++ replicate 11 7

-- a bad length
abbrev pub zero_length : List ℕ
zero_length = 0 ∷ 0 ∷ 0 ∷ 0 ∷ []

abbrev pub more : List ℕ
more = 0xAA ∷ 0xBB ∷ []

-- ---- the table

abbrev pub samples : List Sample
samples =
    -- a frame cut behind its third byte
    sample (push (1 ∷ 0 ∷ 0 ∷ []) ∷ next_frame ∷ push (0 ∷ 6 ∷ []) ∷ next_frame ∷ []) (whole ∷ []) [] not_all_there 5
    -- two frames in one arrival; the second is of another type
    ∷ sample (push (whole ++ other) ∷ next_frame ∷ next_frame ∷ []) (whole ∷ other ∷ []) [] not_all_there 11
    -- a bad length behind a frame: the frame is handed out first, then two bytes are dropped
    ∷ sample (push (whole ++ zero_length ++ more) ∷ []) [] (whole ++ zero_length ++ more) accepted 11
    ∷ sample (push (whole ++ zero_length ++ more) ∷ next_frame ∷ []) (whole ∷ []) zero_length bad_length 11
    -- the same cut behind the bad length: two bytes are not taken, and all else is the same
    ∷ sample (push (whole ++ zero_length) ∷ next_frame ∷ push more ∷ next_frame ∷ []) (whole ∷ []) zero_length bad_length 9
    -- lengths 65,532 and 65,533
    ∷ sample (push (0xFC ∷ 0xFF ∷ 0 ∷ 0 ∷ 45 ∷ []) ∷ next_frame ∷ []) [] (0xFC ∷ 0xFF ∷ 0 ∷ 0 ∷ 45 ∷ []) not_all_there 5
    ∷ sample (push (0xFD ∷ 0xFF ∷ 0 ∷ 0 ∷ 45 ∷ []) ∷ next_frame ∷ []) [] (0xFD ∷ 0xFF ∷ 0 ∷ 0 ∷ []) bad_length 5
    -- start over in mid-frame, and behind a bad length
    ∷ sample (push (1 ∷ 0 ∷ 0 ∷ []) ∷ restart ∷ push whole ∷ next_frame ∷ []) (whole ∷ []) [] not_all_there 5
    ∷ sample (push zero_length ∷ restart ∷ push whole ∷ next_frame ∷ []) (whole ∷ []) [] not_all_there 5
    -- a store full to the last byte takes no more until its frame is out
    ∷ sample (push (long ++ whole) ∷ push whole ∷ []) [] long accepted 16
    ∷ sample (push (long ++ whole) ∷ next_frame ∷ push whole ∷ next_frame ∷ []) (long ∷ whole ∷ []) [] not_all_there 21
    -- held bytes are moved to the front where the room behind them is too small
    ∷ sample
    (push (whole ++ other ++ (1 ∷ 0 ∷ [])) ∷ next_frame ∷ next_frame ∷ push (0 ∷ 0 ∷ 6 ∷ 2 ∷ 0 ∷ []) ∷ next_frame ∷ [])
    (whole ∷ other ∷ whole ∷ []) (2 ∷ 0 ∷ []) not_all_there 18
    ∷ []

abbrev pub come_to : Sample → Result
come_to s = result_of (reading small_store s.operations)

-- each comes to what stands beside it
abbrev pub SamplesShown : Type 0
SamplesShown = map come_to samples ≡ map (λ (s : Sample). s.result) samples
