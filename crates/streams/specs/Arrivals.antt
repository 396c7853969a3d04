-- What holds of every list of arrivals, hand-outs and start overs.
use Rattle.std.specs.Prelude.{ℕ, ◌≤◌, Bool, true, false, ◌≡◌, List, [], ◌∷◌, ◌++◌, ◌⊎◌, length, take, replicate}
use Rattle.protocol.specs.Reason as Reason
use Rattle.session.specs.Lists.{All}
use Rattle.message.specs.Head.{length_bytes}
use Rattle.streams.specs.ReaderRules.{Whole}
use Rattle.streams.specs.Reader.{stands_first, bad_first, push_of, next_of}
use Rattle.streams.specs.Reading.{Operation, push, next_frame, restart, Reading, left, handed_out, operated}
use Rattle.streams.specs.Reading.{reading}
use Rattle.streams.specs.Stream.{joined, stream}

-- of every list of operations from the beginning, whatever the store has in it, and whatever its size
abbrev pub Always : (Reading → Type 0) → Type 0
Always P = (store : List ℕ) (os : List Operation) → P (reading store os)

-- ---- nothing is lost and nothing invented

-- "Frames handed out, then bytes left, are the bytes taken since the last start over .. less those dropped behind a bad
-- length." (N8)
pub record Conserves (x : Reading) : Type 0 where
  pub dropped : List ℕ
  pub all : joined x.frames ++ left x ++ dropped ≡ x.taken
  pub only_behind : bad_first (left x) ≡ false → dropped ≡ []
  -- "then the store keeps only its four bytes" (N10)
  pub four : bad_first (left x) ≡ true → length (left x) ≡ length_bytes

abbrev pub Conserved : Type 0
Conserved = Always Conserves

-- ---- whole frames, in the order of the bytes

abbrev pub HandsOutFrames : Type 0
HandsOutFrames = Always (λ x. All Whole (handed_out x))

-- "once no held frame remains" (N13)
abbrev pub Drained : Reading → Type 0
Drained x = stands_first (left x) ≡ Reason.accepted → ⊥

-- the frames and what is left are what the bytes taken come to: "Frames before a bad length are handed out first" (N9)
pub record Reads (x : Reading) : Type 0 where
  pub frames : x.frames ≡ (stream x.taken).frames
  pub rest : left x ≡ (stream x.taken).left

abbrev pub ReadInOrder : Type 0
ReadInOrder = Always (λ x. Drained x → Reads x)

-- one stream was offered: the bytes taken are its first ones, and all of them unless a bad length stands first
pub record Offered (bytes : List ℕ) (x : Reading) : Type 0 where
  pub count : ℕ
  pub first : x.taken ≡ take count bytes
  pub all : (length bytes ≤ count) ⊎ (bad_first (left x) ≡ true)

-- whole frames one behind the other, taken in any division, are handed out as they came, and nothing is left
abbrev pub FramesArrive : Type 0
FramesArrive =
    (fs : List (List ℕ)) → All Whole fs →
    Always (λ x. Offered (joined fs) x → Drained x → (x.frames ≡ fs) × (left x ≡ []))

-- as many hand-outs as bytes are left leave no held frame, so that a host's loop ends (N17)
abbrev pub Drains : Type 0
Drains = (x : Reading) → Drained (operated (replicate (length (left x)) next_frame) x)

-- ---- a bad length stays

-- no start over among them
abbrev pub goes_on : List Operation → Bool
goes_on [] = true
goes_on (push arrival ∷ os) = goes_on os
goes_on (next_frame ∷ os) = goes_on os
goes_on (restart ∷ os) = false

-- it "takes 0 and gives no frame" (N11)
pub record Refuses (x : Reading) : Type 0 where
  pub push : (arrival : List ℕ) → (push_of x.reader arrival x.store).answer.reason ≡ Reason.bad_length
  pub count : (arrival : List ℕ) → ◌≡◌ {A = ℕ} (push_of x.reader arrival x.store).answer.count 0
  pub next : (next_of x.reader x.store).reason ≡ Reason.bad_length

-- whatever else is done, it refuses, and what it took, handed out and holds is what it was
pub record Stays (x y : Reading) : Type 0 where
  pub refuses : Refuses y
  pub taken : y.taken ≡ x.taken
  pub frames : y.frames ≡ x.frames
  pub rest : left y ≡ left x

-- "until told to start over" (N11)
abbrev pub StaysBad : Type 0
StaysBad =
    Always (λ x. bad_first (left x) ≡ true → (os : List Operation) → goes_on os ≡ true → Stays x (operated os x))

-- "which empties it" (N12)
abbrev pub StartsEmpty : Type 0
StartsEmpty = (x : Reading) → left (operated (restart ∷ []) x) ≡ []
