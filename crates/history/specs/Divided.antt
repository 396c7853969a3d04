-- "However these are divided into arrivals, from the same session, with the same reports in order and reply buffers of
-- 128 bytes or more, once no held frame remains the frames, the steps taken on them and what is left are equal." (N13)
use Rattle.std.specs.Prelude.{ℕ, ◌≤◌, ◌≡◌, List, map, length}
use Rattle.session.specs.Session.{Session}
use Rattle.session.specs.Lists.{All}
use Rattle.reply.specs.ReplyRules.{min_buffer}
use Rattle.rules.specs.StepRules.{outcome}
use Rattle.history.specs.Run.{Input, frames_of, reports_of, run}
use Rattle.streams.specs.Reading.{Reading, left}
use Rattle.streams.specs.Stream.{less_dropped}
use Rattle.streams.specs.Arrivals.{Always, Drained, Offered}

-- "reply buffers of 128 bytes or more" (N13)
abbrev pub Roomy : Input → Type 0
Roomy i = min_buffer ≤ length i.buffer

pub record Same (x y : Reading) : Type 0 where
  pub frames : x.frames ≡ y.frames
  -- of each step its answer, its session and its reply
  pub steps : (s : Session) (is js : List Input) → frames_of is ≡ x.frames → frames_of js ≡ y.frames →
      reports_of is ≡ reports_of js → All Roomy is → All Roomy js →
      map outcome (run s is) ≡ map outcome (run s js)
  pub rest : left x ≡ left y

-- "these": the bytes taken, less those dropped (N13)
abbrev pub DividedAlike : Type 0
DividedAlike =
    Always (λ x. Always (λ y. less_dropped x.taken ≡ less_dropped y.taken → Drained x → Drained y → Same x y))

abbrev pub OfferedAlike : Type 0
OfferedAlike =
    (bytes : List ℕ) → Always (λ x. Always (λ y. Offered bytes x → Offered bytes y → Drained x → Drained y → Same x y))
