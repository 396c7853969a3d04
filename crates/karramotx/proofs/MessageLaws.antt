-- What a frame says of padding. Assumes nothing.
use Rattle.prelude.proofs.Basics.{Bool, ◌≡◌, refl}
use Rattle.message.specs.Padded.{where_read}
use Rattle.message.specs.declared.request.Frame.{Frame}
use Rattle.message.specs.declared.request.Frame.TheVariants.{NotAllThere, BadLength, UnknownType, BadPayload}
use Rattle.message.specs.declared.request.Frame.TheVariants.{BodyTwice, Good}
use Rattle.rules.specs.Step.{said}
use Rattle.karramotx.specs.Message.{message_of}

-- a frame refused 1, 2, 5 or 6 says no, any other what was read
pub where_said : (x : Frame) (padded : Bool) → said (message_of x).reason padded ≡ where_read x padded
where_said NotAllThere padded = refl
where_said BadLength padded = refl
where_said (UnknownType used) padded = refl
where_said (BadPayload used kind) padded = refl
where_said (BodyTwice used kind) padded = refl
where_said (Good used q) padded = refl
