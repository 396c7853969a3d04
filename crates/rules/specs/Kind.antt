-- The types of requests that the rules tell apart.
use Rattle.std.specs.Prelude.{ℕ, Bool, ◌||◌, eqb}
use Rattle.message.specs.Request.{kind_of}
use Rattle.message.specs.declared.request.Request.{Request}
use Rattle.message.specs.declared.request.Frame.{Frame}
use Rattle.message.specs.declared.request.Frame.TheVariants.{NotAllThere, BadLength, UnknownType, BadPayload}
use Rattle.message.specs.declared.request.Frame.TheVariants.{BodyTwice, Good}

-- a message of this type
abbrev pub is_a : ℕ → Request → Bool
is_a kind q = eqb (kind_of q) kind

-- one of two types, of three
abbrev pub one_of : ℕ → ℕ → Request → Bool
one_of a b q = is_a a q || is_a b q

abbrev pub one_of3 : ℕ → ℕ → ℕ → Request → Bool
one_of3 a b c q = one_of a b q || is_a c q

-- what is said of a frame's request, and of a frame that holds none
abbrev pub on_good : {A : Type 0} → A → (Request → A) → Frame → A
on_good none said NotAllThere = none
on_good none said BadLength = none
on_good none said (UnknownType used) = none
on_good none said (BadPayload used kind) = none
on_good none said (BodyTwice used kind) = none
on_good none said (Good used q) = said q
