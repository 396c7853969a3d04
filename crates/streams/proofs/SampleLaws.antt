-- The worked examples compute. Assumes nothing.
use Rattle.prelude.proofs.Basics.{refl}
use Rattle.scalar.specs.Fixed.{little}
use Rattle.streams.specs.Reader.{stands_first, held, push_at, push_of, next_of}
use Rattle.streams.specs.Reading.{operate, operated}
use Rattle.streams.specs.Samples.{SamplesShown}

pub samples_shown : SamplesShown
unfolding little stands_first held push_at push_of next_of operate operated
samples_shown = refl
