-- The types of the client's messages.
use Rattle.std.specs.Prelude.{ℕ}

abbrev pub reset : ℕ
reset = 6

abbrev pub session_close : ℕ
session_close = 7

abbrev pub prepare : ℕ
prepare = 40

abbrev pub execute : ℕ
execute = 41

abbrev pub deallocate : ℕ
deallocate = 42

abbrev pub open' : ℕ
open' = 43

abbrev pub close : ℕ
close = 44

abbrev pub fetch : ℕ
fetch = 45
