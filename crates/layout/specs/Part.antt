-- Messages embedded in others. Places count from the start of the frame, so an embedded message is read from the frame
-- cut off behind it.
use Rattle.std.specs.Prelude.{ℕ, ◌+◌, ◌%◌, ◌^◌, Bool, List, get_or, eqb}
use Rattle.layout.specs.Fields.{fields_to}
use Rattle.layout.specs.declared.slots.Slots.{Slots}

-- the message with these rows in `len` bytes of s from the place `start` on
abbrev pub embedded : List (List ℕ) → List ℕ → ℕ → ℕ → Slots
embedded rows s start len = fields_to rows s start (start + len)

-- of a field number: how often it occurs and whether it does, its value, its place and length
abbrev pub count_of : Slots → ℕ → ℕ
count_of x k = get_or x.count k 0

abbrev pub absent : Slots → ℕ → Bool
absent x k = eqb (count_of x k) 0

abbrev pub value_of : Slots → ℕ → ℕ
value_of x k = get_or x.value k 0

abbrev pub start_of : Slots → ℕ → ℕ
start_of x k = get_or x.start k 0

abbrev pub len_of : Slots → ℕ → ℕ
len_of x k = get_or x.len k 0

-- the place behind it
abbrev pub end_in : Slots → ℕ → ℕ
end_in x k = start_of x k + len_of x k

-- a uint32 and an enum keep the low 32 bits (W3)
abbrev pub low32 : ℕ → ℕ
low32 v = v % 2 ^ 32
