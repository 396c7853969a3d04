-- Fields as they are written (W7): a tag, which is the number times 8 and the wire type, and the value.
use Rattle.std.specs.Prelude.{ℕ, ◌+◌, ◌*◌, Bool, cond, Option, Some, None, List, [], ◌++◌, length}
use Rattle.varint.specs.Shortest.{varint_bytes}
use Rattle.encode.specs.Fixed.{fixed_bytes}

-- a field with a number: its tag, of wire type 0, and the number
unfoldable pub number_field : ℕ → ℕ → List ℕ
number_field num v = varint_bytes (num * 8) ++ varint_bytes v

-- the same, where it is present
unfoldable pub optional_field : Bool → ℕ → ℕ → List ℕ
optional_field present num v = cond present (number_field num v) []

-- the same of an option
abbrev pub optional_number : ℕ → Option ℕ → List ℕ
optional_number num (Some v) = number_field num v
optional_number num None = []

-- what stands before the n bytes of a field: its tag, of wire type 2, and their count
abbrev pub prefix_of : ℕ → ℕ → List ℕ
prefix_of num n = varint_bytes (num * 8 + 2) ++ varint_bytes n

-- a field with bytes: its tag, of wire type 2, their count, the bytes
unfoldable pub bytes_field : ℕ → List ℕ → List ℕ
bytes_field num bytes = prefix_of num (length bytes) ++ bytes

-- a field with a fixed value: its tag, of wire type 1 (k is 8) or 5 (k is 4), and k bytes
unfoldable pub fixed_field : ℕ → ℕ → ℕ → ℕ → List ℕ
fixed_field num wire k v = varint_bytes (num * 8 + wire) ++ fixed_bytes k v
