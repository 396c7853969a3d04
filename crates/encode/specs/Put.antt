-- Bytes put at a place of a lent buffer: all of them where they fit, none where they do not.
use Rattle.std.specs.Prelude.{ℕ, ◌+◌, Bool, cond, Option, Some, None, List, ◌++◌, length, take, drop, leb}

-- the bytes end within the buffer
abbrev pub fits_at : List ℕ → ℕ → List ℕ → Bool
fits_at buf at bytes = leb (at + length bytes) (length buf)

-- the answer: the place behind the bytes, where they fit
abbrev pub put_at : List ℕ → ℕ → List ℕ → Option ℕ
put_at buf at bytes = cond (fits_at buf at bytes) (Some (at + length bytes)) None

-- the buffer afterwards: the bytes at their place and every other byte as it was; unchanged where they do not fit
abbrev pub written : List ℕ → ℕ → List ℕ → List ℕ
written buf at bytes =
    cond (fits_at buf at bytes) (take at buf ++ bytes ++ drop (at + length bytes) buf) buf

-- the n bytes from a place on moved to the front, where the buffer has them
abbrev pub moved_front : List ℕ → ℕ → ℕ → List ℕ
moved_front buf start n = cond (leb (start + n) (length buf)) (written buf 0 (take n (drop start buf))) buf
