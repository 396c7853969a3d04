-- Worked examples: whole inputs and their whole outputs, on both sides of each line (X2, X6, X7).
use Rattle.std.specs.Prelude.{◌≡◌, ℕ, List, [], ◌∷◌, ◌++◌, map, replicate}
use Rattle.reply.specs.Text.{ascii}
use Rattle.trace_line.specs.Output.{output_of}

pub record Sample : Type 0 where
  pub input : List ℕ
  pub output : List ℕ

-- what is written behind the header
abbrev pub sample : List ℕ → List ℕ → Sample
sample input behind =
    record { input = input; output = ascii "n reason first rows mark stmts cursors owed\n" ++ behind }

-- a Reset with no report, and the first bytes of one
abbrev pub reset : List ℕ
reset = 5 ∷ 1 ∷ 0 ∷ 0 ∷ 0 ∷ 6 ∷ 0 ∷ []

abbrev pub samples : List Sample
samples =
    sample [] []
    ∷ sample reset (ascii "1 0 0 0 O 0 0 0\n")
    ∷ sample (reset ++ reset) (ascii "1 0 0 0 O 0 0 0\n2 0 0 0 O 0 0 0\n")
    -- an end inside a number, a frame, a record
    ∷ sample (0x85 ∷ []) (ascii "cut\n")
    ∷ sample (5 ∷ 1 ∷ 0 ∷ []) (ascii "cut\n")
    ∷ sample (reset ++ 5 ∷ 1 ∷ 0 ∷ 0 ∷ 0 ∷ 6 ∷ []) (ascii "1 0 0 0 O 0 0 0\ncut\n")
    -- a kind above 4, a number of more than ten bytes, a frame above 65,536 bytes
    ∷ sample (5 ∷ 1 ∷ 0 ∷ 0 ∷ 0 ∷ 6 ∷ 5 ∷ []) (ascii "cut\n")
    ∷ sample (replicate 10 0xFF ++ reset) (ascii "cut\n")
    ∷ sample (0x81 ∷ 0x80 ∷ 0x04 ∷ []) (ascii "cut\n")
    -- an empty frame is a record; a number need not be the shortest
    ∷ sample (0 ∷ 0 ∷ []) (ascii "1 1 0 0 N 0 0 0\n")
    ∷ sample (0x80 ∷ 0 ∷ 0 ∷ []) (ascii "1 1 0 0 N 0 0 0\n")
    ∷ []

abbrev pub SamplesShown : Type 0
SamplesShown = map (λ (s : Sample). output_of s.input) samples ≡ map (λ (s : Sample). s.output) samples

-- ---- the example (X9)

-- Prepare of statement 1, and that it was prepared, with no placeholders
abbrev pub prepares : List ℕ
prepares =
    0x10 ∷ 0x0C ∷ 0x00 ∷ 0x00 ∷ 0x00 ∷ 0x28 ∷ 0x08 ∷ 0x01 ∷ 0x12 ∷ 0x07 ∷ 0x08
    ∷ 0x05 ∷ 0x32 ∷ 0x03 ∷ 0x0A ∷ 0x01 ∷ 0x53 ∷ 0x01 ∷ 0x00
    ∷ []

-- Open of cursor 1, 1 row wanted, and a result of 2 columns and 3 rows
abbrev pub opens : List ℕ
opens =
    0x11 ∷ 0x0D ∷ 0x00 ∷ 0x00 ∷ 0x00 ∷ 0x2B ∷ 0x08 ∷ 0x01 ∷ 0x22 ∷ 0x06 ∷ 0x08 ∷ 0x00
    ∷ 0x12 ∷ 0x02 ∷ 0x08 ∷ 0x01 ∷ 0x28 ∷ 0x01 ∷ 0x02 ∷ 0x02 ∷ 0x03
    ∷ []

-- Fetch of 2 rows, and that it was done
abbrev pub fetches : List ℕ
fetches = 0x09 ∷ 0x05 ∷ 0x00 ∷ 0x00 ∷ 0x00 ∷ 0x2D ∷ 0x08 ∷ 0x01 ∷ 0x10 ∷ 0x02 ∷ 0x03 ∷ []

abbrev pub example : Sample
example =
    sample (prepares ++ opens ++ fetches ++ fetches)
    (ascii "1 0 0 0 O 1 0 0\n2 0 0 1 S 1 1 2\n3 0 1 2 D 1 1 0\n4 11 0 0 E 1 1 0\n")

abbrev pub ExampleShown : Type 0
ExampleShown = output_of example.input ≡ example.output
