-- What holds of every message in parts: it is what the encoding guide makes of it, the message whose bytes are those of
-- its parts, one after the other.
use Rattle.std.specs.Prelude.{ℕ, ◌≤◌, Bool, true, not, ◌&&◌, ◌||◌, ◌≡◌, List, [], ◌∷◌, ◌++◌, length, take, drop, eqb}
use Rattle.layout.specs.Row.{message_of, number_of, wire_of, is_repeated, listed_of, row_for, takes}
use Rattle.layout.specs.Table.{len, layout, rows_of}
use Rattle.layout.specs.TableRules.{all}
use Rattle.layout.specs.Fields.{fields_at}
use Rattle.layout.specs.Part.{embedded, count_of, start_of, len_of, end_in}
use Rattle.layout.specs.Merged.{parts_of, parts_in, merged}
use Rattle.layout.specs.declared.part.Part.{Part}
use Rattle.layout.specs.declared.slots.Slots.{Slots}

-- each part is a field list by itself: with no rows nothing is required
unfoldable pub all_good : List ℕ → List Part → Bool
all_good s [] = true
all_good s (p ∷ ps) = (embedded [] s p.start p.len).good && all_good s ps

-- of a good message each part is one
abbrev pub EachGood : Type 0
EachGood = (rows : List (List ℕ)) (s : List ℕ) (ps : List Part) → (merged rows s ps).good ≡ true → all_good s ps ≡ true

-- the bytes of the parts, one after the other
unfoldable pub joined : List ℕ → List Part → List ℕ
joined s [] = []
joined s (p ∷ ps) = take p.len (drop p.start s) ++ joined s ps

-- the bytes of the field that is kept of a number
abbrev pub bytes_in : List ℕ → Slots → ℕ → List ℕ
bytes_in s x k = take (len_of x k) (drop (start_of x k) s)

-- x of s and y of t hold the same: how often each field occurs, its value and its bytes, wherever these stand
pub record SameFields (s t : List ℕ) (x y : Slots) : Type 0 where
  pub good : y.good ≡ x.good
  pub count : y.count ≡ x.count
  pub value : y.value ≡ x.value
  pub len : y.len ≡ x.len
  pub bytes : (k : ℕ) → bytes_in t y k ≡ bytes_in s x k

-- good parts merge as the guide says
abbrev pub MergesAsGuide : Type 0
MergesAsGuide =
    (rows : List (List ℕ)) (s : List ℕ) (ps : List Part) →
    all_good s ps ≡ true → SameFields s (joined s ps) (merged rows s ps) (fields_at rows (joined s ps) 0)

-- and so do the parts of a message inside them, at every layer
abbrev pub InnerAsGuide : Type 0
InnerAsGuide =
    (k : ℕ) (s : List ℕ) (ps : List Part) →
    all_good s ps ≡ true → joined s (parts_in k s ps) ≡ joined (joined s ps) (parts_of k (joined s ps) 0)

-- one part is the message that it is
abbrev pub OnePart : Type 0
OnePart =
    (rows : List (List ℕ)) (s : List ℕ) (p : Part) → merged rows s (p ∷ []) ≡ embedded rows s p.start p.len

-- the bytes of each field that is kept lie within s
abbrev pub MergedWithin : Type 0
MergedWithin =
    (rows : List (List ℕ)) (s : List ℕ) (ps : List Part) (k : ℕ) →
    end_in (merged rows s ps) k ≤ length s

-- a field with bytes that is not repeated and lists no values: each occurrence is kept
abbrev pub holds_bytes : List (List ℕ) → ℕ → Bool
holds_bytes rows k =
    takes (row_for rows k) k len 0 && (not (is_repeated (row_for rows k)) && eqb (listed_of (row_for rows k)) 0)

-- such is each row of the table with bytes that is not repeated
abbrev pub RowsHold : Type 0
RowsHold =
    all
    (λ row. not (eqb (wire_of row) len) || (is_repeated row || holds_bytes (rows_of (message_of row)) (number_of row)))
    layout
    ≡ true

-- the place and the length of the last part; of none, those given
abbrev pub last_start : ℕ → List Part → ℕ
last_start at [] = at
last_start at (p ∷ ps) = last_start p.start ps

abbrev pub last_len : ℕ → List Part → ℕ
last_len n [] = n
last_len n (p ∷ ps) = last_len p.len ps

-- as many parts as the field occurs, of which the last is kept
pub record Keeps (x : Slots) (k : ℕ) (ps : List Part) : Type 0 where
  pub count : count_of x k ≡ length ps
  pub start : start_of x k ≡ last_start 0 ps
  pub size : len_of x k ≡ last_len 0 ps

-- so it is in a good message, and in one that is itself in parts
pub record PartsKept : Type 0 where
  pub whole : (rows : List (List ℕ)) (k : ℕ) (s : List ℕ) (from : ℕ) → holds_bytes rows k ≡ true →
      (fields_at rows s from).good ≡ true → Keeps (fields_at rows s from) k (parts_of k s from)
  pub inner : (rows : List (List ℕ)) (k : ℕ) (s : List ℕ) (ps : List Part) → holds_bytes rows k ≡ true →
      (merged rows s ps).good ≡ true → Keeps (merged rows s ps) k (parts_in k s ps)
