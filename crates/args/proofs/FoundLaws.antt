-- The value of an argument from what is found of its messages. Assumes nothing.
use Rattle.prelude.proofs.Basics.{ℕ, Bool, true, false, cond, ◌≡◌, refl, sym, ap, ◌∙◌, List}
use Rattle.layout.specs.private.Found.{slot_at, Holds}
use Rattle.layout.specs.declared.found.Found.{Found}
use Rattle.layout.proofs.FoundLaws.{held_value, held_start, held_none}
use Rattle.layout.proofs.MergedPlaceLaws.{merged_long}
use Rattle.args.proofs.Names.{Argument, scalar, bytes, rows_of, row_for, merged, count_of, value_of, len_of}
use Rattle.args.proofs.Names.{low32, Part, Slots, bad, present, bytes_in, of_type, scalar_in}
use Rattle.args.specs.private.Parts.{placed_bytes}
use Rattle.args.proofs.ValueLaws.{bytes_bad, scalar_bad, scalar_good}

-- what is found to be present is so
pub present_held : {x : Slots} {g : Bool} {found : Found} → Holds x g found → (k : ℕ) (a : Argument) →
    present (slot_at found k).times a ≡ present (count_of x k) a
present_held h k a = ap (λ (b : Bool). cond b bad a) (held_none h k)

-- a good Scalar that was found, by its type
module _ (s : List ℕ) (ps : List Part) {found : Found} (h : Holds (merged (rows_of scalar) s ps) true found) where
  abbrev x : Slots
  x = merged (rows_of scalar) s ps

  pub type_held : (t : ℕ) → low32 (slot_at found 1).value ≡ t → low32 (value_of x 1) ≡ t
  type_held t e = ap low32 (sym (held_value h 1)) ∙ e

  pub scalar_typed : (t : ℕ) → low32 (slot_at found 1).value ≡ t → of_type s ps x t ≡ scalar_in s ps
  scalar_typed t e = ap (of_type s ps x) (sym (type_held t e)) ∙ scalar_good s ps x (sym h.answer)

  -- a number by its field
  pub number_held : (k : ℕ) (f : ℕ → Argument) →
      present (slot_at found k).times (f (slot_at found k).value) ≡ present (count_of x k) (f (value_of x k))
  number_held k f =
      present_held h k (f (slot_at found k).value)
      ∙ ap (λ (n : ℕ). present (count_of x k) (f n)) (held_value h k)

within_long : (s : List ℕ) (ps : List Part) →
    len_of (merged (rows_of bytes) s ps) 1 ≡ value_of (merged (rows_of bytes) s ps) 1
unfolding rows_of row_for
within_long s ps = merged_long (rows_of bytes) 1 refl s ps

module _ (s : List ℕ) (ps : List Part) {g : Bool} {found : Found} where
  pub scalar_refused : Holds (merged (rows_of scalar) s ps) g found → g ≡ false → bad ≡ scalar_in s ps
  scalar_refused h e = scalar_bad s ps (merged (rows_of scalar) s ps) (sym h.answer ∙ e)

  pub bytes_held : (b : Bool) → Holds (merged (rows_of bytes) s ps) g found → g ≡ true →
      placed_bytes b (slot_at found 1).start (slot_at found 1).value ≡ bytes_in b s ps
  bytes_held b h e =
      rw (held_value h 1, held_start h 1, sym (within_long s ps), sym h.answer ∙ e)

  pub bytes_refused : (b : Bool) → Holds (merged (rows_of bytes) s ps) g found → g ≡ false → bad ≡ bytes_in b s ps
  bytes_refused b h e = bytes_bad b (merged (rows_of bytes) s ps) (sym h.answer ∙ e)
