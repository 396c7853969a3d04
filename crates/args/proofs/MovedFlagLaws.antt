-- Whether an argument is padded does not depend on where its bytes stand. Assumes nothing.
use Rattle.prelude.proofs.Basics.{ℕ, ◌+◌, ◌≤◌, Bool, false, ◌||◌, cond, ◌≡◌, ap, ap₂, ◌∙◌, List, length, get_or}
use Rattle.prelude.proofs.Basics.{eqb}
use Rattle.layout.proofs.MovedFlagLaws.{part_flag_moved, parts_flag_moved}
use Rattle.layout.proofs.MergedPlaceLaws.{moved_parts, merged_alike, inner_moved}
use Rattle.args.proofs.Names.{Stands, any, scalar, rows_of, value_of, low32, parts_in, merged}
use Rattle.args.proofs.Names.{parts_padded, Part, Slots, Alike, AllWithin, inner_within, scalar_parts, bytes_padded}
use Rattle.args.proofs.Names.{inside_scalar, scalar_padded, inside_any, argument_padded}
use Rattle.args.proofs.MovedArgLaws.{embedded_alike, parted_moved, parted_within}

-- the argument, from the inside out
module _ {s : List ℕ} {d : ℕ} {t q : List ℕ} (k : Stands s d t q) where
  inner-flag-moved : (i : ℕ) (ps : List Part) → AllWithin (length t) ps →
      parts_padded s (parts_in i s (moved_parts d ps)) ≡ parts_padded t (parts_in i t ps)
  inner-flag-moved i ps w =
      ap (parts_padded s) (inner_moved i k ps w)
      ∙ parts_flag_moved k (parts_in i t ps) (inner_within i t (length t) ps w)

  scalar-moved : (ps : List Part) → AllWithin (length t) ps → scalar_padded s (moved_parts d ps) ≡ scalar_padded t ps
  unfolding scalar_padded inside_scalar
  scalar-moved ps w =
      ap₂ ◌||◌ (parts_flag_moved k ps w)
      (ap₂ (λ (g p : Bool). cond g p false) a.good
      (ap (λ (l : List ℕ). bytes_padded s (moved_parts d ps) (low32 (get_or l 1 0))) a.value
      ∙ ap₂ (λ (o r : Bool). cond (eqb (low32 (value_of x 1)) 4) o (cond (eqb (low32 (value_of x 1)) 8) r false))
      (inner-flag-moved 5 ps w) (inner-flag-moved 9 ps w)))
    where
      x : Slots
      x = merged (rows_of scalar) t ps

      a : Alike (rows_of scalar) d (length t) (merged (rows_of scalar) t ps) (merged (rows_of scalar) s (moved_parts d ps))
      a = merged_alike (rows_of scalar) k ps w

  pub argument_flag_moved : (at n : ℕ) → at + n ≤ length t → argument_padded s (d + at) n ≡ argument_padded t at n
  unfolding argument_padded inside_any
  argument_flag_moved at n h =
      let a = embedded_alike (rows_of any) k at n h in
      ap₂ ◌||◌ (part_flag_moved k at n h)
      (ap₂ (λ (g p : Bool). cond g p false) a.good
      (ap₂ (λ (l : List ℕ) (p : Bool). cond (eqb (low32 (get_or l 1 0)) 1) p false) a.value
      (ap (scalar_padded s) (parted_moved k at n h) ∙ scalar-moved (scalar_parts t at n) (parted_within k at n h))))
