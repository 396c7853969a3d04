-- Fields, case by case. Assumes nothing.
use Rattle.prelude.proofs.Basics.{ℕ, ◌+◌, ◌/◌, ◌%◌, ◌≤◌, ◌<◌, arith, ◌≡◌, sym, ap, ◌∙◌, List, length, get_or, eq-eqb}
use Rattle.prelude.proofs.Basics.{ne_eqb}
use Rattle.varint.proofs.GroupLaws.{varint_one}
use Rattle.wire.proofs.Names.{varint_at, varint_none, tag_of, tag_at, value_at, group_end, max_depth, of_value}
use Rattle.wire.proofs.Names.{of_group, field_of, of_tag, field_at, PastSkip, Tag}
use Rattle.wire.proofs.TagLaws.{tag_low, tag_unlisted, tag_good}
use Rattle.wire.proofs.PastLaws.{group_past}
use Rattle.std.specs.Prelude.{Option, None}
use Rattle.varint.specs.Number.{some_number}
use Rattle.wire.specs.Tag.{some_tag}
use Rattle.std.specs.Prelude.{Option, Some, None}

module _ (s : List ℕ) (n wire at : ℕ) where
  pub field_group : wire ≡ 3 → of_group n at (group_end max_depth s at n) ≡ field_of s n wire at
  field_group h = simp (eq-eqb wire 3 h)

  pub field_value : (wire ≡ 3 → ⊥) → of_value n wire (value_at s wire at) ≡ field_of s n wire at
  field_value h = simp (ne_eqb wire 3 h)

pub group_ends : (depth : ℕ) (s : List ℕ) (at n : ℕ) {next : ℕ} → group_end depth s at n ≡ Some next → at ≤ next
group_ends depth s at n {next} e = go (group_past depth s at n)
  where
    go : PastSkip at (length s) (group_end depth s at n) → at ≤ next
    go = rw e (λ h. h.0)

pub field_tagged : (s : List ℕ) (at : ℕ) (t : Option Tag) → tag_at s at ≡ t → field_at s at ≡ of_tag s t
unfolding field_at
field_tagged s at t e = ap (of_tag s) e

-- the short way: no byte, or a tag of one byte
pub quick_none : (s : List ℕ) (at : ℕ) → length s ≤ at → None ≡ field_at s at
quick_none s at h = sym (field_tagged s at None (ap tag_of (sym (varint_none s at h))))

module _ (s : List ℕ) (at b : ℕ) (inside : at < length s) (is : b ≡ get_or s at 0) (short : b < 128) where
  pub one_byte_lem : some_number b (at + 1) ≡ varint_at s at
  one_byte_lem = rw is (varint_one s at inside (rw is at short))

  pub quick_low : b < 8 → None ≡ field_at s at
  quick_low h = sym (field_tagged s at None (sym (tag_low b (at + 1) (omega arith) h ∙ ap tag_of one_byte_lem)))

  pub quick_wire : (wire : ℕ) → 8 ≤ b → b % 8 ≡ wire → wire < 6 → field_of s (b / 8) wire (at + 1) ≡ field_at s at
  quick_wire wire h e w =
      ap (λ (k : ℕ). field_of s (b / 8) k (at + 1)) (sym e)
      ∙ sym (field_tagged s at (some_tag (b / 8) (b % 8) (at + 1))
      (sym (tag_good b (at + 1) (omega arith) h (omega arith) ∙ ap tag_of one_byte_lem)))

-- a tag of one byte
module _ (s : List ℕ) (at b : ℕ) (inside : at < length s) (is : b ≡ get_or s at 0) (short : b < 128) where
  pub short_low : b < 8 → None ≡ tag_at s at
  short_low h = tag_low b (at + 1) (omega arith) h ∙ ap tag_of (one_byte_lem s at b inside is short)

  pub short_unlisted : 8 ≤ b → 6 ≤ b % 8 → None ≡ tag_at s at
  short_unlisted h u = tag_unlisted b (at + 1) (omega arith) h u ∙ ap tag_of (one_byte_lem s at b inside is short)

  pub short_good : 8 ≤ b → b % 8 < 6 → some_tag (b / 8) (b % 8) (at + 1) ≡ tag_at s at
  short_good h u = tag_good b (at + 1) (omega arith) h u ∙ ap tag_of (one_byte_lem s at b inside is short)
