-- Which varints of a field are its own. Assumes nothing.
use Rattle.prelude.proofs.Basics.{ℕ, ◌+◌, ◌/◌, ◌%◌, ◌≤◌, ◌<◌, arith, Bool, false, ◌||◌, ◌≡◌, sym, ap, ◌∙◌, List, length}
use Rattle.prelude.proofs.Basics.{get_or, eq-eqb, ne_eqb}
use Rattle.varint.proofs.FlagLaws.{padded_one}
use Rattle.wire.proofs.Names.{padded_at, padded_none, tag_at, value_padded, behind_tag, field_padded, Tag}
use Rattle.wire.proofs.FieldLaws.{short_low, short_good}
use Rattle.wire.proofs.TagLaws.{tag_none}
use Rattle.std.specs.Prelude.{Option, None}
use Rattle.wire.specs.Tag.{some_tag}

module _ (s : List ℕ) (wire at : ℕ) where
  pub number_flag : wire ≡ 0 → padded_at s at ≡ value_padded s wire at
  number_flag e = simp (eq-eqb wire 0 e)

  pub length_flag : wire ≡ 2 → padded_at s at ≡ value_padded s wire at
  length_flag e = simp (ne_eqb wire 0 (λ z. absurd (omega arith)), eq-eqb wire 2 e)

  pub no_flag : (wire ≡ 0 → ⊥) → (wire ≡ 2 → ⊥) → value_padded s wire at ≡ false
  no_flag f g = simp (ne_eqb wire 0 f, ne_eqb wire 2 g)

  pub group_flag : wire ≡ 3 → value_padded s wire at ≡ false
  group_flag e = no_flag (λ z. absurd (omega arith)) (λ z. absurd (omega arith))

-- a field by its tag
pub field_flag : (s : List ℕ) (at : ℕ) (t : Option Tag) → tag_at s at ≡ t → (padded_at s at || behind_tag s t) ≡ field_padded s at
unfolding field_padded
field_flag s at t e = ap (λ (g : Option Tag). padded_at s at || behind_tag s g) (sym e)

-- the short way: no byte, or a tag of one byte
pub quick_flag_none : (s : List ℕ) (at : ℕ) → length s ≤ at → field_padded s at ≡ false
quick_flag_none s at h =
    sym (field_flag s at None (sym (tag_none s at h))) ∙ ap (λ (b : Bool). b || false) (padded_none s at h)

module _ (s : List ℕ) (at b : ℕ) (inside : at < length s) (is : b ≡ get_or s at 0) (short : b < 128) where
  pub one_flag : padded_at s at ≡ false
  one_flag = padded_one s at inside (rw is at short)

  pub quick_flag_low : b < 8 → field_padded s at ≡ false
  quick_flag_low h =
      sym (field_flag s at None (sym (short_low s at b inside is short h))) ∙ ap (λ (p : Bool). p || false) one_flag

  pub quick_flag : (wire : ℕ) → 8 ≤ b → b % 8 ≡ wire → wire < 6 → value_padded s wire (at + 1) ≡ field_padded s at
  quick_flag wire h e w =
      ap (λ (k : ℕ). value_padded s k (at + 1)) (sym e)
      ∙ ap (λ (p : Bool). p || value_padded s (b % 8) (at + 1)) (sym one_flag)
      ∙ field_flag s at (some_tag (b / 8) (b % 8) (at + 1)) (sym (short_good s at b inside is short h (omega arith)))
