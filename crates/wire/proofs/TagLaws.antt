-- Which varints are tags, case by case. Assumes nothing.
use Rattle.prelude.proofs.Basics.{ℕ, ◌/◌, ◌%◌, ◌^◌, ◌≤◌, ◌<◌, ◌≡◌, ap, List, length, le-ltb, lt-ltb}
use Rattle.wire.proofs.Names.{varint_none, tag_of, tag_at}
use Rattle.std.specs.Prelude.{None}
use Rattle.varint.specs.Number.{some_number}
use Rattle.wire.specs.Tag.{some_tag}

module _ (v next : ℕ) where
  pub tag_high : 2 ^ 32 ≤ v → None ≡ tag_of (some_number v next)
  tag_high h = simp (le-ltb v (2 ^ 32) h)

  pub tag_low : v < 2 ^ 32 → v < 8 → None ≡ tag_of (some_number v next)
  tag_low h l = simp (lt-ltb v (2 ^ 32) h, lt-ltb v 8 l)

  pub tag_unlisted : v < 2 ^ 32 → 8 ≤ v → 6 ≤ v % 8 → None ≡ tag_of (some_number v next)
  tag_unlisted h l u = simp (lt-ltb v (2 ^ 32) h, le-ltb v 8 l, le-ltb (v % 8) 6 u)

  pub tag_good : v < 2 ^ 32 → 8 ≤ v → v % 8 < 6 → some_tag (v / 8) (v % 8) next ≡ tag_of (some_number v next)
  tag_good h l u = simp (lt-ltb v (2 ^ 32) h, le-ltb v 8 l, lt-ltb (v % 8) 6 u)

pub tag_none : (s : List ℕ) (at : ℕ) → length s ≤ at → None ≡ tag_at s at
tag_none s at h = ap tag_of (varint_none s at h)
