-- Whether a list is padded does not depend on where its bytes stand. Assumes nothing.
use Rattle.prelude.proofs.Basics.{ℕ, zero, suc, ◌+◌, ◌-◌, ◌≤◌, ◌<◌, arith, Bool, false, ◌||◌, ◌≡◌, refl, sym, ap, ap₂}
use Rattle.prelude.proofs.Basics.{◌∙◌}
use Rattle.prelude.proofs.Basics.{List, [], ◌∷◌, length, less_or_not}
use Rattle.wire.proofs.MovedFlagLaws.{field_flag_moved}
use Rattle.layout.proofs.Names.{field_at, Field, moved_field, field_moved, Stands, Tail, stands_length}
use Rattle.layout.proofs.Names.{stands_take, tail_length, onward, padded_from, nothing_inside, list_padded}
use Rattle.layout.proofs.Names.{padded_to, Part}
use Rattle.layout.specs.Padded.{part_padded, parts_padded}
use Rattle.layout.proofs.MergeLaws.{AllWithin}
use Rattle.layout.proofs.MergedPlaceLaws.{moved_parts}
use Rattle.layout.proofs.PaddedLaws.{flag_end, flag_turn, field_ahead, padded_inside}
use Rattle.std.specs.Prelude.{Option, Some, None}

module _ {s : List ℕ} {d : ℕ} {t : List ℕ} (k : Tail s d t) where
  abbrev Same : ℕ → ℕ → ℕ → Type 0
  Same m n p = padded_from nothing_inside n s (d + p) ≡ padded_from nothing_inside m t p

  ended : (m n p : ℕ) → length t ≤ p → Same m n p
  ended m n p h =
      flag_end nothing_inside n s (d + p) (omega (arith, tail_length k)) ∙ sym (flag_end nothing_inside m t p h)

  -- one field, and what `on` says of those behind it
  turn : (m n p : ℕ) → 0 < m → 0 < n → p < length t → ((next : ℕ) → p < next → Same (m - 1) (n - 1) next) → Same m n p
  turn m n p a b h on =
      flag_turn nothing_inside n s (d + p) b (omega (arith, tail_length k)) (moved_field d (field_at t p))
      (field_moved k p)
      ∙ ap₂ (λ (x y : Bool). x || (false || y)) (field_flag_moved k p) (go (field_at t p) refl)
      ∙ sym (flag_turn nothing_inside m t p a h (field_at t p) refl)
    where
      go : (f : Option Field) → field_at t p ≡ f →
          onward (λ next. padded_from nothing_inside (n - 1) s next) (moved_field d f)
          ≡ onward (λ next. padded_from nothing_inside (m - 1) t next) f
      go (Some r) e = on r.next (field_ahead t p e)
      go None e = refl

  walks : (most m n p : ℕ) → length t ≤ p + most → length t ≤ p + m → length t ≤ p + n → Same m n p
  walks zero m n p h a b = ended m n p (omega arith)
  walks (suc most) m n p h a b =
      less_or_not p (length t)
      (λ l.
      turn m n p (omega arith) (omega arith) l
      (λ next g. walks most (m - 1) (n - 1) next (omega arith) (omega arith) (omega arith)))
      (λ l. ended m n p l)

  list-flag-moved : (at : ℕ) → list_padded s (d + at) ≡ list_padded t at
  list-flag-moved at =
      walks (length t) (length t) (length s) at (omega arith) (omega arith) (omega (arith, tail_length k))

-- of a message that ends inside the bytes
pub to_flag_moved : {s : List ℕ} {d : ℕ} {t q : List ℕ} → Stands s d t q → (from end : ℕ) → end ≤ length t →
    padded_to s (d + from) (d + end) ≡ padded_to t from end
to_flag_moved {s} {d} {t} {q} k from end h =
    sym (padded_inside s (d + from) (d + end) (omega (arith, stands_length k)))
    ∙ list-flag-moved (stands_take k end h) from
    ∙ padded_inside t from end h

-- of messages embedded in the bytes
module _ {s : List ℕ} {d : ℕ} {t q : List ℕ} (k : Stands s d t q) where
  pub part_flag_moved : (at n : ℕ) → at + n ≤ length t → part_padded s (d + at) n ≡ part_padded t at n
  part_flag_moved at n h =
      let e : d + at + n ≡ d + (at + n) = omega arith in
      ap (padded_to s (d + at)) e ∙ to_flag_moved k at (at + n) h

  pub parts_flag_moved : (ps : List Part) → AllWithin (length t) ps →
      parts_padded s (moved_parts d ps) ≡ parts_padded t ps
  unfolding parts_padded moved_parts AllWithin
  parts_flag_moved [] w = refl
  parts_flag_moved (p ∷ ps) w = ap₂ ◌||◌ (part_flag_moved p.start p.len w.0) (parts_flag_moved ps w.1)
