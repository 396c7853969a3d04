-- Whether the varint at a place is padded, by its first bytes; and what is written, read again. Assumes nothing.
use Rattle.prelude.proofs.Basics.{ℕ, zero, suc, ◌+◌, ◌-◌, ◌*◌, ◌%◌, ◌^◌, ◌≤◌, ◌<◌, arith, add-one, false, ◌≡◌, refl}
use Rattle.prelude.proofs.Basics.{sym, ap, ◌∙◌, List, ◌∷◌, ◌++◌, append_assoc, length, get_or, take, drop, drop_at}
use Rattle.prelude.proofs.Basics.{drop-cons, take_at, eqb, ltb, le-ltb, lt-ltb, ne_eqb}
use Rattle.varint.specs.Varint.{varint_at, low64}
use Rattle.varint.specs.Shortest.{varint_bytes}
use Rattle.varint.specs.Padded.{is_padded, padded_by, padded_at}
use Rattle.varint.specs.Past.{Past}
use Rattle.varint.specs.VarintRules.{WrittenPlain, OnlyWritten}
use Rattle.varint.specs.private.Behind.{behind_first, padded_first, padded_behind}
use Rattle.varint.specs.declared.Number.{Number}
use Rattle.varint.proofs.PaddedLaws.{not_padded, padded_not}
use Rattle.varint.proofs.GroupLaws.{groups_more, varint_one, varint_none, varint_cut, starts, flag_last}
use Rattle.varint.proofs.PastLaws.{varint_past}
use Rattle.varint.proofs.ShortestLaws.{shortest_last}
use Rattle.varint.proofs.VarintLaws.{reads_there}
use Rattle.std.specs.Prelude.{Option, Some, None}
use Rattle.varint.specs.Number.{some_number}

-- what a varint says of its bytes, by what it is
told : (s : List ℕ) (at : ℕ) (x : Option Number) → x ≡ varint_at s at → padded_by s at x ≡ padded_at s at
unfolding padded_at
told s at x e = ap (padded_by s at) e

-- the bytes from a place on, the first of them ahead
ahead : (s : List ℕ) (at n : ℕ) → at < length s → take (suc n) (drop at s) ≡ get_or s at 0 ∷ take n (drop (at + 1) s)
ahead s at n h =
    ap (take (suc n)) (drop-cons s at 0 h) ∙ ap (λ (m : ℕ). get_or s at 0 ∷ take n (drop m s)) (sym (add-one at))

pub padded_none : (s : List ℕ) (at : ℕ) → length s ≤ at → padded_at s at ≡ false
padded_none s at h = sym (told s at None (varint_none s at h))

-- one byte is never padded
pub padded_one : (s : List ℕ) (at : ℕ) → at < length s → get_or s at 0 < 128 → padded_at s at ≡ false
padded_one s at h b =
    let n : at + 1 - at ≡ 1 = omega arith in
    sym (told s at (some_number (get_or s at 0) (at + 1)) (varint_one s at h b))
    ∙ not_padded (take (at + 1 - at) (drop at s)) (get_or s at 0)
    (rw n (ahead s at 0 h) ∙ sym (shortest_last 9 (get_or s at 0) b))

-- a first byte that has others behind it
module _ (s : List ℕ) (at : ℕ) (inside : at < length s) (more : 128 ≤ get_or s at 0) where
  varint-behind : behind_first (get_or s at 0) s (at + 1) ≡ varint_at s at
  varint-behind = ap low64 (sym (groups_more 9 s at inside more))

  alike : (x : Option Number) → Past at (length s) x → padded_first (get_or s at 0) s (at + 1) x ≡ padded_by s at x
  alike (Some r) p =
      let n : r.next - at ≡ suc (r.next - (at + 1)) = omega (arith, p.0) in
      ap (λ (l : List ℕ). is_padded l r.value) (sym (rw n (ahead s at (r.next - (at + 1)) inside)))
  alike None p = refl

  padded-behind : padded_behind (get_or s at 0) s (at + 1) ≡ padded_at s at
  unfolding padded_behind padded_at
  padded-behind = ap (padded_first (get_or s at 0) s (at + 1)) varint-behind ∙ alike (varint_at s at) (varint_past s at)

  -- in bytes that are lent anew
  pub behind_answer : {t : List ℕ} → t ≡ s → behind_first (get_or s at 0) t (at + 1) ≡ varint_at s at
  behind_answer e = ap (λ (l : List ℕ). behind_first (get_or s at 0) l (at + 1)) e ∙ varint-behind

  pub behind_flag : {t : List ℕ} → t ≡ s → padded_behind (get_or s at 0) t (at + 1) ≡ padded_at s at
  behind_flag e = ap (λ (l : List ℕ). padded_behind (get_or s at 0) l (at + 1)) e ∙ padded-behind

  pub padded_cut : length s - at < 2 → padded_at s at ≡ false
  padded_cut h = sym (told s at None (varint_cut s at (get_or s at 0) inside refl more h))

  -- two bytes are where the second is 0
  pub padded_two : get_or s at 0 < 256 → at + 1 < length s → get_or s (at + 1) 0 < 128 →
      eqb (get_or s (at + 1) 0) 0 ≡ padded_at s at
  padded_two u h b =
      by-weight (get_or s at 0 % 128) (get_or s (at + 1) 0) (omega arith)
      ∙ flag_last (starts (get_or s at 0) s (at + 1) u) (omega arith) more h b
      ∙ padded-behind
    where
      by-weight : (low high : ℕ) → low < 128 → eqb high 0 ≡ ltb (low + high * 128) 128
      by-weight low zero h = sym (lt-ltb (low + 0 * 128) 128 (omega arith))
      by-weight low (suc high) h =
          ne_eqb (suc high) 0 (λ e. absurd (omega arith)) ∙ sym (le-ltb (low + suc high * 128) 128 (omega arith))

-- ---- what is written

-- wherever it stands in a byte string
pub plain_there : (v at : ℕ) (s q : List ℕ) → v < 2 ^ 64 → drop at s ≡ varint_bytes v ++ q → padded_at s at ≡ false
plain_there v at s q h e =
    let n : at + length (varint_bytes v) - at ≡ length (varint_bytes v) = omega arith in
    sym (told s at (some_number v (at + length (varint_bytes v))) (sym (reads_there v at s q h e)))
    ∙ not_padded (take (at + length (varint_bytes v) - at) (drop at s)) v
    (rw n (ap (take (length (varint_bytes v))) e ∙ take_at (varint_bytes v) q (length (varint_bytes v)) refl))

pub written_plain : WrittenPlain
written_plain v p q h = plain_there v (length p) (p ++ varint_bytes v ++ q) q h
    (rw append_assoc (drop_at p (varint_bytes v ++ q) (length p) refl))

pub only_written : OnlyWritten
only_written s at v next e f = padded_not (take (next - at) (drop at s)) v (told s at (some_number v next) (sym e) ∙ f)
