-- A number read byte by byte where enough bytes are there: a law for each byte and for each way out. Assumes nothing.
use Rattle.prelude.proofs.Basics.{ℕ, ◌+◌, ◌-◌, ◌*◌, ◌%◌, ◌^◌, ◌≤◌, ◌<◌, arith, Bool, true, false, cond, ◌≡◌, refl, sym}
use Rattle.prelude.proofs.Basics.{ap, ap₂, ◌∙◌, List, length, get_or, drop, length-drop, length-take-le, eqb}
use Rattle.prelude.proofs.Basics.{eqb-false, eqb-true, le-ltb, lt-ltb, ltb, less_or_not, add-one}
use native.Mathlib.Nat.{mul-add, mul_comm, mul-le-mul_right, pow-suc}
use Rattle.varint.specs.declared.Number.{Number}
use Rattle.varint.specs.Varint.{onto, groups, low64, varint_at}
use Rattle.varint.specs.Padded.{padded_at}
use Rattle.varint.specs.Past.{Past}
use Rattle.varint.proofs.GroupLaws.{Reading, starts, goes_on_lem, whole_last, flag_last, varint_one, varint_none}
use Rattle.varint.proofs.FlagLaws.{behind_answer, behind_flag, padded_one, only_written}
use Rattle.varint.proofs.PastLaws.{groups_past}
use Rattle.varint.proofs.ShortestLaws.{shortest_at_most}
use Rattle.session.specs.Sound.{max_number}
use Rattle.image.specs.private.Ends.{number_at}
use Rattle.image.proofs.NumberLaws.{number_bad, number_padded, number_large, number_good}
use Rattle.std.specs.Prelude.{Option, Some, None}
use Rattle.varint.specs.Number.{some_number}

module _ (s : List ℕ) (at : ℕ) where
  pub number_none : length s ≤ at → None ≡ number_at s at
  number_none h = number_bad s at (varint_none s at h)

  pub number_one : (b : ℕ) → b ≡ get_or s at 0 → at < length s → b < 128 → some_number b (at + 1) ≡ number_at s at
  number_one b e h low =
      let l = rw e at low in
      rw e (number_good s at (get_or s at 0) (at + 1) (varint_one s at h l) (padded_one s at h l) (omega arith))

  -- a number of six bytes or more is padded or too large
  number-long : (v next : ℕ) → some_number v next ≡ varint_at s at → at + 5 < next → next ≤ length s →
      None ≡ number_at s at
  number-long v next e long h = go (padded_at s at) refl
    where
      go : (b : Bool) → padded_at s at ≡ b → None ≡ number_at s at
      go true f = number_padded s at f
      go false f =
          number_large s at v next e f
          (less_or_not max_number v (λ h. h)
          (λ small. absurd (omega (
            arith,
            ap length (only_written s at v next (sym e) f),
            length-take-le (next - at) (drop at s) (omega (arith, length-drop at s)),
            shortest_at_most 10 4 v (omega arith),
          ))))

-- k bytes that have others behind them were read: `low` is their number with their marks, each of which counts as much
-- as 1 of the next byte
pub record Marked (s : List ℕ) (at low marks k : ℕ) : Type 0 where
  pub value : ℕ
  pub is : low ≡ value + marks
  pub inside : at < length s
  pub more : 128 ≤ get_or s at 0
  pub reading : Reading (get_or s at 0) s (at + 1) value (128 ^ k) (at + k) k

pub marked_starts : (s : List ℕ) (at b : ℕ) → b ≡ get_or s at 0 → at < length s → 128 ≤ b → b < 256 → Marked s at b 128 1
marked_starts s at b e h m u =
    record {
      value = get_or s at 0 % 128;
      is = omega arith;
      inside = h;
      more = rw e at m;
      reading = starts (get_or s at 0) s (at + 1) (rw e at u);
    }

-- one byte more
module _ {s : List ℕ} {at low marks k : ℕ} (m : Marked s at low marks k) (few : k < 9) (there : at + k < length s)
    (b : ℕ) (e : b ≡ get_or s (at + k) 0) where
  abbrev byte : ℕ
  byte = get_or s (at + k) 0

  pub marked_on : 128 ≤ b → b < 256 → Marked s at (low + b * 128 ^ k) (marks + 128 ^ (k + 1)) (k + 1)
  marked_on h u =
      record {
        value = m.value + byte % 128 * 128 ^ k;
        is = omega (
          arith,
          m.is,
          ap (λ (n : ℕ). 128 ^ k * n) split,
          mul-add (128 ^ k) 128 (byte % 128),
          mul_comm (128 ^ k) b,
          mul_comm (128 ^ k) (byte % 128),
          weighs,
        );
        inside = m.inside;
        more = m.more;
        reading = rw (weighs, place) (goes_on_lem m.reading few there (rw e at h) (rw e at u));
      }
    where
      split : b ≡ 128 + byte % 128
      split = omega arith

      weighs : 128 ^ (k + 1) ≡ 128 ^ k * 128
      weighs = rw (add-one, pow-suc) refl

      place : at + (k + 1) ≡ at + k + 1
      place = omega arith

  module _ (low_byte : b < 128) (v next : ℕ) (v-is : v ≡ low + b * 128 ^ k - marks) (next_is : next ≡ at + (k + 1))
    where
      v-read : v ≡ m.value + byte * 128 ^ k
      v-read = omega (arith, v-is, m.is, ap (λ (n : ℕ). n * 128 ^ k) e)

      answered : some_number v next ≡ varint_at s at
      answered =
          let n : next ≡ at + k + 1 = omega arith in
          ap₂ some_number v-read n
          ∙ whole_last m.reading few there (rw e at low_byte)
          ∙ behind_answer s at m.inside m.more refl

      flagged : ltb v (128 ^ k) ≡ padded_at s at
      flagged =
          ap (λ (n : ℕ). ltb n (128 ^ k)) v-read
          ∙ flag_last m.reading few m.more there (rw e at low_byte)
          ∙ behind_flag s at m.inside m.more refl

      needed : 0 < b → padded_at s at ≡ false
      needed h = sym flagged ∙ le-ltb v (128 ^ k) (omega (arith, v-is, m.is, mul-le-mul_right (128 ^ k) h))

      -- a last byte of 0 was not needed
      pub marked_last : v ≤ max_number → cond (eqb b 0) None (some_number v next) ≡ number_at s at
      marked_last small = go (eqb b 0) refl
        where
          go : (t : Bool) → eqb b 0 ≡ t → cond t None (some_number v next) ≡ number_at s at
          go true z =
              let none : b * 128 ^ k ≡ 0 * 128 ^ k = ap (λ (n : ℕ). n * 128 ^ k) (eqb-true b 0 z) in
              number_padded s at
              (sym flagged ∙ lt-ltb v (128 ^ k) (omega (arith, none, v-is, m.is, m.reading.small)))
          go false z =
              number_good s at v next answered
              (needed (less_or_not 0 b (λ h. h) (λ h. absurd (eqb-false b 0 z (omega arith))))) small

      marked-large : 0 < b → max_number < v → None ≡ number_at s at
      marked-large h large = number_large s at v next answered (needed h) large

-- five bytes that have others behind them begin no such number
five_more : {s : List ℕ} {at low marks : ℕ} → Marked s at low marks 5 → None ≡ number_at s at
five_more {s} {at} m =
    go (groups 5 s (at + 5)) (groups_past 5 s (at + 5))
    (ap low64 m.reading.whole ∙ behind_answer s at m.inside m.more refl)
  where
    go : (x : Option Number) → Past (at + 5) (length s) x → low64 (onto m.value (128 ^ 5) x) ≡ varint_at s at →
        None ≡ number_at s at
    go (Some r) p e = number-long s at _ r.next e p.0 p.1
    go None p e = number_bad s at e

-- 16 in the fifth byte are 2^32
pub fifth_over : {s : List ℕ} {at low marks : ℕ} → Marked s at low marks 4 → at + 4 < length s → (b : ℕ) →
    b ≡ get_or s (at + 4) 0 → 16 ≤ b → b < 256 → None ≡ number_at s at
fifth_over {s} {at} {low} m there b e h u =
    less_or_not b 128
    (λ l. marked-large m (omega arith) there b e l _ _ refl refl (omega arith) (omega (arith, m.is)))
    (λ l. five_more (marked_on m (omega arith) there b e l u))
