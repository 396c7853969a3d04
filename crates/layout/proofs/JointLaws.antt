-- A part's bytes where they stand among those of others, one part behind the other: each of its fields is read in both
-- places. Assumes nothing.
use Rattle.prelude.proofs.Basics.{ℕ, zero, suc, ◌+◌, ◌≤◌, ◌<◌, arith, Bool, true, false, ◌&&◌, cond, ◌≡◌, refl, sym, ap}
use Rattle.prelude.proofs.Basics.{subst, ◌∙◌, List, [], ◌∷◌, length, take, drop, length-drop, take-append-drop}
use Rattle.prelude.proofs.Basics.{drop-append-le, drop_at, drop-drop, length-take-le, take-append-le, leb, leb-true}
use Rattle.prelude.proofs.Basics.{less_or_not}
use Rattle.varint.proofs.TailLaws.{stands_cut}
use Rattle.wire.proofs.AgreeLaws.{field_longer}
use Rattle.layout.proofs.Names.{field_at, PastField, Field, field_past, moved_field, field_moved, Stands, Tail}
use Rattle.layout.proofs.Names.{stands_length, tail_length, no_slots, bad_slots, use_of, noted, fields_onto}
use Rattle.layout.proofs.Names.{has_required, fields_at, embedded, end_of, all_good, joined, Part, Slots}
use Rattle.layout.proofs.FieldsLaws.{Towards, starts, no_field, goes_on_lem}
use Rattle.layout.proofs.AlikeLaws.{none_alike, onto_alike}
use Rattle.layout.proofs.PartLaws.{part_within}
use Rattle.std.specs.Prelude.{Option, Some, None}
use Rattle.wire.specs.Field.{some_field}

-- slots are good or not
pub not_both : {A : Type 0} {b : Bool} → b ≡ true → b ≡ false → A
not_both e f = absurd (let z : ◌≡◌ {A = ℕ} 0 1 = cc in omega arith)

-- ---- a good list, field by field

-- a field of these bytes, and where it stands
pub record FieldIn (bs : List ℕ) (i number w v st ln next : ℕ) : Type 0 where
  pub read : field_at bs i ≡ some_field number w v st ln next
  pub inside : i < length bs
  pub bytes : st + ln ≤ length bs
  pub onward : i < next
  pub behind : next ≤ length bs

field_in : (bs : List ℕ) (i : ℕ) {number w v st ln next : ℕ} → i < length bs →
    field_at bs i ≡ some_field number w v st ln next → FieldIn bs i number w v st ln next
field_in bs i {number} {w} {v} {st} {ln} {next} h e = go (field_past bs i)
  where
    go : PastField i (length bs) (field_at bs i) → FieldIn bs i number w v st ln next
    go = rw e (λ p. record { read = e; inside = h; bytes = omega arith; onward = p.2; behind = p.3 })

-- what holds behind the last field, and before a field where it holds behind it, holds at the first
module _ (bs : List ℕ) (P : ℕ → Type 0) (last : P (length bs))
    (back : (i number w v st ln next : ℕ) → FieldIn bs i number w v st ln next → P next → P i) where
  module _ (i : ℕ) {x xs : Slots} (f : Towards [] bs i x xs) (good : xs.good ≡ true) (h : i < length bs)
      (on : (j : ℕ) → i < j → j ≤ length bs → (y : Slots) → Towards [] bs j y xs → P j) where
    by_field : (z : Option Field) → field_at bs i ≡ z → P i
    by_field None e = not_both good (ap (λ (z : Slots). z.good) (sym (no_field f h e)))
    by_field (Some r) e =
        let k = field_in bs i h e in
        let u = use_of [] r.number r.wire r.value in
        back i r.number r.wire r.value r.start r.len r.next k
        (on r.next k.onward k.behind (noted u x r.number r.value r.start r.len) (goes_on_lem f h e (use_of [] r.number r.wire r.value) refl))

  along-from : (most i : ℕ) → length bs ≤ i + most → i ≤ length bs → {x xs : Slots} → Towards [] bs i x xs →
      xs.good ≡ true → P i
  along-from zero i h l f good = subst P (omega arith) last
  along-from (suc most) i h l {xs = xs} f good =
      less_or_not i (length bs)
      (λ j. by_field i f good j (λ n m o y g. along-from most n (omega arith) o g good) (field_at bs i) refl)
      (λ j. let e : length bs ≡ i = omega arith in subst P e last)

  pub along : (fields_onto [] bs 0 no_slots).good ≡ true → P 0
  along good = along-from (length bs) 0 (omega arith) (omega arith) (starts [] bs 0) good

-- ---- a part in two places

-- the bytes of a part
abbrev pub part_bytes : List ℕ → Part → List ℕ
part_bytes s p = take p.len (drop p.start s)

-- a good part of s whose bytes stand in t at the place d, and others, q, behind them
pub record Joint (s : List ℕ) (p : Part) (t : List ℕ) (d : ℕ) (q : List ℕ) : Type 0 where
  pub inside : end_of p ≤ length s
  pub good : (embedded [] s p.start p.len).good ≡ true
  pub there : Stands t d (take p.len (drop p.start s)) q

-- a field of the part, read in both
pub record InBoth (s : List ℕ) (p : Part) (t : List ℕ) (d i number w v st ln next : ℕ) : Type 0 where
  pub inside : i < p.len
  pub here : field_at (take (end_of p) s) (p.start + i) ≡ some_field number w v (p.start + st) ln (p.start + next)
  pub there : field_at t (d + i) ≡ some_field number w v (d + st) ln (d + next)
  pub bytes : take ln (drop (d + st) t) ≡ take ln (drop (p.start + st) s)

-- bytes inside those that stand somewhere
stands_inside : {s : List ℕ} {at : ℕ} {bs q : List ℕ} → Stands s at bs q → (i n : ℕ) → i + n ≤ length bs →
    take n (drop (at + i) s) ≡ take n (drop i bs)
stands_inside {s} {at} {bs} {q} k i n h =
    ap (take n) (sym (drop-drop i at s) ∙ ap (drop i) k.there ∙ drop-append-le i bs q (omega arith))
    ∙ take-append-le n (drop i bs) q (omega (arith, length-drop i bs))

part_length : (s : List ℕ) (p : Part) → end_of p ≤ length s → length (part_bytes s p) ≡ p.len
part_length s p h = length-take-le p.len (drop p.start s) (omega (arith, length-drop p.start s))

part_stands : (s : List ℕ) (p : Part) → end_of p ≤ length s →
    Stands s p.start (part_bytes s p) (drop p.len (drop p.start s))
part_stands s p h =
    record { within = omega arith; there = sym (take-append-drop p.len (drop p.start s)) }

module _ {s : List ℕ} {p : Part} {t : List ℕ} {d : ℕ} {q : List ℕ} (j : Joint s p t d q) where
  size : length (part_bytes s p) ≡ p.len
  size = part_length s p j.inside

  cut : Tail (take (end_of p) s) p.start (part_bytes s p)
  cut =
      subst (λ (n : ℕ). Tail (take (p.start + n) s) p.start (part_bytes s p)) size
      (stands_cut (part_stands s p j.inside))

  pub here_length : length (take (end_of p) s) ≡ end_of p
  here_length = tail_length cut ∙ ap (λ (n : ℕ). p.start + n) size

  pub there_length : length t ≡ d + p.len + length q
  there_length = stands_length j.there ∙ ap (λ (n : ℕ). d + n + length q) size

  -- the part's bytes are a good list wherever they stand
  bytes_good : (fields_onto [] (part_bytes s p) 0 no_slots).good ≡ true
  unfolding has_required
  bytes_good =
      let e : p.start + 0 ≡ p.start = omega arith in
      sym (onto_alike [] cut 0 (length (part_bytes s p)) (omega arith)
      (none_alike [] p.start (length (part_bytes s p)))).good
      ∙ ap (λ (i : ℕ). (fields_onto [] (take (end_of p) s) i no_slots).good) e
      ∙ ap (λ (z : Slots). z.good) (part_within [] s p.start p.len j.inside)
      ∙ j.good

  in_both : (i number w v st ln next : ℕ) → FieldIn (part_bytes s p) i number w v st ln next →
      InBoth s p t d i number w v st ln next
  in_both i number w v st ln next k =
      record {
        inside = omega (arith, size, k.inside);
        here = field_moved cut i ∙ ap (moved_field p.start) k.read;
        there =
            field_moved (record { within = j.there.within; is = j.there.there }) i
            ∙ ap (moved_field d) (field_longer (part_bytes s p) q i k.read);
        bytes =
            stands_inside j.there st ln k.bytes
            ∙ sym (stands_inside (part_stands s p j.inside) st ln k.bytes);
      }

  -- what holds behind the part and goes back over each of its fields holds at its first
  pub j_along : (P : ℕ → Type 0) → P p.len →
      ((i number w v st ln next : ℕ) → InBoth s p t d i number w v st ln next → P next → P i) → P 0
  j_along P last back =
      along (part_bytes s p) P (subst P (sym size) last)
      (λ i number w v st ln next k. back i number w v st ln next (in_both i number w v st ln next k)) bytes_good

  -- the bytes behind the part's
  pub joint_rest : Tail t (d + p.len) q
  joint_rest =
      record {
        within = omega (arith, there_length);
        is =
            sym (drop-drop p.len d t)
            ∙ ap (drop p.len) j.there.there
            ∙ drop_at (part_bytes s p) q p.len size;
      }

-- ---- parts one after the other

pub and_first : (a b : Bool) → (a && b) ≡ true → a ≡ true
and_first true b e = refl
and_first false b e = e

pub and_second : (a b : Bool) → (a && b) ≡ true → b ≡ true
and_second true b e = e
and_second false b e = not_both e refl

-- a good part ends within the bytes
part_inside : (s : List ℕ) (p : Part) → (embedded [] s p.start p.len).good ≡ true → end_of p ≤ length s
part_inside s p e = go (leb (end_of p) (length s)) refl e
  where
    go : (b : Bool) → leb (end_of p) (length s) ≡ b →
        (cond b (fields_at [] (take (end_of p) s) p.start) bad_slots).good ≡ true → end_of p ≤ length s
    go true h f = leb-true (end_of p) (length s) h
    go false h f = not_both f refl

module _ (s : List ℕ) (p : Part) (ps : List Part) (e : all_good s (p ∷ ps) ≡ true) where
  pub first_good : (embedded [] s p.start p.len).good ≡ true
  unfolding all_good
  first_good = and_first (embedded [] s p.start p.len).good (all_good s ps) e

  pub rest_good : all_good s ps ≡ true
  unfolding all_good
  rest_good = and_second (embedded [] s p.start p.len).good (all_good s ps) e

  pub first_joint : {t : List ℕ} {d : ℕ} → Tail t d (joined s (p ∷ ps)) → Joint s p t d (joined s ps)
  unfolding joined
  first_joint k =
      record {
        inside = part_inside s p first_good;
        good = first_good;
        there = record { within = k.within; there = k.is };
      }
