-- Where a message in parts stands: what it keeps lies within the bytes; it reads alike wherever its bytes stand; and of
-- a field with bytes the value is the length. Assumes nothing.
use Rattle.prelude.proofs.Basics.{ℕ, zero, suc, ◌+◌, ◌≤◌, arith, Bool, true, false, cond, ◌≡◌, refl, sym, ap, ◌∙◌, List}
use Rattle.prelude.proofs.Basics.{[], ◌∷◌, ◌++◌, length, get_or, take, length-take-le, leb, le-leb, le-ltb, leb-true}
use Rattle.prelude.proofs.Basics.{lt-ltb, both, yes, less_or_not}
use Rattle.layout.proofs.Names.{field_at, Field, moved_field, field_moved, Stands, Tail, stands_length}
use Rattle.layout.proofs.Names.{stands_take, tail_length, wire_of, row_for, no_slots, bad_slots, fields_onto}
use Rattle.layout.proofs.Names.{has_required, end_of, is_part, part_by, parts_from, parts_of, parts_in, part_onto}
use Rattle.layout.proofs.Names.{parts_onto, Part, Slots}
use Rattle.layout.specs.Merged.{merged}
use Rattle.layout.specs.MergedRules.{MergedWithin}
use Rattle.layout.proofs.AlikeLaws.{Alike, alike_as, none_alike, bad_alike, checked_alike, onto_alike}
use Rattle.layout.proofs.FoundLaws.{SameSize, none_sized, bad_sized, from_sized}
use Rattle.layout.proofs.KeptLaws.{Kept, none_kept, bad_kept, from_kept_by}
use Rattle.layout.proofs.MergeLaws.{AllWithin}
use Rattle.layout.proofs.PartsLaws.{parts_same}
use Rattle.std.specs.Prelude.{Option, Some, None}

-- ---- what holds of every list that goes on holds of all parts

module _ (rows : List (List ℕ)) (s : List ℕ) (P : Slots → Type 0) (bad : P bad_slots)
    (on : (p : Part) (x : Slots) → end_of p ≤ length s → P x → P (fields_onto rows (take (end_of p) s) p.start x)) where
  part-holds : (p : Part) (x : Slots) → P x → P (part_onto rows s p x)
  part-holds p x h =
      both P (leb (end_of p) (length s)) _ _ (λ e. on p x (leb-true (end_of p) (length s) e) h) (λ _. bad)

  parts-hold : (ps : List Part) (x : Slots) → P x → P (parts_onto rows s ps x)
  unfolding parts_onto
  parts-hold [] x h = h
  parts-hold (p ∷ ps) x h =
      both P (part_onto rows s p x).good _ _ (λ _. parts-hold ps (part_onto rows s p x) (part-holds p x h)) (λ _. bad)

  merged-holds : (ps : List Part) → P no_slots → P (merged rows s ps)
  merged-holds ps h =
      both P (has_required rows (parts_onto rows s ps no_slots).count) _ _ (λ _. parts-hold ps no_slots h) (λ _. bad)

-- ---- within the bytes

pub merged_within : MergedWithin
merged_within rows s ps =
    (merged-holds rows s (Kept (length s)) (bad_kept (length s))
    (λ p x h a.
    from_kept_by rows (take (end_of p) s) (length s) (omega (arith, length-take-le (end_of p) s h))
    (length (take (end_of p) s)) p.start a)
    ps (none_kept (length s))
    ).inside

-- ---- value and length

pub merged_long : (rows : List (List ℕ)) (k : ℕ) → wire_of (row_for rows k) ≡ 2 → (s : List ℕ) (ps : List Part) →
    get_or (merged rows s ps).len k 0 ≡ get_or (merged rows s ps).value k 0
merged_long rows k long s ps =
    (merged-holds rows s (SameSize k) (bad_sized k)
    (λ p x _ a. from_sized rows k long (length (take (end_of p) s)) (take (end_of p) s) p.start x a) ps (none_sized k)
    ).alike

-- ---- wherever it stands

-- the same part, d places further on
abbrev pub moved_part : ℕ → Part → Part
moved_part d p = record { start = d + p.start; len = p.len }

unfoldable pub moved_parts : ℕ → List Part → List Part
moved_parts d [] = []
moved_parts d (p ∷ ps) = moved_part d p ∷ moved_parts d ps

-- parts of bytes t, and where these stand in s
module _ (rows : List (List ℕ)) {s : List ℕ} {d : ℕ} {t q : List ℕ} (k : Stands s d t q) where
  part-alike : (p : Part) → end_of p ≤ length t → {x y : Slots} → Alike rows d (length t) x y →
      Alike rows d (length t) (part_onto rows t p x) (part_onto rows s (moved_part d p) y)
  part-alike p h {x} {y} a =
      let further : d + end_of p ≡ end_of (moved_part d p) = omega arith in
      alike_as rows d (length t)
      (yes (fields_onto rows (take (end_of p) t) p.start x) bad_slots (le-leb (end_of p) (length t) h))
      (ap (λ (e : ℕ). fields_onto rows (take e s) (d + p.start) y) further
      ∙ yes (fields_onto rows (take (end_of (moved_part d p)) s) (d + p.start) y) bad_slots
      (le-leb (end_of (moved_part d p)) (length s) (omega (arith, stands_length k))))
      (onto_alike rows (stands_take k (end_of p) h) p.start (length t)
      (omega (arith, length-take-le (end_of p) t h)) a)

  either-alike : (b : Bool) {x y : Slots} → Alike rows d (length t) x y →
      Alike rows d (length t) (cond b x bad_slots) (cond b y bad_slots)
  either-alike true a = a
  either-alike false a = bad_alike rows d (length t)

  parts_alike : (ps : List Part) → AllWithin (length t) ps → {x y : Slots} → Alike rows d (length t) x y →
      Alike rows d (length t) (parts_onto rows t ps x) (parts_onto rows s (moved_parts d ps) y)
  unfolding parts_onto AllWithin moved_parts
  parts_alike [] w a = a
  parts_alike (p ∷ ps) w {x} {y} a =
      let b = part-alike p w.0 a in
      alike_as rows d (length t) refl
      (ap (λ (c : Bool). cond c (parts_onto rows s (moved_parts d ps) (part_onto rows s (moved_part d p) y)) bad_slots)
      (sym b.good))
      (either-alike (part_onto rows t p x).good (parts_alike ps w.1 b))

  pub merged_alike : (ps : List Part) → AllWithin (length t) ps →
      Alike rows d (length t) (merged rows t ps) (merged rows s (moved_parts d ps))
  merged_alike ps w = checked_alike rows d (length t) (parts_alike ps w (none_alike rows d (length t)))

-- where the parts stand
module _ (k : ℕ) {s : List ℕ} {d : ℕ} {t : List ℕ} (j : Tail s d t) where
  by-moved : (f g : ℕ → List Part) → (z : Option Field) → ((q : ℕ) → f (d + q) ≡ moved_parts d (g q)) →
      part_by k f (moved_field d z) ≡ moved_parts d (part_by k g z)
  unfolding moved_parts
  by-moved f g (Some r) e = go (is_part k r.number r.wire)
    where
      go : (b : Bool) →
          cond b (record { start = d + r.start; len = r.len } ∷ f (d + r.next)) (f (d + r.next))
          ≡ moved_parts d (cond b (record { start = r.start; len = r.len } ∷ g r.next) (g r.next))
      go true = ap (λ (ps : List Part). record { start = d + r.start; len = r.len } ∷ ps) (e r.next)
      go false = e r.next
  by-moved f g None e = refl

  from-moved : (most p : ℕ) → parts_from most k s (d + p) ≡ moved_parts d (parts_from most k t p)
  unfolding parts_from moved_parts
  from-moved zero p = refl
  from-moved (suc most) p =
      less_or_not p (length t)
      (λ h.
      rw (lt-ltb (d + p) (length s) (omega (arith, tail_length j)), lt-ltb p (length t) h)
      (ap (part_by k (λ next. parts_from most k s next)) (field_moved j p)
      ∙ by-moved (λ next. parts_from most k s next) (λ next. parts_from most k t next) (field_at t p)
      (λ q. from-moved most q)))
      (λ h. rw (le-ltb (d + p) (length s) (omega (arith, tail_length j)), le-ltb p (length t) h))

  pub parts_moved : (p : ℕ) → parts_of k s (d + p) ≡ moved_parts d (parts_of k t p)
  parts_moved p =
      parts_same k s (length s) (length t) (d + p) (omega arith) (omega (arith, tail_length j))
      ∙ from-moved (length t) p

moved_then : (d : ℕ) (xs ys : List Part) → moved_parts d (xs ++ ys) ≡ moved_parts d xs ++ moved_parts d ys
unfolding moved_parts
moved_then d [] ys = refl
moved_then d (x ∷ xs) ys = ap (λ (ps : List Part). moved_part d x ∷ ps) (moved_then d xs ys)

pub inner_moved : (k : ℕ) {s : List ℕ} {d : ℕ} {t q : List ℕ} → Stands s d t q → (ps : List Part) →
    AllWithin (length t) ps → parts_in k s (moved_parts d ps) ≡ moved_parts d (parts_in k t ps)
unfolding parts_in moved_parts AllWithin
inner_moved k j [] w = refl
inner_moved k {s} {d} {t} j (p ∷ ps) w =
    let further : end_of (moved_part d p) ≡ d + end_of p = omega arith in
    ap (λ (ls : List Part). ls ++ parts_in k s (moved_parts d ps))
    (ap (λ (e : ℕ). parts_of k (take e s) (d + p.start)) further
    ∙ parts_moved k (stands_take j (end_of p) w.0) p.start)
    ∙ ap (λ (ls : List Part). moved_parts d (parts_of k (take (end_of p) t) p.start) ++ ls)
    (inner_moved k j ps w.1)
    ∙ sym (moved_then d (parts_of k (take (end_of p) t) p.start) (parts_in k t ps))
