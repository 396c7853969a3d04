-- Laws of bytes put one stretch behind the other. Assumes nothing.
use Rattle.prelude.proofs.Basics.{ℕ, suc, ◌+◌, ◌-◌, ◌≤◌, ◌<◌, arith, add-zero, zero-add, ◌≡◌, refl, sym, ap}
use Rattle.prelude.proofs.Basics.{subst, ◌∙◌, List, [], ◌∷◌, ◌++◌, append-nil, append_assoc, length, set, take}
use Rattle.prelude.proofs.Basics.{drop, drop_of_length-le, length-append, length-drop, drop-drop, length-take-le, take-append-drop}
use Rattle.prelude.proofs.Basics.{length-set, length-sets, get_or, sets, sets-eq, take_all, take_at, leb, le-leb, lt-leb}
use Rattle.prelude.proofs.Basics.{add-one, drop-cons, less_or_not}
use lib.Seq.{set_out}
use borrow.Rule.Slice.PartMut.{mid_of, put_mid}
use Rattle.std.specs.Prelude.{Option, Some, None}
use Rattle.encode.specs.Put.{put_at, written}
use Rattle.encode.specs.Puts.{Puts, PutsIfRoom}
use Rattle.encode.proofs.PutLaws.{put_full, put_fits}

-- ---- stores one behind the other, and past the end

pub sets_append : (xs ys b : List ℕ) (at : ℕ) → sets (sets b at xs) (at + length xs) ys ≡ sets b at (xs ++ ys)
sets_append [] ys b at = ap (λ (i : ℕ). sets b i ys) (add-zero at)
sets_append (x ∷ xs) ys b at =
    let e : at + suc (length xs) ≡ suc at + length xs = omega arith in
    ap (λ (i : ℕ). sets (sets (set b at x) (suc at) xs) i ys) e ∙ sets_append xs ys (set b at x) (suc at)

sets_out : (xs b : List ℕ) (at : ℕ) → length b ≤ at → sets b at xs ≡ b
sets_out [] b at h = refl
sets_out (x ∷ xs) b at h = ap (λ (l : List ℕ). sets l (suc at) xs) (set_out b at x h)
    ∙ sets_out xs b (suc at) (omega arith)

pub room_left : (size at n : ℕ) → at ≤ size → leb n (size - at) ≡ leb (at + n) size
room_left size at n h =
    less_or_not (size - at) n (λ l. lt-leb n (size - at) l ∙ sym (lt-leb (at + n) size (omega arith)))
    (λ l. le-leb n (size - at) l ∙ sym (le-leb (at + n) size (omega arith)))

-- ---- puts

pub puts_nothing : (b : List ℕ) (at : ℕ) → Puts b at [] at b
puts_nothing b at = record { behind = omega arith; stored = refl }

-- a buffer keeps its length
pub puts_length : {b bs b₁ : List ℕ} {at p : ℕ} → Puts b at bs p b₁ → length b₁ ≡ length b
puts_length {b} {bs} {at = at} f = ap length f.stored ∙ length-sets b at bs

-- bytes, and behind them more
pub puts_then : {b xs b₁ ys b₂ : List ℕ} {at p q : ℕ} →
    Puts b at xs p b₁ → Puts b₁ p ys q b₂ → Puts b at (xs ++ ys) q b₂
puts_then {b} {xs} {b₁} {ys} {b₂} {at} {p} {q} f g =
    record {
      behind = rw length-append (omega (arith, f.behind, g.behind, same));
      stored = g.stored ∙ less_or_not (length b) (at + length xs) past within;
    }
  where
    same : length b₁ ≡ length b
    same = puts_length f

    all : sets b₁ (at + length xs) ys ≡ sets b at (xs ++ ys)
    all = ap (λ (l : List ℕ). sets l (at + length xs) ys) f.stored ∙ sets_append xs ys b at

    within : at + length xs ≤ length b → sets b₁ p ys ≡ sets b at (xs ++ ys)
    within h =
        let e : p ≡ at + length xs = omega (arith, f.behind) in
        ap (λ (i : ℕ). sets b₁ i ys) e ∙ all

    past : length b < at + length xs → sets b₁ p ys ≡ sets b at (xs ++ ys)
    past h =
        sets_out ys b₁ p (omega (arith, f.behind, same))
        ∙ sym (sets_out ys b₁ (at + length xs) (omega (arith, same)))
        ∙ all

-- the same bytes, by another name
pub puts_as : {b xs ys b₁ : List ℕ} {at p : ℕ} → xs ≡ ys → Puts b at xs p b₁ → Puts b at ys p b₁
puts_as {b} {xs} {ys} {b₁} {at} {p} e f = subst (λ (l : List ℕ). Puts b at l p b₁) e f

-- past the end nothing is stored
pub past_end : (b : List ℕ) (at : ℕ) (bs : List ℕ) → length b ≤ at → Puts b at bs at b
past_end b at bs h = record { behind = omega arith; stored = sym (sets_out bs b at h) }

-- ---- a stretch put byte by byte: those that are put, and those that are left

pub record Putting (b₀ : List ℕ) (at : ℕ) (whole b : List ℕ) (p : ℕ) (rest : List ℕ) : Type 0 where
  pub done : List ℕ
  pub put : Puts b₀ at done p b
  pub left : done ++ rest ≡ whole

pub putting_starts : (b : List ℕ) (at : ℕ) (whole : List ℕ) → Putting b at whole b at whole
putting_starts b at whole = record { done = []; put = puts_nothing b at; left = refl }

pub putting_goes_on : {b₀ whole b b₁ rest rest₁ : List ℕ} {at p q x : ℕ} → Putting b₀ at whole b p rest →
    rest ≡ x ∷ rest₁ → Puts b p (x ∷ []) q b₁ → Putting b₀ at whole b₁ q rest₁
putting_goes_on {rest₁ = rest₁} {x = x} r e f =
    record {
      done = r.done ++ (x ∷ []);
      put = puts_then r.put f;
      left = append_assoc r.done (x ∷ []) rest₁ ∙ ap (λ (l : List ℕ). r.done ++ l) (sym e) ∙ r.left;
    }

pub putting_ends : {b₀ whole b b₁ rest : List ℕ} {at p q x : ℕ} → Putting b₀ at whole b p rest → rest ≡ x ∷ [] →
    Puts b p (x ∷ []) q b₁ → Puts b₀ at whole q b₁
putting_ends r e f = puts_as (ap (λ (l : List ℕ). r.done ++ l) (sym e) ∙ r.left) (puts_then r.put f)

pub putting_ended : {b₀ whole b rest : List ℕ} {at p : ℕ} → Putting b₀ at whole b p rest → rest ≡ [] →
    Puts b₀ at whole p b
putting_ended r e =
    puts_as (sym (append-nil r.done) ∙ ap (λ (l : List ℕ). r.done ++ l) (sym e) ∙ r.left) r.put

-- ---- with room, and without

pub puts_room : {b bs b₁ : List ℕ} {at r : ℕ} → at + length bs ≤ length b → Puts b at bs r b₁ →
    PutsIfRoom b at bs (Some r) b₁
puts_room {b} {bs} {b₁} {at} {r} h f =
    let w = put_fits b at bs h in
    let e : r ≡ at + length bs = omega (arith, f.behind) in
    record { answered = ap Some e ∙ w.0; left = f.stored ∙ w.1 }

pub puts_none : {b : List ℕ} {at : ℕ} (bs : List ℕ) → length b < at + length bs → PutsIfRoom b at bs None b
puts_none {b} {at} bs h = let w = put_full b at bs h in record { answered = w.0; left = w.1 }

pub if_room_as : {b xs ys b₁ : List ℕ} {at : ℕ} {r : Option ℕ} → xs ≡ ys → PutsIfRoom b at xs r b₁ → PutsIfRoom b at ys r b₁
if_room_as {b} {xs} {ys} {b₁} {at} {r} e f = subst (λ (l : List ℕ). PutsIfRoom b at l r b₁) e f

-- the two equations of a contract
pub equations : {b xs ys b₁ : List ℕ} {at : ℕ} {r : Option ℕ} → xs ≡ ys → PutsIfRoom b at xs r b₁ →
    (r ≡ put_at b at ys) × (b₁ ≡ written b at ys)
equations e f = let g = if_room_as e f in (g.answered, g.left)

pub equations_as : (b : List ℕ) (at : ℕ) {xs ys b₁ : List ℕ} {r : Option ℕ} → xs ≡ ys →
    (r ≡ put_at b at xs) × (b₁ ≡ written b at xs) → (r ≡ put_at b at ys) × (b₁ ≡ written b at ys)
equations_as b at {b₁ = b₁} {r = r} e f =
    subst (λ (l : List ℕ). (r ≡ put_at b at l) × (b₁ ≡ written b at l)) e f

-- what is put at the front of a buffer with room stands there
module _ {b bs b₁ : List ℕ} {r : ℕ} (h : length bs ≤ length b) (f : Puts b 0 bs r b₁) where
  pub front_within : r ≤ length b₁
  front_within = omega (arith, f.behind, ap length f.stored, length-sets b 0 bs)

  pub front : take r b₁ ≡ bs
  front =
      let room : 0 + length bs ≤ length b = omega arith in
      let e : length bs ≡ r = omega (arith, f.behind) in
      ap (λ (l : List ℕ). take r l) (f.stored ∙ sets-eq bs b 0 room) ∙ take_at bs (drop (0 + length bs) b) r e

-- bytes put at the front of the rest of a buffer, from p on, are put at p
pub puts_rest : {b ys part : List ℕ} {p m k : ℕ} → p + length ys ≤ length b → k ≡ length b - p →
    Puts (mid_of p k b) 0 ys m part → Puts b p ys (p + m) (put_mid p k b part)
puts_rest {b} {ys} {part} {p} {m} {k} h e f =
    record {
      behind = omega (arith, f.behind, ap length all, length-drop p b);
      stored =
          ap (λ (l : List ℕ). take p b ++ l)
          (ap (λ (l : List ℕ). part ++ l) (drop_of_length-le (drop p b) none) ∙ append-nil part ∙ stored-part)
          ∙ sym (append_assoc (take p b) ys (drop (p + length ys) b))
          ∙ sym (sets-eq ys b p h);
    }
  where
    none : length (drop p b) ≤ k
    none = rw length-drop (omega arith)

    all : mid_of p k b ≡ drop p b
    all = take_all k (drop p b) none

    stored-part : part ≡ ys ++ drop (p + length ys) b
    stored-part =
        f.stored
        ∙ ap (λ (l : List ℕ). sets l 0 ys) all
        ∙ sets-eq ys (drop p b) 0 (rw length-drop (omega arith))
        ∙ ap (λ (l : List ℕ). ys ++ l) (drop-drop (0 + length ys) p b)
        ∙ ap (λ (i : ℕ). ys ++ drop (p + i) b) (zero-add (length ys))

-- ---- bytes copied over others, as many, one a turn: those that are left, stored from here on, give what is to be

pub record Copying (from to : List ℕ) (i : ℕ) : Type 0 where
  pub same : length to ≡ length from
  pub left : sets to i (drop i from) ≡ from

pub copy_starts : (from to : List ℕ) → length to ≡ length from → Copying from to 0
copy_starts from to h =
    record {
      same = h;
      left =
          sets-eq from to 0 (omega arith)
          ∙ ap (λ (l : List ℕ). from ++ l) (drop_of_length-le to (omega arith))
          ∙ append-nil from;
    }

pub copy_goes_on : {from to : List ℕ} {i : ℕ} → Copying from to i → i < length from →
    Copying from (set to i (get_or from i 0)) (i + 1)
copy_goes_on {from} {to} {i} r h =
    record {
      same = rw length-set r.same;
      left = rw (add-one i) (sym (ap (sets to i) (drop-cons from i 0 h)) ∙ r.left);
    }

pub copy_ends : {from to : List ℕ} {i : ℕ} → Copying from to i → length from ≤ i → to ≡ from
copy_ends {from} {to} {i} r h = sym (ap (sets to i) (drop_of_length-le from h)) ∙ r.left

-- ---- bytes copied over a part of the buffer

-- the part that they fit exactly
pub puts_copied : {b bs part : List ℕ} {at k : ℕ} → at + length bs ≤ length b → k ≡ length bs → part ≡ bs →
    Puts b at bs (at + length bs) (put_mid at k b part)
puts_copied {b} {bs} {part} {at} {k} h e f =
    record {
      behind = omega arith;
      stored =
          rw (e, f)
          (ap (λ (l : List ℕ). take at b ++ (bs ++ l)) (drop-drop (length bs) at b)
          ∙ sym (append_assoc (take at b) bs (drop (at + length bs) b))
          ∙ sym (sets-eq bs b at h));
    }

-- the rest of it, where they do not all fit
pub puts_cut : {b bs part : List ℕ} {at k : ℕ} → at + k ≡ length b → k ≤ length bs → part ≡ take k bs →
    Puts b at bs (at + k) (put_mid at k b part)
puts_cut {b} {bs} {part} {at} {k} h within f =
    record { behind = omega arith; stored = front.stored ∙ rest-out ∙ ap (sets b at) (take-append-drop k bs) }
  where
    long : length (take k bs) ≡ k
    long = length-take-le k bs within

    front : Puts b at (take k bs) (at + length (take k bs)) (put_mid at k b part)
    front = puts_copied (omega (arith, long)) (sym long) f

    rest-out : sets b at (take k bs) ≡ sets b at (take k bs ++ drop k bs)
    rest-out =
        sym (sets_out (drop k bs) (sets b at (take k bs)) (at + length (take k bs))
        (omega (arith, long, length-sets b at (take k bs))))
        ∙ sets_append (take k bs) (drop k bs) b at
