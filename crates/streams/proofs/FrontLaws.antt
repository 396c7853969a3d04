-- What stands first in some bytes is told by the first of them: more bytes behind change neither a whole frame nor a
-- bad length. Assumes nothing.
use Rattle.prelude.proofs.Basics.{ℕ, zero, suc, ◌+◌, ◌*◌, ◌≤◌, arith, Bool, true, false, cond, ◌≡◌, refl, sym, ap, ap₂}
use Rattle.prelude.proofs.Basics.{◌∙◌, ◌⊎◌, inl, inr, ⊎_elim, List, [], ◌++◌, append-nil, length, get_or, take, drop}
use Rattle.prelude.proofs.Basics.{List·getD-append, length-append, length-take, take-append-drop, get_or-take}
use Rattle.prelude.proofs.Basics.{length-take-le, take-take, eqb, leb, ltb, eq-eqb, eqb-false, eqb-true, le-leb}
use Rattle.prelude.proofs.Basics.{le-ltb, leb-true, lt-ltb, ltb-false, ltb-true, ne_eqb, both, Ok, Err}
use lib.Seq.{take-append_seam}
use Rattle.protocol.specs.Reason as Reason
use Rattle.scalar.specs.Fixed.{little}
use Rattle.protocol.specs.declared.reason.Reason as Declared
use Rattle.message.specs.Head.{HeadResult, framed, length_bytes, head_of, length_of, max_length, head_reason}
use Rattle.streams.specs.Reader.{stands_first, bad_first}
use Rattle.streams.specs.ReaderRules.{kept, WholeFirst, BadFirst, Whole}

-- ---- the head, case by case

-- a whole frame stands first: its type and its end
pub record Stands (b : List ℕ) (kind end : ℕ) : Type 0 where
  pub first : WholeFirst b
  pub type : kind ≡ get_or b length_bytes 0
  pub ends : end ≡ length_bytes + length_of b

-- none stands first: why
pub record Declines (b : List ℕ) (reason : ℕ) : Type 0 where
  pub known : (reason ≡ Reason.not_all_there) ⊎ (reason ≡ Reason.bad_length)
  pub bad : reason ≡ Reason.bad_length → BadFirst b

abbrev Says : List ℕ → HeadResult → Type 0
Says b (Ok head) = Stands b head.kind head.end
Says b (Err reason) = Declines b (Reason.number_of reason)

waits : (b : List ℕ) → Declines b Reason.not_all_there
waits b = record { known = inl refl; bad = λ e. absurd (omega arith) }

is_refused_lem : (b : List ℕ) → BadFirst b → Declines b Reason.bad_length
is_refused_lem b w = record { known = inr refl; bad = λ _. w }

head_says : (b : List ℕ) → Says b (head_of b)
head_says b =
    both (Says b) (leb length_bytes (length b)) _ _
    (λ l.
    both (Says b) (eqb (length_of b) 0) _ _
    (λ e. is_refused_lem b (record { known = leb-true length_bytes (length b) l; bad = inl (eqb-true (length_of b) 0 e) }))
    (λ e.
    both (Says b) (ltb max_length (length_of b)) _ _
    (λ g. is_refused_lem b (record {
      known = leb-true length_bytes (length b) l;
      bad = inr (ltb-true max_length (length_of b) g);
    }))
    (λ g.
    both (Says b) (ltb (length b) (length_bytes + length_of b)) _ _ (λ _. waits b)
    (λ h.
    record {
      first =
          record {
            known = leb-true length_bytes (length b) l;
            some = omega (arith, eqb-false (length_of b) 0 e);
            small = ltb-false max_length (length_of b) g;
            there = ltb-false (length b) (length_bytes + length_of b) h;
          };
      type = refl;
      ends = refl;
    }))))
    (λ _. waits b)

pub frame_told : (b : List ℕ) {kind end : ℕ} → head_of b ≡ framed kind end → Stands b kind end
frame_told b {kind} {end} e = rw e at (head_says b)

pub refused_told : (b : List ℕ) {reason : Declared.Reason} → head_of b ≡ Err reason → Declines b (Reason.number_of reason)
refused_told b {reason} e = rw e at (head_says b)

-- a refusal is not 0
pub refused_some : (b : List ℕ) {reason : Declared.Reason} → head_of b ≡ Err reason →
    Reason.number_of reason ≡ Reason.accepted → ⊥
refused_some b e z = ⊎_elim (λ f. omega arith) (λ f. omega arith) (refused_told b e).known

pub frame_known : (b : List ℕ) → WholeFirst b → head_of b ≡ framed (get_or b length_bytes 0) (length_bytes + length_of b)
frame_known b w =
    simp (
      le-leb length_bytes (length b) w.known,
      ne_eqb (length_of b) 0 (λ z. omega (arith, w.some)),
      le-ltb max_length (length_of b) w.small,
      le-ltb (length b) (length_bytes + length_of b) w.there,
    )

pub bad_known : (b : List ℕ) → BadFirst b → head_of b ≡ Err Declared.Reason.BadLength
bad_known b w =
    ⊎_elim (λ e. simp (le-leb length_bytes (length b) w.known, eq-eqb (length_of b) 0 e))
    (λ g.
    simp (
      le-leb length_bytes (length b) w.known,
      ne_eqb (length_of b) 0 (λ z. omega arith),
      lt-ltb max_length (length_of b) g,
    ))
    w.bad

-- ---- the number of what stands first

pub first_is : (b : List ℕ) {h : HeadResult} → head_of b ≡ h → stands_first b ≡ head_reason h
unfolding stands_first
first_is b e = ap head_reason e

-- where no whole frame stands first, the head is a refusal, by the reason told of it
abbrev pub Refusing : List ℕ → Declared.Reason → Type 0
Refusing b reason = (head_of b ≡ Err reason) × (stands_first b ≡ Reason.number_of reason)

pub refusal : (b : List ℕ) → (stands_first b ≡ Reason.accepted → ⊥) → (reason : Declared.Reason) × Refusing b reason
refusal b none = go (head_of b) refl
  where
    go : (h : HeadResult) → head_of b ≡ h → (reason : Declared.Reason) × Refusing b reason
    go (Ok head) e = absurd (none (first_is b e))
    go (Err reason) e = (reason, (e, first_is b e))

pub is_bad : (b : List ℕ) → BadFirst b → bad_first b ≡ true
is_bad b w = eq-eqb (stands_first b) Reason.bad_length (first_is b (bad_known b w))

pub bad_told : (b : List ℕ) → bad_first b ≡ true → BadFirst b
bad_told b t = go (head_of b) refl (eqb-true (stands_first b) Reason.bad_length t)
  where
    go : (h : HeadResult) → head_of b ≡ h → stands_first b ≡ Reason.bad_length → BadFirst b
    go (Ok head) e f = absurd (omega (arith, first_is b e))
    go (Err reason) e f = (refused_told b e).bad (sym (first_is b e) ∙ f)

pub whole_told : (b : List ℕ) → stands_first b ≡ Reason.accepted → WholeFirst b
whole_told b z = go (head_of b) refl
  where
    go : (h : HeadResult) → head_of b ≡ h → WholeFirst b
    go (Ok head) e = (frame_told b e).first
    go (Err reason) e = absurd (refused_some b e (sym (first_is b e) ∙ z))

pub refused_none : (b : List ℕ) {reason : Declared.Reason} → head_of b ≡ Err reason → stands_first b ≡ Reason.accepted → ⊥
refused_none b e z = refused_some b e (sym (first_is b e) ∙ z)

pub frame_good : (b : List ℕ) {kind end : ℕ} → head_of b ≡ framed kind end → bad_first b ≡ false
frame_good b e = ne_eqb (stands_first b) Reason.bad_length (λ z. omega (arith, first_is b e))

-- ---- the first bytes of some

little_take : (k n : ℕ) (b : List ℕ) (at : ℕ) → at + k ≤ n → little k (take n b) at ≡ little k b at
unfolding little
little_take zero n b at h = refl
little_take (suc k) n b at h =
    ap₂ (λ (x y : ℕ). x + 256 * y) (get_or-take n b at 0 (omega arith)) (little_take k n b (at + 1) (omega arith))

length_of_take : (n : ℕ) (b : List ℕ) → length_bytes ≤ n → length_of (take n b) ≡ length_of b
length_of_take n b h = little_take length_bytes n b 0 (omega arith)

length_of_more : (a c : List ℕ) → length_bytes ≤ length a → length_of (a ++ c) ≡ length_of a
length_of_more a c h = sym (length_of_take (length a) (a ++ c) h) ∙ ap length_of (take-append_seam a c)

-- ---- a whole frame

pub frame_more : (a c : List ℕ) {kind end : ℕ} → head_of a ≡ framed kind end → head_of (a ++ c) ≡ framed kind end
frame_more a c e =
    let s = frame_told a e in
    let same = length_of_more a c s.first.known in
    let long = length-append a c in
    frame_known (a ++ c) (record { known = omega arith; some = omega arith; small = omega arith; there = omega arith })
    ∙ ap₂ framed (List·getD-append a c 0 length_bytes (omega arith) ∙ sym s.type) (omega arith)

pub frame_whole : (b : List ℕ) {kind end : ℕ} → head_of b ≡ framed kind end → Whole (take end b)
frame_whole b {kind} {end} e =
    let s = frame_told b e in
    let long : length (take end b) ≡ end = length-take-le end b (omega arith) in
    let same : length_of (take end b) ≡ length_of b = length_of_take end b (omega arith) in
    frame_known (take end b)
    (record { known = omega arith; some = omega arith; small = omega arith; there = omega arith })
    ∙ ap (framed (get_or (take end b) length_bytes 0)) (omega arith)

-- ---- a bad length

bad_as : (a b : List ℕ) → length_bytes ≤ length b → length_of b ≡ length_of a → BadFirst a → BadFirst b
bad_as a b long same w =
    record { known = long; bad = ⊎_elim (λ z. inl (omega arith)) (λ z. inr (omega arith)) w.bad }

pub bad_more : (a c : List ℕ) → bad_first a ≡ true → bad_first (a ++ c) ≡ true
bad_more a c t =
    let w = bad_told a t in
    is_bad (a ++ c) (bad_as a (a ++ c) (omega (arith, length-append a c)) (length_of_more a c w.known) w)

pub bad_four : (b : List ℕ) → bad_first b ≡ true → bad_first (take length_bytes b) ≡ true
bad_four b t =
    let w = bad_told b t in
    let four = take length_bytes b in
    is_bad four
    (bad_as b four (omega (arith, length-take length_bytes b)) (length_of_take length_bytes b (omega arith)) w)

-- ---- what is kept, and what is dropped

pub kept_bad : (b : List ℕ) → bad_first b ≡ true → kept b ≡ take length_bytes b
kept_bad b e = ap (λ (t : Bool). cond t (take length_bytes b) b) e

pub kept_good : (b : List ℕ) → bad_first b ≡ false → kept b ≡ b
kept_good b e = ap (λ (t : Bool). cond t (take length_bytes b) b) e

abbrev pub unkept : List ℕ → List ℕ
unkept b = cond (bad_first b) (drop length_bytes b) []

pub unkept_good : (b : List ℕ) → bad_first b ≡ false → unkept b ≡ []
unkept_good b e = ap (λ (t : Bool). cond t (drop length_bytes b) []) e

pub kept_all : (b : List ℕ) → kept b ++ unkept b ≡ b
kept_all b = go (bad_first b)
  where
    go : (t : Bool) → cond t (take length_bytes b) b ++ cond t (drop length_bytes b) [] ≡ b
    go true = take-append-drop length_bytes b
    go false = append-nil b

-- a property of what is kept
pub kept_both : (P : List ℕ → Type 0) (b : List ℕ) →
    (bad_first b ≡ true → P (take length_bytes b)) → (bad_first b ≡ false → P b) → P (kept b)
kept_both P b = both P (bad_first b) (take length_bytes b) b

pub first_kept : (b : List ℕ) → bad_first (kept b) ≡ bad_first b
first_kept b = kept_both (λ l. bad_first l ≡ bad_first b) b (λ e. bad_four b e ∙ sym e) (λ e. refl)

pub kept_kept : (b : List ℕ) → kept (kept b) ≡ kept b
kept_kept b =
    kept_both (λ l. kept l ≡ l) b
    (λ e. kept_bad (take length_bytes b) (bad_four b e) ∙ take-take length_bytes length_bytes b (omega arith))
    (kept_good b)

-- ---- no bytes

pub nothing_first : ◌≡◌ {A = ℕ} (stands_first []) 1
unfolding stands_first
nothing_first = refl

pub nothing_kept : kept [] ≡ []
unfolding stands_first
nothing_kept = refl
