-- A number that is read in some bytes is read alike in others that have the same bytes there. Assumes nothing.
use Rattle.prelude.proofs.Basics.{ℕ, zero, suc, ◌+◌, ◌%◌, ◌≤◌, ◌<◌, arith, ◌≡◌, refl, ap, List, length, get_or}
use Rattle.prelude.proofs.Basics.{less_or_not}
use Rattle.varint.specs.Varint.{onto, groups, low64, varint_at}
use Rattle.varint.specs.Past.{Past}
use Rattle.varint.specs.declared.Number.{Number}
use Rattle.varint.proofs.GroupLaws.{groups_none, groups_last, groups_more}
use Rattle.varint.proofs.PastLaws.{groups_past}
use Rattle.varint.proofs.ShortestLaws.{below_or_not}
use Rattle.std.specs.Prelude.{Option, Some, None}
use Rattle.varint.specs.Number.{some_number}

-- s and t have the same bytes from p to before m
pub record Agree (s t : List ℕ) (p m : ℕ) : Type 0 where
  pub here : m ≤ length s
  pub there : m ≤ length t
  pub same : (i : ℕ) → p ≤ i → i < m → get_or t i 0 ≡ get_or s i 0

pub agree_later : {s t : List ℕ} {p m : ℕ} → Agree s t p m → (q : ℕ) → p ≤ q → Agree s t q m
agree_later {s} {t} {p} {m} a q h =
    record { here = a.here; there = a.there; same = λ i g l. a.same i (omega arith) l }

-- a number that ends by m is the same
abbrev pub KeepsVarint : ℕ → Option Number → Option Number → Type 0
KeepsVarint m (Some r) y = r.next ≤ m → y ≡ some_number r.value r.next
KeepsVarint m None y = Unit {0}

module _ (m : ℕ) where
  onto-keeps : (low w : ℕ) (x y : Option Number) → KeepsVarint m x y → KeepsVarint m (onto low w x) (onto low w y)
  onto-keeps low w (Some r) y k = λ h. ap (onto low w) (k h)
  onto-keeps low w None y k = tt

  low64-keeps : (x y : Option Number) → KeepsVarint m x y → KeepsVarint m (low64 x) (low64 y)
  low64-keeps (Some r) y k = λ h. ap low64 (k h)
  low64-keeps None y k = tt

  -- nothing that begins at m or behind it ends by m
  past-keeps : (p end : ℕ) → m ≤ p → (x y : Option Number) → Past p end x → KeepsVarint m x y
  past-keeps p end h (Some r) y g = λ l. absurd (omega arith)
  past-keeps p end h None y g = tt

groups_keeps : (n : ℕ) {s t : List ℕ} {p m : ℕ} → Agree s t p m → KeepsVarint m (groups n s p) (groups n t p)
groups_keeps zero {s} {t} {p} {m} a = rw (groups_none s p) tt
groups_keeps (suc n) {s} {t} {p} {m} a =
    let rest = groups_keeps n (agree_later a (p + 1) (omega arith)) in
    less_or_not p m
    (λ h.
    let i : p < length s = omega (arith, a.here) in
    let j : p < length t = omega (arith, a.there) in
    let e = a.same p (omega arith) h in
    below_or_not (get_or s p 0)
    (λ l. rw (groups_last n s p i l, groups_last n t p j (rw e l), e) (λ _. refl))
    (λ l.
    rw (groups_more n s p i l, groups_more n t p j (rw e l), e)
    (onto-keeps m (get_or s p 0 % 128) 128 (groups n s (p + 1)) (groups n t (p + 1)) rest)))
    (λ h. past-keeps m p (length s) h (groups (suc n) s p) (groups (suc n) t p) (groups_past (suc n) s p))

pub varint_keeps : {s t : List ℕ} {p m : ℕ} → Agree s t p m → KeepsVarint m (varint_at s p) (varint_at t p)
varint_keeps {s} {t} {p} {m} a = low64-keeps m (groups 10 s p) (groups 10 t p) (groups_keeps 10 a)
