-- Looking for the next args field, one turn of the loop at a time. Assumes nothing.
use Rattle.prelude.proofs.Basics.{ℕ, zero, suc, ◌+◌, ◌-◌, ◌≤◌, ◌<◌, arith, Bool, true, false, cond, ◌≡◌, refl, sym, ap}
use Rattle.prelude.proofs.Basics.{◌∙◌, List, length, get_or, ltb, le-ltb, lt-ltb, ltb-true, both, before_suc}
use Rattle.std.specs.Prelude.{Some, None, Ok, Err}
use Rattle.protocol.specs.declared.reason.Reason.{Reason}
use Rattle.args.proofs.Names.{as_length, of_value, field_at, PastField, Field, Value, field_past, quick_wire}
use Rattle.args.proofs.Names.{argument_in, is_args, of_field, place_from, arg_place, place_of, of_place, next_argument}
use Rattle.args.proofs.Names.{GoesOn, Sought, placed_at}
use Rattle.args.specs.WithinRules.{NextGoesOn}
use Rattle.args.proofs.ArgsFieldLaws.{is_args_lem, no_wire, no_number}
use Rattle.args.proofs.WithinLaws.{ends_later, argument_ends}
use Rattle.std.specs.Prelude.{Option, Some, None}
use Rattle.wire.specs.Field.{some_field}
use Rattle.wire.specs.Value.{some_value}

-- where the loop stands: what is left at p answers for the whole
pub record Seeking (s : List ℕ) (at p : ℕ) : Type 0 where
  pub most : ℕ
  pub enough : length s ≤ p + most
  pub whole : place_from most s p ≡ arg_place s at

pub starts : (s : List ℕ) (at : ℕ) → Seeking s at at
starts s at = record { most = length s; enough = omega arith; whole = refl }

pub place_end : (most : ℕ) (s : List ℕ) (p : ℕ) → length s ≤ p → place_from most s p ≡ Ok None
unfolding place_from
place_end zero s p h = refl
place_end (suc m) s p h = simp (le-ltb p (length s) h)

pub ends : {s : List ℕ} {at p : ℕ} → Seeking s at p → length s ≤ p → Ok None ≡ arg_place s at
ends {s} {at} {p} k h = sym (place_end k.most s p h) ∙ k.whole

unroll : (most : ℕ) (s : List ℕ) (p : ℕ) → 0 < most → p < length s →
    place_from most s p ≡ of_field (λ next. place_from (most - 1) s next) (field_at s p)
unfolding place_from
unroll zero s p g h = absurd (omega arith)
unroll (suc m) s p g h =
    simp (lt-ltb p (length s) h) (ap (λ (k : ℕ). of_field (λ next. place_from k s next) (field_at s p)) (before_suc m))

module _ {s : List ℕ} {at p : ℕ} (k : Seeking s at p) (inside : p < length s) where
  turn : (f : Option Field) → field_at s p ≡ f → of_field (λ next. place_from (k.most - 1) s next) f ≡ arg_place s at
  turn f e =
      sym
      (unroll k.most s p (omega (arith, k.enough)) inside
      ∙ ap (of_field (λ next. place_from (k.most - 1) s next)) e)
      ∙ k.whole

  pub no_field : field_at s p ≡ None → Err Reason.BadPayload ≡ arg_place s at
  no_field e = turn None e

  module _ {number wire v start len next : ℕ} (e : field_at s p ≡ some_field number wire v start len next) where
    pub advances : p < next
    advances = go (field_past s p)
      where
        go : PastField p (length s) (field_at s p) → p < next
        go = rw e (λ h. h.2)

    pub by_args : (b : Bool) → b ≡ is_args number wire v →
        cond b (placed_at start len next) (place_from (k.most - 1) s next) ≡ arg_place s at
    by_args b h =
        ap (λ (c : Bool). cond c (placed_at start len next) (place_from (k.most - 1) s next)) h
        ∙ turn (some_field number wire v start len next) e

    pub found : number ≡ 2 → wire ≡ 2 → placed_at start len next ≡ arg_place s at
    found h g = by_args true (is_args_lem number wire v h g)

    pub on : place_from (k.most - 1) s next ≡ arg_place s at → Seeking s at next
    on w = record { most = k.most - 1; enough = omega (arith, k.enough, advances); whole = w }

    pub other_wire : number ≡ 2 → (wire ≡ 2 → ⊥) → Seeking s at next
    other_wire h g = on (by_args false (no_wire number wire v h g))

    pub other_number : (number ≡ 2 → ⊥) → Seeking s at next
    other_number h = on (by_args false (no_number number wire v h))

-- at the end there is none; an args field at the very place is the next
pub place_none : (s : List ℕ) (at : ℕ) → length s ≤ at → Ok None ≡ arg_place s at
place_none s at h = ends (starts s at) h

pub args_here : (s : List ℕ) (at : ℕ) → at < length s → get_or s at 0 ≡ 18 → of_value 2 2
    (as_length s (at + 1)) ≡ field_at s at
args_here s at h e = quick_wire s at 18 h (sym e) (omega arith) 2 (omega arith) refl (omega arith)

pub place_here : (s : List ℕ) (at : ℕ) → at < length s → get_or s at 0 ≡ 18 →
    place_of (as_length s (at + 1)) ≡ arg_place s at
place_here s at h e = go (as_length s (at + 1)) refl
  where
    here : (v : Option Value) → as_length s (at + 1) ≡ v → field_at s at ≡ of_value 2 2 v
    here v f = sym (args_here s at h e) ∙ ap (of_value 2 2) f

    go : (v : Option Value) → as_length s (at + 1) ≡ v → place_of v ≡ arg_place s at
    go (Some r) f = found (starts s at) h (here (some_value r.number r.start r.len r.next) f) refl refl
    go None f = no_field (starts s at) h (here None f)

-- the next args field ends past the place asked, and within the bytes
abbrev PastPlace : ℕ → ℕ → Sought → Type 0
PastPlace at end (Ok (Some p)) = (at < p.next) × (p.next ≤ end) × (p.start + p.len ≤ p.next)
PastPlace at end (Ok None) = Unit {0}
PastPlace at end (Err reason) = at < end

further : (at p end : ℕ) → at ≤ p → (x : Sought) → PastPlace p end x → PastPlace at end x
further at p end h (Ok (Some found)) g = (omega arith, g.1, g.2)
further at p end h (Ok None) g = tt
further at p end h (Err reason) g = omega arith

of_field_past : (at end : ℕ) → at < end → (f : Option Field) → PastField at end f → (more : ℕ → Sought) →
    ((q : ℕ) → PastPlace q end (more q)) → PastPlace at end (of_field more f)
of_field_past at end i (Some r) h more m =
    both (PastPlace at end) (is_args r.number r.wire r.value) _ _ (λ _. (h.2, h.3, h.1))
    (λ _. further at r.next end (omega arith) (more r.next) (m r.next))
of_field_past at end i None h more m = i

place_past : (most : ℕ) (s : List ℕ) (at : ℕ) → PastPlace at (length s) (place_from most s at)
unfolding place_from
place_past zero s at = tt
place_past (suc most) s at =
    both (PastPlace at (length s)) (ltb at (length s)) _ _
    (λ e.
    of_field_past at (length s) (ltb-true at (length s) e) (field_at s at) (field_past s at)
    (λ next. place_from most s next)
    (place_past most s))
    (λ _. tt)

of_place_past : (s : List ℕ) (at : ℕ) (x : Sought) → PastPlace at (length s) x → GoesOn at (length s) (of_place s x)
of_place_past s at (Ok (Some p)) h =
    (h.0, h.1, ends_later (p.start + p.len) p.next h.2 (argument_in s p.start p.len) (argument_ends s p.start p.len))
of_place_past s at (Ok None) h = tt
of_place_past s at (Err reason) h = (h, omega arith, tt)

pub next_goes_on : NextGoesOn
unfolding next_argument
next_goes_on s at = of_place_past s at (arg_place s at) (place_past (length s) s at)

pub next_end : (s : List ℕ) (at : ℕ) → length s ≤ at → next_argument s at ≡ None
unfolding next_argument
next_end s at h = ap (of_place s) (place_end (length s) s at h)

pub next_placed : (s : List ℕ) (at : ℕ) (x : Sought) → x ≡ arg_place s at → of_place s x ≡ next_argument s at
unfolding next_argument
next_placed s at x e = ap (of_place s) e
