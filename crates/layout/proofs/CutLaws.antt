-- Parts in bytes that are cut off behind them read alike; and parts inside parts lie within these. Assumes nothing.
use Rattle.prelude.proofs.Basics.{ℕ, ◌+◌, ◌≤◌, arith, ◌≡◌, refl, ap, ap₂, List, [], ◌∷◌, ◌++◌, length}
use Rattle.prelude.proofs.Basics.{take, length-take, take-take}
use Rattle.layout.proofs.Names.{end_of, parts_of, parts_in, no_slots, checked, Part}
use Rattle.layout.specs.Merged.{one_part, merged}
use Rattle.layout.specs.private.Parts.{left}
use Rattle.layout.specs.declared.parts.Parts.{Parts}
use Rattle.layout.proofs.MergeLaws.{AllWithin, parts_within, parts_cut}

pub within_later : (d e : ℕ) → d ≤ e → (ps : List Part) → AllWithin d ps → AllWithin e ps
unfolding AllWithin
within_later d e h [] w = tt
within_later d e h (p ∷ ps) w = (omega (arith, w.0), within_later d e h ps w.1)

pub within_then : (e : ℕ) (xs ys : List Part) → AllWithin e xs → AllWithin e ys → AllWithin e (xs ++ ys)
unfolding AllWithin
within_then e [] ys v w = w
within_then e (x ∷ xs) ys v w = (v.0, within_then e xs ys v.1 w)

-- the parts of a message lie within its bytes
pub parts_inside : (k : ℕ) (s : List ℕ) (from : ℕ) → AllWithin (length s) (parts_of k s from)
parts_inside k s from = parts_within k s (length s) from

-- those of one that ends inside s
pub parts_by : (k : ℕ) (s : List ℕ) (from e : ℕ) → AllWithin e (parts_of k (take e s) from)
parts_by k s from e =
    within_later (length (take e s)) e (omega (arith, length-take e s)) (parts_of k (take e s) from)
    (parts_inside k (take e s) from)

pub one_within : (at n e : ℕ) → at + n ≤ e → AllWithin e (one_part at n)
unfolding AllWithin
one_within at n e h = (h, tt)

-- what is inside a part lies within it
pub inner_within : (k : ℕ) (s : List ℕ) (e : ℕ) (ps : List Part) → AllWithin e ps → AllWithin e (parts_in k s ps)
unfolding AllWithin parts_in
inner_within k s e [] w = tt
inner_within k s e (p ∷ ps) w =
    within_then e (parts_of k (take (end_of p) s) p.start) (parts_in k s ps)
    (within_later (end_of p) e w.0 (parts_of k (take (end_of p) s) p.start) (parts_by k s p.start (end_of p)))
    (inner_within k s e ps w.1)

-- all that are left lie within the bytes
pub left_within : (p : Parts) → AllWithin (length p.s.now) (left p)
left_within p =
    let s = p.s.now in
    let here = parts_of p.number (take p.end s) p.at in
    let outer = parts_of p.outer s p.next in
    within_then (length s) here (parts_in p.number s outer)
    (within_later (length (take p.end s)) (length s) (omega (arith, length-take p.end s)) here
    (parts_inside p.number (take p.end s) p.at))
    (inner_within p.number s (length s) outer (parts_inside p.outer s p.next))

pub inner_cut : (k : ℕ) (s : List ℕ) (e : ℕ) (ps : List Part) → AllWithin e ps →
    parts_in k (take e s) ps ≡ parts_in k s ps
unfolding AllWithin parts_in
inner_cut k s e [] w = refl
inner_cut k s e (p ∷ ps) w =
    ap₂ (λ (xs ys : List Part). xs ++ ys)
    (ap (λ (l : List ℕ). parts_of k l p.start) (take-take (end_of p) e s w.0))
    (inner_cut k s e ps w.1)

pub merged_cut : (rows : List (List ℕ)) (s : List ℕ) (e : ℕ) → e ≤ length s → (ps : List Part) → AllWithin e ps →
    merged rows (take e s) ps ≡ merged rows s ps
merged_cut rows s e few ps w = ap (checked rows) (parts_cut rows s e few ps w no_slots)
