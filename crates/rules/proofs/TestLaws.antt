-- Lists of tests: what holds of every reason in a list holds of the first one given, and where none is given no test
-- holds.
-- Assumes nothing.
use Rattle.prelude.proofs.Basics.{ℕ, Bool, true, false, not, ◌&&◌, cond, true≢false, ◌≡◌, refl, sym, ap, ◌∙◌, List, []}
use Rattle.prelude.proofs.Basics.{◌∷◌, ◌++◌, eqb, eq-eqb, not-true, both, yes}
use Rattle.rules.proofs.Names.{and_true, Test, first_of, NoneHolds}

-- every reason in the list passes; reasons are numerals, so that this computes
abbrev pub all_of : (ℕ → Bool) → List Test → Bool
all_of p [] = true
all_of p (t ∷ ts) = p t.reason && all_of p ts

pub first_passes : (p : ℕ → Bool) → p 0 ≡ true → (ts : List Test) → all_of p ts ≡ true → p (first_of ts) ≡ true
first_passes p z [] h = z
first_passes p z (t ∷ ts) h =
    let l = and_true (p t.reason) (all_of p ts) h in
    both (λ (n : ℕ). p n ≡ true) t.holds t.reason (first_of ts) (λ _. l.0) (λ _. first_passes p z ts l.1)

pub all_append : (p : ℕ → Bool) (ts us : List Test) → all_of p ts ≡ true → all_of p us ≡ true → all_of p (ts ++ us) ≡ true
all_append p [] us h k = k
all_append p (t ∷ ts) us h k =
    let l = and_true (p t.reason) (all_of p ts) h in
    rw l.0 (all_append p ts us l.1 k)

-- ---- which numbers a list gives

-- 0, and the reasons in it; this computes too
abbrev pub gives : List Test → ℕ → Bool
gives [] n = eqb n 0
gives (t ∷ ts) n = cond (eqb n t.reason) true (gives ts n)

-- a list gives what the rest of it does
gives_more : (t : Test) (ts : List Test) (n : ℕ) → gives ts n ≡ true → gives (t ∷ ts) n ≡ true
gives_more t ts n h = both (λ (b : Bool). b ≡ true) (eqb n t.reason) true (gives ts n) (λ _. refl) (λ _. h)

gives_none : (ts : List Test) → gives ts 0 ≡ true
gives_none [] = refl
gives_none (t ∷ ts) = gives_more t ts 0 (gives_none ts)

pub gives_there : (before : List Test) (t : Test) (after : List Test) → gives (before ++ t ∷ after) t.reason ≡ true
gives_there [] t after = sym (yes true (gives after t.reason) (eq-eqb t.reason t.reason refl))
gives_there (b ∷ bs) t after = gives_more b (bs ++ t ∷ after) t.reason (gives_there bs t after)

pub first_given : (ts : List Test) → gives ts (first_of ts) ≡ true
first_given [] = refl
first_given (t ∷ ts) =
    both (λ n. gives (t ∷ ts) n ≡ true) t.holds t.reason (first_of ts) (λ _. gives_there [] t ts)
    (λ _. gives_more t ts (first_of ts) (first_given ts))

-- ---- lists in which each reason stands for one test

-- no reason is 0, and none stands in the list again; this computes too
abbrev pub apart : List Test → Bool
apart [] = true
apart (t ∷ ts) = not (gives ts t.reason) && apart ts

-- of the first test, and of those behind it
pub record Apart (t : Test) (ts : List Test) : Type 0 where
  pub alone : gives ts t.reason ≡ true → ⊥
  pub some : t.reason ≡ 0 → ⊥
  pub rest : apart ts ≡ true

pub apart_first : (t : Test) (ts : List Test) → apart (t ∷ ts) ≡ true → Apart t ts
apart_first t ts h =
    let l = and_true (not (gives ts t.reason)) (apart ts) h in
    let alone : gives ts t.reason ≡ true → ⊥ =
    λ e. true≢false (sym e ∙ not-true (gives ts t.reason) l.0) in
    record { alone = alone; some = λ e. alone (ap (gives ts) e ∙ gives_none ts); rest = l.1 }

-- where none is given no test holds
pub accepted_none : (ts : List Test) → apart ts ≡ true → first_of ts ≡ 0 → NoneHolds ts
accepted_none [] h e = tt
accepted_none (t ∷ ts) h e = go t.holds refl (accepted_none ts (apart_first t ts h).rest) e
  where
    go : (b : Bool) → t.holds ≡ b → (first_of ts ≡ 0 → NoneHolds ts) → cond b t.reason (first_of ts) ≡ 0 →
        (t.holds ≡ false) × NoneHolds ts
    go true f more g = absurd ((apart_first t ts h).some g)
    go false f more g = (f, more g)
