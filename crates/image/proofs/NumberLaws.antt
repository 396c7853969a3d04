-- Numbers read one by one are those in front. Assumes nothing.
use Rattle.prelude.proofs.Basics.{ℕ, suc, ◌+◌, ◌-◌, ◌≤◌, ◌<◌, arith, zero, zero-add, add-one, Bool, true, false}
use Rattle.prelude.proofs.Basics.{cond, ◌≡◌, refl, sym, ap, subst, ◌∙◌, List, [], ◌∷◌, ◌++◌, length, set, take}
use Rattle.prelude.proofs.Basics.{length-set, leb, le-leb, leb-true, lt-leb}
use lib.Seq.{take-suc-set}
use Rattle.varint.specs.declared.Number.{Number}
use Rattle.varint.specs.Varint.{varint_at}
use Rattle.varint.specs.Padded.{padded_at}
use Rattle.session.specs.Sound.{max_number}
use Rattle.image_rules.specs.Numbers.{Front, ahead, on_varint, front_at}
use Rattle.image.specs.private.Ends.{small, number_at}
use Rattle.std.specs.Prelude.{Option, Some, None}
use Rattle.varint.specs.Number.{some_number}

-- ---- one number

module _ (s : List ℕ) (at : ℕ) where
  pub number_bad : None ≡ varint_at s at → None ≡ number_at s at
  number_bad e = go (padded_at s at) ∙ ap (λ x. cond (padded_at s at) None (small x)) e
    where
      go : (b : Bool) → ◌≡◌ {A = Option Number} None (cond b None None)
      go true = refl
      go false = refl

  pub number_padded : padded_at s at ≡ true → None ≡ number_at s at
  number_padded e = sym (ap (λ (b : Bool). cond b None (small (varint_at s at))) e)

  module _ (v next : ℕ) (e : some_number v next ≡ varint_at s at) (plain : padded_at s at ≡ false) where
    number_is : small (some_number v next) ≡ number_at s at
    number_is =
        ap small e ∙ sym (ap (λ (b : Bool). cond b None (small (varint_at s at))) plain)

    pub number_large : max_number < v → None ≡ number_at s at
    number_large h =
        sym (ap (λ (b : Bool). cond b (some_number v next) None) (lt-leb v max_number h)) ∙ number_is

    pub number_good : v ≤ max_number → some_number v next ≡ number_at s at
    number_good h =
        sym (ap (λ (b : Bool). cond b (some_number v next) None) (le-leb v max_number h)) ∙ number_is

abbrev value_in : Option Number → ℕ
value_in (Some r) = r.value
value_in None = 0

-- what is read as a number is small
pub number_small : (s : List ℕ) (at v next : ℕ) → number_at s at ≡ some_number v next → v ≤ max_number
number_small s at v next e = go (padded_at s at) (varint_at s at) e
  where
    fits : (w n : ℕ) (b : Bool) → leb w max_number ≡ b → cond b (some_number w n) None ≡ some_number v next →
        v ≤ max_number
    fits w n true f g = let z : w ≡ v = ap value_in g in omega (arith, leb-true w max_number f)
    fits w n false f g = absurd (let z : ◌≡◌ {A = ℕ} 0 1 = cc in omega arith)

    go : (b : Bool) (x : Option Number) → cond b None (small x) ≡ some_number v next → v ≤ max_number
    go true x f = absurd (let z : ◌≡◌ {A = ℕ} 0 1 = cc in omega arith)
    go false (Some r) f = fits r.value r.next (leb r.value max_number) refl f
    go false None f = absurd (let z : ◌≡◌ {A = ℕ} 0 1 = cc in omega arith)

front_number : (k : ℕ) (s : List ℕ) (at : ℕ) →
    front_at (suc k) s at ≡ on_varint (number_at s at) (λ n next. ahead n (front_at k s next))
unfolding front_at
front_number k s at = go (padded_at s at) (varint_at s at)
  where
    more : ℕ → ℕ → Front
    more n next = ahead n (front_at k s next)

    one : (b : Bool) (v next : ℕ) →
        cond b (more v next) Front.broken ≡ on_varint (cond b (some_number v next) None) more
    one true v next = refl
    one false v next = refl

    go : (b : Bool) (x : Option Number) →
        cond b Front.broken (on_varint x (λ n next. cond (leb n max_number) (more n next) Front.broken))
        ≡ on_varint (cond b None (small x)) more
    go true x = refl
    go false (Some r) = one (leb r.value max_number) r.value r.next
    go false None = refl

-- ---- several

unfoldable pub ahead_all : List ℕ → Front → Front
ahead_all [] f = f
ahead_all (n ∷ ns) f = ahead n (ahead_all ns f)

pub all_broken : (ns : List ℕ) → ahead_all ns Front.broken ≡ Front.broken
unfolding ahead_all
all_broken [] = refl
all_broken (n ∷ ns) = ap (ahead n) (all_broken ns)

all_read : (ns : List ℕ) (p : ℕ) → ahead_all ns (Front.numbers [] p) ≡ Front.numbers ns p
unfolding ahead_all
all_read [] p = refl
all_read (n ∷ ns) p = ap (ahead n) (all_read ns p)

all_then : (ns : List ℕ) (n : ℕ) (f : Front) → ahead_all (ns ++ (n ∷ [])) f ≡ ahead_all ns (ahead n f)
unfolding ahead_all
all_then [] n f = refl
all_then (m ∷ ns) n f = ap (ahead m) (all_then ns n f)

-- the loop: what was read, and what is left to read, is the whole
pub record Fetching (k : ℕ) (s : List ℕ) (at n : ℕ) (ns : List ℕ) (p i : ℕ) : Type 0 where
  pub within : i ≤ k
  pub room : k ≤ n
  pub long : length ns ≡ n
  pub whole : ahead_all (take i ns) (front_at (k - i) s p) ≡ front_at k s at

pub fetching_starts : (k : ℕ) (s : List ℕ) (at : ℕ) (ns : List ℕ) → k ≤ length ns →
    Fetching k s at (length ns) ns at 0
unfolding ahead_all
fetching_starts k s at ns h =
    let e : k - 0 ≡ k = omega arith in
    record { within = omega arith; room = h; long = refl; whole = ap (λ (n : ℕ). front_at n s at) e }

module _ {k : ℕ} {s : List ℕ} {at n : ℕ} {ns : List ℕ} {p i : ℕ} (r : Fetching k s at n ns p i) where
  module _ (h : i < k) where
    next-front : front_at (k - i) s p
        ≡ on_varint (number_at s p) (λ n next. ahead n (front_at (k - (i + 1)) s next))
    next-front =
        let e : k - i ≡ suc (k - (i + 1)) = omega arith in
        ap (λ (n : ℕ). front_at n s p) e ∙ front_number (k - (i + 1)) s p

    pub fetching_breaks : None ≡ number_at s p → Front.broken ≡ front_at k s at
    fetching_breaks e =
        sym (all_broken (take i ns))
        ∙ ap (ahead_all (take i ns))
        (ap (λ x. on_varint x (λ n next. ahead n (front_at (k - (i + 1)) s next))) e ∙ sym next-front)
        ∙ r.whole

    pub fetching_goes_on : (v next : ℕ) → some_number v next ≡ number_at s p →
        Fetching k s at n (set ns i v) next (i + 1)
    fetching_goes_on v next e =
        record {
          within = omega arith;
          room = r.room;
          long = length-set ns i v ∙ r.long;
          whole =
              ap (λ (l : List ℕ). ahead_all l (front_at (k - (i + 1)) s next)) kept
              ∙ all_then (take i ns) v (front_at (k - (i + 1)) s next)
              ∙ ap (ahead_all (take i ns))
              (ap (λ x. on_varint x (λ n next. ahead n (front_at (k - (i + 1)) s next))) e ∙ sym next-front)
              ∙ r.whole;
        }
      where
        kept : take (i + 1) (set ns i v) ≡ take i ns ++ (v ∷ [])
        kept = rw (add-one i) (take-suc-set ns i v (omega (arith, r.long, r.room)))

  pub fetching_ends : k ≤ i → Front.numbers (take k ns) p ≡ front_at k s at
  unfolding front_at
  fetching_ends h =
      let e : k - i ≡ 0 = omega arith in
      let j : k ≡ i = omega (arith, r.within) in
      ap (λ (n : ℕ). Front.numbers (take n ns) p) j
      ∙ sym (all_read (take i ns) p)
      ∙ sym (ap (λ (n : ℕ). ahead_all (take i ns) (front_at n s p)) e)
      ∙ r.whole

-- ---- some, and behind them more

abbrev pub join_front : Front → (ℕ → Front) → Front
join_front (Front.numbers ns mid) f = ahead_all ns (f mid)
join_front Front.broken f = Front.broken

pub front_split : (w m : ℕ) (s : List ℕ) (at : ℕ) →
    front_at (w + m) s at ≡ join_front (front_at w s at) (λ mid. front_at m s mid)
unfolding front_at ahead_all
front_split zero m s at = ap (λ (k : ℕ). front_at k s at) (zero-add m)
front_split (suc w) m s at =
    let e : suc w + m ≡ suc (w + m) = omega arith in
    ap (λ (k : ℕ). front_at k s at) e
    ∙ front_number (w + m) s at
    ∙ go (number_at s at) (front_split w m s)
    ∙ ap (λ f. join_front f (λ mid. front_at m s mid)) (sym (front_number w s at))
  where
    ahead-join : (v : ℕ) (f : Front) →
        ahead v (join_front f (λ mid. front_at m s mid)) ≡ join_front (ahead v f) (λ mid. front_at m s mid)
    ahead-join v (Front.numbers ns mid) = refl
    ahead-join v Front.broken = refl

    go : (x : Option Number) →
        ((n : ℕ) → front_at (w + m) s n ≡ join_front (front_at w s n) (λ mid. front_at m s mid)) →
        on_varint x (λ n next. ahead n (front_at (w + m) s next))
        ≡ join_front (on_varint x (λ n next. ahead n (front_at w s next))) (λ mid. front_at m s mid)
    go (Some r) more = ap (ahead r.value) (more r.next) ∙ ahead-join r.value (front_at w s r.next)
    go None more = refl

abbrev pub Long : ℕ → Front → Type 0
Long k (Front.numbers ns end) = length ns ≡ k
Long k Front.broken = Unit {0}

pub front_long : (k : ℕ) (s : List ℕ) (at : ℕ) → Long k (front_at k s at)
unfolding front_at
front_long zero s at = refl
front_long (suc k) s at =
    subst (Long (suc k)) (sym (front_number k s at)) (go (number_at s at) (front_long k s))
  where
    longer : (v : ℕ) (f : Front) → Long k f → Long (suc k) (ahead v f)
    longer v (Front.numbers ns end) h = ap suc h
    longer v Front.broken h = tt

    go : (x : Option Number) → ((n : ℕ) → Long k (front_at k s n)) →
        Long (suc k) (on_varint x (λ n next. ahead n (front_at k s next)))
    go (Some r) more = longer r.value (front_at k s r.next) (more r.next)
    go None more = tt

pub all_more : (ns ms : List ℕ) (p : ℕ) → ahead_all ns (Front.numbers ms p) ≡ Front.numbers (ns ++ ms) p
unfolding ahead_all
all_more [] ms p = refl
all_more (n ∷ ns) ms p = ap (ahead n) (all_more ns ms p)
