-- An opening goes on properly. Assumes nothing.
use Rattle.prelude.proofs.Basics.{ℕ, zero, suc, ◌+◌, ◌≤◌, ◌<◌, arith, ◌≡◌, refl, sym, ap, ◌∙◌, List, [], ◌∷◌, ◌++◌}
use Rattle.prelude.proofs.Basics.{append-nil, append_assoc}
use Rattle.session.specs.Lists.{All, sum_by}
use Rattle.history.specs.Tally.{Segment, Opening, sent, unsent, longer}
use Rattle.history.specs.History.{numbers, row_numbers, Proper, NumbersWithin}
use Rattle.history.proofs.ListLaws.{sum_append}

-- numbers from n on, then from where they end on
numbers_more : (n a b : ℕ) → numbers n a ++ numbers (n + a) b ≡ numbers n (a + b)
unfolding numbers
numbers_more n zero b =
    let e : n + 0 ≡ n = omega arith in
    let f : 0 + b ≡ b = omega arith in
    rw (e, f)
numbers_more n (suc a) b =
    let e : n + suc a ≡ suc n + a = omega arith in
    let f : suc a + b ≡ suc (a + b) = omega arith in
    rw (e, f) (ap (λ l. n ∷ l) (numbers_more (suc n) a b))

numbers_append : (gs hs : List Segment) → row_numbers (gs ++ hs) ≡ row_numbers gs ++ row_numbers hs
unfolding row_numbers
numbers_append [] hs = refl
numbers_append (g ∷ gs) hs =
    ap (λ l. numbers g.first g.count ++ l) (numbers_append gs hs)
    ∙ sym (append_assoc (numbers g.first g.count) (row_numbers gs) (row_numbers hs))

pub sent_longer : (g : Segment) (o : Opening) → sent (longer g o) ≡ sent o + g.count
unfolding sum_by
sent_longer g o = omega (arith, sum_append (λ g. g.count) o.segments (g ∷ []))

-- the rows of one more step go on where the earlier ones ended
pub goes_on_lem : (g : Segment) (o : Opening) → Proper o → g.first ≡ o.first + sent o → sent o + g.count ≤ o.rows →
    Proper (longer g o)
unfolding row_numbers
goes_on_lem g o h f w =
    record {
      numbered =
          numbers_append o.segments (g ∷ [])
          ∙ ap (λ l. l ++ (numbers g.first g.count ++ [])) h.numbered
          ∙ ap (λ l. numbers o.first (sent o) ++ l) (append-nil (numbers g.first g.count))
          ∙ ap (λ (n : ℕ). numbers o.first (sent o) ++ numbers n g.count) f
          ∙ numbers_more o.first (sent o) g.count
          ∙ ap (numbers o.first) (sym (sent_longer g o));
      within = omega (arith, sent_longer g o);
    }

abbrev unopened : ℕ → ℕ → ℕ → ℕ → Opening
unopened cursor stmt first rows = record { cursor = cursor; stmt = stmt; first = first; rows = rows; segments = [] }

pub nothing_sent : (cursor stmt first rows : ℕ) → Proper (unopened cursor stmt first rows)
unfolding row_numbers numbers sum_by
nothing_sent cursor stmt first rows = record { numbered = refl; within = omega arith }

-- the rows of an Open start at 0
pub begins : (cursor stmt rows : ℕ) (g : Segment) → g.first ≡ 0 → g.count ≤ rows →
    Proper (longer g (unopened cursor stmt 0 rows))
unfolding sum_by
begins cursor stmt rows g f w =
    goes_on_lem g (unopened cursor stmt 0 rows) (nothing_sent cursor stmt 0 rows) (f ∙ start) (omega arith)
  where
    start : 0 ≡ 0 + sent (unopened cursor stmt 0 rows)
    start = omega arith

-- numbers from n on, as many as there are up to an end
numbers_within : (least end n count : ℕ) → least ≤ n → n + count ≤ end →
    All (λ k. (least ≤ k) × (k < end)) (numbers n count)
unfolding All numbers
numbers_within least end n zero h g = tt
numbers_within least end n (suc count) h g =
    ((h, omega arith), numbers_within least end (suc n) count (omega arith) (omega arith))

pub numbers_proper : NumbersWithin
numbers_proper o h =
    rw h.numbered (numbers_within o.first (o.first + o.rows) o.first (sent o) (omega arith)
    (omega (arith, h.within)))

-- reported rows are sent, or unsent
pub sent_or_not : (os : List Opening) → All Proper os → sum_by (λ o. o.rows) os ≡ sum_by sent os + sum_by unsent os
unfolding All sum_by
sent_or_not [] h = omega arith
sent_or_not (o ∷ os) h = omega (arith, h.0.within, sent_or_not os h.1)
