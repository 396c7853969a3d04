-- Writing an image: numbers put one behind the other, the places of a table put one a turn, and the answer of handing
-- it over. Assumes nothing.
use Rattle.prelude.proofs.Basics.{ℕ, zero, suc, ◌+◌, ◌-◌, ◌*◌, ◌≤◌, ◌<◌, arith, add-zero, add-one, zero-add, Bool}
use Rattle.prelude.proofs.Basics.{true, false, not, cond, ◌≡◌, refl, sym, ap, ◌∙◌, List, [], ◌∷◌, ◌++◌, append-nil}
use Rattle.prelude.proofs.Basics.{length, length-append, ne_eqb, yes, no}
use native.Mathlib.Nat.{mul-le-mul_right}
use Rattle.protocol.specs.Reason as Reason
use Rattle.varint.specs.Shortest.{varint_bytes}
use Rattle.session.specs.Session.{flag}
use Rattle.session.specs.Lists.{sum_by, how_many}
use Rattle.session.specs.Words.{build}
use Rattle.std.specs.Prelude.{Option, Some, None}
use Rattle.encode.specs.Put.{fits_at, put_at}
use Rattle.encode.specs.Puts.{Puts}
use Rattle.encode.proofs.PutsLaws.{puts_nothing, puts_then, puts_as}
use Rattle.image_rules.specs.declared.Written.{Written}
use Rattle.image_rules.specs.Numbers.{bytes_of}
use Rattle.image_rules.specs.Listing.{placed}
use Rattle.image_rules.specs.Image.{answer, joined}
use Rattle.image_rules.specs.private.Parts.{place_bytes}
use Rattle.image_rules.proofs.FitLaws.{places_to, table_places}
use Rattle.image.specs.private.Handed.{handed}

-- ---- numbers

-- the bytes of these numbers are put
pub record Writes (b : List ℕ) (at : ℕ) (ns : List ℕ) (next : ℕ) (b₁ : List ℕ) : Type 0 where
  pub puts : Puts b at (bytes_of ns) next b₁

module _ {b b₁ : List ℕ} {at p n : ℕ} (f : Puts b at (varint_bytes n) p b₁) where
  pub number_then : {ns b₂ : List ℕ} {q : ℕ} → Writes b₁ p ns q b₂ → Writes b at (n ∷ ns) q b₂
  unfolding bytes_of
  number_then g = record { puts = puts_then f g.puts }

  pub last_number : Writes b at (n ∷ []) p b₁
  unfolding bytes_of
  last_number = record { puts = puts_as (sym (append-nil (varint_bytes n))) f }

-- ---- a place: bytes where it is live, none where it is free

module _ {b : List ℕ} {at live : ℕ} where
  pub puts_free : (bytes : List ℕ) → live ≡ 0 → Puts b at (cond (flag live) bytes []) at b
  puts_free bytes e = puts_as (no bytes [] (ap flag e)) (puts_nothing b at)

  pub puts_live : {bytes b₁ : List ℕ} {p : ℕ} → (live ≡ 0 → ⊥) → Puts b at bytes p b₁ →
      Puts b at (cond (flag live) bytes []) p b₁
  puts_live {bytes} h f = puts_as (yes bytes [] (ap not (ne_eqb live 0 h))) f

-- ---- a table of n places, each of at most `most` bytes: those before i are put, and of the others `left` are live

pub record Filling {A : Type 0} (live : A → Bool) (f : ℕ → A) (g : ℕ → List ℕ) (most n : ℕ) (b₀ : List ℕ) (at : ℕ)
    (b : List ℕ) (p i left : ℕ) : Type 0 where
  pub put : Puts b₀ at (places_to g i) p b
  pub short : length (places_to g i) ≤ i * most
  pub ahead : ℕ
  pub inside : i + ahead ≡ n
  pub counted : left ≡ how_many live (build f i ahead)

-- where one is left there is a place ahead
first_ahead : {A : Type 0} (live : A → Bool) (f : ℕ → A) (i ahead : ℕ) {left : ℕ} →
    left ≡ how_many live (build f i ahead) → 0 < left →
    (k : ℕ) × (ahead ≡ suc k) × (left ≡ cond (live (f i)) 1 0 + how_many live (build f (suc i) k))
unfolding build sum_by
first_ahead live f i zero e h = absurd (omega (arith, e))
first_ahead live f i (suc k) e h = (k, refl, e)

module _ {A : Type 0} {live : A → Bool} {f : ℕ → A} {g : ℕ → List ℕ} {most n : ℕ} {b₀ : List ℕ} {at : ℕ} where
  pub fills : {left : ℕ} → left ≡ how_many live (build f 0 n) → Filling live f g most n b₀ at b₀ at 0 left
  unfolding places_to
  fills e = record { put = puts_nothing b₀ at; short = omega arith; ahead = n; inside = omega arith; counted = e }

  module _ {b : List ℕ} {p i left : ℕ} (l : Filling live f g most n b₀ at b p i left) (h : 0 < left) where
    pub within : i < n
    within = let a = first_ahead live f i l.ahead l.counted h in omega (arith, a.1, l.inside)

    pub fills_on : (r : ℕ) {ys b₁ : List ℕ} {q : ℕ} → r ≡ cond (live (f i)) 1 0 → ys ≡ g i →
        Puts b p ys q b₁ × (length ys ≤ most) → Filling live f g most n b₀ at b₁ q (i + 1) (left - r)
    unfolding places_to
    fills_on r one e w =
        let a = first_ahead live f i l.ahead l.counted h in
        rw add-one
        record {
          put = puts_then l.put (puts_as e w.0);
          short = rw length-append (omega (arith, l.short, w.1, ap length e));
          ahead = a.0;
          inside = omega (arith, a.1, l.inside);
          counted = omega (arith, a.2, one);
        }

module _ {A E : Type 0} (live : A → Bool) (entry : ℕ → A → E) (numbers : E → List ℕ) (f : ℕ → A) where
  abbrev here : ℕ → List ℕ
  here k = place_bytes live entry numbers k (f k)

  -- places without a live entry put nothing
  none_ahead : (i ahead : ℕ) → how_many live (build f i ahead) ≡ 0 → places_to here i ≡ places_to here (i + ahead)
  unfolding build sum_by places_to
  none_ahead i zero e = ap (places_to here) (sym (add-zero i))
  none_ahead i (suc k) e =
      let next : suc i + k ≡ i + suc k = omega arith in
      free (live (f i)) (bytes_of (numbers (entry i (f i)))) (omega (arith, e))
      ∙ none_ahead (suc i) k (omega (arith, e))
      ∙ ap (places_to here) next
    where
      free : (b : Bool) (bytes : List ℕ) → ◌≡◌ {A = ℕ} (cond b 1 0) 0 →
          places_to here i ≡ places_to here i ++ cond b bytes []
      free true bytes h = absurd (omega (arith, h))
      free false bytes h = sym (append-nil (places_to here i))

  pub filled : {most n : ℕ} {b₀ b : List ℕ} {at p i left : ℕ} → Filling live f here most n b₀ at b p i left →
      left ≤ 0 →
      let whole = bytes_of (joined numbers (placed live entry 0 (build f 0 n))) in
      Puts b₀ at whole p b × (length whole ≤ n * most)
  filled {most} {n} {i = i} l h =
      let none : how_many live (build f i l.ahead) ≡ 0 = omega (arith, l.counted) in
      let all =
      none_ahead i l.ahead none ∙ ap (places_to here) l.inside ∙ table_places live entry numbers f n in
      let upto : i * most ≤ n * most = mul-le-mul_right most (omega (arith, l.inside)) in
      (puts_as all l.put, omega (arith, l.short, ap length all, upto))

  -- past the last place none is left
  pub all_filled : {most n : ℕ} {b₀ b : List ℕ} {at p i left : ℕ} → Filling live f here most n b₀ at b p i left → n ≤ i →
      let whole = bytes_of (joined numbers (placed live entry 0 (build f 0 n))) in
      Puts b₀ at whole p b × (length whole ≤ n * most)
  unfolding build sum_by
  all_filled {i = i} l h =
      let e : l.ahead ≡ 0 = omega (arith, l.inside) in
      filled l (omega (arith, l.counted, ap (λ (k : ℕ). how_many live (build f i k)) e))

-- ---- handing over

-- the answer by what writing the bytes comes to
abbrev pub of_put : Option ℕ → Written
of_put (Some n) = answer Reason.accepted n
of_put None = answer Reason.no_room 0

pub handed_by_lem : (image buf : List ℕ) → of_put (put_at buf 0 image) ≡ handed image buf
handed_by_lem image buf = go (fits_at buf 0 image)
  where
    go : (b : Bool) → of_put (cond b (Some (0 + length image)) None)
        ≡ cond b (answer Reason.accepted (length image)) (answer Reason.no_room 0)
    go true = ap (answer Reason.accepted) (zero-add (length image))
    go false = refl
