-- Numbers written as shortest varints read back, and no other bytes read as them. Assumes nothing.
use Rattle.prelude.proofs.Basics.{ℕ, zero, suc, ◌+◌, ◌-◌, ◌^◌, ◌≤◌, ◌<◌, arith, add-zero, Bool, false}
use Rattle.prelude.proofs.Basics.{cond, ◌≡◌, refl, sym, ap, subst, ◌∙◌, List, [], ◌∷◌, ◌++◌, append_assoc, length, drop}
use Rattle.prelude.proofs.Basics.{drop-drop, drop_at, length-append, take-append-drop, leb, le-leb, leb-true, both}
use Rattle.varint.specs.declared.Number.{Number}
use Rattle.varint.specs.Varint.{varint_at}
use Rattle.varint.specs.Shortest.{varint_bytes}
use Rattle.varint.specs.Padded.{padded_at}
use Rattle.varint.specs.Past.{Past}
use Rattle.varint.proofs.VarintLaws.{reads_there}
use Rattle.varint.proofs.PastLaws.{varint_past}
use Rattle.varint.proofs.FlagLaws.{plain_there, only_written}
use Rattle.session.specs.Lists.{All}
use Rattle.session.specs.Sound.{max_number}
use Rattle.image_rules.specs.Numbers.{bytes_of, Front, ahead, on_varint, front_at}
use Rattle.std.specs.Prelude.{Option, Some, None}
use Rattle.varint.specs.Number.{some_number}

-- a number that an image can hold
abbrev pub Fits : ℕ → Type 0
Fits n = n ≤ max_number

pub bytes_append : (ns ms : List ℕ) → bytes_of (ns ++ ms) ≡ bytes_of ns ++ bytes_of ms
unfolding bytes_of
bytes_append [] ms = refl
bytes_append (n ∷ ns) ms =
    ap (λ (l : List ℕ). varint_bytes n ++ l) (bytes_append ns ms)
    ∙ sym (append_assoc (varint_bytes n) (bytes_of ns) (bytes_of ms))

-- what stands behind some bytes
pub behind_it : (s xs q : List ℕ) (at : ℕ) → drop at s ≡ xs ++ q → drop (at + length xs) s ≡ q
behind_it s xs q at e =
    sym (drop-drop (length xs) at s) ∙ ap (λ (l : List ℕ). drop (length xs) l) e ∙ drop_at xs q (length xs) refl

-- ---- what is written reads back

pub reads : (ns s : List ℕ) (at : ℕ) (q : List ℕ) → All Fits ns → drop at s ≡ bytes_of ns ++ q →
    front_at (length ns) s at ≡ Front.numbers ns (at + length (bytes_of ns))
unfolding front_at bytes_of All
reads [] s at q h e = ap (Front.numbers []) (sym (add-zero at))
reads (n ∷ ns) s at q h e =
    ap (λ (b : Bool). cond b Front.broken (on_varint (varint_at s at) more))
    (plain_there n at s (bytes_of ns ++ q) fit here)
    ∙ ap (λ x. on_varint x more) (reads_there n at s (bytes_of ns ++ q) fit here)
    ∙ ap (λ (b : Bool). cond b (ahead n (front_at (length ns) s (at + length (varint_bytes n)))) Front.broken)
    (le-leb n max_number h.0)
    ∙ ap (ahead n)
    (reads ns s (at + length (varint_bytes n)) q h.1 (behind_it s (varint_bytes n) (bytes_of ns ++ q) at here))
    ∙ ap (Front.numbers (n ∷ ns)) sum
  where
    more : ℕ → ℕ → Front
    more n next = cond (leb n max_number) (ahead n (front_at (length ns) s next)) Front.broken

    fit : n < 2 ^ 64
    fit = omega (arith, h.0)

    here : drop at s ≡ varint_bytes n ++ (bytes_of ns ++ q)
    here = e ∙ append_assoc (varint_bytes n) (bytes_of ns) q

    sum : at + length (varint_bytes n) + length (bytes_of ns) ≡ at + length (varint_bytes n ++ bytes_of ns)
    sum = omega (arith, length-append (varint_bytes n) (bytes_of ns))

-- ---- and nothing else does

pub record Fronts (k : ℕ) (s : List ℕ) (at : ℕ) (ns : List ℕ) (next : ℕ) : Type 0 where
  pub count : length ns ≡ k
  pub bytes : drop at s ≡ bytes_of ns ++ drop next s
  pub fit : All Fits ns
  pub within : next ≤ length s

-- the bytes that were read are the number's, and the rest stands behind them
one_front : (s : List ℕ) (at v next : ℕ) → varint_at s at ≡ some_number v next → padded_at s at ≡ false →
    (drop at s ≡ varint_bytes v ++ drop next s) × (next ≤ length s)
one_front s at v next e f = (
  sym (take-append-drop (next - at) (drop at s))
      ∙ ap (λ (l : List ℕ). l ++ drop (next - at) (drop at s)) (only_written s at v next e f)
      ∙ ap (λ (l : List ℕ). varint_bytes v ++ l) (drop-drop (next - at) at s ∙ ap (λ (n : ℕ). drop n s) there),
  past.1,
)
  where
    past : (at < next) × (next ≤ length s)
    past = subst (Past at (length s)) e (varint_past s at)

    there : at + (next - at) ≡ next
    there = omega (arith, past)

-- what is read says this of the bytes
abbrev pub Tells : ℕ → List ℕ → ℕ → Front → Type 0
Tells k s at (Front.numbers ns next) = Fronts k s at ns next
Tells k s at Front.broken = Unit {0}

ahead_tells : (k : ℕ) (s : List ℕ) (at v next : ℕ) → Fits v → drop at s ≡ varint_bytes v ++ drop next s → (x : Front) →
    Tells k s next x → Tells (suc k) s at (ahead v x)
unfolding bytes_of All
ahead_tells k s at v next fit e (Front.numbers ns end) h =
    record {
      count = ap suc h.count;
      bytes =
          e
          ∙ ap (λ (l : List ℕ). varint_bytes v ++ l) h.bytes
          ∙ sym (append_assoc (varint_bytes v) (bytes_of ns) (drop end s));
      fit = (fit, h.fit);
      within = h.within;
    }
ahead_tells k s at v next fit e Front.broken h = tt

pub front_tells : (k : ℕ) (s : List ℕ) (at : ℕ) → at ≤ length s → Tells k s at (front_at k s at)
unfolding front_at bytes_of All
front_tells zero s at h = record { count = refl; bytes = refl; fit = tt; within = h }
front_tells (suc k) s at h =
    both (Tells (suc k) s at) (padded_at s at) _ _ (λ _. tt) (λ f. go f (varint_at s at) refl (front_tells k s))
  where
    go : padded_at s at ≡ false → (x : Option Number) → varint_at s at ≡ x →
        ((n : ℕ) → n ≤ length s → Tells k s n (front_at k s n)) →
        Tells (suc k) s at (on_varint x (λ n next. cond (leb n max_number) (ahead n (front_at k s next)) Front.broken))
    go f (Some r) e more =
        let o = one_front s at r.value r.next e f in
        both (Tells (suc k) s at) (leb r.value max_number) (ahead r.value (front_at k s r.next)) Front.broken
        (λ l. ahead_tells k s at r.value r.next (leb-true r.value max_number l) o.0 (front_at k s r.next) (more r.next o.1))
        (λ _. tt)
    go f None e more = tt
