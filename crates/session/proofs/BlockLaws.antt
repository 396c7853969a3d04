-- A search of the ids by blocks. Assumes nothing.
use Rattle.prelude.proofs.Basics.{ℕ, zero, suc, ◌+◌, ◌-◌, ◌*◌, ◌≤◌, ◌<◌, arith, Bool, true, false, ◌&&◌, ◌||◌, ◌≡◌}
use Rattle.prelude.proofs.Basics.{refl, sym, ap, subst, ◌∙◌, List, eqb}
use Rattle.prelude.proofs.Basics.{less_or_not, or_assoc, or_false, drop, Option, Some, None}
use Rattle.session.specs.Words.{stmts_in}
use Rattle.session.proofs.Names.{first, is_live_stmt, is_stmt, max_stmts, stmt_in}
use Rattle.session.specs.private.Search.{block_ids, blocks, any_in, FirstBlock}
use Rattle.session.proofs.LoopLaws.{passed, first_is}

-- a test of the n ids from a place on stands at k
pub record Testing (id : ℕ) (w : List ℕ) (at n k : ℕ) (hit : Bool) : Type 0 where
  pub small : k ≤ n
  pub whole : hit || any_in id w (at + k) (n - k) ≡ any_in id w at n

pub tests : (id : ℕ) (w : List ℕ) (at n : ℕ) → Testing id w at n 0 false
tests id w at n =
    let e : at + 0 ≡ at = omega arith in
    let f : n - 0 ≡ n = omega arith in
    record { small = omega arith; whole = ap (λ (j : ℕ). any_in id w j (n - 0)) e ∙ ap (any_in id w at) f }

module _ {id at n k : ℕ} {w : List ℕ} {hit : Bool} (t : Testing id w at n k hit) where
  pub tested : n ≤ k → hit ≡ any_in id w at n
  unfolding any_in
  tested h =
      let e : n - k ≡ 0 = omega arith in
      or_false hit ∙ sym (ap (λ (m : ℕ). hit || any_in id w (at + k) m) e) ∙ t.whole

  abbrev others : Bool
  others = any_in id w (at + (k + 1)) (n - (k + 1))

  opened : k < n → hit || (eqb (stmt_in w (at + k)).id id || others) ≡ any_in id w at n
  unfolding any_in
  opened h =
      let e : suc (n - (k + 1)) ≡ n - k = omega arith in
      let g : at + (k + 1) ≡ suc (at + k) = omega arith in
      ap (λ (j : ℕ). hit || (eqb (stmt_in w (at + k)).id id || any_in id w j (n - (k + 1)))) g
      ∙ ap (λ (m : ℕ). hit || any_in id w (at + k) m) e
      ∙ t.whole

  pub tests_on : k < n → Testing id w at n (k + 1) (hit || eqb (stmt_in w (at + k)).id id)
  tests_on h = record { small = omega arith; whole = or_assoc hit _ others ∙ opened h }

and_last : (a b : Bool) → b ≡ false → a && b ≡ false
and_last true b e = e
and_last false b e = refl

or_left : (a b : Bool) → a || b ≡ false → a ≡ false
or_left false b e = refl
or_left true b e = e

or_right : (a b : Bool) → a || b ≡ false → b ≡ false
or_right false b e = e
or_right true b e = absurd (let z : ◌≡◌ {A = ℕ} 0 1 = cc in omega arith)

-- a search by blocks
module _ (id : ℕ) (w : List ℕ) where
  -- a statement among n places without the id does not pass
  lacks : (n at : ℕ) → any_in id w at n ≡ false → (i : ℕ) → at ≤ i → i < at + n → is_stmt id (stmt_in w i) ≡ false
  unfolding any_in
  lacks zero at e i l h = absurd (omega arith)
  lacks (suc n) at e i l h =
      let same = eqb (stmt_in w at).id id in
      let rest = any_in id w (suc at) n in
      less_or_not at i
      (λ b. lacks n (suc at) (or_right same rest e) i (omega arith) (omega arith))
      (λ b. let q : at ≡ i = omega arith in
      subst (λ (j : ℕ). is_stmt id (stmt_in w j) ≡ false) q
      (and_last (is_live_stmt (stmt_in w at)) same (or_left same rest e)))

  -- nor one of the first b blocks, where none of them has it
  blocks_lack : (b : ℕ) → ((j : ℕ) → 0 ≤ j → j < b → any_in id w (block_ids * j) block_ids ≡ false) →
      (i : ℕ) → 0 ≤ i → i < block_ids * b → is_stmt id (stmt_in w i) ≡ false
  blocks_lack zero none i l h = absurd (omega arith)
  blocks_lack (suc b) none i l h =
      less_or_not i (block_ids * b)
      (λ m. blocks_lack b (λ j k n. none j k (omega arith)) i l m)
      (λ m. lacks block_ids (block_ids * b) (none b (omega arith) (omega arith)) i m (omega arith))

  pub no_block : FirstBlock id w None → None ≡ first (is_stmt id) (stmts_in w) 0
  no_block none = first_is (is_stmt id) (stmt_in w) max_stmts 0 None (λ i l h. blocks_lack blocks none i l h)

  -- blocks without the id are passed
  pub from_block : (b : ℕ) → FirstBlock id w (Some b) → (r : Option ℕ) →
      r ≡ first (is_stmt id) (drop (block_ids * b) (stmts_in w)) (block_ids * b) → r ≡ first (is_stmt id) (stmts_in w) 0
  from_block b found r e =
      let q : 0 + block_ids * b ≡ block_ids * b = omega arith in
      e
      ∙ subst (λ (j : ℕ). first (is_stmt id) (drop j (stmts_in w)) j ≡ first (is_stmt id) (stmts_in w) 0) q
      (passed (is_stmt id) (stmt_in w) max_stmts (block_ids * b) 0 (omega (arith, found.1))
      (λ i l h. blocks_lack b (λ j k m. found.3 j k m) i l (omega arith)))
