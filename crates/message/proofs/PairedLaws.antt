-- A statement of two fields, its type and the body that it chooses: what the short way finds is what its rows make of
-- it. Assumes nothing.
use Rattle.prelude.proofs.Basics.{ℕ, ◌+◌, ◌*◌, arith, true, ◌≡◌, refl, sym, ap, ◌∙◌, List, length, yes, Some}
use Rattle.protocol.specs.Client as Client
use Rattle.layout.specs.Fields.{use_of}
use Rattle.args.specs.declared.pair.Pair.{Pair}
use Rattle.args.proofs.ScalarLaws.{inner_one}
use Rattle.message.proofs.Names.{prepare_stmt, open_stmt, rows_of, row_for, no_slots, noted, checked, has_required}
use Rattle.message.proofs.Names.{value_of, low32, one_part, parts_in, merged, Use, Part, Slots, one_part_lem}
use Rattle.message.proofs.Names.{pair_bytes}
use Rattle.message.proofs.Names.{Held, open_by, prepare_by, Inner, Chosen, Frame}
use Rattle.message.specs.Prepare.{prepare_typed}
use Rattle.message.specs.private.Parts.{Chooses, Runs}

-- what such a statement holds
abbrev held : List (List ℕ) → ℕ → ℕ → ℕ → ℕ → ℕ → Slots
held rows type field at value start =
    checked rows (noted Use.Kept (noted Use.Kept no_slots 1 type (at + 1) 1) field value start value)

stmt_held : (at value start : ℕ) →
    (true ≡ (held (rows_of prepare_stmt) 5 6 at value start).good)
    × (5 ≡ low32 (value_of (held (rows_of prepare_stmt) 5 6 at value start) 1))
unfolding rows_of has_required
stmt_held at value start = (refl, refl)

stmt_kept : (value : ℕ) →
    (Use.Kept ≡ use_of (rows_of prepare_stmt) 1 0 5) × (Use.Kept ≡ use_of (rows_of prepare_stmt) 6 2 value)
unfolding rows_of row_for
stmt_kept value = (refl, refl)

open_held : (at value start : ℕ) → true ≡ (held (rows_of open_stmt) 0 2 at value start).good
unfolding rows_of has_required
open_held at value start = refl

open_kept : (value : ℕ) →
    (Use.Kept ≡ use_of (rows_of open_stmt) 1 0 0) × (Use.Kept ≡ use_of (rows_of open_stmt) 2 2 value)
unfolding rows_of row_for
open_kept value = (refl, refl)

module _ {s : List ℕ} {at n : ℕ} {p : Pair} (h : Held s at n p) where
  abbrev one : Part
  one = record { start = at; len = n }

  -- a Prepare's statement with a StmtExecute
  module _ (k : p.key ≡ 5 * 256 + 50) where
    abbrev y : Slots
    y = merged (rows_of prepare_stmt) s (one_part at n)

    is : held (rows_of prepare_stmt) 5 6 at p.value p.start ≡ y
    is =
        pair_bytes s at n h.is (rows_of prepare_stmt) 5 50 k (omega arith) (stmt_kept p.value).0
        (stmt_kept p.value).1 refl
        ∙ sym (one_part_lem (rows_of prepare_stmt) s one)

    pub stmt_good : y.good ≡ true
    stmt_good = sym ((stmt_held at p.value p.start).0 ∙ ap (λ (x : Slots). x.good) is)

    pub stmt_paired : Chooses s (one_part at n) (Some (Chosen.Once 5 (record { start = p.start; len = p.value })))
    stmt_paired id =
        ap (prepare_by s id 5) (sym (inner_one h 5 50 k (omega arith) (omega arith) refl))
        ∙ ap (prepare_typed s id (one_part at n))
        ((stmt_held at p.value p.start).1 ∙ ap (λ (x : Slots). low32 (value_of x 1)) is)
        ∙ yes (prepare_typed s id (one_part at n) (low32 (value_of y 1))) (Frame.BadPayload (length s) Client.prepare)
        stmt_good

  -- an Open's
  module _ (k : p.key ≡ 0 * 256 + 18) where
    abbrev z : Slots
    z = merged (rows_of open_stmt) s (one_part at n)

    pub open_good : z.good ≡ true
    open_good =
        sym
        (open_held at p.value p.start
        ∙ ap (λ (x : Slots). x.good)
        (pair_bytes s at n h.is (rows_of open_stmt) 0 18 k (omega arith) (open_kept p.value).0
        (open_kept p.value).1 refl
        ∙ sym (one_part_lem (rows_of open_stmt) s one)))

    pub execute_one : parts_in 2 s (one_part at n) ≡ one_part p.start p.value
    execute_one = inner_one h 0 18 k (omega arith) (omega arith) refl

    pub open_paired : Runs s (one_part at n) (Some (Inner.Once (record { start = p.start; len = p.value })))
    open_paired id rows =
        ap (open_by s id rows) (sym execute_one)
        ∙ yes (open_by s id rows (parts_in 2 s (one_part at n))) (Frame.BadPayload (length s) Client.open') open_good
