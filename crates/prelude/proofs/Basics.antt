-- The names that many proofs need, of the library and of this crate, so that a proof takes them from one place. A name
-- that one or two proofs need is taken from its own module. Assumes nothing.
pub use Prim.Native.Nat.{ℕ, zero, suc, ◌+◌, ◌-◌, ◌*◌, ◌/◌, ◌%◌, ◌^◌, ◌≤◌, ◌<◌, min}
pub use native.Mathlib.Omega.{arith}
pub use native.Mathlib.Nat.{add-zero, le_trans, mod-eq_of_lt, mod-lt, mul_assoc, zero-add}
pub use native.Mathlib.Numerals.{add-one}
pub use mathlib.Core.Bool.{Bool, true, false, not, ◌&&◌, ◌||◌, cond, true≢false, false≢true, and-false}
pub use mathlib.Core.Path.{◌≡◌, refl, sym, ap, ap₂, subst, ◌∙◌}
pub use mathlib.Core.Logic.{◌⊎◌, inl, inr, ⊎_elim}
pub use mathlib.Core.List.{List, [], ◌∷◌, ◌++◌, map, append-nil, append_assoc}
pub use Rattle.std.specs.Prelude.{Result, Ok, Err}
pub use lib.ListN.{length, get_or, set, take, drop, replicate, get_or-append as List·getD-append, get_or-eq_default as List·getD-eq-default, drop_of_length-le}
pub use lib.ListN.{length-append, length-drop, length-set, length-take, take-append-drop}
pub use lib.Seq.{drop-append-le, drop_at, drop-cons, drop-drop, get_or-drop, get_or-set_other, get_or-set_same, get_or-take}
pub use lib.Seq.{length-sets, length-take-le, sets, sets-eq, take-add, take_all, take-append-le, take_at, take-length}
pub use lib.Seq.{take-take}
pub use lib.Dec.{T, eqb, leb, ltb}
pub use borrow.Author.Rules.{rules}
pub use borrow.Author.Tests.{eq-eqb, eqb-false, eqb-true, le-leb, le-ltb, leb-false, leb-true, lt-leb, lt-ltb}
pub use borrow.Author.Tests.{ltb-false, ltb-true, ne_eqb, not-false, not-true}
pub use Rattle.std.specs.Prelude.{Option, Some, None, is_none, is_some, unwrap_or}
pub use Rattle.std.specs.Option.{option_or}
pub use Rattle.prelude.proofs.Cases.{both, yes, no, less_or_not, before_suc}
pub use Rattle.prelude.proofs.OrLaws.{or_assoc, or_false, or_none, or_same, or_then, or_true, or_within}
