-- Finding a row, and what it takes, case by case. Assumes nothing.
use Rattle.prelude.proofs.Basics.{ℕ, ◌+◌, ◌/◌, ◌%◌, ◌^◌, ◌≤◌, ◌<◌, add-one, true, false, ◌≡◌, List, length, get_or}
use Rattle.prelude.proofs.Basics.{drop, drop_of_length-le, drop-cons, eqb, eq-eqb, le-ltb, lt-ltb, ne_eqb}
use Rattle.layout.specs.Row.{columns, columns_of}
use Rattle.layout.specs.declared.row.Row.{Row}
use Rattle.layout.proofs.Names.{number_of, wire_of, listed_of, no_row, row_for, listed, slot_count, takes}

-- what stands past the last row
abbrev pub past_row : Row
past_row = record { message = 0; listed = 0; number = 0; wire = 0; required = 0; repeated = 0 }

module _ (rows : List Row) (number i : ℕ) where
  pub row_hit : i < length rows → (get_or rows i past_row).number ≡ number →
      columns (get_or rows i past_row) ≡ row_for (columns_of (drop i rows)) number
  unfolding row_for
  row_hit h e = rw (drop-cons rows i past_row h) (simp (eq-eqb (get_or rows i past_row).number number e))

  pub row_miss : i < length rows → ((get_or rows i past_row).number ≡ number → ⊥) →
      row_for (columns_of (drop (i + 1) rows)) number ≡ row_for (columns_of (drop i rows)) number
  unfolding row_for
  row_miss h e = rw (add-one, drop-cons rows i past_row h) (simp (ne_eqb (get_or rows i past_row).number number e))

  pub row_end : length rows ≤ i → no_row ≡ row_for (columns_of (drop i rows)) number
  unfolding row_for
  row_end h = rw (drop_of_length-le rows h)

module _ (values value : ℕ) where
  pub listed_any : values ≡ 0 → true ≡ listed values value
  listed_any h = simp (eq-eqb values 0 h)

  pub listed_high : (values ≡ 0 → ⊥) → 16 ≤ value % 2 ^ 32 → false ≡ listed values value
  listed_high h g = simp (ne_eqb values 0 h, le-ltb (value % 2 ^ 32) 16 g)

  pub listed_bit : (values ≡ 0 → ⊥) → value % 2 ^ 32 < 16 →
      eqb (values / 2 ^ (value % 2 ^ 32) % 2) 1 ≡ listed values value
  listed_bit h g = simp (ne_eqb values 0 h, lt-ltb (value % 2 ^ 32) 16 g)

module _ (row : List ℕ) (number wire value : ℕ) where
  pub takes_no_slot : slot_count ≤ number → false ≡ takes row number wire value
  takes_no_slot h = simp (le-ltb number slot_count h)

  pub takes_other : number < slot_count → (number_of row ≡ number → ⊥) → false ≡ takes row number wire value
  takes_other h e = simp (lt-ltb number slot_count h, ne_eqb (number_of row) number e)

  pub takes_wire : number < slot_count → number_of row ≡ number → (wire_of row ≡ wire → ⊥) →
      false ≡ takes row number wire value
  takes_wire h e f = simp (lt-ltb number slot_count h, eq-eqb (number_of row) number e, ne_eqb (wire_of row) wire f)

  pub takes_listed : number < slot_count → number_of row ≡ number → wire_of row ≡ wire →
      listed (listed_of row) value ≡ takes row number wire value
  takes_listed h e f = simp (lt-ltb number slot_count h, eq-eqb (number_of row) number e, eq-eqb (wire_of row) wire f)
