-- An Open's own fields in their order: what its rows make of them. Assumes nothing.
use Rattle.prelude.proofs.Basics.{Option, Some, None}
use Rattle.prelude.proofs.Basics.{ℕ, ◌+◌, ◌-◌, ◌≤◌, ◌<◌, arith, ◌≡◌, refl, sym, ap, ◌∙◌, List}
use Rattle.prelude.proofs.Basics.{◌∷◌, length, get_or, yes}
use Rattle.layout.proofs.PartsLaws.{parts_end, parts_on}
use Rattle.protocol.specs.Client as Client
use Rattle.message.proofs.Names.{varint_at, Number, of_varint, as_length, of_value, field_at}
use Rattle.message.proofs.Names.{quick_wire, rows_of, row_for, no_slots, noted, checked, fields_at, has_required}
use Rattle.message.proofs.Names.{value_of, one_part, parts_of, Use, Part, Slots, Listing, ends, goes_on_lem, payload}
use Rattle.message.proofs.Names.{optional_of, open_inside, open_parts, open_frame, Frame}
use Rattle.message.specs.private.First.{Starts}
use Rattle.message.specs.private.Outer.{Opens}
use Rattle.message.proofs.FirstLaws.{bytes_behind, two_listed, first_part}
use Rattle.std.specs.Prelude.{Option}
use Rattle.varint.specs.Number.{some_number}
use Rattle.wire.specs.Field.{some_field}
use Rattle.wire.specs.Value.{some_value}

abbrev rows_of_lem : List (List ℕ)
rows_of_lem = rows_of Client.open'

-- cursor_id and the statement
module _ {s : List ℕ} {id behind : ℕ} (b : Starts s 34 id behind) {v start len next : ℕ}
    (e : as_length s behind ≡ some_value v start len next) where
  abbrev two : Slots
  two = noted Use.Kept (noted Use.Kept no_slots 1 id (payload + 1) b.len) 4 len start len

  listed : Listing rows_of_lem s payload next two
  unfolding rows_of row_for
  listed = two_listed b rows_of_lem (bytes_behind b (omega arith) (omega arith) refl e) refl refl

  opens : (x : Slots) (rows : Option ℕ) → x ≡ fields_at rows_of_lem s payload → Opens x id rows →
      Opens (fields_at rows_of_lem s payload) id rows
  opens x rows d o = rw d at o

  -- the statement stands there once
  pub stmt_first : parts_of 4 s payload ≡ record { start = start; len = len } ∷ parts_of 4 s next
  stmt_first = first_part b 4 (bytes_behind b (omega arith) (omega arith) refl e) refl

  pub parts_two : length s ≤ next → parts_of 4 s payload ≡ one_part start len
  parts_two h =
      stmt_first
      ∙ ap (λ (ps : List Part). record { start = start; len = len } ∷ ps) (parts_end 4 s (length s) next h)

  -- and no more
  pub opens_two : length s ≤ next → Opens (fields_at rows_of_lem s payload) id (None)
  unfolding rows_of row_for has_required
  opens_two h =
      opens (checked rows_of_lem two) (None) (ap (checked rows_of_lem) (ends listed h))
      (record { good = refl; id_is = refl; rows_is = refl })

  -- and fetch_rows
  module _ (more : next < length s) (at : get_or s next 0 ≡ 40) {rows end : ℕ}
      (f : varint_at s (next + 1) ≡ some_number rows end) where
    pub rows_field : field_at s next ≡ some_field 5 0 rows (next + 1) (end - (next + 1)) end
    rows_field =
        sym (quick_wire s next 40 more (sym at) (omega arith) 0 (omega arith) refl (omega arith))
        ∙ ap (λ (x : Option Number). of_value 5 0 (of_varint (next + 1) x)) f

    pub parts_three : length s ≤ end → parts_of 4 s payload ≡ one_part start len
    parts_three h =
        stmt_first
        ∙ ap (λ (ps : List Part). record { start = start; len = len } ∷ ps)
        (parts_on 4 s next more _ rows_field ∙ parts_end 4 s (length s) end h)

    abbrev three : Slots
    three = noted Use.Kept two 5 rows (next + 1) (end - (next + 1))

    all : Listing rows_of_lem s payload end three
    unfolding rows_of row_for
    all = goes_on_lem listed more rows_field Use.Kept refl

    pub opens_three : length s ≤ end → Opens (fields_at rows_of_lem s payload) id (Some rows)
    unfolding rows_of row_for has_required
    opens_three h =
        opens (checked rows_of_lem three) (Some rows) (ap (checked rows_of_lem) (ends all h))
        (record { good = refl; id_is = refl; rows_is = refl })

-- the Open of such fields
module _ (s : List ℕ) {id : ℕ} {rows : Option ℕ} (o : Opens (fields_at rows_of_lem s payload) id rows) where
  abbrev x : Slots
  x = fields_at rows_of_lem s payload

  pub open_paired : open_inside s id rows (open_parts s) ≡ open_frame s
  unfolding open_frame
  open_paired =
      ap (λ (q : Option ℕ). open_inside s id q (open_parts s)) o.rows_is
      ∙ ap (λ (i : ℕ). open_inside s i (optional_of x 5) (open_parts s)) o.id_is
      ∙ yes (open_inside s (value_of x 1) (optional_of x 5) (open_parts s)) (Frame.BadPayload (length s) Client.open')
      (sym o.good)
