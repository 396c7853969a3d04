-- The id that stands first, with a field behind it: what a message's rows make of them, and a Fetch and a Prepare of
-- them. Assumes nothing.
use Rattle.prelude.proofs.Basics.{Some}
use Rattle.prelude.proofs.Basics.{ℕ, ◌+◌, ◌-◌, ◌/◌, ◌%◌, ◌≤◌, ◌<◌, arith, Bool, true, false, ◌&&◌, cond, ◌≡◌}
use Rattle.prelude.proofs.Basics.{refl, sym, ap, ◌∙◌, List, ◌∷◌, length, get_or, eqb, eq-eqb}
use Rattle.protocol.specs.Client as Client
use Rattle.wire.specs.Value.{as_number}
use Rattle.wire.specs.Field.{field_of}
use Rattle.wire.specs.Past.{PastField}
use Rattle.wire.proofs.PastLaws.{field_past}
use Rattle.wire.proofs.LongLaws.{LongField, field_long}
use Rattle.layout.specs.Fields.{use_of}
use Rattle.layout.proofs.FieldsLaws.{starts}
use Rattle.layout.proofs.PartsLaws.{parts_end, parts_on}
use Rattle.message.proofs.Names.{varint_at, Number, of_varint, as_length, of_value, field_at}
use Rattle.message.proofs.Names.{quick_wire, rows_of, row_for, no_slots, noted, checked, has_required, Use, Slots}
use Rattle.message.proofs.Names.{one_part, parts_of, Part, Listing, ends, goes_on_lem, payload, fetch_in, fetch_frame}
use Rattle.message.proofs.Names.{prepare_inside, stmt_parts, prepare_frame}
use Rattle.message.specs.Prepare.{prepare_of}
use Rattle.message.specs.private.First.{id_tag, Starts}
use Rattle.message.specs.private.Parts.{fetch_of}
use Rattle.std.specs.Prelude.{Option}
use Rattle.varint.specs.Number.{some_number}
use Rattle.wire.specs.Field.{some_field}
use Rattle.wire.specs.Value.{some_value}

-- ---- the id

pub starts_at : (s : List ℕ) → payload < length s → get_or s payload 0 ≡ id_tag → {tag id end : ℕ} →
    varint_at s (payload + 1) ≡ some_number id end → end < length s → get_or s end 0 ≡ tag → Starts s tag id (end + 1)
starts_at s there is {tag} {id} {end} e inside t =
    record {
      len = end - (payload + 1);
      end = end;
      there = there;
      id_is = is;
      one =
          sym (quick_wire s payload id_tag there (sym is) (omega arith) 0 (omega arith) refl (omega arith))
          ∙ ap (λ (v : Option Number). of_value 1 0 (of_varint (payload + 1) v)) e;
      inside = inside;
      tag_is = t;
      next_is = refl;
    }

-- ---- the field behind it

module _ {s : List ℕ} {tag id next : ℕ} (b : Starts s tag id next) (some : 8 ≤ tag) (short : tag < 128) where
  tagged : (wire : ℕ) → tag % 8 ≡ wire → wire < 6 → field_at s b.end ≡ field_of s (tag / 8) wire next
  tagged wire e w =
      sym
      (ap (field_of s (tag / 8) wire) b.next_is
      ∙ quick_wire s b.end tag b.inside (sym b.tag_is) short wire some e w)

  module _ {v start len end : ℕ} where
    pub number_behind : tag % 8 ≡ 0 → as_number s next ≡ some_value v start len end →
        field_at s b.end ≡ some_field (tag / 8) 0 v start len end
    number_behind e f = tagged 0 e (omega arith) ∙ ap (of_value (tag / 8) 0) f

    -- of a field with bytes the value is their length
    pub bytes_behind : tag % 8 ≡ 2 → as_length s next ≡ some_value v start len end →
        field_at s b.end ≡ some_field (tag / 8) 2 len start len end
    bytes_behind e f = read ∙ ap (λ (k : ℕ). some_field (tag / 8) 2 k start len end) (go (field_long s b.end) refl)
      where
        read : field_at s b.end ≡ some_field (tag / 8) 2 v start len end
        read = tagged 2 e (omega arith) ∙ ap (of_value (tag / 8) 2) f

        go : LongField (field_at s b.end) → ◌≡◌ {A = ℕ} 2 2 → v ≡ len
        go = rw read (λ h. h)

-- any rows that keep both fields hold them
module _ {s : List ℕ} {tag id next : ℕ} (b : Starts s tag id next) (rows : List (List ℕ)) where
  before : payload < b.end
  before = go (field_past s payload)
    where
      go : PastField payload (length s) (field_at s payload) → payload < b.end
      go = rw b.one (λ h. h.2)

  pub two_listed : {number wire v start len end : ℕ} → field_at s b.end ≡ some_field number wire v start len end →
      Use.Kept ≡ use_of rows 1 0 id → Use.Kept ≡ use_of rows number wire v →
      Listing rows s payload end
      (noted Use.Kept (noted Use.Kept no_slots 1 id (payload + 1) b.len) number v start len)
  two_listed f one two =
      goes_on_lem (goes_on_lem (starts rows s payload) (omega (arith, before, b.inside)) b.one Use.Kept one) b.inside f
      Use.Kept two

-- behind the id, the parts in the field that follows it
pub first_part : {s : List ℕ} {tag id next : ℕ} (b : Starts s tag id next) (k : ℕ) {v start n end : ℕ} →
    field_at s b.end ≡ some_field k 2 v start n end → eqb 1 k ≡ false →
    parts_of k s payload ≡ record { start = start; len = n } ∷ parts_of k s end
first_part {s} b k {v} {start} {n} {end} f other =
    parts_on k s payload b.there _ b.one
    ∙ ap
    (λ (c : Bool).
    cond (c && false) (record { start = payload + 1; len = b.len } ∷ parts_of k s b.end) (parts_of k s b.end))
    other
    ∙ parts_on k s b.end b.inside _ f
    ∙ ap (λ (c : Bool). cond (c && true) (record { start = start; len = n } ∷ parts_of k s end) (parts_of k s end))
    (eq-eqb k k refl)

-- ---- the messages of both and no more

module _ {s : List ℕ} {id next v end : ℕ} (past : length s ≤ end) where
  pub fetch_found : Starts s 16 id next → varint_at s next ≡ some_number v end →
      fetch_of (length s) id (Some v) ≡ fetch_frame s
  unfolding fetch_frame rows_of row_for has_required
  fetch_found b f =
      ap (λ (x : Slots). fetch_in s (checked (rows_of Client.fetch) x))
      (ends
      (two_listed b (rows_of Client.fetch)
      (number_behind b (omega arith) (omega arith) refl (ap (of_varint next) f)) refl refl)
      past)

  pub prepare_found : {start len : ℕ} → Starts s 18 id next → as_length s next ≡ some_value v start len end →
      prepare_inside s id (stmt_parts s) ≡ prepare_frame s
  unfolding prepare_frame rows_of row_for has_required
  prepare_found b f =
      ap (λ (x : Slots). prepare_of s (checked (rows_of Client.prepare) x))
      (ends (two_listed b (rows_of Client.prepare) (bytes_behind b (omega arith) (omega arith) refl f) refl refl) past)

  -- and its statement stands there once
  pub stmt_found : {start len : ℕ} → Starts s 18 id next → as_length s next ≡ some_value v start len end →
      stmt_parts s ≡ one_part start len
  stmt_found {start} {len} b f =
      first_part b 2 (bytes_behind b (omega arith) (omega arith) refl f) refl
      ∙ ap (λ (ps : List Part). record { start = start; len = len } ∷ ps) (parts_end 2 s (length s) end past)
