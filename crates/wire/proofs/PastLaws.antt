-- Tags, values, skips and fields end past their first byte and within the bytes. Assumes nothing.
use Rattle.prelude.proofs.Basics.{ℕ, zero, suc, ◌+◌, ◌-◌, ◌%◌, ◌^◌, ◌≤◌, ◌<◌, arith, Bool, true, false, ◌≡◌, refl, List}
use Rattle.prelude.proofs.Basics.{length, eqb, leb, ltb, leb-true, ltb-false, both}
use Rattle.wire.proofs.Names.{Past, varint_at, Number, varint_past, tag_of, tag_at, of_varint, as_fixed, of_length}
use Rattle.wire.proofs.Names.{value_at, behind, skip_value, and_then, group_field, group_fields, group_end, max_depth}
use Rattle.wire.proofs.Names.{of_value, of_group, of_tag, field_at, PastTag, PastValue, PastSkip, PastField}
use Rattle.wire.proofs.Names.{Tag, Value}
use Rattle.std.specs.Prelude.{Option, Some, None}
use Rattle.wire.specs.Tag.{some_tag}

tag_of_past : (at end : ℕ) (x : Option Number) → Past at end x → PastTag at end (tag_of x)
tag_of_past at end (Some r) h =
    both (PastTag at end) (ltb r.value (2 ^ 32)) _ _
    (λ _.
    both (PastTag at end) (ltb r.value 8) _ _ (λ _. tt)
    (λ _. both (PastTag at end) (ltb (r.value % 8) 6) _ _ (λ _. h) (λ _. tt)))
    (λ _. tt)
tag_of_past at end None h = tt

pub tag_past : (s : List ℕ) (at : ℕ) → PastTag at (length s) (tag_at s at)
tag_past s at = tag_of_past at (length s) (varint_at s at) (varint_past s at)

of_varint_past : (at end : ℕ) (x : Option Number) → Past at end x → PastValue at end (of_varint at x)
of_varint_past at end (Some r) h = (omega arith, omega arith, omega arith, omega arith)
of_varint_past at end None h = tt

of_length_past : (s : List ℕ) (at : ℕ) (x : Option Number) → Past at (length s) x → PastValue at (length s) (of_length s x)
of_length_past s at (Some r) h =
    both (PastValue at (length s)) (ltb (length s - r.next) r.value) _ _ (λ _. tt)
    (λ e. let f = ltb-false (length s - r.next) r.value e in (omega arith, omega arith, omega arith, omega arith))
of_length_past s at None h = tt

fixed_past : (k : ℕ) (s : List ℕ) (at : ℕ) → PastValue at (length s) (as_fixed k s at)
fixed_past k s at = go (leb (at + k) (length s)) refl
  where
    go : (b : Bool) → leb (at + k) (length s) ≡ b → PastValue at (length s) (as_fixed k s at)
    go true e = rw e (omega arith, omega arith, omega arith, leb-true (at + k) (length s) e)
    go false e = rw e tt

pub value_past : (s : List ℕ) (wire at : ℕ) → PastValue at (length s) (value_at s wire at)
value_past s wire at =
    both (PastValue at (length s)) (eqb wire 0) _ _
    (λ _. of_varint_past at (length s) (varint_at s at) (varint_past s at))
    (λ _.
    both (PastValue at (length s)) (eqb wire 1) _ _ (λ _. fixed_past 8 s at)
    (λ _.
    both (PastValue at (length s)) (eqb wire 2) _ _ (λ _. of_length_past s at (varint_at s at) (varint_past s at))
    (λ _. both (PastValue at (length s)) (eqb wire 5) _ _ (λ _. fixed_past 4 s at) (λ _. tt))))

behind_past : (at end : ℕ) (v : Option Value) → PastValue at end v → PastSkip at end (behind v)
behind_past at end (Some r) h = (h.2, h.3)
behind_past at end None h = tt

pub skip_past : (s : List ℕ) (wire at : ℕ) → PastSkip at (length s) (skip_value s wire at)
skip_past s wire at = behind_past at (length s) (value_at s wire at) (value_past s wire at)

-- going on from a place further on
further : (at p end : ℕ) → at ≤ p → (x : Option ℕ) → PastSkip p end x → PastSkip at end x
further at p end h (Some q) g = (omega arith, g.1)
further at p end h None g = tt

and_then_past : (at end : ℕ) (x : Option ℕ) (more : ℕ → Option ℕ) → PastSkip at end x → ((q : ℕ) → PastSkip q end (more q)) →
    PastSkip at end (and_then x more)
and_then_past at end (Some q) more h m = further at q end h.0 (more q) (m q)
and_then_past at end None more h m = tt

module _ (inner : ℕ → ℕ → Option ℕ) (s : List ℕ) (number : ℕ) (inner-past : (n p : ℕ) → PastSkip p (length s) (inner n p))
  where
    -- behind its tag
    pub tagged_past : (more : ℕ → Option ℕ) → ((q : ℕ) → PastSkip q (length s) (more q)) →
        (n w next : ℕ) → next ≤ length s →
        PastSkip next (length s) (group_field inner more s number (some_tag n w next))
    tagged_past more m n w next h =
        both (PastSkip next (length s)) (eqb w 4) _ _
        (λ _. both (PastSkip next (length s)) (eqb n number) _ _ (λ _. (omega arith, h)) (λ _. tt))
        (λ _.
        both (PastSkip next (length s)) (eqb w 3) _ _
        (λ _. and_then_past next (length s) (inner n next) more (inner-past n next) m)
        (λ _. and_then_past next (length s) (skip_value s w next) more (skip_past s w next) m))

    group_field_past : (more : ℕ → Option ℕ) → ((q : ℕ) → PastSkip q (length s) (more q)) → (at : ℕ) (t : Option Tag) →
        PastTag at (length s) t → PastSkip at (length s) (group_field inner more s number t)
    group_field_past more m at (Some r) h =
        further at r.next (length s) (omega arith) (group_field inner more s number (some_tag r.number r.wire r.next))
        (tagged_past more m r.number r.wire r.next h.1)
    group_field_past more m at None h = tt

    pub group_fields_past : (most at : ℕ) → PastSkip at (length s) (group_fields inner most s at number)
    unfolding group_fields
    group_fields_past zero at = tt
    group_fields_past (suc most) at =
        group_field_past (λ q. group_fields inner most s q number) (group_fields_past most) at (tag_at s at) (tag_past s at)

pub group_past : (depth : ℕ) (s : List ℕ) (at number : ℕ) → PastSkip at (length s) (group_end depth s at number)
unfolding group_end
group_past zero s at number = tt
group_past (suc depth) s at number =
    group_fields_past (λ n p. group_end depth s p n) s number (λ n p. group_past depth s p n) (length s) at

of_value_past : (number wire at p end : ℕ) → at < p → (v : Option Value) → PastValue p end v →
    PastField at end (of_value number wire v)
of_value_past number wire at p end h (Some r) g =
    (omega arith, omega arith, omega arith, omega arith)
of_value_past number wire at p end h None g = tt

of_group_past : (number at p end : ℕ) → at < p → (x : Option ℕ) → PastSkip p end x → PastField at end (of_group number p x)
of_group_past number at p end h (Some next) g = (omega arith, omega arith, omega arith, omega arith)
of_group_past number at p end h None g = tt

of_tag_past : (s : List ℕ) (at : ℕ) (t : Option Tag) → PastTag at (length s) t → PastField at (length s) (of_tag s t)
of_tag_past s at (Some r) h =
    both (PastField at (length s)) (eqb r.wire 3) _ _
    (λ _. of_group_past r.number at r.next (length s) h.0 (group_end max_depth s r.next r.number)
    (group_past max_depth s r.next r.number))
    (λ _. of_value_past r.number r.wire at r.next (length s) h.0 (value_at s r.wire r.next) (value_past s r.wire r.next))
of_tag_past s at None h = tt

pub field_past : (s : List ℕ) (at : ℕ) → PastField at (length s) (field_at s at)
unfolding field_at
field_past s at = of_tag_past s at (tag_at s at) (tag_past s at)
