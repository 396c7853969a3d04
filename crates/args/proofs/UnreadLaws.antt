-- What an Any and a Scalar do not choose is not read. Assumes nothing.
use Rattle.prelude.proofs.Basics.{ℕ, zero, suc, ◌+◌, ◌-◌, ◌≤◌, ◌<◌, arith, Bool, true, false, cond, ◌≡◌, refl, sym, ap}
use Rattle.prelude.proofs.Basics.{ap₂, subst, ◌∙◌, inl, List, [], ◌∷◌, length, get_or, take, drop}
use Rattle.prelude.proofs.Basics.{List·getD-eq-default, length-drop, length-take, take-append-drop, get_or-drop}
use Rattle.prelude.proofs.Basics.{get_or-take, take-take, eqb, leb, eqb-true, ne_eqb}
use Rattle.prelude.proofs.Basics.{less_or_not}
use Rattle.scalar.specs.declared.argument.Argument.TheVariants as Va
use Rattle.wire.proofs.AgreeLaws.{Tails}
use Rattle.layout.specs.SameBut.{SameBut}
use Rattle.layout.specs.Reaches.{Reaches, stays, passes}
use Rattle.layout.specs.Unchosen.{PartOf, Apart, Unread as LayoutUnread}
use Rattle.layout.specs.Fields.{fields_from}
use Rattle.layout.proofs.UnreadLaws.{from_tail, reaches_later, field_itself, field_on_way}
use Rattle.layout.proofs.UnreadLaws.{tail_behind, field_unread}
use Rattle.layout.proofs.UnreadPartsLaws.{every_as, part_in, onto_around, parts_around, same_take, same_wider}
use Rattle.layout.proofs.UnreadPartsLaws.{ReadsAlike}
use Rattle.layout.proofs.UnreadPartsLaws.{alike_beside, merged_local, inner_unread}
use Rattle.args.proofs.Names.{Stands, Argument, field_at, PastField, field_past, any, scalar, bytes, len}
use Rattle.args.proofs.Names.{rows_of, no_slots, bad_slots, checked, fields_at, embedded, count_of, end_of, parts_of}
use Rattle.args.proofs.Names.{parts_in, merged, Part, Slots, part_within, parts_by, merged_cut, bad, present}
use Rattle.args.proofs.Names.{bytes_of, bytes_in, of_type, scalar_of, scalar_in, of_any_type, any_of, scalar_parts}
use Rattle.args.proofs.Names.{argument_in, is_args, arg_place}
use Rattle.args.proofs.Names.{next_argument, and_more, arguments_from, arguments_at, moved, placed_at}
use Rattle.args.specs.UnreadRules.{type_in, AnyUnread, ScalarUnread, OneField, ListUnread, ObjectUnread}
use Rattle.args.specs.UnreadRules.{UnchosenScalarUnread}
use Rattle.args.proofs.CutLaws.{any_cut, argument_past}
use Rattle.args.proofs.MovedArgLaws.{argument_moved, field_inside, args_moved}
use Rattle.args.proofs.PlaceLaws.{starts, by_args, on, next_placed}
use Rattle.args.proofs.ArgumentsLaws.{from_found}
use Rattle.args.proofs.EnoughLaws.{enough_fields, enough_arguments}
use Rattle.wire.specs.Field.{some_field}

-- ---- bytes that differ somewhere

pub take_same : (m : ℕ) (s t : List ℕ) (i : ℕ) → length t ≡ length s → (i < m → get_or t i 0 ≡ get_or s i 0) →
    get_or (take m t) i 0 ≡ get_or (take m s) i 0
take_same m s t i e h =
    less_or_not i m (λ l. get_or-take m t i 0 l ∙ h l ∙ sym (get_or-take m s i 0 l))
    (λ l.
    List·getD-eq-default (take m t) 0 (omega (arith, length-take m t))
    ∙ sym (List·getD-eq-default (take m s) 0 (omega (arith, length-take m s))))

pub take_size : (m : ℕ) (s t : List ℕ) → length t ≡ length s → length (take m t) ≡ length (take m s)
take_size m s t e = omega (arith, length-take m t, length-take m s)

-- ---- embedded messages

-- a message that has the same bytes
pub embedded_local : (rows : List (List ℕ)) (s t : List ℕ) (at n : ℕ) → length t ≡ length s →
    ((i : ℕ) → at ≤ i → i < at + n → get_or t i 0 ≡ get_or s i 0) → embedded rows t at n ≡ embedded rows s at n
embedded_local rows s t at n e same =
    let m = at + n in
    let tails : Tails (take m s) (take m t) at =
    record { size = take_size m s t e; same = λ i h. take_same m s t i e (λ l. same i h l) } in
    ap (λ (k : ℕ). cond (leb m k) (fields_at rows (take m t) at) bad_slots) e
    ∙ ap (λ (y : Slots). cond (leb m (length s)) (checked rows y) bad_slots)
    (ap (λ (k : ℕ). fields_from k rows (take m t) at no_slots) tails.size
    ∙ from_tail (length (take m s)) rows (take m s) (take m t) at no_slots tails)

-- one whose field holds the bytes that differ
pub embedded_around : {k : ℕ} (rows : List (List ℕ)) (s t : List ℕ) (at n : ℕ) (p : Part) →
    PartOf k (take (at + n) s) at p → SameBut s t p.start (end_of p) → embedded rows t at n ≡ embedded rows s at n
embedded_around rows s t at n p a b =
    ap (λ (m : ℕ). cond (leb (at + n) m) (fields_at rows (take (at + n) t) at) bad_slots) b.size
    ∙ ap (λ (y : Slots). cond (leb (at + n) (length s)) (checked rows y) bad_slots)
    (onto_around a (same_take b (at + n)) rows no_slots)

-- ---- the list of arguments

list_same : (xs ys : List ℕ) → length xs ≡ length ys → ((i : ℕ) → get_or xs i 0 ≡ get_or ys i 0) → xs ≡ ys
list_same [] [] e h = refl
list_same [] (y ∷ ys) e h = absurd (omega arith)
list_same (x ∷ xs) [] e h = absurd (omega arith)
list_same (x ∷ xs) (y ∷ ys) e h =
    ap₂ (λ (a : ℕ) (l : List ℕ). a ∷ l) (h 0) (list_same xs ys (omega arith) (λ i. h (suc i)))

-- the same bytes from a place on are the same arguments from there
pub arguments_local : (s t : List ℕ) (at : ℕ) → Tails s t at → at ≤ length s → arguments_at t at ≡ arguments_at s at
arguments_local s t at a h =
    let b = drop at s in
    let same : drop at t ≡ b =
    list_same (drop at t) b (omega (arith, length-drop at t, length-drop at s, a.size))
    (λ i. get_or-drop at t i 0 ∙ a.same (at + i) (omega arith) ∙ sym (get_or-drop at s i 0)) in
    let z : at + 0 ≡ at = omega arith in
    ap (arguments_from (length t) t) (sym z)
    ∙ args_moved (record { within = omega (arith, a.size); is = same }) (length b) (length t) 0 (omega arith)
    (omega (arith, length-drop at s, a.size))
    ∙ sym
    (args_moved (record { within = h; is = refl }) (length b) (length s) 0 (omega arith)
    (omega (arith, length-drop at s)))
    ∙ ap (arguments_from (length s) s) z

-- ---- arguments

-- an object and an array are one whatever their bytes
any_other : (s t : List ℕ) (ps : List Part) (x : Slots) → (type_in x ≡ 1 → ⊥) → any_of t ps x ≡ any_of s ps x
unfolding any_of of_any_type
any_other s t ps x h = rw (ne_eqb (type_in x) 1 h)

pub any_unread : AnyUnread
any_unread s t at n p h a b =
    ap₂ (any_of t) (parts_around a (same_take b (at + n)) 2) (embedded_around (rows_of any) s t at n p a b)
    ∙ any_other s t (scalar_parts s at n) (embedded (rows_of any) s at n) h

-- a Scalar reads other bytes only where its type is octets or string
type_local : (s t : List ℕ) (ps : List Part) (x : Slots) (c : ℕ) →
    (c ≡ 4 → bytes_in true t (parts_in 5 t ps) ≡ bytes_in true s (parts_in 5 s ps)) →
    (c ≡ 8 → bytes_in false t (parts_in 9 t ps) ≡ bytes_in false s (parts_in 9 s ps)) →
    of_type t ps x c ≡ of_type s ps x c
unfolding of_type
type_local s t ps x c f g = go (eqb c 4) refl (eqb c 8) refl
  where
    go : (a : Bool) → eqb c 4 ≡ a → (b : Bool) → eqb c 8 ≡ b → of_type t ps x c ≡ of_type s ps x c
    go true e b e' =
        subst (λ (d : ℕ). of_type t ps x d ≡ of_type s ps x d) (sym (eqb-true c 4 e))
        (ap (present (count_of x 5)) (f (eqb-true c 4 e)))
    go false e true e' =
        subst (λ (d : ℕ). of_type t ps x d ≡ of_type s ps x d) (sym (eqb-true c 8 e'))
        (ap (present (count_of x 9)) (g (eqb-true c 8 e')))
    go false e false e' = rw (e, e')

-- the field of octets and that of a string
abbrev field_of : Bool → ℕ
field_of octets = cond octets 5 9

-- an Any from the place `at` to the end of s, of which a part inside a part of its scalar is another one in t
module _ {s t : List ℕ} {at : ℕ} (octets : Bool) {q : Part} (u : LayoutUnread 2 (field_of octets) s t at q)
    (b : SameBut s t q.start (end_of q)) where
  abbrev ps : List Part
  ps = parts_of 2 s at

  abbrev y : Slots
  y = merged (rows_of scalar) s ps

  other : (i : ℕ) → (i ≡ field_of octets → ⊥) → (c : Bool) →
      bytes_in c t (parts_in i t ps) ≡ bytes_in c s (parts_in i s ps)
  other i h c =
      ap (bytes_in c t) (u.inner i)
      ∙ ap (bytes_of c)
      (merged_local (rows_of bytes) s t (parts_in i s ps)
      (every_as (Apart q) (ReadsAlike s t) (λ p d. alike_beside b p d) (parts_in i s ps) (u.beside i h)))

  type_kept : (type_in y ≡ cond octets 4 8 → ⊥) → of_type t ps y (type_in y) ≡ of_type s ps y (type_in y)
  type_kept = go octets refl
    where
      go : (c : Bool) → octets ≡ c → (type_in y ≡ cond c 4 8 → ⊥) → of_type t ps y (type_in y) ≡ of_type s ps y (type_in y)
      go true e h =
          type_local s t ps y (type_in y) (λ f. absurd (h f))
          (λ f. other 9 (λ z. omega (arith, ap field_of e, z)) false)
      go false e h =
          type_local s t ps y (type_in y) (λ f. other 5 (λ z. omega (arith, ap field_of e, z)) true)
          (λ f. absurd (h f))

  scalar-kept : (type_in y ≡ cond octets 4 8 → ⊥) → scalar_in t ps ≡ scalar_in s ps
  unfolding scalar_of
  scalar-kept h =
      ap (scalar_of t ps) (u.fields (rows_of scalar)) ∙ ap (λ (a : Argument). cond y.good a bad) (type_kept h)

  any-kept : (type_in y ≡ cond octets 4 8 → ⊥) →
      any_of t (parts_of 2 t at) (fields_at (rows_of any) t at) ≡ any_of s ps (fields_at (rows_of any) s at)
  unfolding any_of of_any_type
  any-kept h =
      ap₂ (any_of t) (u.parts 2) (u.own (rows_of any))
      ∙ ap
      (λ (a : Argument).
      cond (fields_at (rows_of any) s at).good
      (cond (eqb (type_in (fields_at (rows_of any) s at)) 1) (present (count_of (fields_at (rows_of any) s at) 2) a)
      (cond (eqb (type_in (fields_at (rows_of any) s at)) 2) Va.Object
      (cond (eqb (type_in (fields_at (rows_of any) s at)) 3) Va.Array bad)))
      bad)
      (scalar-kept h)

-- an argument, by the bytes of its Any alone
by_itself : (s : List ℕ) (at n : ℕ) → at + n ≤ length s →
    any_of (take (at + n) s) (scalar_parts s at n) (fields_at (rows_of any) (take (at + n) s) at) ≡ argument_in s at n
by_itself s at n h =
    ap (any_of (take (at + n) s) (scalar_parts s at n)) (part_within (rows_of any) s at n h)
    ∙ any_cut s (at + n) h (scalar_parts s at n) (parts_by 2 s at (at + n)) (embedded (rows_of any) s at n)

pub scalar_unread : ScalarUnread
scalar_unread s t at n octets p q h o b =
    let m = at + n in
    less_or_not (length s) m
    (λ l. sym (argument_past t at n (omega (arith, b.size))) ∙ argument_past s at n l)
    (λ l.
    let c = same_take b m in
    let k = scalar_parts s at n in
    sym (by_itself t at n (omega (arith, b.size)))
    ∙ any-kept octets (inner_unread 2 (cond octets 5 9) (take m s) (take m t) at p q o c) c
    (λ e.
    h (ap type_in (sym (merged_cut (rows_of scalar) s m l k (parts_by 2 s at m))) ∙ e))
    ∙ by_itself s at n l)

-- ---- the bytes of one field among the arguments

-- an argument that has the same bytes
stands_there : (s : List ℕ) (at n : ℕ) → at ≤ length s →
    Stands s at (take n (drop at s)) (drop n (drop at s))
stands_there s at n h = record { within = h; there = sym (take-append-drop n (drop at s)) }

argument_local : (s t : List ℕ) (at n : ℕ) → length t ≡ length s → at + n ≤ length s →
    ((i : ℕ) → at ≤ i → i < at + n → get_or t i 0 ≡ get_or s i 0) → argument_in t at n ≡ argument_in s at n
argument_local s t at n e h same =
    let b = take n (drop at s) in
    let size-s = length-drop at s in
    let size-t = length-drop at t in
    let alike : take n (drop at t) ≡ b =
    list_same (take n (drop at t)) b (omega (arith, length-take n (drop at t), length-take n (drop at s)))
    (λ i.
    take_same n (drop at s) (drop at t) i (omega arith)
    (λ l. get_or-drop at t i 0 ∙ same (at + i) (omega arith) (omega arith) ∙ sym (get_or-drop at s i 0))) in
    let z : at + 0 ≡ at = omega arith in
    ap (λ (k : ℕ). argument_in t k n) (sym z)
    ∙ argument_moved (stands_there t at n (omega arith)) 0 n (omega (arith, length-take n (drop at t)))
    ∙ ap (λ (l : List ℕ). moved at (argument_in l 0 n)) alike
    ∙ sym (argument_moved (stands_there s at n (omega arith)) 0 n (omega (arith, length-take n (drop at s))))
    ∙ ap (λ (k : ℕ). argument_in s k n) z

-- a field's bytes stand behind its tag, and end before the next field
past_start : (s : List ℕ) (p : ℕ) {i w v st ln after : ℕ} → field_at s p ≡ some_field i w v st ln after → p < st
past_start s p {i} {w} {v} {st} {ln} {after} e = (subst (PastField p (length s)) e (field_past s p)).0

field_ends : (s : List ℕ) (p : ℕ) {i w v st ln after : ℕ} → field_at s p ≡ some_field i w v st ln after →
    st + ln ≤ after
field_ends s p {i} {w} {v} {st} {ln} {after} e = (subst (PastField p (length s)) e (field_past s p)).1

-- the arguments from a field on
next_same : (m : ℕ) (s : List ℕ) (a b : ℕ) → next_argument s a ≡ next_argument s b →
    arguments_from m s a ≡ arguments_from m s b
unfolding arguments_from
next_same zero s a b e = refl
next_same (suc m) s a b e = ap (and_more (λ next. arguments_from m s next)) e

module _ (s : List ℕ) (p : ℕ) {i w v st ln after : ℕ} (e : field_at s p ≡ some_field i w v st ln after) where
  room : (p < after) × (after ≤ length s) × (st + ln ≤ length s)
  room = let h = field_inside s p e in (h.1, h.2, h.0)

  pub args_at : is_args i w v ≡ true → arguments_at s p ≡ argument_in s st ln ∷ arguments_at s after
  args_at t =
      let h = room in
      from_found (length s) s p (omega arith)
      (sym (next_placed s p (placed_at st ln after) (by_args (starts s p) (omega arith) e true (sym t))))
      ∙ ap (λ (l : List Argument). argument_in s st ln ∷ l) (enough_arguments (length s - 1) s after (omega arith))

  pub args_past : is_args i w v ≡ false → arguments_at s p ≡ arguments_at s after
  args_past t =
      let h = room in
      let k = on (starts s p) (omega arith) e (by_args (starts s p) (omega arith) e false (sym t)) in
      next_same (length s) s p after
      (sym
      (next_placed s p (arg_place s after) (sym (enough_fields k.most s after k.enough) ∙ k.whole))
      ∙ next_placed s after (arg_place s after) refl)

module _ (s t : List ℕ) (p number value start n next : ℕ) (e : field_at s p ≡ some_field number len value start n next)
    (b : SameBut s t start (start + n))
    (own : is_args number len value ≡ true → argument_in t start n ≡ argument_in s start n) where
  rest : arguments_at t next ≡ arguments_at s next
  rest = arguments_local s t next (tail_behind s t p number value start n next e b) (room s p e).1

  it : field_at t p ≡ some_field number len value start n next
  it = field_itself s t p number value start n next e b

  at_field : (c : Bool) → is_args number len value ≡ c → arguments_at t p ≡ arguments_at s p
  at_field true h =
      args_at t p it h ∙ ap₂ (λ (a : Argument) (l : List Argument). a ∷ l) (own h) rest ∙ sym (args_at s p e h)
  at_field false h = args_past t p it h ∙ rest ∙ sym (args_past s p e h)

  before-field : (q : ℕ) {i w v st ln after : ℕ} → field_at s q ≡ some_field i w v st ln after → after ≤ p →
      arguments_at t after ≡ arguments_at s after → (c : Bool) → is_args i w v ≡ c → arguments_at t q ≡ arguments_at s q
  before-field q {i} {w} {v} {st} {ln} {after} f h more c g =
      go c g
    where
      f' : field_at t q ≡ some_field i w v st ln after
      f' = field_on_way s t p number value start n next e b q f h

      go : (c : Bool) → is_args i w v ≡ c → arguments_at t q ≡ arguments_at s q
      go true g =
          args_at t q f' g
          ∙ ap₂ (λ (a : Argument) (l : List Argument). a ∷ l)
          (argument_local s t st ln b.size (room s q f).2
          (λ j _ l. b.same j (inl (omega (arith, past_start s p e, field_ends s q f)))))
          more
          ∙ sym (args_at s q f g)
      go false g = args_past t q f' g ∙ more ∙ sym (args_past s q f g)

  list-reached : {q : ℕ} → Reaches s q p → arguments_at t q ≡ arguments_at s q
  list-reached stays = at_field (is_args number len value) refl
  list-reached {q} (passes {number = i} {wire = w} {value = v} f r) =
      before-field q f (reaches_later r) (list-reached r) (is_args i w v) refl

pub list_unread : ListUnread
list_unread s t from p number value start n next r e b own = list-reached s t p number value start n next e b own r

-- ---- one field of an embedded message

module _ {s t : List ℕ} {from to : ℕ} (o : OneField s t from to) where
  -- its bytes lie in the message
  pub one_inside : (from < o.start) × (o.start + o.n ≤ to) × (o.start + o.n ≤ length s)
  one_inside =
      let k = subst (PastField o.place (length (take to s))) o.field (field_past (take to s) o.place) in
      let l = length-take to s in
      (omega (arith, reaches_later o.reached, k.0), omega (arith, k.1, k.3), omega (arith, k.1, k.3))

  -- in bytes cut off behind the message
  pub one_cut : (end : ℕ) → to ≤ end → OneField (take end s) (take end t) from to
  one_cut end h =
      let e = sym (take-take to end s h) in
      let f = sym (take-take to end t h) in
      record {
        place = o.place;
        number = o.number;
        value = o.value;
        start = o.start;
        n = o.n;
        next = o.next;
        reached = subst (λ (l : List ℕ). Reaches l from o.place) e o.reached;
        field =
            subst
            (λ (l : List ℕ). field_at l o.place ≡ some_field o.number len o.value o.start o.n o.next)
            e o.field;
        same = same_take o.same end;
        alike = λ a.
            ap (λ (l : List ℕ). argument_in l o.start o.n) (sym f)
            ∙ o.alike a
            ∙ ap (λ (l : List ℕ). argument_in l o.start o.n) e;
      }

  pub cut_start : (end : ℕ) (h : to ≤ end) → (one_cut end h).start ≡ o.start
  unfolding one_cut
  cut_start end h = refl

module _ (s t : List ℕ) (at n : ℕ) (o : OneField s t at (at + n)) where
  pub one_embedded : (rows : List (List ℕ)) → embedded rows t at n ≡ embedded rows s at n
  one_embedded rows =
      ap (λ (k : ℕ). cond (leb (at + n) k) (fields_at rows (take (at + n) t) at) bad_slots) o.same.size
      ∙ ap (λ (y : Slots). cond (leb (at + n) (length s)) y bad_slots)
      (field_unread rows (take (at + n) s) (take (at + n) t) at o.place o.number o.value o.start o.n
      o.next o.reached o.field (same_take o.same (at + n)))

  pub one_list : arguments_at (take (at + n) t) at ≡ arguments_at (take (at + n) s) at
  one_list =
      list_unread (take (at + n) s) (take (at + n) t) at o.place o.number o.value o.start o.n o.next
      o.reached o.field (same_take o.same (at + n)) o.alike

pub object_unread : ObjectUnread
object_unread s t from to o =
    let f = take to s in
    let i = part_in o.inside in
    let l = length-take (o.start + o.n) f in
    record {
      place = o.place;
      number = o.number;
      value = o.value;
      start = o.start;
      n = o.n;
      next = o.next;
      reached = o.reached;
      field = o.field;
      same = same_wider o.same o.start (o.start + o.n) (omega (arith, i.0)) (omega (arith, i.1));
      alike = λ _.
          any_unread f (take to t) o.start o.n o.part o.composite o.inside (same_take o.same to);
    }

pub scalar_field_unread : UnchosenScalarUnread
scalar_field_unread s t from to o =
    let f = take to s in
    let i = part_in o.inside.outer in
    let j = part_in o.inside.inner in
    let l = length-take (o.start + o.n) f in
    let k = length-take (end_of o.outer) (take (o.start + o.n) f) in
    record {
      place = o.place;
      number = o.number;
      value = o.value;
      start = o.start;
      n = o.n;
      next = o.next;
      reached = o.reached;
      field = o.field;
      same =
          same_wider o.same o.start (o.start + o.n) (omega (arith, i.0, j.0)) (omega (arith, i.1, j.1));
      alike = λ _.
          scalar_unread f (take to t) o.start o.n o.octets o.outer o.part o.unchosen o.inside
          (same_take o.same to);
    }
