-- With room for five bytes each size has its stores; without it the bytes are put one by one. Assumes nothing.
use Rattle.prelude.proofs.Basics.{◌+◌, ◌/◌, ◌%◌, ◌≤◌, arith, sym, ◌∙◌, [], ◌∷◌, length, length-set, rules, leb-true}
use Rattle.image_rules.specs.Image.{most_number}
use Rattle.image.proofs.PutLaws.{puts_stores, one_byte_lem, two_bytes, three_bytes, four_bytes}
use Rattle.image.proofs.put.put_number.Goals as goal

pub bounds-buf-at : goal.bounds-buf-at
bounds-buf-at c =
    let room : c.args.at + most_number ≤ length c.args.buf.now =
    leb-true (c.args.at + most_number) (length c.args.buf.now)
    (sym c.has_longest.ensures ∙ c.if-not-has_longest.false) in
    omega (arith, room)

pub overflow_add-result : goal.overflow_add-result
overflow_add-result c =
    let room : c.args.at + most_number ≤ length c.args.buf.now =
    leb-true (c.args.at + most_number) (length c.args.buf.now)
    (sym c.has_longest.ensures ∙ c.if-not-has_longest.false) in
    search (rules, room)

pub returns-then-v-lt-GROUP : goal.returns-then-v-lt-GROUP
returns-then-v-lt-GROUP c =
    let room : c.args.at + most_number ≤ length c.args.buf.now =
    leb-true (c.args.at + most_number) (length c.args.buf.now)
    (sym c.has_longest.ensures ∙ c.if-not-has_longest.false) in
    puts_stores c.args.buf.now c.args.at c.args.v [] (omega (
      arith,
      room,
    )) (one_byte_lem c.args.v c.if-v-lt-GROUP.true)

pub put_longest-requires : goal.put_longest-requires
put_longest-requires c =
    let room : c.args.at + most_number ≤ length c.args.buf.now =
    leb-true (c.args.at + most_number) (length c.args.buf.now)
    (sym c.has_longest.ensures ∙ c.if-not-has_longest.false) in
    record { most_number_in_bounds = room; bound = c.if-v-ge-FOUR.true }

pub bounds-buf-at-2 : goal.bounds-buf-at-2
bounds-buf-at-2 c =
    let room : c.args.at + most_number ≤ length c.args.buf.now =
    leb-true (c.args.at + most_number) (length c.args.buf.now)
    (sym c.has_longest.ensures ∙ c.if-not-has_longest.false) in
    omega (arith, room)

pub overflow_add-buf-then-v-lt-TWO : goal.overflow_add-buf-then-v-lt-TWO
overflow_add-buf-then-v-lt-TWO c =
    let room : c.args.at + most_number ≤ length c.args.buf.now =
    leb-true (c.args.at + most_number) (length c.args.buf.now)
    (sym c.has_longest.ensures ∙ c.if-not-has_longest.false) in
    search (rules, room)

pub bounds-buf-at-then-v-lt-TWO : goal.bounds-buf-at-then-v-lt-TWO
bounds-buf-at-then-v-lt-TWO c =
    let room : c.args.at + most_number ≤ length c.args.buf.now =
    leb-true (c.args.at + most_number) (length c.args.buf.now)
    (sym c.has_longest.ensures ∙ c.if-not-has_longest.false) in
    rw length-set (omega (arith, room))

pub overflow_add-result-then-v-lt-TWO : goal.overflow_add-result-then-v-lt-TWO
overflow_add-result-then-v-lt-TWO c =
    let room : c.args.at + most_number ≤ length c.args.buf.now =
    leb-true (c.args.at + most_number) (length c.args.buf.now)
    (sym c.has_longest.ensures ∙ c.if-not-has_longest.false) in
    search (rules, room)

pub returns-then-v-lt-TWO : goal.returns-then-v-lt-TWO
returns-then-v-lt-TWO c =
    let room : c.args.at + most_number ≤ length c.args.buf.now =
    leb-true (c.args.at + most_number) (length c.args.buf.now)
    (sym c.has_longest.ensures ∙ c.if-not-has_longest.false) in
    let v = c.args.v in
    puts_stores c.args.buf.now c.args.at (128 + v % 128) (v / 128 ∷ []) (omega (arith, room))
    (two_bytes v c.if-v-lt-GROUP.false c.if-v-lt-TWO.true)

pub overflow_add-buf-3 : goal.overflow_add-buf-3
overflow_add-buf-3 c =
    let room : c.args.at + most_number ≤ length c.args.buf.now =
    leb-true (c.args.at + most_number) (length c.args.buf.now)
    (sym c.has_longest.ensures ∙ c.if-not-has_longest.false) in
    search (rules, room)

pub bounds-buf-at-3 : goal.bounds-buf-at-3
bounds-buf-at-3 c =
    let room : c.args.at + most_number ≤ length c.args.buf.now =
    leb-true (c.args.at + most_number) (length c.args.buf.now)
    (sym c.has_longest.ensures ∙ c.if-not-has_longest.false) in
    rw length-set (omega (arith, room))

pub overflow_add-buf-then-v-lt-THREE : goal.overflow_add-buf-then-v-lt-THREE
overflow_add-buf-then-v-lt-THREE c =
    let room : c.args.at + most_number ≤ length c.args.buf.now =
    leb-true (c.args.at + most_number) (length c.args.buf.now)
    (sym c.has_longest.ensures ∙ c.if-not-has_longest.false) in
    search (rules, room)

pub bounds-buf-at-then-v-lt-THREE : goal.bounds-buf-at-then-v-lt-THREE
bounds-buf-at-then-v-lt-THREE c =
    let room : c.args.at + most_number ≤ length c.args.buf.now =
    leb-true (c.args.at + most_number) (length c.args.buf.now)
    (sym c.has_longest.ensures ∙ c.if-not-has_longest.false) in
    rw (length-set, length-set) (omega (arith, room))

pub overflow_add-result-then-v-lt-THREE : goal.overflow_add-result-then-v-lt-THREE
overflow_add-result-then-v-lt-THREE c =
    let room : c.args.at + most_number ≤ length c.args.buf.now =
    leb-true (c.args.at + most_number) (length c.args.buf.now)
    (sym c.has_longest.ensures ∙ c.if-not-has_longest.false) in
    search (rules, room)

pub returns-then-v-lt-THREE : goal.returns-then-v-lt-THREE
returns-then-v-lt-THREE c =
    let room : c.args.at + most_number ≤ length c.args.buf.now =
    leb-true (c.args.at + most_number) (length c.args.buf.now)
    (sym c.has_longest.ensures ∙ c.if-not-has_longest.false) in
    let v = c.args.v in
    puts_stores c.args.buf.now c.args.at (128 + v % 128) ((128 + v / 128 % 128) ∷ v / 128 / 128 ∷ [])
    (omega (arith, room)) (three_bytes v c.if-v-lt-TWO.false c.if-v-lt-THREE.true)

pub overflow_add-buf-5 : goal.overflow_add-buf-5
overflow_add-buf-5 c =
    let room : c.args.at + most_number ≤ length c.args.buf.now =
    leb-true (c.args.at + most_number) (length c.args.buf.now)
    (sym c.has_longest.ensures ∙ c.if-not-has_longest.false) in
    search (rules, room)

pub bounds-buf-at-4 : goal.bounds-buf-at-4
bounds-buf-at-4 c =
    let room : c.args.at + most_number ≤ length c.args.buf.now =
    leb-true (c.args.at + most_number) (length c.args.buf.now)
    (sym c.has_longest.ensures ∙ c.if-not-has_longest.false) in
    rw (length-set, length-set) (omega (arith, room))

pub overflow_add-buf-6 : goal.overflow_add-buf-6
overflow_add-buf-6 c =
    let room : c.args.at + most_number ≤ length c.args.buf.now =
    leb-true (c.args.at + most_number) (length c.args.buf.now)
    (sym c.has_longest.ensures ∙ c.if-not-has_longest.false) in
    search (rules, room)

pub bounds-buf-at-5 : goal.bounds-buf-at-5
bounds-buf-at-5 c =
    let room : c.args.at + most_number ≤ length c.args.buf.now =
    leb-true (c.args.at + most_number) (length c.args.buf.now)
    (sym c.has_longest.ensures ∙ c.if-not-has_longest.false) in
    rw (length-set, length-set, length-set) (omega (arith, room))

pub overflow_add-result-2 : goal.overflow_add-result-2
overflow_add-result-2 c =
    let room : c.args.at + most_number ≤ length c.args.buf.now =
    leb-true (c.args.at + most_number) (length c.args.buf.now)
    (sym c.has_longest.ensures ∙ c.if-not-has_longest.false) in
    search (rules, room)

pub returns : goal.returns
returns c =
    let room : c.args.at + most_number ≤ length c.args.buf.now =
    leb-true (c.args.at + most_number) (length c.args.buf.now)
    (sym c.has_longest.ensures ∙ c.if-not-has_longest.false) in
    let v = c.args.v in
    puts_stores c.args.buf.now c.args.at (128 + v % 128)
    ((128 + v / 128 % 128) ∷ (128 + v / 128 / 128 % 128) ∷ v / 128 / 128 / 128 ∷ []) (omega (arith, room))
    (four_bytes v c.if-v-lt-THREE.false c.if-v-ge-FOUR.false)
