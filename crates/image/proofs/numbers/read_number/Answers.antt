-- Each byte that has another behind it, and each way out, is a law. Assumes nothing.
use Rattle.prelude.proofs.Basics.{ℕ, ◌+◌, ◌*◌, ◌^◌, ◌<◌, arith, refl, sym, ap, ◌∙◌, List, length, take-length}
use Rattle.image.specs.private.Ends.{number_at}
use Rattle.image.proofs.FastLaws.{number_none, number_one, Marked, marked_starts, marked_on, marked_last}
use Rattle.image.proofs.FastLaws.{fifth_over}
use Rattle.image.proofs.numbers.read_number.Goals as goal

pub returns-then-n-at : goal.returns-then-n-at
returns-then-n-at c = number_none c.args.image.now c.args.at c.if-n-at.true

pub returns-then-a-lt-MORE : goal.returns-then-a-lt-MORE
returns-then-a-lt-MORE c =
    number_one c.args.image.now c.args.at c.octet-a.result c.octet-a.ensures.answer c.if-n-at.false
    c.if-a-lt-MORE.true

pub slice_bounds-read_plain-end : goal.slice_bounds-read_plain-end
slice_bounds-read_plain-end c = sym (ap length (take-length c.args.image.now))

pub returns-then-n-at-lt-LONGEST : goal.returns-then-n-at-lt-LONGEST
returns-then-n-at-lt-LONGEST c =
    c.read_plain.ensures ∙ ap (λ (l : List ℕ). number_at l c.args.at) (take-length c.args.image.now)

pub returns-then-b-lt-MORE : goal.returns-then-b-lt-MORE
returns-then-b-lt-MORE c =
    let one-read : (Marked (c.args.image.now) (c.args.at) (c.octet-a.result) 128 1) =
    marked_starts (c.args.image.now) (c.args.at) (c.octet-a.result) c.octet-a.ensures.answer c.if-n-at.false
    c.if-a-lt-MORE.false c.octet-a.ensures.small in
    let room : (c.args.at) + 4 < length (c.args.image.now) = omega (arith, c.if-n-at-lt-LONGEST.false) in
    c.number_of.ensures
    ∙ marked_last (one-read) (omega arith) (omega (arith, room)) c.octet-b.result
    c.octet-b.ensures.answer c.if-b-lt-MORE.true _ _ refl refl (omega arith)

pub returns-then-c-lt-MORE : goal.returns-then-c-lt-MORE
returns-then-c-lt-MORE c =
    let one-read : (Marked (c.args.image.now) (c.args.at) (c.octet-a.result) 128 1) =
    marked_starts (c.args.image.now) (c.args.at) (c.octet-a.result) c.octet-a.ensures.answer c.if-n-at.false
    c.if-a-lt-MORE.false c.octet-a.ensures.small in
    let room : (c.args.at) + 4 < length (c.args.image.now) = omega (arith, c.if-n-at-lt-LONGEST.false) in
    let two-read : (Marked (c.args.image.now) (c.args.at) ((c.octet-a.result) + c.octet-b.result * 128)
    (128 + 128 ^ 2) 2) = marked_on (one-read) (omega arith) (omega (arith, room)) c.octet-b.result
    c.octet-b.ensures.answer c.if-b-lt-MORE.false c.octet-b.ensures.small in
    c.number_of-then-c-lt-MORE.ensures
    ∙ marked_last (two-read) (omega arith) (omega (arith, room)) c.octet-c.result
    c.octet-c.ensures.answer c.if-c-lt-MORE.true _ _ refl refl (omega arith)

pub returns-then-d-lt-MORE : goal.returns-then-d-lt-MORE
returns-then-d-lt-MORE c =
    let one-read : (Marked (c.args.image.now) (c.args.at) (c.octet-a.result) 128 1) =
    marked_starts (c.args.image.now) (c.args.at) (c.octet-a.result) c.octet-a.ensures.answer c.if-n-at.false
    c.if-a-lt-MORE.false c.octet-a.ensures.small in
    let room : (c.args.at) + 4 < length (c.args.image.now) = omega (arith, c.if-n-at-lt-LONGEST.false) in
    let two-read : (Marked (c.args.image.now) (c.args.at) ((c.octet-a.result) + c.octet-b.result * 128)
    (128 + 128 ^ 2) 2) = marked_on (one-read) (omega arith) (omega (arith, room)) c.octet-b.result
    c.octet-b.ensures.answer c.if-b-lt-MORE.false c.octet-b.ensures.small in
    let three-read : (Marked (c.args.image.now) (c.args.at)
    (((c.octet-a.result) + c.octet-b.result * 128) + c.octet-c.result * 128 ^ 2) (128 + 128 ^ 2 + 128 ^ 3) 3) =
    marked_on (two-read) (omega arith) (omega (arith, room)) c.octet-c.result
    c.octet-c.ensures.answer c.if-c-lt-MORE.false c.octet-c.ensures.small in
    c.number_of-then-d-lt-MORE.ensures
    ∙ marked_last (three-read) (omega arith) (omega (arith, room)) c.octet-d.result
    c.octet-d.ensures.answer c.if-d-lt-MORE.true _ _ refl refl (omega arith)

pub returns-then-e-ge-FIFTH_LIMIT : goal.returns-then-e-ge-FIFTH_LIMIT
returns-then-e-ge-FIFTH_LIMIT c =
    let one-read : (Marked (c.args.image.now) (c.args.at) (c.octet-a.result) 128 1) =
    marked_starts (c.args.image.now) (c.args.at) (c.octet-a.result) c.octet-a.ensures.answer c.if-n-at.false
    c.if-a-lt-MORE.false c.octet-a.ensures.small in
    let room : (c.args.at) + 4 < length (c.args.image.now) = omega (arith, c.if-n-at-lt-LONGEST.false) in
    let two-read : (Marked (c.args.image.now) (c.args.at) ((c.octet-a.result) + c.octet-b.result * 128)
    (128 + 128 ^ 2) 2) = marked_on (one-read) (omega arith) (omega (arith, room)) c.octet-b.result
    c.octet-b.ensures.answer c.if-b-lt-MORE.false c.octet-b.ensures.small in
    let three-read : (Marked (c.args.image.now) (c.args.at)
    (((c.octet-a.result) + c.octet-b.result * 128) + c.octet-c.result * 128 ^ 2) (128 + 128 ^ 2 + 128 ^ 3) 3) =
    marked_on (two-read) (omega arith) (omega (arith, room)) c.octet-c.result
    c.octet-c.ensures.answer c.if-c-lt-MORE.false c.octet-c.ensures.small in
    let four-read : (Marked (c.args.image.now) (c.args.at)
    ((((c.octet-a.result) + c.octet-b.result * 128) + c.octet-c.result * 128 ^ 2) + c.octet-d.result * 128 ^
    3) (128 + 128 ^ 2 + 128 ^ 3 + 128 ^ 4) 4) =
    marked_on (three-read) (omega arith) (omega (arith, room)) c.octet-d.result
    c.octet-d.ensures.answer c.if-d-lt-MORE.false c.octet-d.ensures.small in
    fifth_over (four-read) (room) c.octet-e.result c.octet-e.ensures.answer
    c.if-e-ge-FIFTH_LIMIT.true c.octet-e.ensures.small

pub returns : goal.returns
returns c =
    let one-read : (Marked (c.args.image.now) (c.args.at) (c.octet-a.result) 128 1) =
    marked_starts (c.args.image.now) (c.args.at) (c.octet-a.result) c.octet-a.ensures.answer c.if-n-at.false
    c.if-a-lt-MORE.false c.octet-a.ensures.small in
    let room : (c.args.at) + 4 < length (c.args.image.now) = omega (arith, c.if-n-at-lt-LONGEST.false) in
    let two-read : (Marked (c.args.image.now) (c.args.at) ((c.octet-a.result) + c.octet-b.result * 128)
    (128 + 128 ^ 2) 2) = marked_on (one-read) (omega arith) (omega (arith, room)) c.octet-b.result
    c.octet-b.ensures.answer c.if-b-lt-MORE.false c.octet-b.ensures.small in
    let three-read : (Marked (c.args.image.now) (c.args.at)
    (((c.octet-a.result) + c.octet-b.result * 128) + c.octet-c.result * 128 ^ 2) (128 + 128 ^ 2 + 128 ^ 3) 3) =
    marked_on (two-read) (omega arith) (omega (arith, room)) c.octet-c.result
    c.octet-c.ensures.answer c.if-c-lt-MORE.false c.octet-c.ensures.small in
    let four-read : (Marked (c.args.image.now) (c.args.at)
    ((((c.octet-a.result) + c.octet-b.result * 128) + c.octet-c.result * 128 ^ 2) + c.octet-d.result * 128 ^
    3) (128 + 128 ^ 2 + 128 ^ 3 + 128 ^ 4) 4) =
    marked_on (three-read) (omega arith) (omega (arith, room)) c.octet-d.result
    c.octet-d.ensures.answer c.if-d-lt-MORE.false c.octet-d.ensures.small in
    c.number_of-2.ensures
    ∙ marked_last (four-read) (omega arith) (room) c.octet-e.result
    c.octet-e.ensures.answer (omega arith) _ _ refl refl (omega arith)
