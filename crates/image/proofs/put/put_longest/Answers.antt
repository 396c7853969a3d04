-- The five bytes stand one behind the other. Assumes nothing.
use Rattle.prelude.proofs.Basics.{◌+◌, ◌/◌, ◌%◌, arith, [], ◌∷◌, length-set}
use Rattle.image.proofs.PutLaws.{puts_stores, five_bytes}
use Rattle.image.proofs.put.put_longest.Goals as goal

pub bounds-buf-at-2 : goal.bounds-buf-at-2
bounds-buf-at-2 c = rw length-set (omega (arith, c.requires.most_number_in_bounds))

pub bounds-buf-at-3 : goal.bounds-buf-at-3
bounds-buf-at-3 c = rw (length-set, length-set) (omega (arith, c.requires.most_number_in_bounds))

pub bounds-buf-at-4 : goal.bounds-buf-at-4
bounds-buf-at-4 c = rw (length-set, length-set, length-set) (omega (arith, c.requires.most_number_in_bounds))

pub bounds-buf-at-5 : goal.bounds-buf-at-5
bounds-buf-at-5 c = rw (length-set, length-set, length-set, length-set) (omega (
  arith,
  c.requires.most_number_in_bounds,
))

pub returns : goal.returns
returns c =
    let v = c.args.v in
    puts_stores c.args.buf.now c.args.at (128 + v % 128)
    ((128 + v / 128 % 128) ∷ (128 + v / 128 / 128 % 128) ∷ (128 + v / 128 / 128 / 128 % 128)
    ∷ v / 128 / 128 / 128 / 128 ∷ [])
    c.requires.most_number_in_bounds (five_bytes v c.requires.bound c.ranges.v.fits)
