-- Laws of bytes put at a place of a buffer, for any bytes and any place. Assumes nothing.
use Rattle.prelude.proofs.Basics.{ℕ, ◌+◌, ◌≤◌, ◌<◌, arith, Bool, true, false, cond, ◌≡◌, refl, List, ◌++◌, append_assoc}
use Rattle.prelude.proofs.Basics.{length, take, drop, drop_at, length-sets, length-take-le, sets, sets-eq, le-leb}
use Rattle.prelude.proofs.Basics.{leb-true, lt-leb}
use Rattle.std.specs.Prelude.{Some, None}
use Rattle.encode.specs.Put.{fits_at, put_at, written}

-- no room: nothing is written
pub put_full : (b : List ℕ) (at : ℕ) (bs : List ℕ) → length b < at + length bs →
    (None ≡ put_at b at bs) × (b ≡ written b at bs)
put_full b at bs h = rw (lt-leb (at + length bs) (length b) h) (refl, refl)

-- room: the bytes stored one after the other are the bytes written
pub put_fits : (b : List ℕ) (at : ℕ) (bs : List ℕ) → at + length bs ≤ length b →
    (Some (at + length bs) ≡ put_at b at bs) × (sets b at bs ≡ written b at bs)
put_fits b at bs h = rw (le-leb (at + length bs) (length b) h) (refl, sets-eq bs b at h)

-- a buffer keeps its length
pub length_written : (b : List ℕ) (at : ℕ) (bs : List ℕ) → length (written b at bs) ≡ length b
length_written b at bs = go (fits_at b at bs) refl
  where
    go : (t : Bool) → fits_at b at bs ≡ t → length (cond t (take at b ++ bs ++ drop (at + length bs) b) b) ≡ length b
    go true e = rw (← sets-eq bs b at (leb-true (at + length bs) (length b) e)) (length-sets b at bs)
    go false e = refl

-- where they fit, the bytes stand at their place, and behind them what stood there
pub drop_written : (b : List ℕ) (at : ℕ) (bs : List ℕ) → at + length bs ≤ length b →
    drop at (written b at bs) ≡ bs ++ drop (at + length bs) b
drop_written b at bs h =
    rw (le-leb (at + length bs) (length b) h, append_assoc)
    (drop_at (take at b) (bs ++ drop (at + length bs) b) at (length-take-le at b (omega arith)))
