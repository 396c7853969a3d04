-- Zeros stand before the flag, and the flag is as it was. Assumes nothing.
use Rattle.prelude.proofs.Basics.{ℕ, arith, ◌≡◌, ap, ◌∙◌, ◌++◌, length, take, drop, replicate, length-take}
use Rattle.session.proofs.Names.{closed_at, session_of}
use Rattle.session.proofs.WordLaws.{zeros_in_front}
use Rattle.session.proofs.words.wipe.Goals as goal

pub slice_bounds-fill-end-2 : goal.slice_bounds-fill-end-2
slice_bounds-fill-end-2 c = omega (arith, length-take closed_at c.args.words.now, c.requires)

pub returns : goal.returns
returns c =
    let w = c.args.words.now in
    let n : length (take closed_at w) ≡ closed_at = omega (arith, length-take closed_at w, c.requires) in
    let zeros = c.fill.ensures.after (λ y e. e) ∙ ap (λ (k : ℕ). replicate k 0) n in
    ap (λ zs. session_of (zs ++ drop closed_at w)) zeros ∙ zeros_in_front w
