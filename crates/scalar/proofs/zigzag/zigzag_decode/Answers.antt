-- The wrapped difference is the bits of the number, by n's last bit.
use Rattle.prelude.proofs.Basics.{◌+◌, ◌-◌, ◌/◌, ◌%◌, ◌^◌, arith, ◌≡◌, ◌∙◌}
use Rattle.std.proofs.Common.{w64, to_z}
use mir.ValLaws.{to_z-of_z}
use Rattle.scalar.specs.Zigzag.{unzigzag}
use Rattle.scalar.proofs.ZigzagLaws.{decode_even, decode_odd}
use Rattle.scalar.proofs.zigzag.zigzag_decode.Goals as goal
use Rattle.scalar.proofs.zigzag.zigzag_decode.Goals.{then-n-eq1, else-n-eq1}

pub returns : goal.returns
returns c = let n = c.args.n in
    let b = (n / 2 + (2 ^ 64 - c.if-n-eq1.odd)) % 2 ^ 64 in
    let right : to_z w64 b ≡ unzigzag n =
    elim c.if-n-eq1.branch [
      | then-n-eq1 w ↦ decode_odd n b (omega arith) (omega arith) w.if-n-eq1.true (omega (arith, w.odd-is))
      | else-n-eq1 w ↦ decode_even n b (omega arith) (omega arith) w.if-n-eq1.false (omega (arith, w.odd-is))
    ] in
    to_z-of_z w64 c.of_bits.result (record { sfits = c.of_bits.type_inv }) ∙ c.of_bits.ensures ∙ right
