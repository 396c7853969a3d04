-- The answer is that of the bytes written. Assumes nothing.
use Rattle.prelude.proofs.Basics.{◌≡◌, sym, ap, ◌∙◌}
use Rattle.image.specs.private.Handed.{handed}
use Rattle.image.proofs.WriteLaws.{of_put, handed_by_lem}
use Rattle.image.proofs.write.hand_over.Goals as goal

pub returns-in-Some : goal.returns-in-Some
returns-in-Some c =
    let answers : of_put c.write_bytes.result ≡ handed c.args.image.now c.args.buf.now =
    ap of_put c.write_bytes.ensures.0 ∙ handed_by_lem c.args.image.now c.args.buf.now in
    record { answer = ap of_put (sym c.in-Some.is) ∙ answers; buffer = c.write_bytes.ensures.1 }

pub returns-in-None : goal.returns-in-None
returns-in-None c =
    let answers : of_put c.write_bytes.result ≡ handed c.args.image.now c.args.buf.now =
    ap of_put c.write_bytes.ensures.0 ∙ handed_by_lem c.args.image.now c.args.buf.now in
    record { answer = ap of_put (sym c.in-None.is) ∙ answers; buffer = c.write_bytes.ensures.1 }
