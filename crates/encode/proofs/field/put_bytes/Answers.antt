-- `encode::field::put_bytes` meets its contract: the bytes stand behind their prefix. Assumes nothing.
use Rattle.prelude.proofs.Basics.{refl}
use Rattle.encode.proofs.FieldLaws.{puts_counted}
use Rattle.encode.proofs.field.put_bytes.Goals as goal

pub returns : goal.returns
returns c = let a =
    c.args in puts_counted a.num a.src.now refl c.put_prefix-next.ensures
    c.put_slice.ensures
