-- The type, and the body in the field that it chooses. Assumes nothing.
use Rattle.prelude.proofs.Basics.{ℕ, ap}
use Rattle.writer.proofs.Names.{bytes_field, puts_then, puts_as, prepare_stmt_payload}
use Rattle.writer.proofs.payload.put_prepare_stmt.Goals as goal

pub returns : goal.returns
unfolding prepare_stmt_payload
returns c =
    puts_then c.put_number-p.ensures
    (puts_as (ap (λ (k : ℕ). bytes_field k c.args.body.now) c.field_of-body_field.ensures.0) c.put_bytes.ensures)
