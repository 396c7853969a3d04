-- `args_writer::append` meets its contract: each way out is one of append_reason. Assumes nothing.
use Rattle.prelude.proofs.Basics.{◌+◌, arith, sym, ◌∙◌, length, leb-false, leb-true}
use Rattle.args_writer.proofs.AppendLaws.{did_bad, did_full, did_all}
use Rattle.args_writer.proofs.append.Goals as goal

pub returns-in_default : goal.returns-in_default
returns-in_default c = did_bad c.args.a c.args.src.now c.args.buf.now c.args.at c.in_default.ensures

pub returns-then-not-has_room : goal.returns-then-not-has_room
returns-then-not-has_room c =
    did_full c.args.a c.args.src.now c.args.buf.now c.args.at c.in-Some.form c.in-Some.ensures c.field_len.ensures
    (leb-false (c.args.at + c.field_len.result) (length c.args.buf.now)
    (sym c.has_room.ensures ∙ c.if-not-has_room.true))

pub returns : goal.returns
returns c =
    let room =
    leb-true (c.args.at + c.field_len.result) (length c.args.buf.now)
    (sym c.has_room.ensures ∙ c.if-not-has_room.false) in
    did_all c.args.a c.args.src.now c.args.buf.now c.args.at c.in-Some.form c.in-Some.ensures
    (omega (arith, c.field_len.ensures)) c.put_field.ensures
