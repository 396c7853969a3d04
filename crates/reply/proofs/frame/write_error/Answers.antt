-- `reply::frame::write_error` meets its contract: the head states the length that is counted, and the payload stands
-- behind it. Assumes nothing.
use Rattle.prelude.proofs.Basics.{arith, length}
use Rattle.varint.proofs.VarintLaws.{varint_length}
use Rattle.encode.proofs.PutsLaws.{puts_none, puts_room}
use Rattle.reply.specs.Frame.{error_frame}
use Rattle.reply.proofs.FrameLaws.{error_framed, payload_length}
use Rattle.reply.proofs.frame.write_error.Goals as goal

pub overflow_add-size : goal.overflow_add-size
overflow_add-size c = omega (arith, varint_length c.args.code)

pub overflow_add-size-2 : goal.overflow_add-size-2
overflow_add-size-2 c = omega
    (arith, varint_length c.args.code, varint_length (length c.args.message.now))

pub overflow_add-size-3 : goal.overflow_add-size-3
overflow_add-size-3 c = omega
    (arith, varint_length c.args.code, varint_length (length c.args.message.now))

pub overflow_add-size-4 : goal.overflow_add-size-4
overflow_add-size-4 c = omega
    (arith, varint_length c.args.code, varint_length (length c.args.message.now))

pub returns-then-buf-size : goal.returns-then-buf-size
returns-then-buf-size c = puts_none (error_frame c.args.code c.args.message.now)
    (omega (arith, payload_length c.args.code c.args.message.now))

pub returns : goal.returns
returns c =
    let long = payload_length c.args.code c.args.message.now in
    puts_room (omega arith)
    (error_framed c.args.code c.args.message.now c.put_head-at.ensures c.put_error.ensures (omega arith))
