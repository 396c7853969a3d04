-- `reply::text::put_text` meets its contract: one law of `TextLaws` for each text. Assumes nothing.
use Rattle.encode.proofs.PutsLaws.{puts_as}
use Rattle.reply.proofs.TextLaws.{text_7, text_8, text_9, text_10, text_11, text_other}
use Rattle.reply.proofs.text.put_text.Goals as goal

pub returns-in-7 : goal.returns-in-7
returns-in-7 c = puts_as (text_7 _ _ c.in-7.is)
    c.put_numbered.ensures

pub returns-in-8 : goal.returns-in-8
returns-in-8 c = puts_as (text_8 _ _ c.in-8.is)
    c.put_unsupported.ensures

pub returns-in-9 : goal.returns-in-9
returns-in-9 c = puts_as (text_9 _ _ c.in-9.is)
    c.put_numbered-in-9.ensures

pub returns-in-10 : goal.returns-in-10
returns-in-10 c = puts_as (text_10 _ _ c.in-10.is)
    c.put_numbered-in-10.ensures

pub returns-in-11 : goal.returns-in-11
returns-in-11 c = puts_as (text_11 _ _ c.in-11.is)
    c.put_numbered-in-11.ensures

pub returns-in_default : goal.returns-in_default
returns-in_default c =
    let r = c.in_default.in_default-own.rest in
    puts_as
    (text_other c.args.reason c.args.number c.args.kind r.0.0.0.0.1 r.0.0.0.1 r.0.0.1 r.0.1 r.1)
    c.put_numbered-in_default.ensures
