-- Each arm is frame_in at its message type.
use Rattle.message.proofs.Names.{frame_in, kind_padded}
use Rattle.message.proofs.MessageLaws.{kind_unknown}
use Rattle.message.proofs.PaddedLaws.{as_kind}
use Rattle.message.proofs.frame.read_kind.Goals as goal

pub returns-in-6 : goal.returns-in-6
unfolding frame_in kind_padded
returns-in-6 c = let whole = as_kind c.args.s.now c.read_reset.result _
    c.in-6.is (c.read_reset.ensures.answer, c.read_reset.ensures.told) in record { answer = whole.0; told = whole.1 }

pub returns-in-7 : goal.returns-in-7
unfolding frame_in kind_padded
returns-in-7 c = let whole = as_kind c.args.s.now c.read_session_close.result _
    c.in-7.is (c.read_session_close.ensures.answer, c.read_session_close.ensures.told) in record {
      answer =
          whole.0;
      told = whole.1;
    }

pub returns-in-40 : goal.returns-in-40
unfolding frame_in kind_padded
returns-in-40 c = let whole = as_kind c.args.s.now c.read_prepare.result _
    c.in-40.is (c.read_prepare.ensures.answer, c.read_prepare.ensures.told) in record {
      answer = whole.0;
      told =
          whole.1;
    }

pub returns-in-41 : goal.returns-in-41
unfolding frame_in kind_padded
returns-in-41 c = let whole = as_kind c.args.s.now c.read_execute.result _
    c.in-41.is (c.read_execute.ensures.answer, c.read_execute.ensures.told) in record {
      answer = whole.0;
      told =
          whole.1;
    }

pub returns-in-42 : goal.returns-in-42
unfolding frame_in kind_padded
returns-in-42 c = let whole = as_kind c.args.s.now c.read_deallocate.result _
    c.in-42.is (c.read_deallocate.ensures.answer, c.read_deallocate.ensures.told) in record {
      answer =
          whole.0;
      told = whole.1;
    }

pub returns-in-43 : goal.returns-in-43
unfolding frame_in kind_padded
returns-in-43 c = let whole = as_kind c.args.s.now c.read_open.result _
    c.in-43.is (c.read_open.ensures.answer, c.read_open.ensures.told) in record { answer = whole.0; told = whole.1 }

pub returns-in-44 : goal.returns-in-44
unfolding frame_in kind_padded
returns-in-44 c = let whole = as_kind c.args.s.now c.read_close.result _
    c.in-44.is (c.read_close.ensures.answer, c.read_close.ensures.told) in record { answer = whole.0; told = whole.1 }

pub returns-in-45 : goal.returns-in-45
unfolding frame_in kind_padded
returns-in-45 c = let whole = as_kind c.args.s.now c.read_fetch.result _
    c.in-45.is (c.read_fetch.ensures.answer, c.read_fetch.ensures.told) in record { answer = whole.0; told = whole.1 }

pub returns-in_default : goal.returns-in_default
unfolding frame_in kind_padded
returns-in_default c = let r = c.in_default.in_default-own.rest in let q = r.0.0.0.0 in record {
  answer = kind_unknown c.args.s.now c.args.kind q.0.0.0.1 q.0.0.1 q.0.1 q.1 r.0.0.0.1 r.0.0.1
      r.0.1 r.1;
  told = tt;
}
