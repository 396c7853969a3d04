-- Room comes first, then what the frame is by itself, then its request.
-- Assumes nothing.
use Rattle.prelude.proofs.Basics.{refl}
use Rattle.keeper.proofs.Names.{frame_of, padded_of, session_of}
use Rattle.keeper.proofs.FrameLaws.{short_step, cut_step, length_step, unknown_refuses, payload_refuses}
use Rattle.keeper.proofs.FrameLaws.{twice_refuses, readable, sym_answer, clauses}
use Rattle.keeper.proofs.PaddedLaws.{does_told, does_unread}
use Rattle.keeper.proofs.step.step.Goals as goal

pub returns-then-reply-lt-MIN_BUFFER : goal.returns-then-reply-lt-MIN_BUFFER
returns-then-reply-lt-MIN_BUFFER c = let whole = clauses (sym_answer c.refuse_silently.ensures
    (short_step (session_of c.args.words.now) c.args.report c.args.reply.now (frame_of c.args.frame.now)
    (padded_of c.args.frame.now) c.if-reply-lt-MIN_BUFFER.true)) in record {
      answer = whole.0;
      session =
          whole.1.0;
      buffer = whole.1.1;
    }

pub step_on-answer-requires : goal.step_on-answer-requires
step_on-answer-requires c = readable c.args.frame.now
    c.args.reply.now c.read_frame.ensures.answer c.in-Good.is c.if-reply-lt-MIN_BUFFER.false

pub returns-in-NotAllThere : goal.returns-in-NotAllThere
returns-in-NotAllThere c =
    let whole = clauses (does_unread (session_of c.args.words.now) c.args.frame.now c.args.report c.args.reply.now
    c.read_frame.ensures.answer c.in-NotAllThere.is (λ _. refl) (sym_answer c.refuse_silently-in-NotAllThere.ensures
    (cut_step (session_of c.args.words.now) c.args.report c.args.reply.now c.if-reply-lt-MIN_BUFFER.false))) in
    record { answer = whole.0; session = whole.1.0; buffer = whole.1.1 }

pub returns-in-BadLength : goal.returns-in-BadLength
returns-in-BadLength c =
    let whole = clauses (does_unread (session_of c.args.words.now) c.args.frame.now c.args.report c.args.reply.now
    c.read_frame.ensures.answer c.in-BadLength.is (λ _. refl) (sym_answer c.refuse_silently-in-BadLength.ensures
    (length_step (session_of c.args.words.now) c.args.report c.args.reply.now c.if-reply-lt-MIN_BUFFER.false))) in
    record { answer = whole.0; session = whole.1.0; buffer = whole.1.1 }

pub returns-in-UnknownType : goal.returns-in-UnknownType
returns-in-UnknownType c =
    let whole = clauses (does_unread (session_of c.args.words.now) c.args.frame.now c.args.report c.args.reply.now
    c.read_frame.ensures.answer c.in-UnknownType.is (λ _. refl) (unknown_refuses
    (session_of c.args.words.now) _ c.args.report c.args.reply.now c.if-reply-lt-MIN_BUFFER.false
    c.closed_or-reason.ensures c.refuse.ensures)) in record {
      answer = whole.0;
      session = whole.1.0;
      buffer =
          whole.1.1;
    }

pub returns-in-BadPayload : goal.returns-in-BadPayload
returns-in-BadPayload c =
    let whole = clauses (does_unread (session_of c.args.words.now) c.args.frame.now c.args.report c.args.reply.now
    c.read_frame.ensures.answer c.in-BadPayload.is (λ _. refl) (payload_refuses
    (session_of c.args.words.now) _ c.args.report c.args.reply.now c.if-reply-lt-MIN_BUFFER.false _
    c.closed_or-reason-in-BadPayload.ensures c.refuse-in-BadPayload.ensures)) in record {
      answer =
          whole.0;
      session = whole.1.0;
      buffer = whole.1.1;
    }

pub returns-in-BodyTwice : goal.returns-in-BodyTwice
returns-in-BodyTwice c = let whole =
    clauses (does_told (session_of c.args.words.now) c.args.frame.now c.args.report c.args.reply.now
    c.read_frame.ensures.answer _ c.in-BodyTwice.is (λ _ _ h. h) c.read_frame.ensures.told
    (twice_refuses (session_of c.args.words.now) _ c.args.report c.args.reply.now c.if-reply-lt-MIN_BUFFER.false _
    c.closed_or-reason-in-BodyTwice.ensures c.refuse-answer.ensures)
    c.said.ensures) in record { answer = whole.0; session = whole.1.0; buffer = whole.1.1 }

pub returns-in-Good : goal.returns-in-Good
returns-in-Good c = let whole =
    clauses (does_told (session_of c.args.words.now) c.args.frame.now c.args.report c.args.reply.now
    c.read_frame.ensures.answer _ c.in-Good.is (λ _ _ h. h) c.read_frame.ensures.told c.step_on-answer.ensures
    c.said-in-Good.ensures) in record { answer = whole.0; session = whole.1.0; buffer = whole.1.1 }
