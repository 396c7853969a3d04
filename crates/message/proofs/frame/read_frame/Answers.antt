-- The head tells the type and the frame's bytes, or the refusal.
use Rattle.prelude.proofs.Basics.{sym, ap, ◌∙◌, take}
use Rattle.message.proofs.Names.{frame_in, of_head, frame_of, kind_padded, head_padded, padded_of}
use Rattle.message.proofs.PaddedLaws.{frame_tells, refused_tells}
use Rattle.message.proofs.frame.read_frame.Goals as goal

pub returns-in-Ok : goal.returns-in-Ok
unfolding frame_of
returns-in-Ok c = let s = c.args.s.now in
    let cut = take c.in-Ok.head.end s in
    let head = sym c.in-Ok.is ∙ c.read_head.ensures in
    let is = c.read_kind.ensures.answer ∙ ap (frame_in cut) c.from.ensures ∙ ap (of_head s) head in record {
      answer = is;
      told = frame_tells s c.read_kind.result c.read_kind.new.padded is
          (ap (kind_padded cut) c.from.ensures ∙ ap (head_padded s) head) c.read_kind.ensures.told;
    }

pub returns-in-Err : goal.returns-in-Err
unfolding frame_of
returns-in-Err c =
    let s = c.args.s.now in record {
      answer = c.refused_head.ensures
          ∙ ap (of_head s) (sym c.in-Err.is ∙ c.read_head.ensures);
      told = rw c.refused_head.ensures (refused_tells c.in-Err.reason c.args.padded.now
          (padded_of s));
    }
