-- Laws of a reply's bytes. Assumes nothing.
use Rattle.prelude.proofs.Basics.{◌^◌, ◌≤◌, ◌<◌, arith, ◌≡◌, refl, sym, ap, ◌∙◌, [], ◌∷◌, ◌++◌, length}
use Rattle.protocol.specs.Server as Server
use Rattle.varint.specs.Shortest.{shortest}
use Rattle.varint.proofs.ShortestLaws.{shortest_at_most}
use Rattle.varint.proofs.VarintLaws.{varint_length}
use Rattle.encode.specs.Field.{number_field, bytes_field}
use Rattle.reply.specs.declared.Refusal.{Refusal}
use Rattle.reply.specs.declared.Reply.{Reply}
use Rattle.reply.specs.declared.Reply.TheVariants.{Nothing, Ok, Suspended, Done, Executed, Error}
use Rattle.reply.specs.Decimal.{digits}
use Rattle.reply.specs.Text.{text}
use Rattle.reply.specs.Frame.{ok_frame, fetch_done, fetch_suspended, stmt_execute_ok, error_payload, error_frame}
use Rattle.reply.specs.Frames.{types_in, frame_types, among}
use Rattle.reply.specs.Reply.{message_of, types_of, reply_bytes}
use Rattle.reply.specs.ReplyRules.{FitsSmallest, HoldsFrames, is_done, TellsDone, SampleReplies}
use Rattle.reply.proofs.TextLaws.{text_within, text_small}
use Rattle.reply.proofs.FrameLaws.{payload_length}
use Rattle.reply.proofs.FramesLaws.{types_none, types_one}

-- ---- the bytes, by what is replied

module _ {r : Reply} where
  pub reply_nothing : r ≡ Nothing → [] ≡ reply_bytes r
  unfolding reply_bytes
  reply_nothing e = ap reply_bytes (sym e)

  pub reply_ok : r ≡ Ok → ok_frame ≡ reply_bytes r
  unfolding reply_bytes
  reply_ok e = ap reply_bytes (sym e)

  pub reply_suspended : r ≡ Suspended → fetch_suspended ++ stmt_execute_ok ≡ reply_bytes r
  unfolding reply_bytes
  reply_suspended e = ap reply_bytes (sym e)

  pub reply_done : r ≡ Done → fetch_done ++ stmt_execute_ok ≡ reply_bytes r
  unfolding reply_bytes
  reply_done e = ap reply_bytes (sym e)

  pub reply_executed : r ≡ Executed → stmt_execute_ok ≡ reply_bytes r
  unfolding reply_bytes
  reply_executed e = ap reply_bytes (sym e)

  pub reply_error : {e : Refusal} → r ≡ Error e → error_frame e.code (message_of e) ≡ reply_bytes r
  unfolding reply_bytes
  reply_error e = ap reply_bytes (sym e)

-- ---- the length

error_small : (r : Refusal) → r.code < 2 ^ 32 → r.number < 2 ^ 32 → length (error_frame r.code (message_of r)) ≤ 128
error_small r h k =
    omega (
      arith,
      payload_length r.code (message_of r),
      text_small r.reason r.number r.kind k,
      shortest_at_most 10 4 r.code (omega arith),
      shortest_at_most 10 0 (length (message_of r)) (omega (arith, text_small r.reason r.number r.kind k)),
    )

pub fits_smallest : FitsSmallest
unfolding reply_bytes
fits_smallest Nothing h = omega arith
fits_smallest Ok h = omega arith
fits_smallest Suspended h = omega arith
fits_smallest Done h = omega arith
fits_smallest Executed h = omega arith
fits_smallest (Error e) h = error_small e h.code h.number

-- ---- the frames

holds_ok : frame_types ok_frame ≡ Server.ok ∷ []
unfolding types_in
holds_ok = refl

holds_suspended : frame_types (fetch_suspended ++ stmt_execute_ok) ≡ Server.fetch_suspended ∷ Server.stmt_execute_ok ∷ []
unfolding types_in
holds_suspended = refl

holds_done_lem : frame_types (fetch_done ++ stmt_execute_ok) ≡ Server.fetch_done ∷ Server.stmt_execute_ok ∷ []
unfolding types_in
holds_done_lem = refl

holds_executed : frame_types stmt_execute_ok ≡ Server.stmt_execute_ok ∷ []
unfolding types_in
holds_executed = refl

holds_error : (r : Refusal) → frame_types (error_frame r.code (message_of r)) ≡ Server.error ∷ []
holds_error r =
    types_one Server.error (error_payload r.code (message_of r))
    (omega (
      arith,
      payload_length r.code (message_of r),
      text_within r.reason r.number r.kind,
      varint_length r.code,
      varint_length (length (message_of r)),
    ))

pub holds_frames : HoldsFrames
unfolding reply_bytes
holds_frames Nothing = types_none 0
holds_frames Ok = holds_ok
holds_frames Suspended = holds_suspended
holds_frames Done = holds_done_lem
holds_frames Executed = holds_executed
holds_frames (Error e) = holds_error e

done_among : (r : Reply) → among Server.fetch_done (types_of r) ≡ is_done r
unfolding among
done_among Nothing = refl
done_among Ok = refl
done_among Suspended = refl
done_among Done = refl
done_among Executed = refl
done_among (Error e) = refl

pub tells_done : TellsDone
tells_done r = ap (among Server.fetch_done) (holds_frames r) ∙ done_among r

-- ---- samples

pub sample_replies : SampleReplies
unfolding digits text error_payload number_field bytes_field shortest
sample_replies = (refl, refl, refl, refl)
