-- Appending pads nothing (W20, C14): every varint of what is appended is the shortest.
use Rattle.std.specs.Prelude.{ℕ, ◌^◌, ◌<◌, ◌≡◌, true, false, List, [], ◌++◌, length, take}
use Rattle.scalar.specs.declared.argument.Argument.{Argument}
use Rattle.writer.specs.Judge.{good_stretch}
use Rattle.writer.specs.RoundTrip.{Sized as SizedDraft}
use Rattle.writer.specs.Write.{draft_reason}
use Rattle.writer.specs.Padded.{stretch_padded, frame_padded}
use Rattle.writer.specs.declared.Draft.{Draft}
use Rattle.args_writer.specs.Scalar.{writable, arg_field}
use Rattle.args_writer.specs.Append.{append_reason, appended_of, left_by}
use Rattle.args_writer.specs.Reads.{Sized}

-- a good stretch with a scalar behind it is padded exactly where it was without
abbrev pub AppendPadded : Type 0
AppendPadded =
    (a : Argument) (src s : List ℕ) →
    Sized a → writable a src ≡ true → length (arg_field a src) < 2 ^ 64 → good_stretch s ≡ true →
    stretch_padded (s ++ arg_field a src) ≡ stretch_padded s

-- so is the one in the buffer that it was appended to
abbrev pub AppendedPadded : Type 0
AppendedPadded =
    (a : Argument) (src buf : List ℕ) (at : ℕ) →
    Sized a → length buf < 2 ^ 64 → good_stretch (take at buf) ≡ true → append_reason a src (length buf) at ≡ 0 →
    stretch_padded (take (appended_of a src (length buf) at).len (left_by a src buf at)) ≡ stretch_padded (take at buf)

-- a stretch made by appending alone
pub data Made : List ℕ → Type 0 where
  empty : Made []
  append : {s : List ℕ} → Made s → (a : Argument) (src : List ℕ) → Sized a → writable a src ≡ true →
      length (arg_field a src) < 2 ^ 64 → Made (s ++ arg_field a src)

-- is never padded
abbrev pub MadePlain : Type 0
MadePlain = (s : List ℕ) → Made s → stretch_padded s ≡ false

-- so the frame of a draft with such a stretch is not either
abbrev pub FramePlain : Type 0
FramePlain =
    (d : Draft) (body args rest : List ℕ) → SizedDraft d → draft_reason d body args ≡ 0 → Made args →
    frame_padded d body args rest ≡ false
