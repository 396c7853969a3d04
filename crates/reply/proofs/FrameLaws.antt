-- Laws of the frames: how long an Error's payload is, and frames put at the front of a buffer. Assumes nothing.
use Rattle.prelude.proofs.Basics.{ℕ, ◌+◌, ◌<◌, arith, ◌≡◌, refl, ap, List, [], ◌∷◌, ◌++◌, length, length-append}
use Rattle.varint.specs.Shortest.{varint_bytes}
use Rattle.varint.proofs.ShortestLaws.{shortest_last}
use Rattle.encode.specs.Puts.{Puts}
use Rattle.encode.specs.Frame.{four_bytes, frame}
use Rattle.encode.specs.Field.{number_field, bytes_field}
use Rattle.encode.proofs.FieldLaws.{number_parts, prefix_parts, bytes_sum}
use Rattle.encode.proofs.PutsLaws.{puts_as, puts_then}
use Rattle.reply.specs.Text.{ascii}
use Rattle.reply.specs.Frame.{error_payload, error_frame}

-- ---- lengths

pub empty_length : (kind : ℕ) → length (frame kind []) ≡ 5
empty_length kind = refl

pub payload_parts : (code : ℕ) (m : List ℕ) →
    length (error_payload code m)
    ≡ length (number_field 1 0) + length (number_field 2 code) + length (bytes_field 3 m) + length
    (bytes_field 4 (ascii "HY000"))
unfolding error_payload
payload_parts code m = simp length-append

one_byte_lem : (v : ℕ) → v < 128 → length (varint_bytes v) ≡ 1
one_byte_lem v h = ap length (shortest_last 9 v h)

pub payload_length : (code : ℕ) (m : List ℕ) →
    length (error_payload code m) ≡ 11 + length (varint_bytes code) + length (varint_bytes (length m)) + length m
payload_length code m =
    omega (
      arith,
      payload_parts code m,
      number_parts 1 0,
      number_parts 2 code,
      bytes_sum 3 m,
      prefix_parts 3 (length m),
      bytes_sum 4 (ascii "HY000"),
      prefix_parts 4 5,
      one_byte_lem 8 (omega arith),
      one_byte_lem 0 (omega arith),
      one_byte_lem 16 (omega arith),
      one_byte_lem 26 (omega arith),
      one_byte_lem 34 (omega arith),
      one_byte_lem 5 (omega arith),
    )

-- the head, and behind it the payload
pub error_framed : (code : ℕ) (m : List ℕ) {b b₁ b₂ : List ℕ} {r q size : ℕ} →
    Puts b 0 (four_bytes size ++ (1 ∷ [])) r b₁ →
    Puts b₁ r (error_payload code m) q b₂ → size ≡ length (error_payload code m) + 1 → Puts b 0 (error_frame code m) q b₂
error_framed code m f g e = puts_as (ap (λ (s : ℕ). four_bytes s ++ (1 ∷ error_payload code m)) e) (puts_then f g)
