-- Laws of the walk over the frames of a byte string. Assumes nothing.
use Rattle.prelude.proofs.Basics.{ℕ, zero, suc, ◌+◌, ◌*◌, ◌/◌, ◌%◌, ◌^◌, ◌≤◌, ◌<◌, arith, mod-eq_of_lt, cond, ◌≡◌, refl}
use Rattle.prelude.proofs.Basics.{sym, ap, ◌∙◌, List, [], ◌∷◌, ◌++◌, append-nil, length, get_or, drop, length-append}
use Rattle.prelude.proofs.Basics.{length-drop, le-leb, lt-ltb}
use native.Mathlib.Nat.{div-div-eq-div-mul}
use lib.Seq.{drop-append_seam}
use Rattle.encode.specs.Frame.{frame}
use Rattle.reply.specs.Frames.{size_of, frame_first, types_in, frame_types}
use Rattle.reply.specs.FramesRules.{EnoughFrames}

-- a number below 2 ^ 32 is the number of its four bytes
four_sum : (n a b c : ℕ) → n / 256 ≡ a → a / 256 ≡ b → b / 256 ≡ c → n < 2 ^ 32 →
    n % 256 + a % 256 * 256 + b % 256 * 65536 + c % 256 * 16777216 ≡ n
four_sum n a b c e f g h =
    let top : c % 256 ≡ c = mod-eq_of_lt (omega arith) in
    let third : c * 256 + b % 256 ≡ b = omega arith in
    let second : b * 256 + a % 256 ≡ a = omega arith in
    let first : a * 256 + n % 256 ≡ n = omega arith in
    omega arith

four_denote : (n : ℕ) → n < 2 ^ 32 → n % 256 + n / 256 % 256 * 256 + n / 65536 % 256 * 65536 + n / 16777216 % 256 *
    16777216 ≡ n
four_denote n h =
    four_sum n (n / 256) (n / 65536) (n / 16777216) refl (div-div-eq-div-mul n 256 256)
    (div-div-eq-div-mul n 65536 256) h

drop_frame : (kind size : ℕ) (payload rest : List ℕ) → size ≡ length payload + 1 →
    drop (4 + size) (frame kind payload ++ rest) ≡ rest
drop_frame kind size payload rest e =
    let five : 4 + size ≡ suc (suc (suc (suc (suc (length payload))))) = omega arith in
    ap (λ (k : ℕ). drop k (frame kind payload ++ rest)) five ∙ drop-append_seam payload rest

-- the first frame, and those behind it
pub types_frame : (n kind : ℕ) (payload rest : List ℕ) → length payload + 1 < 2 ^ 32 →
    types_in (suc n) (frame kind payload ++ rest) ≡ kind ∷ types_in n rest
unfolding types_in
types_frame n kind payload rest h =
    let s = frame kind payload ++ rest in
    let e : size_of s ≡ length payload + 1 = four_denote (length payload + 1) h in
    let long = length-append payload rest in
    simp (
      lt-ltb 0 (size_of s) (omega arith),
      le-leb (4 + size_of s) (length s) (omega arith),
      drop_frame kind
          (size_of s) payload rest e,
    )

pub types_none : (n : ℕ) → types_in n [] ≡ []
unfolding types_in
types_none zero = refl
types_none (suc n) = refl

-- one frame
pub types_one : (kind : ℕ) (payload : List ℕ) → length payload + 1 < 2 ^ 32 →
    frame_types (frame kind payload) ≡ kind ∷ []
types_one kind payload h =
    let n = suc (suc (suc (suc (length (payload ++ []))))) in
    ap frame_types (sym (append-nil (frame kind payload)))
    ∙ types_frame n kind payload [] h
    ∙ ap (λ (l : List ℕ). kind ∷ l) (types_none n)

-- ---- the number of frames is no limit

types_short : (n : ℕ) (s : List ℕ) → length s ≤ 0 → types_in n s ≡ []
types_short n [] h = types_none n
types_short n (x ∷ s) h = absurd (omega arith)

types_same : (m n : ℕ) (s : List ℕ) → length s ≤ m → length s ≤ n → types_in m s ≡ types_in n s
unfolding types_in
types_same zero n s h i = sym (types_short n s h)
types_same (suc m) zero s h i = types_short (suc m) s i
types_same (suc m) (suc n) s h i =
    ap (λ (l : List ℕ). cond (frame_first s) (get_or s 4 0 ∷ l) [])
    (types_same m n (drop (4 + size_of s) s) (omega (arith, length-drop (4 + size_of s) s))
    (omega (arith, length-drop (4 + size_of s) s)))

pub enough_frames : EnoughFrames
enough_frames n s h = types_same n (length s) s h (omega arith)
