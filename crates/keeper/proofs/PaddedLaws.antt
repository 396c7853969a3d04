-- From what is decided of a frame to what a look and a step say of its bytes: of one that holds a request, or a body
-- twice, what was read in it, and else no. Assumes nothing.
use Rattle.prelude.proofs.Basics.{ℕ, Bool, false, ◌≡◌, refl, sym, ap, subst, ◌∙◌, List}
use Rattle.message.specs.Head.{head_of}
use Rattle.message.specs.Padded.{where_read, head_padded}
use Rattle.message.specs.private.Marks.{Tells}
use Rattle.message.specs.declared.request.Frame.TheVariants.{NotAllThere, BadLength, UnknownType, BadPayload}
use Rattle.message.specs.declared.request.Frame.TheVariants.{BodyTwice, Good}
use Rattle.rules.specs.Step.{said, look_says, answer_says, look_at}
use Rattle.rules.proofs.PaddedLaws.{said_none}
use Rattle.rules.proofs.StepLaws.{step_has}
use Rattle.keeper.proofs.Names.{frame_of, padded_of, Frame, Session, look_refused, look_of, step_of, step_on}
use Rattle.keeper.proofs.Names.{Answer, Look, Report}
use Rattle.keeper.specs.private.Does.{Does}

-- ---- what was read

-- a frame that is refused before it is read to its end says nothing
abbrev pub Mute : Frame → Type 0
Mute x = (padded : Bool) → where_read x padded ≡ false

pub mute_says : (s : List ℕ) {x : Frame} → x ≡ frame_of s → Mute x → false ≡ padded_of s
unfolding padded_of
mute_says s e mute =
    sym (mute (head_padded s (head_of s))) ∙ ap (λ y. where_read y (head_padded s (head_of s))) e

-- the flag of a reading, where it counts
pub flag_says : (s : List ℕ) (x : Frame) (flag : Bool) → x ≡ frame_of s → Tells x flag (padded_of s) →
    where_read x flag ≡ padded_of s
flag_says s NotAllThere flag e t = mute_says s e (λ _. refl)
flag_says s BadLength flag e t = mute_says s e (λ _. refl)
flag_says s (UnknownType used) flag e t = mute_says s e (λ _. refl)
flag_says s (BadPayload used kind) flag e t = mute_says s e (λ _. refl)
flag_says s (BodyTwice used kind) flag e t = t
flag_says s (Good used q) flag e t = t

-- and any other tells
abbrev pub Telling : Frame → Type 0
Telling x = (flag padded : Bool) → Tells x flag padded → flag ≡ padded

told_says : (s : List ℕ) {x y : Frame} (flag : Bool) → x ≡ y → Telling y → Tells x flag (padded_of s) →
    flag ≡ padded_of s
told_says s flag f tell t = tell flag (padded_of s) (subst (λ z. Tells z flag (padded_of s)) f t)

-- ---- a look

-- with this said of padding
abbrev pub look_with : Bool → Look → Look
look_with padded l =
    record { reason = l.reason; work = l.work; first = l.first; count = l.count; padded = padded }

module _ (s : Session) (frame : List ℕ) {x : Frame} (e : x ≡ frame_of frame) where
  pub look_unread : {y : Frame} {l : Look} {n : ℕ} → x ≡ y → Mute y → l ≡ look_refused n → look_refused n ≡ look_of s y →
      l ≡ look_at s frame
  unfolding look_at
  look_unread {y} {l} {n} f mute g h =
      let read = sym f ∙ e in
      g ∙ ap (λ (b : Bool). look_with b (look_refused n)) (sym (said_none n)) ∙ ap (look_says false)
      (h ∙ ap (look_of s) read)
      ∙ ap (λ (b : Bool). look_says b (look_of s (frame_of frame))) (mute_says frame read mute)

  pub look_told : {y : Frame} {b : Bool} {l : Look} (flag : Bool) → x ≡ y → Telling y → Tells x flag (padded_of frame) →
      l ≡ look_of s y → b ≡ said l.reason flag →
      look_with b l ≡ look_at s frame
  unfolding look_at
  look_told {l = l} flag f tell t g h =
      ap (λ (p : Bool). look_with p l) (h ∙ ap (said l.reason) (told_says frame flag f tell t))
      ∙ ap (look_says (padded_of frame)) (g ∙ ap (look_of s) (sym f ∙ e))

-- ---- a step

abbrev pub answer_with : Bool → Answer → Answer
answer_with padded a =
    record {
      reason = a.reason;
      used = a.used;
      reply = a.reply;
      columns = a.columns;
      padded = padded;
      first = a.first;
      count = a.count;
    }

-- what is decided says nothing yet
unsaid : (s : Session) (x : Frame) (r : Report) (buffer : List ℕ) → (step_on s x r buffer).answer.padded ≡ false
unsaid s x r buffer =
    step_has (λ y. y.answer.padded ≡ false) s x r buffer (λ _. refl) (λ _ _ _ _. refl) (λ _ _. refl)

says_none : (a : Answer) → a.padded ≡ false → a ≡ answer_says false a
says_none a e = ap (λ (p : Bool). answer_with p a) (e ∙ sym (said_none a.reason))

module _ (s : Session) (frame : List ℕ) (r : Report) (b : List ℕ) {x : Frame} (e : x ≡ frame_of frame)
    {a : Answer} {s' : Session} {after : List ℕ} where
  pub does_unread : {y : Frame} → x ≡ y → Mute y → Does (step_on s y r b) a s' after → Does
      (step_of s frame r b) a s' after
  does_unread {y} f mute h =
      let read = sym f ∙ e in
      record {
        answered =
            h.answered ∙ says_none (step_on s y r b).answer (unsaid s y r b)
            ∙ ap (λ z. answer_says false (step_on s z r b).answer) read
            ∙ ap (λ (p : Bool). answer_says p (step_on s (frame_of frame) r b).answer) (mute_says frame read mute);
        kept = h.kept ∙ ap (λ z. (step_on s z r b).session) read;
        replied = h.replied ∙ ap (λ z. (step_on s z r b).buffer) read;
      }

  pub does_told : {y : Frame} {p : Bool} (flag : Bool) → x ≡ y → Telling y → Tells x flag (padded_of frame) →
      Does (step_on s y r b) a s' after → p ≡ said a.reason flag →
      Does (step_of s frame r b) (answer_with p a) s' after
  does_told flag f tell t h k =
      let read = sym f ∙ e in
      record {
        answered =
            ap (λ (v : Bool). answer_with v a) (k ∙ ap (said a.reason) (told_says frame flag f tell t))
            ∙ ap (answer_says (padded_of frame)) (h.answered ∙ ap (λ z. (step_on s z r b).answer) read);
        kept = h.kept ∙ ap (λ z. (step_on s z r b).session) read;
        replied = h.replied ∙ ap (λ z. (step_on s z r b).buffer) read;
      }
