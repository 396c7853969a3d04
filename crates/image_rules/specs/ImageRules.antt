-- What holds of images: of every byte string, and of every session that keeps the rules of the tables. That every
-- session which steps and restores reach keeps them is with the runs of steps: history Handover.
use Rattle.std.specs.Prelude.{◌≡◌, List, ℕ, ◌≤◌, length}
use Rattle.protocol.specs.Reason as Reason
use Rattle.session.specs.Session.{Session}
use Rattle.session.specs.Lists.{All}
use Rattle.session.specs.Sound.{max_number, Sound}
use Rattle.session.specs.Words.{session_of}
use Rattle.image_rules.specs.Numbers.{bytes_of}
use Rattle.image_rules.specs.Listing.{Listing, listing_of}
use Rattle.image_rules.specs.Image.{numbers_in, image_of, max_image}
use Rattle.image_rules.specs.Acceptable.{Rules, AcceptableImage}
use Rattle.image_rules.specs.Restore.{Restored, restore_of}

-- "An image is accepted exactly if" its bytes are the shortest varints of an acceptable list of numbers (I4)
pub record Exactly (image : List ℕ) (r : Restored) : Type 0 where
  pub only : r.reason ≡ Reason.accepted → AcceptableImage image
  pub always : AcceptableImage image → r.reason ≡ Reason.accepted

abbrev pub AcceptedExactly : Type 0
AcceptedExactly = (before : Session) (image : List ℕ) → Exactly image (restore_of before image)

-- "an accepted image gives the session with just these entries": it lists them and nothing else, keeps the rules of the
-- tables, so that every free place is empty, and writes the same image again (I5)
pub record Gives (m : Listing) (image : List ℕ) (r : Restored) : Type 0 where
  pub accepted : r.reason ≡ Reason.accepted
  pub entries : listing_of r.session ≡ m
  pub sound : Sound r.session
  pub again : image_of r.session ≡ image

abbrev pub JustTheseEntries : Type 0
JustTheseEntries =
    (before : Session) (m : Listing) → Rules m →
    Gives m (bytes_of (numbers_in m)) (restore_of before (bytes_of (numbers_in m)))

-- "18, image not acceptable, the session given back as it was" (I6)
abbrev pub RefusedAsItWas : Type 0
RefusedAsItWas =
    (before : Session) (image : List ℕ) → ((restore_of before image).reason ≡ Reason.accepted → ⊥) →
    ((restore_of before image).reason ≡ Reason.bad_image) × ((restore_of before image).session ≡ before)

-- a session that keeps the rules of the tables keeps those of an image (I7)
abbrev pub KeepsRules : Type 0
KeepsRules = (s : Session) → Sound s → Rules (listing_of s)

-- so reading its image gives it back, whatever session it is read over (I7)
abbrev pub RoundTrips : Type 0
RoundTrips =
    (before s : Session) → Sound s →
    restore_of before (image_of s) ≡ record { reason = Reason.accepted; session = s }

-- what an accepted image gives keeps the rules of the tables (I5)
abbrev pub AcceptedSound : Type 0
AcceptedSound =
    (before : Session) (image : List ℕ) → (restore_of before image).reason ≡ Reason.accepted →
    Sound (restore_of before image).session

-- the image of any session of 32-bit words fits the constant that hosts are given (I3)
abbrev pub ImageFits : Type 0
ImageFits = (w : List ℕ) → All (λ n. n ≤ max_number) w → length (image_of (session_of w)) ≤ max_image
