-- Images that are shown by proof (V19, V20): of sessions without entries, of one in mid-load, of one with the largest
-- numbers; and bytes that break one rule each.
use Rattle.std.specs.Prelude.{ℕ, ◌≡◌, List, [], ◌∷◌, Some}
use Rattle.protocol.specs.Reason as Reason
use Rattle.session.specs.Session.{Session}
use Rattle.session.specs.Lists.{All}
use Rattle.session.specs.Entry.{new_stmt}
use Rattle.session.specs.Sound.{max_number, max_placeholders}
use Rattle.session.specs.Tables.{fresh, closed_now, prepared, opened, stored_stmt}
use Rattle.image_rules.specs.Image.{image_of}
use Rattle.image_rules.specs.Restore.{restore_of}

-- a session and its image; or bytes that are no image
pub data Sample : Type 0 where
  image : Session → List ℕ → Sample
  refused : List ℕ → Sample

abbrev pub Shown : Sample → Type 0
Shown (image s bytes) = image_of s ≡ bytes
Shown (refused bytes) = (restore_of fresh bytes).reason ≡ Reason.bad_image

-- statement 300 with 2 placeholders, and on it cursor 7, of whose 1,000 rows 2 are sent
abbrev pub loading : Session
loading = opened (prepared fresh 300 2) 7 300 1000 2

abbrev pub loading_image : List ℕ
loading_image = 1 ∷ 0 ∷ 1 ∷ 0 ∷ 0xAC ∷ 2 ∷ 2 ∷ 1 ∷ 0 ∷ 7 ∷ 0xAC ∷ 2 ∷ 0xE8 ∷ 7 ∷ 2 ∷ []

-- the last place, the largest id, the most placeholders; all places before it are free
abbrev pub greatest : Session
greatest = stored_stmt fresh (Some 63) (new_stmt max_number max_placeholders)

abbrev pub samples : List Sample
samples =
    image fresh (1 ∷ 0 ∷ 0 ∷ 0 ∷ [])
    ∷ image (closed_now fresh) (1 ∷ 1 ∷ 0 ∷ 0 ∷ [])
    ∷ image loading loading_image
    ∷ image greatest (1 ∷ 0 ∷ 1 ∷ 63 ∷ 0xFF ∷ 0xFF ∷ 0xFF ∷ 0xFF ∷ 0x0F ∷ 0xFF ∷ 0xFF ∷ 3 ∷ 0 ∷ [])
    ∷ refused []
    ∷ refused (2 ∷ 0 ∷ 0 ∷ 0 ∷ [])  -- another form
    ∷ refused (1 ∷ 2 ∷ 0 ∷ 0 ∷ [])  -- neither closed nor not
    ∷ refused (1 ∷ 0 ∷ 0 ∷ 0 ∷ 0 ∷ [])  -- a byte behind it
    ∷ refused (1 ∷ 0 ∷ 0x80 ∷ 0 ∷ 0 ∷ [])  -- a padded number
    ∷ refused (1 ∷ 1 ∷ 1 ∷ 0 ∷ 5 ∷ 0 ∷ 0 ∷ [])  -- closed, with a statement
    ∷ refused (1 ∷ 0 ∷ 2 ∷ 0 ∷ 5 ∷ 0 ∷ 0 ∷ 6 ∷ 0 ∷ 0 ∷ [])  -- one place twice
    ∷ refused (1 ∷ 0 ∷ 2 ∷ 0 ∷ 5 ∷ 0 ∷ 1 ∷ 5 ∷ 0 ∷ 0 ∷ [])  -- one id twice
    ∷ refused (1 ∷ 0 ∷ 1 ∷ 64 ∷ 5 ∷ 0 ∷ 0 ∷ [])  -- a place past the table
    ∷ refused (1 ∷ 0 ∷ 1 ∷ 0 ∷ 5 ∷ 0 ∷ 1 ∷ 16 ∷ 7 ∷ 5 ∷ 1 ∷ 0 ∷ [])  -- and of a cursor
    ∷ refused (1 ∷ 0 ∷ 1 ∷ 0 ∷ 0x80 ∷ 0x80 ∷ 0x80 ∷ 0x80 ∷ 0x10 ∷ 0 ∷ 0 ∷ [])  -- the id 2^32
    ∷ refused (1 ∷ 0 ∷ 1 ∷ 0 ∷ 5 ∷ 0x80 ∷ 0x80 ∷ 4 ∷ 0 ∷ [])  -- 65,536 placeholders
    ∷ refused (1 ∷ 0 ∷ 2 ∷ 0 ∷ 5 ∷ 0 ∷ 1 ∷ 6 ∷ 0 ∷ 2 ∷ 0 ∷ 7 ∷ 5 ∷ 1 ∷ 0 ∷ 1 ∷ 7 ∷ 6 ∷ 1 ∷ 0 ∷ [])  -- a cursor id twice
    ∷ refused (1 ∷ 0 ∷ 0 ∷ 1 ∷ 0 ∷ 7 ∷ 5 ∷ 1 ∷ 0 ∷ [])  -- a cursor on no statement
    ∷ refused (1 ∷ 0 ∷ 1 ∷ 0 ∷ 5 ∷ 0 ∷ 1 ∷ 0 ∷ 7 ∷ 5 ∷ 1 ∷ 2 ∷ [])  -- more rows sent than reported
    ∷ refused (1 ∷ 0 ∷ 1 ∷ 0 ∷ 5 ∷ 0 ∷ 2 ∷ 0 ∷ 7 ∷ 5 ∷ 1 ∷ 0 ∷ 1 ∷ 8 ∷ 5 ∷ 1 ∷ 0 ∷ [])  -- two cursors on one
    ∷ []

abbrev pub SamplesShown : Type 0
SamplesShown = All Shown samples
