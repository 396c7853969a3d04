-- Which numbers are an acceptable image (I4): a clause for each rule, over the numbers themselves.
use Rattle.std.specs.Prelude.{ℕ, suc, ◌≤◌, ◌<◌, ◌≡◌, List, [], ◌∷◌, map, eqb}
use Rattle.session.specs.Lists.{All, how_many}
use Rattle.session.specs.Tables.{max_stmts, max_cursors}
use Rattle.session.specs.Sound.{max_number, max_placeholders}
use Rattle.image_rules.specs.declared.StmtEntry.{StmtEntry}
use Rattle.image_rules.specs.declared.CursorEntry.{CursorEntry}
use Rattle.image_rules.specs.Numbers.{bytes_of}
use Rattle.image_rules.specs.Listing.{Listing}
use Rattle.image_rules.specs.Image.{numbers_in}

-- places that rise, from one on and below a limit
unfoldable pub Rising : ℕ → ℕ → List ℕ → Type 0
Rising limit from [] = Unit {0}
Rising limit from (p ∷ ps) = (from ≤ p) × ((p < limit) × Rising limit (suc p) ps)

-- how many of the entries have an id, and how many cursors stand on a statement
abbrev pub stmts_with : ℕ → List StmtEntry → ℕ
stmts_with id es = how_many (λ e. eqb e.id id) es

abbrev pub cursors_with : ℕ → List CursorEntry → ℕ
cursors_with id es = how_many (λ e. eqb e.id id) es

abbrev pub cursors_on : ℕ → List CursorEntry → ℕ
cursors_on stmt es = how_many (λ e. eqb e.stmt stmt) es

pub record Rules (m : Listing) : Type 0 where
  -- closed or not, 0 or 1
  pub flag : m.closed ≤ 1
  -- places rising and within the limits
  pub stmt_places : Rising max_stmts 0 (map (λ e. e.place) m.stmts)
  pub cursor_places : Rising max_cursors 0 (map (λ e. e.place) m.cursors)
  -- ids distinct in each table
  pub stmt_ids : (id : ℕ) → stmts_with id m.stmts ≤ 1
  pub cursor_ids : (id : ℕ) → cursors_with id m.cursors ≤ 1
  -- ids and rows below 2^32 (rows sent by `within`), placeholders at most 65,535
  pub stmts_small : All (λ e. (e.id ≤ max_number) × (e.placeholders ≤ max_placeholders)) m.stmts
  pub cursors_small : All (λ e. (e.id ≤ max_number) × ((e.stmt ≤ max_number) × (e.rows ≤ max_number))) m.cursors
  -- each cursor on a listed statement, and no two on one
  pub on_listed : All (λ e. 1 ≤ stmts_with e.stmt m.stmts) m.cursors
  pub not_two : (stmt : ℕ) → cursors_on stmt m.cursors ≤ 1
  -- rows sent at most rows reported
  pub within : All (λ e. e.sent ≤ e.rows) m.cursors
  -- no entries if closed
  pub shut : m.closed ≡ 1 → (m.stmts ≡ []) × (m.cursors ≡ [])

-- numbers that are laid out as an image, and keep the rules
pub record Acceptable (ns : List ℕ) : Type 0 where
  pub listing : Listing
  pub layout : numbers_in listing ≡ ns
  pub rules : Rules listing

-- bytes that are the shortest varints of such numbers, with nothing behind them
pub record AcceptableImage (bytes : List ℕ) : Type 0 where
  pub numbers : List ℕ
  pub shortest : bytes_of numbers ≡ bytes
  pub acceptable : Acceptable numbers
