-- Which rows an accepted step sends (K11).
use Rattle.std.specs.Prelude.{ℕ, ◌+◌, ◌-◌, min, Bool, cond, not, ◌&&◌, eqb, Option, Some, None}
use Rattle.protocol.specs.Client.{execute, open', fetch}
use Rattle.message.specs.Request.{cursor_of, rows_of}
use Rattle.message.specs.declared.request.Request.{Request}
use Rattle.session.specs.Session.{Session}
use Rattle.session.specs.declared.Cursor.{Cursor}
use Rattle.session.specs.Tables.{live_cursor}
use Rattle.rules.specs.declared.Report.{Report}
use Rattle.rules.specs.Kind.{is_a, one_of}

-- fetch_rows, or what its absence means
abbrev pub asked : Option ℕ → ℕ → ℕ
asked (Some rows) absent = rows
asked None absent = absent

abbrev pub remaining : Cursor → ℕ
remaining c = c.rows - c.sent

-- "the next min(fetch_rows, remaining) rows, absent meaning all" (K11, S8)
abbrev pub fetch_count : Cursor → Option ℕ → ℕ
fetch_count c rows = min (asked rows (remaining c)) (remaining c)

-- "the first min(fetch_rows, N) rows (absent means 0)" (K11, S7)
abbrev pub open_count : Option ℕ → ℕ → ℕ
open_count rows reported = min (asked rows 0) reported

-- "rows sent so far" is the first row of a Fetch
unfoldable pub first_row : Session → Request → ℕ
first_row s q = cond (is_a fetch q) (live_cursor s (cursor_of q)).sent 0

-- Execute sends "rows 0 to N - 1" (K11, S5)
unfoldable pub row_count : Session → Request → Report → ℕ
row_count s q r =
    cond (is_a execute q) r.rows
    (cond (is_a open' q) (open_count (rows_of q) r.rows)
    (cond (is_a fetch q) (fetch_count (live_cursor s (cursor_of q)) (rows_of q)) 0))

-- "whether columns go out (Execute or Open with any)" (K5)
unfoldable pub sends_columns : Request → Report → Bool
sends_columns q r = one_of execute open' q && not (eqb r.columns 0)

-- the rows of the opening that an Open makes or a Fetch is of, and those that are left after the step
abbrev pub reported_rows : Session → Request → Report → ℕ
reported_rows s q r = cond (is_a open' q) r.rows (live_cursor s (cursor_of q)).rows

abbrev pub left_after : Session → Request → Report → ℕ
left_after s q r = reported_rows s q r - (first_row s q + row_count s q r)
