-- The tally: it "starts empty and is fed each step's frame, report and answer (accepted is reason 0), nothing of the
-- session", and nothing of the reply (T1, T2). After a restore it starts from the cursors of the image (I8, Start).
use Rattle.std.specs.Prelude.{ℕ, ◌+◌, ◌-◌, Bool, cond, not, List, [], ◌∷◌, ◌++◌, eqb}
use Rattle.protocol.specs.Reason as Reason
use Rattle.message.specs.Frame.{frame_of}
use Rattle.message.specs.declared.request.Request.{Request}
use Rattle.message.specs.declared.request.Request.TheVariants.{Reset, SessionClose, Prepare, Execute, Deallocate, Open}
use Rattle.message.specs.declared.request.Request.TheVariants.{Close, Fetch}
use Rattle.message.specs.declared.request.Frame.{Frame}
use Rattle.session.specs.Lists.{changed, sum_by, how_many}
use Rattle.rules.specs.declared.Report.{Report}
use Rattle.rules.specs.declared.Answer.{Answer}
use Rattle.rules.specs.Kind.{on_good}
use Rattle.rules.specs.Ending.{ends_it}

-- the rows that one step sent: its count of them, from its first row on (T4)
pub record Segment : Type 0 where
  pub first : ℕ
  pub count : ℕ

-- an opening: "its two ids, the report's rows, the rows its answer sends", and those that fetches added, in the order
-- sent (T4, T5); of a cursor of an image the rows that it had left (I8). `first` is the number of its first row
pub record Opening : Type 0 where
  pub cursor : ℕ
  pub stmt : ℕ
  pub first : ℕ
  pub rows : ℕ
  pub segments : List Segment

-- the openings that have not ended, those that have, and how many accepted fetches were of no opening
pub record Tally : Type 0 where
  pub live : List Opening
  pub ended : List Opening
  pub strays : ℕ

abbrev pub empty : Tally
empty = record { live = []; ended = []; strays = 0 }

-- ---- its numbers

abbrev pub sent : Opening → ℕ
sent o = sum_by (λ g. g.count) o.segments

abbrev pub unsent : Opening → ℕ
unsent o = o.rows - sent o

-- "Rows reported and sent include those of ended openings." (T7)
abbrev pub over : (Opening → ℕ) → Tally → ℕ
over w t = sum_by w t.live + sum_by w t.ended

abbrev pub rows_reported : Tally → ℕ
rows_reported = over (λ o. o.rows)

abbrev pub rows_sent : Tally → ℕ
rows_sent = over sent

-- "Rows unsent then are given up": an opening that has ended sends no more (E3, T7)
abbrev pub rows_given_up : Tally → ℕ
rows_given_up t = sum_by unsent t.ended

-- ---- one step

unfoldable pub kept : {A : Type 0} → (A → Bool) → List A → List A
kept p [] = []
kept p (x ∷ xs) = let rest = kept p xs in cond (p x) (x ∷ rest) rest

-- "Endings come first: the opening leaves, its unsent rows are given up." (T3)
abbrev pub endings : Request → Tally → Tally
endings q t =
    record {
      live = kept (λ o. not (ends_it q o.cursor o.stmt)) t.live;
      ended = kept (λ o. ends_it q o.cursor o.stmt) t.live ++ t.ended;
      strays = t.strays;
    }

-- "Then an accepted Open adds an opening" (T4)
abbrev pub with_opening : ℕ → ℕ → ℕ → Segment → Tally → Tally
with_opening cursor stmt rows g t =
    record {
      live = record { cursor = cursor; stmt = stmt; first = 0; rows = rows; segments = g ∷ [] } ∷ t.live;
      ended = t.ended;
      strays = t.strays;
    }

-- "An accepted Fetch is of the opening with its cursor id and adds the rows it sends." Where not just one has the id,
-- it is a stray (T5)
abbrev pub is_of : ℕ → Opening → Bool
is_of cursor o = eqb o.cursor cursor

abbrev pub longer : Segment → Opening → Opening
longer g o =
    record { cursor = o.cursor; stmt = o.stmt; first = o.first; rows = o.rows; segments = o.segments ++ (g ∷ []) }

abbrev pub with_rows : ℕ → Segment → Tally → Tally
with_rows cursor g t =
    record {
      live = changed (is_of cursor) (longer g) t.live;
      ended = t.ended;
      strays = t.strays + cond (eqb (how_many (is_of cursor) t.live) 1) 0 1;
    }

-- "Any other step, a refused one too, adds nothing." (T2, T6)
abbrev pub adds : Request → Report → Segment → Tally → Tally
adds Reset r g t = t
adds SessionClose r g t = t
adds (Prepare p) r g t = t
adds (Execute x) r g t = t
adds (Deallocate stmt) r g t = t
adds (Open o) r g t = with_opening o.cursor o.execute.stmt r.rows g t
adds (Close cursor) r g t = t
adds (Fetch f) r g t = with_rows f.cursor g t

abbrev pub segment : Answer → Segment
segment a = record { first = a.first; count = a.count }

abbrev pub fed_on : Frame → Report → Answer → Tally → Tally
fed_on x r a t = cond (eqb a.reason Reason.accepted) (on_good t (λ q. adds q r (segment a) (endings q t)) x) t

-- a step's frame, report and answer
unfoldable pub fed : List ℕ → Report → Answer → Tally → Tally
fed frame r a t = fed_on (frame_of frame) r a t
