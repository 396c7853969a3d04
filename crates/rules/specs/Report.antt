-- The work that a request wants of the engine, and the reports that suit it.
use Rattle.std.specs.Prelude.{ℕ, Bool, true, not, ◌&&◌, ◌||◌, eqb, leb}
use Rattle.message.specs.declared.request.Request.{Request}
use Rattle.message.specs.declared.request.Request.TheVariants.{Reset, SessionClose, Prepare, Execute, Deallocate, Open}
use Rattle.message.specs.declared.request.Request.TheVariants.{Close, Fetch}
use Rattle.session.specs.Sound.{max_number, max_placeholders}
use Rattle.rules.specs.declared.Report.{Report}

-- ---- work

abbrev pub no_work : ℕ
no_work = 0

abbrev pub to_prepare : ℕ
to_prepare = 1

abbrev pub to_execute : ℕ
to_execute = 2

abbrev pub to_open : ℕ
to_open = 3

abbrev pub to_fetch : ℕ
to_fetch = 4

abbrev pub work_of : Request → ℕ
work_of Reset = no_work
work_of SessionClose = no_work
work_of (Prepare p) = to_prepare
work_of (Execute x) = to_execute
work_of (Deallocate stmt) = no_work
work_of (Open o) = to_open
work_of (Close cursor) = no_work
work_of (Fetch f) = to_fetch

abbrev pub works : Request → Bool
works q = not (eqb (work_of q) no_work)

-- ---- kinds of a report

abbrev pub prepared : ℕ
prepared = 1

abbrev pub result : ℕ
result = 2

abbrev pub done : ℕ
done = 3

abbrev pub failed : ℕ
failed = 4

abbrev pub max_columns : ℕ
max_columns = 4096

-- a report of each kind, within its limits: "placeholders, 0 to 65,535"
abbrev pub is_prepared : Report → Bool
is_prepared r = eqb r.kind prepared && leb r.placeholders max_placeholders

-- "columns 0 to 4,096, rows 0 to 2^32 - 1; no columns means no rows"
abbrev pub is_result : Report → Bool
is_result r =
    eqb r.kind result && leb r.columns max_columns && leb r.rows max_number
    && (not (eqb r.columns 0) || eqb r.rows 0)

abbrev pub is_done : Report → Bool
is_done r = eqb r.kind done

-- "engine failed with a code 1 to 2^32 - 1" (K8, R16)
abbrev pub fails : Report → Bool
fails r = eqb r.kind failed && not (eqb r.code 0) && leb r.code max_number

-- the report that a request wants; one that wants no work takes any
abbrev pub suits : Request → Report → Bool
suits Reset r = true
suits SessionClose r = true
suits (Prepare p) r = is_prepared r
suits (Execute x) r = is_result r
suits (Deallocate stmt) r = true
suits (Open o) r = is_result r
suits (Close cursor) r = true
suits (Fetch f) r = is_done r
