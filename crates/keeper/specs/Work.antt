-- The work that a look wants of the engine, by the number that hosts know each by.
use Rattle.std.specs.Prelude.{ℕ}
use Rattle.rules.specs.Report.{no_work, to_prepare, to_execute, to_open, to_fetch}
use Rattle.keeper.specs.declared.work.Work.{Work}

abbrev pub work_number : Work → ℕ
work_number Work.Nothing = no_work
work_number Work.Prepare = to_prepare
work_number Work.Execute = to_execute
work_number Work.Open = to_open
work_number Work.Fetch = to_fetch
