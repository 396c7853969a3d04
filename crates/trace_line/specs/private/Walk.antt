-- What the function that puts lines comes to, for the one that calls it.
use Rattle.std.specs.Prelude.{◌≡◌, ℕ, ◌≤◌, List, length, drop}
use Rattle.session.specs.Session.{Session}
use Rattle.encode.specs.Puts.{Puts}
use Rattle.trace_line.specs.declared.printer.Walk.{Walk}
use Rattle.trace_line.specs.Output.{Lines}

-- it stands behind the lines of x: the number of the next record, the bytes left of s, the session, the buffer
pub record Walks (s out : List ℕ) (x : Lines) (w : Walk) (session : Session) (after : List ℕ) : Type 0 where
  pub number : w.n ≡ x.n
  pub within : w.at ≤ length s
  pub rest : drop w.at s ≡ x.left
  pub same : session ≡ x.session
  pub puts : Puts out 0 x.lines w.to after
  pub room : length x.lines ≤ length out
