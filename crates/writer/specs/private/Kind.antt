-- The kinds of a message, as the code has them. Of the private functions' contracts; what is promised does not cite it.
use Rattle.std.specs.Prelude.{ℕ, ◌≡◌, Result, Ok, Err}
use Rattle.protocol.specs.Client as Client
use Rattle.protocol.specs.declared.reason.Reason.{Reason}
use Rattle.writer.specs.declared.kind.Kind.{Kind}

-- the message type of a kind
abbrev pub type_of : Kind → ℕ
type_of Kind.Reset = Client.reset
type_of Kind.SessionClose = Client.session_close
type_of Kind.Prepare = Client.prepare
type_of Kind.Execute = Client.execute
type_of Kind.Deallocate = Client.deallocate
type_of Kind.Open = Client.open'
type_of Kind.Close = Client.close
type_of Kind.Fetch = Client.fetch

-- a number is the type of a kind, or it is that of none and refused
abbrev pub IsKind : ℕ → Result Kind Reason → Type 0
IsKind number (Ok kind) = number ≡ type_of kind
IsKind number (Err reason) = (reason ≡ Reason.BadPayload) × ((kind : Kind) → number ≡ type_of kind → ⊥)
