-- The numbers of the reasons: none is 0, and each belongs to one reason. Assumes nothing.
use Rattle.std.proofs.Common.{ℕ, ◌-◌, ◌≤◌, ◌≡◌, refl, sym, ap, ◌∙◌, [], ◌∷◌, get_or, arith}
use Rattle.protocol.specs.Reason.{number_of}
use Rattle.protocol.specs.declared.reason.Reason.{Reason}

pub some_reason : (x : Reason) → number_of x ≡ 0 → ⊥
some_reason x e = omega (arith, positive x)
  where
    positive : (x : Reason) → 1 ≤ number_of x
    positive Reason.NotAllThere = omega arith
    positive Reason.BadLength = omega arith
    positive Reason.NoRoom = omega arith
    positive Reason.Closed = omega arith
    positive Reason.UnknownType = omega arith
    positive Reason.BadPayload = omega arith
    positive Reason.NoStmt = omega arith
    positive Reason.NotScalar = omega arith
    positive Reason.FewArguments = omega arith
    positive Reason.NoCursor = omega arith
    positive Reason.AllSent = omega arith
    positive Reason.OtherCursor = omega arith
    positive Reason.StmtsFull = omega arith
    positive Reason.CursorsFull = omega arith
    positive Reason.BadReport = omega arith
    positive Reason.EngineFailed = omega arith
    positive Reason.BodyTwice = omega arith
    positive Reason.BadImage = omega arith

-- the reason of each number
abbrev reason_at : ℕ → Reason
reason_at n =
    get_or
    (Reason.NotAllThere
    ∷ Reason.BadLength
    ∷ Reason.NoRoom
    ∷ Reason.Closed
    ∷ Reason.UnknownType
    ∷ Reason.BadPayload
    ∷ Reason.NoStmt
    ∷ Reason.NotScalar
    ∷ Reason.FewArguments
    ∷ Reason.NoCursor
    ∷ Reason.AllSent
    ∷ Reason.OtherCursor
    ∷ Reason.StmtsFull
    ∷ Reason.CursorsFull
    ∷ Reason.BadReport
    ∷ Reason.EngineFailed
    ∷ Reason.BodyTwice
    ∷ Reason.BadImage
    ∷ [])
    (n - 1) Reason.NotAllThere

pub number_once : (x y : Reason) → number_of x ≡ number_of y → x ≡ y
number_once x y e = sym (back x) ∙ ap reason_at e ∙ back y
  where
    back : (x : Reason) → reason_at (number_of x) ≡ x
    back Reason.NotAllThere = refl
    back Reason.BadLength = refl
    back Reason.NoRoom = refl
    back Reason.Closed = refl
    back Reason.UnknownType = refl
    back Reason.BadPayload = refl
    back Reason.NoStmt = refl
    back Reason.NotScalar = refl
    back Reason.FewArguments = refl
    back Reason.NoCursor = refl
    back Reason.AllSent = refl
    back Reason.OtherCursor = refl
    back Reason.StmtsFull = refl
    back Reason.CursorsFull = refl
    back Reason.BadReport = refl
    back Reason.EngineFailed = refl
    back Reason.BodyTwice = refl
    back Reason.BadImage = refl
