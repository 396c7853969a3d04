-- Each arm is accepted_as at its kind's message type. Assumes nothing.
use Rattle.prelude.proofs.Basics.{ℕ, Bool, ◌≡◌, refl, List}
use Rattle.writer.specs.declared.kind.Kind.{Kind}
use Rattle.writer.specs.private.Kind.{type_of}
use Rattle.writer.proofs.Names.{accepted_as}
use Rattle.writer.proofs.judge.is_accepted.Goals as goal

-- what an arm answers at its kind it answers for the kind that it is
arm : (operation : ℕ) (body args : List ℕ) {k x : Kind} {b : Bool} → k ≡ x →
    b ≡ accepted_as (type_of x) operation body args → b ≡ accepted_as (type_of k) operation body args
arm operation body args e h = rw e h

pub returns-in-Prepare : goal.returns-in-Prepare
unfolding accepted_as
returns-in-Prepare c = arm c.args.operation c.args.body.now c.args.args.now c.in-Prepare.is c.is_prepare.ensures

pub returns-in-Execute : goal.returns-in-Execute
unfolding accepted_as
returns-in-Execute c = arm c.args.operation c.args.body.now c.args.args.now c.in-Execute.is c.is_stretch.ensures

pub returns-in-Deallocate : goal.returns-in-Deallocate
unfolding accepted_as
returns-in-Deallocate c = arm c.args.operation c.args.body.now c.args.args.now c.in-Deallocate.is refl

pub returns-in-Open : goal.returns-in-Open
unfolding accepted_as
returns-in-Open c = arm c.args.operation c.args.body.now c.args.args.now c.in-Open.is c.is_stretch-in-Open.ensures

pub returns-in-Close : goal.returns-in-Close
unfolding accepted_as
returns-in-Close c = arm c.args.operation c.args.body.now c.args.args.now c.in-Close.is refl

pub returns-in-Fetch : goal.returns-in-Fetch
unfolding accepted_as
returns-in-Fetch c = arm c.args.operation c.args.body.now c.args.args.now c.in-Fetch.is refl

pub returns-in-Reset : goal.returns-in-Reset
unfolding accepted_as
returns-in-Reset c = arm c.args.operation c.args.body.now c.args.args.now c.in-Reset.is refl

pub returns-in-SessionClose : goal.returns-in-SessionClose
unfolding accepted_as
returns-in-SessionClose c = arm c.args.operation c.args.body.now c.args.args.now c.in-SessionClose.is refl
