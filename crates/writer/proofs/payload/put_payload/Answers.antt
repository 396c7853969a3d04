-- Each arm is payload_as at its kind's message type. Assumes nothing.
use Rattle.prelude.proofs.Basics.{ℕ, ◌≡◌, List}
use Rattle.encode.specs.Puts.{Puts}
use Rattle.encode.proofs.PutsLaws.{puts_nothing}
use Rattle.writer.specs.declared.kind.Kind.{Kind}
use Rattle.writer.specs.private.Kind.{type_of}
use Rattle.writer.proofs.Names.{payload_as, Draft}
use Rattle.writer.proofs.payload.put_payload.Goals as goal

-- what an arm puts at its kind it puts for the kind that it is
arm : (d : Draft) (body args : List ℕ) {k x : Kind} {b b₁ : List ℕ} {at n : ℕ} → k ≡ x →
    Puts b at (payload_as (type_of x) d body args) n b₁ → Puts b at (payload_as (type_of k) d body args) n b₁
arm d body args e h = rw e h

pub returns-in-Prepare : goal.returns-in-Prepare
unfolding payload_as
returns-in-Prepare c =
    arm c.args.draft c.args.body.now c.args.args.now c.in-Prepare.is c.put_prepare.ensures

pub returns-in-Execute : goal.returns-in-Execute
unfolding payload_as
returns-in-Execute c =
    arm c.args.draft c.args.body.now c.args.args.now c.in-Execute.is c.put_execute.ensures

pub returns-in-Deallocate : goal.returns-in-Deallocate
unfolding payload_as
returns-in-Deallocate c =
    arm c.args.draft c.args.body.now c.args.args.now c.in-Deallocate.is c.put_number.ensures

pub returns-in-Open : goal.returns-in-Open
unfolding payload_as
returns-in-Open c =
    arm c.args.draft c.args.body.now c.args.args.now c.in-Open.is c.put_open.ensures

pub returns-in-Close : goal.returns-in-Close
unfolding payload_as
returns-in-Close c =
    arm c.args.draft c.args.body.now c.args.args.now c.in-Close.is c.put_number-in-Close.ensures

pub returns-in-Fetch : goal.returns-in-Fetch
unfolding payload_as
returns-in-Fetch c =
    arm c.args.draft c.args.body.now c.args.args.now c.in-Fetch.is c.put_fetch.ensures

pub returns-in-Reset : goal.returns-in-Reset
unfolding payload_as
returns-in-Reset c =
    arm c.args.draft c.args.body.now c.args.args.now c.in-Reset.is (puts_nothing c.args.buf.now c.args.at)

pub returns-in-SessionClose : goal.returns-in-SessionClose
unfolding payload_as
returns-in-SessionClose c =
    arm c.args.draft c.args.body.now c.args.args.now c.in-SessionClose.is (puts_nothing c.args.buf.now c.args.at)
