-- What one pass finds is the Execute, or there is none.
use Rattle.prelude.proofs.Basics.{arith, false, sym, ap, ◌∙◌, length}
use Rattle.std.specs.Option.{is_some}
use Rattle.message.proofs.Names.{bound_found, payload, execute_from, Execute, Frame, Request}
use Rattle.message.proofs.BoundLaws.{run_lost, run_lacks, run_found}
use Rattle.message.proofs.execute.execute_from.Goals as goal

pub returns-in_default : goal.returns-in_default
returns-in_default c = record {
  answer = ap (execute_from c.args.s.now)
      (run_lost c.args.s.now payload c.args.n (sym c.in_default.is ∙ c.read_bound.ensures.answer));
  told = tt;
}

pub returns-in_default-one : goal.returns-in_default-one
returns-in_default-one c = record {
  answer = ap (execute_from c.args.s.now)
      (run_lacks c.args.s.now payload c.args.n (sym c.in-Some.is ∙ c.read_bound.ensures.answer) c.in_default-one.is);
  told = tt;
}

pub overflow_add-n : goal.overflow_add-n
overflow_add-n c =
    let f = bound_found false c.args.s.now payload c.args.n (sym c.in-Some.is ∙ c.read_bound.ensures.answer) in
    record { fits = omega (arith, f.inside) }

pub returns : goal.returns
returns c = record {
  answer = ap (λ (x : Execute). Frame.Good (length c.args.s.now) (Request.Execute x)) c.execute_of-execute.ensures
      ∙ ap (execute_from c.args.s.now)
      (run_found c.args.s.now payload c.args.n (sym c.in-Some.is ∙ c.read_bound.ensures.answer) c.in-Some-one.is);
  told = c.read_bound.ensures.told (ap is_some c.in-Some.is);
}
