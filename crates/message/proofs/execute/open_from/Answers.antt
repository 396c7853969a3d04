-- What one pass finds is the Execute, or there is none.
use Rattle.prelude.proofs.Basics.{arith, false, sym, ap, ◌∙◌}
use Rattle.std.specs.Option.{is_some}
use Rattle.message.proofs.Names.{bound_found, open_from}
use Rattle.message.proofs.BoundLaws.{run_lost, run_lacks, run_found}
use Rattle.message.proofs.execute.open_from.Goals as goal

pub returns-in_default : goal.returns-in_default
returns-in_default c = record {
  answer = ap (open_from c.args.s.now c.args.id c.args.rows c.args.body)
      (run_lost c.args.s.now c.args.body.start c.args.body.len (sym c.in_default.is ∙ c.read_bound.ensures.answer));
  told = tt;
}

pub returns-in_default-one : goal.returns-in_default-one
returns-in_default-one c = record {
  answer = ap (open_from c.args.s.now c.args.id c.args.rows c.args.body)
      (run_lacks c.args.s.now c.args.body.start c.args.body.len (sym c.in-Some.is ∙ c.read_bound.ensures.answer)
      c.in_default-one.is);
  told = tt;
}

pub overflow_add-body : goal.overflow_add-body
overflow_add-body c =
    let f = bound_found false c.args.s.now c.args.body.start c.args.body.len (sym c.in-Some.is ∙ c.read_bound.ensures.answer) in
    record { fits = omega (arith, f.inside) }

pub returns : goal.returns
returns c =
    record {
      answer = rw c.execute_of.ensures
          (rw c.low.ensures
          (ap (open_from c.args.s.now c.args.id c.args.rows c.args.body)
          (run_found c.args.s.now c.args.body.start c.args.body.len (sym c.in-Some.is ∙ c.read_bound.ensures.answer) c.in-Some-one.is)));
      told = c.read_bound.ensures.told (ap is_some c.in-Some.is);
    }
