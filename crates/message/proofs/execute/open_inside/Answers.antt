-- Each arm is one clause of of_inner.
use Rattle.prelude.proofs.Basics.{◌≡◌, refl, sym, ap, subst, ◌∙◌, length, or_then, Option, Some}
use Rattle.protocol.specs.Client as Client
use Rattle.message.proofs.Names.{parts_padded, execute_padded, twice, open_parts, execute_parts, Inner}
use Rattle.message.proofs.Names.{executes_padded}
use Rattle.message.specs.private.Parts.{of_inner}
use Rattle.message.specs.private.Marks.{TellsInner}
use Rattle.message.proofs.PaddedLaws.{tells_as, tells_twice, execute_flag, executes_flag}
use Rattle.message.proofs.execute.open_inside.Goals as goal

pub returns-in-Some-Once : goal.returns-in-Some-Once
returns-in-Some-Once c =
    let s = c.args.s.now in
    let ps = open_parts s in
    let found : c.find_execute.result ≡ Some (Inner.Once c.in-Some-Once.body) =
    c.in-Some-Once.is ∙ ap (λ (i : Inner). Some i) c.in-Some-Once.field-0-is in
    let told =
    subst (λ (r : Option Inner). TellsInner s ps r c.args.padded.now c.find_execute.new.padded)
    found
    c.find_execute.ensures.told in record {
      answer = c.open_from.ensures.answer
          ∙ ap (of_inner s ps c.args.opening.id c.args.opening.rows) (sym found)
          ∙ c.find_execute.ensures.answer c.args.opening.id c.args.opening.rows;
      told = tells_as c.open_from.result c.open_from.new.padded
          (or_then c.args.padded.now (parts_padded s ps)
          (execute_padded s c.in-Some-Once.body.start c.in-Some-Once.body.len) told.0.0 refl
          (execute_flag s ps told.1))
          c.open_from.ensures.told;
    }

pub returns-in-Some-Twice : goal.returns-in-Some-Twice
returns-in-Some-Twice c =
    let s = c.args.s.now in
    let ps = open_parts s in
    let found : c.find_execute.result ≡ Some Inner.Twice =
    c.in-Some-Twice.is ∙ ap (λ (i : Inner). Some i) c.in-Some-Twice.field-0-is in
    let told =
    subst (λ (r : Option Inner). TellsInner s ps r c.args.padded.now c.find_execute.new.padded)
    found c.find_execute.ensures.told in record {
      answer = c.refused.ensures
          ∙ ap (twice (length s) Client.open') c.good_executes.ensures.answer
          ∙ ap (of_inner s ps c.args.opening.id c.args.opening.rows) (sym found)
          ∙ c.find_execute.ensures.answer c.args.opening.id c.args.opening.rows;
      told = tells_twice c.refused.result (length s) Client.open' c.good_executes.result c.refused.ensures
          (λ e.
          or_then c.args.padded.now (parts_padded s ps) (executes_padded s (execute_parts s)) told.0
          (c.good_executes.ensures.told e) (executes_flag s ps));
    }
