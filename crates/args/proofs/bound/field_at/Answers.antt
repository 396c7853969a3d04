-- An args field is known by its tag; the rest goes the long way.
use Rattle.prelude.proofs.Basics.{arith, refl, sym, ap, ◌∙◌, or_same}
use Rattle.args.proofs.Names.{of_value, quick_flag}
use Rattle.args.proofs.PlaceLaws.{args_here}
use Rattle.args.proofs.bound.field_at.Goals as goal

pub returns-then-s-at-eq-ARGS_TAG : goal.returns-then-s-at-eq-ARGS_TAG
returns-then-s-at-eq-ARGS_TAG c =
    let inside = c.if-at-n.true in record {
      answer = c.valued.ensures
          ∙ ap (of_value 2 2) c.length_value.ensures.answer
          ∙ args_here c.args.s.now c.args.at inside c.if-s-at-eq-ARGS_TAG.true;
      told = c.length_value.ensures.told
          ∙ or_same c.args.padded.now
          (quick_flag c.args.s.now c.args.at 18 inside (sym c.if-s-at-eq-ARGS_TAG.true) (omega arith) 2
          (omega arith) refl
          (omega arith));
    }
