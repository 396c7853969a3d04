-- By the laws on one field and on two a short way answers what the rows do; the rest goes the long way.
use Rattle.prelude.proofs.Basics.{ℕ, ◌<◌, sym, ap, subst, ◌∙◌, List, take-length, or_none}
use Rattle.prelude.proofs.Basics.{or_same, or_then}
use Rattle.std.specs.Prelude.{Some}
use Rattle.args.proofs.Names.{one_part, any_type_of, scalar_padded, argument_padded}
use Rattle.args.specs.private.Pair.{pair_padded}
use Rattle.args.proofs.ScalarLaws.{object_read, array_read, scalar_read, long_argument_read}
use Rattle.args.proofs.InsideLaws.{object_flag, array_flag, scalar_flag, any_again}
use Rattle.args.proofs.kind.argument_type.Goals as goal

pub returns-in-Some-eq2 : goal.returns-in-Some-eq2
returns-in-Some-eq2 c =
    let alone = ap Some (sym c.in-Some-eq2.field-0-test) ∙ sym c.in-Some-eq2.is ∙ c.read_lone.ensures in record {
      answer = ap any_type_of (object_read c.args.s.now c.args.at c.args.n alone);
      told = λ _. or_none c.args.padded.now (object_flag c.args.s.now c.args.at c.args.n alone);
    }

pub returns-in-Some-eq3 : goal.returns-in-Some-eq3
returns-in-Some-eq3 c =
    let alone = ap Some (sym c.in-Some-eq3.field-0-test) ∙ sym c.in-Some-eq3.is ∙ c.read_lone.ensures in record {
      answer = ap any_type_of (array_read c.args.s.now c.args.at c.args.n alone);
      told = λ _. or_none c.args.padded.now (array_flag c.args.s.now c.args.at c.args.n alone);
    }

pub returns-then-key-eq-SCALAR_KEY : goal.returns-then-key-eq-SCALAR_KEY
returns-then-key-eq-SCALAR_KEY c =
    record {
      answer = c.scalar_type.ensures.answer ∙ ap any_type_of (scalar_read (record {
        is =
            sym c.read_pair.ensures.answer ∙ c.in-Some.is;
      }) c.if-key-eq-SCALAR_KEY.true);
      told = λ h.
          or_then c.args.padded.now (pair_padded c.args.s.now c.args.at c.args.n)
          (scalar_padded c.args.s.now (one_part c.in-Some.field-0.start c.in-Some.field-0.value)) c.read_pair.ensures.told
          (c.scalar_type.ensures.told h) (scalar_flag (record {
            is =
                sym c.read_pair.ensures.answer ∙ c.in-Some.is;
          }) c.if-key-eq-SCALAR_KEY.true);
    }

pub returns : goal.returns
returns c =
    let s = c.args.s.now in
    let is = c.any_type.ensures ∙ ap any_type_of
    (long_argument_read s c.args.at c.args.n c.long_argument.ensures.answer) in record {
      answer = is;
      told = λ h.
          or_then c.args.padded.now (pair_padded s c.args.at c.args.n) (argument_padded s c.args.at c.args.n)
          c.read_pair.ensures.told
          (c.long_argument.ensures.told (subst (λ (k : ℕ). 0 < k) c.any_type.ensures h)
          ∙ or_same c.read_pair.new.padded
          (ap (λ (l : List ℕ). argument_padded l c.args.at c.args.n) (take-length s)))
          (any_again s c.args.at c.args.n (subst (λ (k : ℕ). 0 < k) is h));
    }
