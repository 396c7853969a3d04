-- Each key names a type and the tag of its value; by the laws on them the rows hold such a value, which is a scalar.
use Rattle.prelude.proofs.Basics.{ℕ, ◌<◌, refl, sym, ap, subst, ◌∙◌, List}
use Rattle.prelude.proofs.Basics.{take-length, or_none, or_same, or_then}
use lib.Ieee.{binary32, binary64, of_bits, nan_bits}
use Rattle.scalar.specs.declared.argument.Argument.TheVariants as Va
use Rattle.std.specs.Prelude.{Some}
use Rattle.args.proofs.Names.{low32, one_part, part_padded, any_type_of, scalar_padded}
use Rattle.args.specs.private.Pair.{pair_padded}
use Rattle.args.proofs.ScalarLaws.{null_read, long_scalar_read, sint_read, uint_read}
use Rattle.args.proofs.ScalarLaws.{octets_read, double_read, float_read, bool_read, string_read}
use Rattle.args.proofs.InsideLaws.{null_flag, sint_flag, uint_flag, octets_flag, double_flag, float_flag}
use Rattle.args.proofs.InsideLaws.{bool_flag, string_flag, scalar_again}
use Rattle.args.proofs.KindLaws.{either_scalar}
use Rattle.args.proofs.kind.scalar_type.Goals as goal

pub returns-in-Some-eq3 : goal.returns-in-Some-eq3
returns-in-Some-eq3 c =
    let alone = ap Some (sym c.in-Some-eq3.field-0-test) ∙ sym c.in-Some-eq3.is ∙ c.read_lone.ensures in record {
      answer = ap any_type_of (null_read c.args.s.now c.args.at c.args.n alone);
      told = λ _. or_none c.args.padded.now (null_flag c.args.s.now c.args.at c.args.n alone);
    }

pub returns-in-272 : goal.returns-in-272
returns-in-272 c = record {
  answer = ap any_type_of (sint_read (record {
    is =
        sym c.read_pair.ensures.answer ∙ c.in-Some.is;
  }) c.in-272.is);
  told =
      λ _. (c.read_pair.ensures.told ∙ or_same c.args.padded.now (sint_flag (record {
        is =
            sym c.read_pair.ensures.answer ∙ c.in-Some.is;
      }) c.in-272.is));
}

pub returns-in-536 : goal.returns-in-536
returns-in-536 c = record {
  answer = ap any_type_of (uint_read (record {
    is =
        sym c.read_pair.ensures.answer ∙ c.in-Some.is;
  }) c.in-536.is);
  told =
      λ _. (c.read_pair.ensures.told ∙ or_same c.args.padded.now (uint_flag (record {
        is =
            sym c.read_pair.ensures.answer ∙ c.in-Some.is;
      }) c.in-536.is));
}

pub returns-in-1066 : goal.returns-in-1066
returns-in-1066 c = let key = c.in-1066.is in record {
  answer = c.any_type.ensures ∙ ap any_type_of (octets_read (record {
    is =
        sym c.read_pair.ensures.answer ∙ c.in-Some.is;
  }) key c.read_bytes.ensures.answer);
  told = λ _. (
      or_then c.args.padded.now (pair_padded c.args.s.now c.args.at c.args.n)
      (part_padded c.args.s.now c.in-Some.field-0.start c.in-Some.field-0.value) c.read_pair.ensures.told
      (c.read_bytes.ensures.told
      ∙ or_same c.read_pair.new.padded
      (ap (λ (l : List ℕ). part_padded l c.in-Some.field-0.start c.in-Some.field-0.value) (take-length c.args.s.now))) (octets_flag
      (record { is = sym c.read_pair.ensures.answer ∙ c.in-Some.is }) key));
}

pub returns-in-1329 : goal.returns-in-1329
returns-in-1329 c = let v = c.in-Some.field-0.value in record {
  answer = either_scalar (nan_bits binary64 v) (Va.DoubleNan v) (Va.Double (of_bits binary64 v)) refl refl
      ∙ ap any_type_of (double_read (record { is = sym c.read_pair.ensures.answer ∙ c.in-Some.is }) c.in-1329.is);
  told = λ _. (c.read_pair.ensures.told ∙ or_same c.args.padded.now (double_flag (record {
    is =
        sym c.read_pair.ensures.answer ∙ c.in-Some.is;
  }) c.in-1329.is));
}

pub returns-in-1597 : goal.returns-in-1597
returns-in-1597 c = let v = low32 c.in-Some.field-0.value in record {
  answer = either_scalar (nan_bits binary32 v) (Va.FloatNan v) (Va.Float (of_bits binary32 v)) refl refl
      ∙ ap any_type_of (float_read (record { is = sym c.read_pair.ensures.answer ∙ c.in-Some.is }) c.in-1597.is);
  told = λ _. (c.read_pair.ensures.told ∙ or_same c.args.padded.now (float_flag (record {
    is =
        sym c.read_pair.ensures.answer ∙ c.in-Some.is;
  }) c.in-1597.is));
}

pub returns-in-1856 : goal.returns-in-1856
returns-in-1856 c = record {
  answer = ap any_type_of (bool_read (record {
    is =
        sym c.read_pair.ensures.answer ∙ c.in-Some.is;
  }) c.in-1856.is);
  told =
      λ _. (c.read_pair.ensures.told ∙ or_same c.args.padded.now (bool_flag (record {
        is =
            sym c.read_pair.ensures.answer ∙ c.in-Some.is;
      }) c.in-1856.is));
}

pub returns-in-2122 : goal.returns-in-2122
returns-in-2122 c = let key = c.in-2122.is in record {
  answer = c.any_type-in-2122.ensures ∙ ap any_type_of (string_read (record {
    is =
        sym c.read_pair.ensures.answer ∙ c.in-Some.is;
  }) key c.read_bytes-in-2122.ensures.answer);
  told = λ _. (
      or_then c.args.padded.now (pair_padded c.args.s.now c.args.at c.args.n)
      (part_padded c.args.s.now c.in-Some.field-0.start c.in-Some.field-0.value) c.read_pair.ensures.told
      (c.read_bytes-in-2122.ensures.told
      ∙ or_same c.read_pair.new.padded
      (ap (λ (l : List ℕ). part_padded l c.in-Some.field-0.start c.in-Some.field-0.value) (take-length c.args.s.now))) (string_flag
      (record { is = sym c.read_pair.ensures.answer ∙ c.in-Some.is }) key));
}

pub returns : goal.returns
returns c =
    let s = c.args.s.now in
    let is = c.any_type-2.ensures ∙ ap any_type_of
    (long_scalar_read s c.args.at c.args.n c.long_scalar.ensures.answer)
    in record {
      answer = is;
      told = λ h.
          or_then c.args.padded.now (pair_padded s c.args.at c.args.n) (scalar_padded s (one_part c.args.at c.args.n))
          c.read_pair.ensures.told
          (c.long_scalar.ensures.told (subst (λ (k : ℕ). 0 < k) c.any_type-2.ensures h)
          ∙ or_same c.read_pair.new.padded
          (ap (λ (l : List ℕ). scalar_padded l (one_part c.args.at c.args.n)) (take-length s)))
          (scalar_again s c.args.at c.args.n (subst (λ (k : ℕ). 0 < k) is h));
    }
