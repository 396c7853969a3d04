-- `args::value::any_scalar` meets its contract: none, one part or several. Assumes nothing.
use Rattle.prelude.proofs.Basics.{◌∙◌, or_same}
use Rattle.args.proofs.PartedLaws.{here, parted_cut, parted_flag_cut}
use Rattle.args.proofs.value.any_scalar.Goals as goal

pub returns : goal.returns
returns c =
    let within = c.requires.n_in_bounds in record {
      answer = c.parted_scalar.ensures.answer
          ∙ parted_cut c.args.s.now c.args.at c.args.n within
          ∙ here c.args.slot.times _ c.if-slot-eq0.false;
      told = λ h.
          c.parted_scalar.ensures.told h
          ∙ or_same c.args.padded.now (parted_flag_cut c.args.s.now c.args.at c.args.n within);
    }
