-- Two short fields are read by their bytes alone, to the slots that the rows give; anything else goes the long way.
use Rattle.prelude.proofs.Basics.{arith, ◌≡◌, sym, subst, ◌∙◌, List, take-length, or_same, Some}
use Rattle.message.proofs.Names.{one_part, Part, Held, pair_part, one_flag, open_parts}
use Rattle.message.proofs.Names.{Inner}
use Rattle.message.specs.private.Parts.{Runs}
use Rattle.message.specs.private.Marks.{TellsInner}
use Rattle.message.proofs.PaddedLaws.{inner_again}
use Rattle.message.proofs.PairedLaws.{open_paired, open_good, execute_one}
use Rattle.message.proofs.execute.find_execute.Goals as goal

pub returns-then-key-eq-CHOSEN_EXECUTE : goal.returns-then-key-eq-CHOSEN_EXECUTE
returns-then-key-eq-CHOSEN_EXECUTE c =
    let whole : open_parts c.args.s.now ≡ one_part c.in-Some.whole.start c.in-Some.whole.len = rw c.in-Some.is at c.requires in
    let held : Held c.args.s.now c.in-Some.whole.start c.in-Some.whole.len c.in-Some-read_pair.field-0
    = record { is = sym c.read_pair.ensures.answer ∙ c.in-Some-read_pair.is } in
    let s = c.args.s.now in
    let found = Some (Inner.Once (record { start = c.in-Some-read_pair.field-0.start; len = c.in-Some-read_pair.field-0.value })) in
    let flag = c.read_pair.new.padded in record {
      answer = subst (λ (ps : List Part). Runs s ps found) (sym whole)
          (open_paired held c.if-key-eq-CHOSEN_EXECUTE.true);
      told = subst (λ (ps : List Part). TellsInner s ps found c.args.padded.now flag) (sym whole) (
        (
          c.read_pair.ensures.told
              ∙ or_same c.args.padded.now
              (pair_part held 0 18 c.if-key-eq-CHOSEN_EXECUTE.true (omega arith) (omega arith)
              ∙ one_flag s c.in-Some.whole.start c.in-Some.whole.len),
          open_good held c.if-key-eq-CHOSEN_EXECUTE.true,
        ),
        execute_one held c.if-key-eq-CHOSEN_EXECUTE.true,
      );
    }

pub returns : goal.returns
returns c =
    let s = c.args.s.now in
    let at = c.in-Some.whole.start in
    let n = c.in-Some.whole.len in
    let whole : open_parts s ≡ one_part at n = rw c.in-Some.is at c.requires in
    let all = take-length s in
    let answer = c.long_inner-2.result in
    let mid = c.read_pair.new.padded in
    let flag = c.long_inner-2.new.padded in record {
      answer = rw all at c.long_inner-2.ensures.answer;
      told = subst (λ (ps : List Part). TellsInner s ps answer c.args.padded.now flag) (sym whole)
          (inner_again s at n answer c.args.padded.now mid flag c.read_pair.ensures.told
          (subst (λ (ps : List Part). TellsInner s ps answer mid flag) whole (rw all at c.long_inner-2.ensures.told)));
    }
