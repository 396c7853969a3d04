-- A body that occurs more than once, part by part: whether every argument is good, and whether any varint is padded.
-- Assumes nothing.
use Rattle.prelude.proofs.Basics.{ℕ, ◌≤◌, Bool, true, false, ◌&&◌, ◌||◌, ◌≡◌, refl, sym, ap, subst}
use Rattle.prelude.proofs.Basics.{◌∙◌, List, [], ◌∷◌, length, take, le-leb, or_assoc, or_false, yes}
use Rattle.layout.proofs.MergeLaws.{AllWithin}
use Rattle.args.specs.Padded.{bound_padded}
use Rattle.message.proofs.Names.{end_of, Part, arguments_in, Arguments}
use Rattle.message.proofs.Names.{execute_padded}
use Rattle.message.proofs.Names.{arguments_within, arguments_good, executes_padded}
use Rattle.message.proofs.MessageLaws.{within_there}

-- the parts that are left answer for all
pub record Judging (s : List ℕ) (all : List Part) (padded₀ : Bool) (ps : List Part) (padded : Bool) : Type 0 where
  pub within : AllWithin (length s) ps
  pub whole : arguments_good s ps ≡ arguments_good s all
  pub flag : (padded || executes_padded s ps) ≡ (padded₀ || executes_padded s all)

pub judging : (s : List ℕ) (ps : List Part) (padded : Bool) → AllWithin (length s) ps → Judging s ps padded ps padded
judging s ps padded within = record { within = within; whole = refl; flag = refl }

module _ {s : List ℕ} {all : List Part} {padded₀ : Bool} {ps : List Part} {padded : Bool}
    (j : Judging s all padded₀ ps padded) where
  -- no part is left
  pub judged : ps ≡ [] → true ≡ arguments_good s all
  unfolding arguments_good
  judged none = ap (arguments_good s) (sym none) ∙ j.whole

  pub judged_flag : ps ≡ [] → padded ≡ (padded₀ || executes_padded s all)
  unfolding executes_padded
  judged_flag none = or_false padded ∙ ap (λ (ps : List Part). padded || executes_padded s ps) (sym none) ∙ j.flag

  -- a part, and others
  module _ {p : Part} {qs : List Part} (first : ps ≡ p ∷ qs) where
    pub judged_within : end_of p ≤ length s
    unfolding AllWithin
    judged_within = (subst (AllWithin (length s)) first j.within).0

    -- it is read in the bytes that are cut off behind it
    good-there : (arguments_in (take (end_of p) s) p.start).good ≡ (arguments_within s p.start p.len).good
    good-there = ap (λ (a : Arguments). a.good) (within_there s p.start p.len judged_within)

    flag-there : bound_padded (take (end_of p) s) p.start ≡ execute_padded s p.start p.len
    unfolding execute_padded
    flag-there = yes (bound_padded (take (end_of p) s) p.start) false (le-leb (end_of p) (length s) judged_within)

    here : {b : Bool} → b ≡ (arguments_in (take (end_of p) s) p.start).good →
        (b && arguments_good s qs) ≡ arguments_good s all
    unfolding arguments_good
    here e =
        ap (λ (b : Bool). b && arguments_good s qs) (e ∙ good-there) ∙ ap (arguments_good s) (sym first) ∙ j.whole

    pub judged_bad : false ≡ (arguments_in (take (end_of p) s) p.start).good → false ≡ arguments_good s all
    judged_bad e = here e

    pub judged_good : true ≡ (arguments_in (take (end_of p) s) p.start).good → {padded' : Bool} →
        padded' ≡ (padded || bound_padded (take (end_of p) s) p.start) → Judging s all padded₀ qs padded'
    unfolding AllWithin executes_padded
    judged_good e {padded'} w =
        record {
          within = (subst (AllWithin (length s)) first j.within).1;
          whole = here e;
          flag =
              ap (λ (b : Bool). b || executes_padded s qs) (w ∙ ap (λ (b : Bool). padded || b) flag-there)
              ∙ or_assoc padded (execute_padded s p.start p.len) (executes_padded s qs)
              ∙ ap (λ (ps : List Part). padded || executes_padded s ps) (sym first)
              ∙ j.flag;
        }
