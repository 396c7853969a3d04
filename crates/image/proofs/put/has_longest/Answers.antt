-- The place is compared with the last one that has room behind it. Assumes nothing.
use Rattle.prelude.proofs.Basics.{◌+◌, arith, sym, ◌∙◌, lt-leb, le-leb, less_or_not, ◌-◌}
use Rattle.image_rules.specs.Image.{most_number}
use Rattle.image.proofs.put.has_longest.Goals as goal

pub returns-then-size-lt-LONGEST : goal.returns-then-size-lt-LONGEST
returns-then-size-lt-LONGEST c = sym (lt-leb (c.args.at + most_number) c.args.size (omega arith))

pub returns : goal.returns
returns c =
    less_or_not (c.args.size - most_number) c.args.at
    (λ h. lt-leb c.args.at (c.args.size - most_number) h
    ∙ sym (lt-leb (c.args.at + most_number) c.args.size (omega arith)))
    (λ h. le-leb c.args.at (c.args.size - most_number) h
    ∙ sym (le-leb (c.args.at + most_number) c.args.size (omega arith)))
