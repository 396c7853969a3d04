-- `wire::tag::long_tag` meets its contract: each test of the code is one of tag_of's, in its order. Assumes nothing.
use Rattle.prelude.proofs.Basics.{sym, ap, ◌∙◌}
use Rattle.wire.proofs.Names.{tag_of}
use Rattle.wire.proofs.TagLaws.{tag_high, tag_low, tag_unlisted, tag_good}
use Rattle.wire.proofs.tag.long_tag.Goals as goal

pub returns-then-tag-ge-COUNT : goal.returns-then-tag-ge-COUNT
returns-then-tag-ge-COUNT c = record {
  answer =
      tag_high _ _ c.if-tag-ge-COUNT.true ∙ ap tag_of (sym c.in_ok-tag.was ∙ c.read_behind.ensures.answer);
  told =
      c.read_behind.ensures.told;
}

pub returns-then-tag-lt8 : goal.returns-then-tag-lt8
returns-then-tag-lt8 c = record {
  answer =
      tag_low _ _ c.if-tag-ge-COUNT.false c.if-tag-lt8.true ∙ ap tag_of (sym c.in_ok-tag.was
      ∙ c.read_behind.ensures.answer);
  told = c.read_behind.ensures.told;
}

pub returns-then-tag-ge6 : goal.returns-then-tag-ge6
returns-then-tag-ge6 c = record {
  answer = tag_unlisted _ _ c.if-tag-ge-COUNT.false c.if-tag-lt8.false c.if-tag-ge6.true
      ∙ ap tag_of (sym c.in_ok-tag.was ∙ c.read_behind.ensures.answer);
  told = c.read_behind.ensures.told;
}

pub returns : goal.returns
returns c = record {
  answer = tag_good _ _ c.if-tag-ge-COUNT.false c.if-tag-lt8.false c.if-tag-ge6.false
      ∙ ap tag_of (sym c.in_ok-tag.was ∙ c.read_behind.ensures.answer);
  told = c.read_behind.ensures.told;
}
