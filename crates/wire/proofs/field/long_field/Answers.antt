-- A tag and what stands behind it, in bytes that are lent anew.
use Rattle.prelude.proofs.Basics.{ℕ, sym, ap, ◌∙◌, List, length, take-length, or_false, or_same}
use Rattle.prelude.proofs.Basics.{or_then}
use Rattle.wire.proofs.Names.{padded_at, tag_at, field_of, value_padded}
use Rattle.wire.proofs.FieldLaws.{field_tagged}
use Rattle.wire.proofs.PaddedLaws.{field_flag}
use Rattle.std.specs.Prelude.{None}
use Rattle.wire.proofs.field.long_field.Goals as goal

pub slice_bounds-read_tag-end : goal.slice_bounds-read_tag-end
slice_bounds-read_tag-end c = sym (ap length (take-length c.args.s.now))

pub slice_bounds-tagged-end : goal.slice_bounds-tagged-end
slice_bounds-tagged-end c = sym (ap length (take-length c.args.s.now))

pub returns : goal.returns
returns c =
    let s = c.args.s.now in
    record {
      answer = c.tagged.ensures.answer
          ∙ ap (λ (l : List ℕ). field_of l c.in_ok-tag.tag.number c.in_ok-tag.tag.wire c.in_ok-tag.tag.next) (take-length s)
          ∙ sym (field_tagged s c.args.at _ ((
          sym (c.read_tag.ensures.answer ∙ ap (λ (l : List ℕ). tag_at l c.args.at) (take-length c.args.s.now))
          ∙ c.in_ok-tag.was)));
      told = or_then c.args.padded.now (padded_at s c.args.at) (value_padded s c.in_ok-tag.tag.wire c.in_ok-tag.tag.next) ((
          c.read_tag.ensures.told
          ∙ or_same c.args.padded.now (ap (λ (l : List ℕ). padded_at l c.args.at) (take-length c.args.s.now))))
          (c.tagged.ensures.told
          ∙ or_same c.read_tag.new.padded
          (ap (λ (l : List ℕ). value_padded l c.in_ok-tag.tag.wire c.in_ok-tag.tag.next) (take-length s)))
          (field_flag s c.args.at _ ((
          sym (c.read_tag.ensures.answer ∙ ap (λ (l : List ℕ). tag_at l c.args.at) (take-length c.args.s.now))
          ∙ c.in_ok-tag.was)));
    }

pub returns-in_err-tag : goal.returns-in_err-tag
returns-in_err-tag c =
    let s = c.args.s.now in
    let none = sym (c.read_tag.ensures.answer ∙ ap (λ (l : List ℕ). tag_at l c.args.at) (take-length s)) ∙ c.in_err-tag.was in
    record {
      answer = c.from_residual.ensures ∙ sym (field_tagged s c.args.at _ none);
      told = (
          c.read_tag.ensures.told
          ∙ or_same c.args.padded.now (ap (λ (l : List ℕ). padded_at l c.args.at) (take-length s)))
          ∙ or_same c.args.padded.now (or_false (padded_at s c.args.at) ∙ field_flag s c.args.at None none);
    }
