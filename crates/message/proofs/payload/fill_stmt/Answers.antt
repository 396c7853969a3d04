-- A whole statement is one in one part.
use Rattle.prelude.proofs.Basics.{◌≡◌, ◌||◌, sym, subst, ◌∙◌, List, or_same}
use Rattle.message.proofs.Names.{one_part, parts_of, merged, parts_padded, payload, Holds, Part, held_one, one_flag}
use Rattle.layout.specs.Row.{columns_of}
use Rattle.message.proofs.payload.fill_stmt.Goals as goal

pub returns-in-Some : goal.returns-in-Some
returns-in-Some c =
    let s = c.args.s.now in
    let at = c.in-Some.whole.start in
    let n = c.in-Some.whole.len in
    let once : parts_of c.args.k s payload ≡ one_part at n = rw c.in-Some.is at c.requires in record {
      holds =
          subst (λ (ps : List Part). Holds (merged (columns_of c.args.rows.now) s ps) c.fill_part.result c.fill_part.new.self)
          (sym once) (held_one (columns_of c.args.rows.now) s at n c.fill_part.ensures.holds);
      told = λ good.
          subst (λ (ps : List Part). c.fill_part.new.padded ≡ (c.args.padded.now || parts_padded s ps)) (sym once)
          (c.fill_part.ensures.told ∙ or_same c.args.padded.now (one_flag s at n));
    }

pub returns-in-None : goal.returns-in-None
returns-in-None c =
    let parts = c.of_message.ensures in record {
      holds = rw (parts.parts, parts.of) at c.merge.ensures.holds;
      told = rw (parts.parts, parts.of) at c.merge.ensures.told;
    }
