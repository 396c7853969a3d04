-- An argument reads alike in bytes that are cut off behind it. Assumes nothing.
use Rattle.prelude.proofs.Basics.{ℕ, ◌+◌, ◌≤◌, ◌<◌, arith, Bool, true, false, ◌||◌, cond, ◌≡◌, sym, ap, ap₂, ◌∙◌}
use Rattle.prelude.proofs.Basics.{List, length, take, take-take, lt-leb}
use Rattle.layout.proofs.MergeLaws.{flags_cut}
use Rattle.args.proofs.Names.{Argument, any, scalar, bytes, rows_of, embedded, value_of, low32, one_part}
use Rattle.args.proofs.Names.{parts_of, parts_in, merged, parts_padded, Part, Slots, AllWithin, one_part_lem, parts_by}
use Rattle.args.proofs.Names.{one_within, inner_within, inner_cut, merged_cut, bad, bytes_of, bytes_in}
use Rattle.args.proofs.Names.{of_type, scalar_of, scalar_in, of_any_type, any_of, scalar_parts, argument_in}
use Rattle.args.proofs.Names.{inside_scalar, scalar_padded}
use Rattle.args.proofs.ValueLaws.{any_bad}

module _ (s : List ℕ) (e : ℕ) (few : e ≤ length s) where
  pub bytes_cut : (octets : Bool) (ps : List Part) → AllWithin e ps → bytes_in octets (take e s) ps ≡ bytes_in octets s ps
  bytes_cut octets ps w = ap (bytes_of octets) (merged_cut (rows_of bytes) s e few ps w)

  module _ (ps : List Part) (w : AllWithin e ps) where
    -- the octets and the string inside a Scalar
    inner-bytes : (octets : Bool) (k : ℕ) →
        bytes_in octets (take e s) (parts_in k (take e s) ps) ≡ bytes_in octets s (parts_in k s ps)
    inner-bytes octets k =
        ap (bytes_in octets (take e s)) (inner_cut k s e ps w)
        ∙ bytes_cut octets (parts_in k s ps) (inner_within k s e ps w)

    type-cut : (x : Slots) (t : ℕ) → of_type (take e s) ps x t ≡ of_type s ps x t
    unfolding of_type
    type-cut x t = rw (inner-bytes true 5, inner-bytes false 9)

    pub scalar_cut : scalar_in (take e s) ps ≡ scalar_in s ps
    unfolding scalar_of
    scalar_cut =
        ap (scalar_of (take e s) ps) (merged_cut (rows_of scalar) s e few ps w)
        ∙ ap (λ (a : Argument). cond (merged (rows_of scalar) s ps).good a bad)
        (type-cut (merged (rows_of scalar) s ps) (low32 (value_of (merged (rows_of scalar) s ps) 1)))

    -- and whether anything in it is padded
    inner-flags : (k : ℕ) → parts_padded (take e s) (parts_in k (take e s) ps) ≡ parts_padded s (parts_in k s ps)
    inner-flags k =
        ap (parts_padded (take e s)) (inner_cut k s e ps w)
        ∙ flags_cut s e few (parts_in k s ps) (inner_within k s e ps w)

    pub inside_cut : (x : Slots) → inside_scalar (take e s) ps x ≡ inside_scalar s ps x
    unfolding inside_scalar
    inside_cut x = rw (inner-flags 5, inner-flags 9)

    pub scalar_flag_cut : scalar_padded (take e s) ps ≡ scalar_padded s ps
    unfolding scalar_padded
    scalar_flag_cut =
        ap₂ ◌||◌ (flags_cut s e few ps w)
        (ap (inside_scalar (take e s) ps) (merged_cut (rows_of scalar) s e few ps w)
        ∙ inside_cut (merged (rows_of scalar) s ps))

    pub any_cut : (x : Slots) → any_of (take e s) ps x ≡ any_of s ps x
    unfolding any_of of_any_type
    any_cut x = rw scalar_cut

-- a message in one part
pub embedded_cut : (rows : List (List ℕ)) (s : List ℕ) (e : ℕ) → e ≤ length s → (at n : ℕ) → at + n ≤ e →
    embedded rows (take e s) at n ≡ embedded rows s at n
embedded_cut rows s e few at n h =
    sym (one_part_lem rows (take e s) (record { start = at; len = n }))
    ∙ merged_cut rows s e few (one_part at n) (one_within at n e h)
    ∙ one_part_lem rows s (record { start = at; len = n })

pub argument_cut : (s : List ℕ) (at n : ℕ) → at + n ≤ length s → argument_in (take (at + n) s) at n ≡ argument_in s at n
argument_cut s at n h =
    let e = at + n in
    ap₂ (any_of (take e s)) (ap (λ (l : List ℕ). parts_of 2 l at) (take-take e e s (omega arith)))
    (embedded_cut (rows_of any) s e h at n (omega arith))
    ∙ any_cut s e h (scalar_parts s at n) (parts_by 2 s at e) (embedded (rows_of any) s at n)

-- one that is not all there is bad
pub argument_past : (s : List ℕ) (at n : ℕ) → length s < at + n → bad ≡ argument_in s at n
argument_past s at n h =
    any_bad s (scalar_parts s at n) (embedded (rows_of any) s at n) (rw (lt-leb (at + n) (length s) h))
