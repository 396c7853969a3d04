-- One call of the printer, put together from its parts. Assumes nothing.
use Rattle.prelude.proofs.Basics.{ℕ, ◌+◌, ◌-◌, ◌≤◌, min, arith, ◌≡◌, refl, sym, ap, ap₂, subst, ◌∙◌, List, ◌++◌, length}
use Rattle.prelude.proofs.Basics.{take, drop, length-append, length-drop, length-take, take-append-drop, drop_at}
use Rattle.prelude.proofs.Basics.{length-take-le, take-add, take_at, le-leb}
use Rattle.trace_line.proofs.Names.{Session, written, put_fits, length_written, Lines, stands_first, lines_within}
use Rattle.trace_line.proofs.Names.{print_of, Printer, Walk, Result, RecordError}
use Rattle.trace_line.specs.declared.printer.Printed.{Printed}
use Rattle.trace_line.specs.private.Walk.{Walks}
use Rattle.trace_line.specs.Printer.{Print}
use Rattle.trace_line.proofs.ChunkLaws.{have, came, came_length, came_fits}

-- from one place up to another
between : (l : List ℕ) (a e : ℕ) → a ≤ e → a ≤ length l → take (e - a) (drop a l) ≡ drop a (take e l)
between l a e h g =
    sym (drop_at (take a l) (take (e - a) (drop a l)) a (length-take-le a l g))
    ∙ ap (drop a) (sym (take-add a (e - a) l) ∙ ap (λ (k : ℕ). take k l) up)
  where
    up : a + (e - a) ≡ e
    up = omega arith

-- bytes put behind the first ones of a list
front_written : (l bytes : List ℕ) (a : ℕ) → a + length bytes ≤ length l →
    take (a + length bytes) (written l a bytes) ≡ take a l ++ bytes
front_written l bytes a h =
    rw (le-leb (a + length bytes) (length l) h)
    (take_at (take a l ++ bytes) (drop (a + length bytes) l) (a + length bytes)
    (length-append (take a l) bytes ∙ ap (λ (k : ℕ). k + length bytes) (length-take-le a l (omega arith))))

-- what a contract says of a call
abbrev pub Gives : Printed → Session → List ℕ → List ℕ → List ℕ → Print → Type 0
Gives r session store out after x =
    (r ≡ x.answer) × ((session ≡ x.session) × ((store ≡ x.store) × (after ≡ written out 0 x.lines)))

abbrev answer : ℕ → ℕ → ℕ → ℕ → Result (Unit {0}) RecordError → Printed
answer n held taken put first =
    record { printer = record { n = n; held = held }; taken = taken; put = put; first = first }

module _ (p : Printer) (session : Session) (store chunk out : List ℕ) where
  abbrev bytes : List ℕ
  bytes = have p store chunk ++ came p store chunk

  abbrev store₁ : List ℕ
  store₁ = written store (length (have p store chunk)) (came p store chunk)

  abbrev lines : Lines
  lines = lines_within (length bytes) (length out) session p.n bytes

  held-is : {h : ℕ} → h ≡ min p.held (length store) → h ≡ length (have p store chunk)
  held-is e = e ∙ sym (length-take p.held store)

  front-is : take (length (have p store chunk) + length (came p store chunk)) store₁ ≡ bytes
  front-is =
      front_written store (came p store chunk) (length (have p store chunk)) (came_fits p store chunk)
      ∙ ap (λ (l : List ℕ). l ++ came p store chunk) again
    where
      again : take (length (have p store chunk)) store ≡ have p store chunk
      again =
          ap (take (length (have p store chunk))) (sym (take-append-drop p.held store))
          ∙ take_at (have p store chunk) (drop p.held store) (length (have p store chunk)) refl

  -- the walk over the bytes held, from the end of which what is left is moved
  module _ {w : Walk} {session₁ : Session} {out₁ : List ℕ} (g : Walks bytes out lines w session₁ out₁) where
    abbrev end : ℕ
    end = length (have p store chunk) + length (came p store chunk)

    left_is : take (end - w.at) (drop w.at store₁) ≡ lines.left
    left_is =
        between store₁ w.at end (omega (arith, g.within, long))
        (omega (
          arith,
          g.within,
          long,
          came_fits p store chunk,
          length_written store (length (have p store chunk)) (came p store chunk),
        ))
        ∙ ap (drop w.at) front-is
        ∙ g.rest
      where
        long : length bytes ≡ end
        long = length-append (have p store chunk) (came p store chunk)

    held-left : end - w.at ≡ length lines.left
    held-left =
        omega (
          arith,
          ap length g.rest,
          length-drop w.at bytes,
          length-append (have p store chunk) (came p store chunk),
        )

    gives_all : {first : Result (Unit {0}) RecordError} {store₂ : List ℕ} →
        first ≡ stands_first (take (end - w.at) (drop w.at store₁)) →
        store₂ ≡ written store₁ 0 (take (end - w.at) (drop w.at store₁)) →
        Gives (answer w.n (end - w.at) (length (came p store chunk)) w.to first) session₁ store₂ out out₁
        (print_of p session store chunk (length out))
    unfolding print_of
    gives_all {first} {store₂} e f = (
      ap (λ (n : ℕ). answer n (end - w.at) (length (came p store chunk)) w.to first) g.number
          ∙ ap (λ (k : ℕ). answer lines.n k (length (came p store chunk)) w.to first) held-left
          ∙ ap (λ (k : ℕ). answer lines.n (length lines.left) (length (came p store chunk)) k first) put_is
          ∙ ap (answer lines.n (length lines.left) (length (came p store chunk)) (length lines.lines))
          (e ∙ ap stands_first left_is),
      (
        g.same,
        (f ∙ ap (written store₁ 0) left_is, g.puts.stored ∙ (put_fits out 0 lines.lines fits).1),
      ),
    )
      where
        put_is : w.to ≡ length lines.lines
        put_is = omega (arith, g.puts.behind, g.room)

        fits : 0 + length lines.lines ≤ length out
        fits = omega (arith, g.room)

  -- the same in the code's words
  pub printed : {h k : ℕ} {stored after : List ℕ} {w : Walk} {session₁ : Session} {out₁ : List ℕ}
      {first : Result (Unit {0}) RecordError} →
      h ≡ min p.held (length store) → k ≡ min (length chunk) (length store - h) →
      stored ≡ written store h (take k chunk) →
      Walks (take (h + k) stored) out
      (lines_within (length (take (h + k) stored)) (length out) session p.n (take (h + k) stored)) w session₁ out₁ →
      first ≡ stands_first (take (h + k - w.at) (drop w.at stored)) →
      after ≡ written stored 0 (take (h + k - w.at) (drop w.at stored)) →
      Gives (answer w.n (h + k - w.at) k w.to first) session₁ after out out₁
      (print_of p session store chunk (length out))
  printed {h} {k} {stored} {after} {w} {session₁} {out₁} {first} a b c g e f =
      rw (h-is, k-is)
      (gives_all
      (subst (λ (l : List ℕ).
      Walks l out (lines_within (length l) (length out) session p.n l) w session₁ out₁)
      whole_is g)
      (e ∙ ap stands_first part-is)
      (f ∙ ap₂ (λ (l m : List ℕ). written l 0 m) stored_is part-is))
    where
      h-is : h ≡ length (have p store chunk)
      h-is = held-is a

      k-is : k ≡ length (came p store chunk)
      k-is = b ∙ ap (λ (i : ℕ). min (length chunk) (length store - i)) h-is ∙ sym (came_length p store chunk)

      came-is : take k chunk ≡ came p store chunk
      came-is = ap (λ (i : ℕ). take i chunk) (k-is ∙ came_length p store chunk)

      stored_is : stored ≡ store₁
      stored_is =
          c
          ∙ ap (λ (i : ℕ). written store i (take k chunk)) h-is
          ∙ ap (written store (length (have p store chunk))) came-is

      end_is : h + k ≡ length (have p store chunk) + length (came p store chunk)
      end_is = omega (arith, h-is, k-is)

      whole_is : take (h + k) stored ≡ bytes
      whole_is = ap (λ (i : ℕ). take i stored) end_is
          ∙ ap (take (length (have p store chunk) + length (came p store chunk))) stored_is
          ∙ front-is

      part-is : take (h + k - w.at) (drop w.at stored)
          ≡ take (length (have p store chunk) + length (came p store chunk) - w.at) (drop w.at store₁)
      part-is =
          ap (λ (i : ℕ). take (i - w.at) (drop w.at stored)) end_is
          ∙ ap (λ (l : List ℕ).
          take (length (have p store chunk) + length (came p store chunk) - w.at) (drop w.at l)) stored_is
