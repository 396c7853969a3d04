-- A written Prepare reads back, with its body. Assumes nothing.
use Rattle.prelude.proofs.Basics.{ℕ, ◌+◌, ◌^◌, ◌<◌, arith, add-zero, mod-eq_of_lt, Bool, true, false, cond, ◌≡◌, refl}
use Rattle.prelude.proofs.Basics.{sym, ap, subst, ◌∙◌, List, [], ◌++◌, map, length, take, length-take-le, take_all, eqb}
use Rattle.protocol.specs.Client as Client
use Rattle.layout.specs.Table.{rows_of, prepare_stmt, stmt_execute}
use Rattle.args.proofs.MovedArgLaws.{embedded_alike, args_moved}
use Rattle.message.specs.Operation as Operation
use Rattle.layout.specs.Part.{count_of, value_of, start_of, len_of}
use Rattle.layout.specs.Merged.{one_part}
use Rattle.layout.specs.MergedRules.{holds_bytes}
use Rattle.layout.proofs.MergedLaws.{one_part_lem}
use Rattle.message.specs.Prepare.{body_in, prepare_by, prepare_typed, prepare_read, prepare_inside, stmt_parts, prepare_of}
use Rattle.message.specs.Prepare.{prepare_frame}
use Rattle.message.proofs.MessageLaws.{body_list, body_list_bad}
use Rattle.writer.proofs.Names.{tail_length, Stands, stands_length, stands_cut, tail_stands, stands_next}
use Rattle.writer.proofs.Names.{Argument, row_for, no_slots, use_of, fields_at, has_required, embedded, low32, Use}
use Rattle.writer.proofs.Names.{Slots, same_or_not, arguments_at, no_arguments, bad_arguments, arguments_in}
use Rattle.writer.proofs.Names.{arguments_from, together, moved, Arguments, payload, arguments_within, Frame}
use Rattle.writer.proofs.Names.{Request, payload_good, within_there, number_field, bytes_field, frame, is_type}
use Rattle.writer.proofs.Names.{good_body}
use Rattle.writer.proofs.FieldLaws.{with_number, with_bytes, reads_number, reads_bytes, reads_then, whole_good}
use Rattle.writer.proofs.FieldLaws.{embedded_good, stands_inside, parts_whole, parts_inner}
use Rattle.writer.proofs.JudgeLaws.{type_none}
use Rattle.writer.proofs.ArgListLaws.{together_kept, together_moved}
use Rattle.writer.proofs.BackLaws.{payload_tail}
use Rattle.writer.proofs.ExecuteBackLaws.{Held, part_start}

-- ---- the types

abbrev pub prepare_slots : ℕ → ℕ → ℕ → Slots
prepare_slots stmt at n = with_bytes 2 n at (with_number 1 stmt payload no_slots)

abbrev stmt_slots : ℕ → ℕ → ℕ → ℕ → ℕ → Slots
stmt_slots t k at far n = with_bytes k n far (with_number 1 t at no_slots)

-- what holds of a type t that chooses the field k
pub record Listed (t k : ℕ) : Type 0 where
  pub few : k < 10
  pub some : 0 < k
  pub small : t < 6
  type_kept : Use.Kept ≡ use_of (rows_of prepare_stmt) 1 0 t
  body_kept : (n : ℕ) → Use.Kept ≡ use_of (rows_of prepare_stmt) k 2 n
  needed : (at far n : ℕ) → true ≡ has_required (rows_of prepare_stmt) (stmt_slots t k at far n).count
  holds : holds_bytes (rows_of prepare_stmt) k ≡ true
  type-is : (at far n : ℕ) → low32 (value_of (stmt_slots t k at far n) 1) ≡ t
  once : (at far n : ℕ) → count_of (stmt_slots t k at far n) k ≡ 1
  stands : (at far n : ℕ) →
      one_part (start_of (stmt_slots t k at far n) k) (len_of (stmt_slots t k at far n) k) ≡ one_part (part_start k far n) n

listed_find : Listed Operation.find 2
unfolding rows_of row_for has_required
listed_find =
    record {
      few = omega arith;
      some = omega arith;
      small = omega arith;
      type_kept = refl;
      body_kept = λ n. refl;
      needed = λ at far n. refl;
      holds = refl;
      type-is = λ at far n. refl;
      once = λ at far n. refl;
      stands = λ at far n. refl;
    }

listed_insert : Listed Operation.insert 3
unfolding rows_of row_for has_required
listed_insert =
    record {
      few = omega arith;
      some = omega arith;
      small = omega arith;
      type_kept = refl;
      body_kept = λ n. refl;
      needed = λ at far n. refl;
      holds = refl;
      type-is = λ at far n. refl;
      once = λ at far n. refl;
      stands = λ at far n. refl;
    }

listed_update : Listed Operation.update 4
unfolding rows_of row_for has_required
listed_update =
    record {
      few = omega arith;
      some = omega arith;
      small = omega arith;
      type_kept = refl;
      body_kept = λ n. refl;
      needed = λ at far n. refl;
      holds = refl;
      type-is = λ at far n. refl;
      once = λ at far n. refl;
      stands = λ at far n. refl;
    }

listed_delete : Listed Operation.delete 5
unfolding rows_of row_for has_required
listed_delete =
    record {
      few = omega arith;
      some = omega arith;
      small = omega arith;
      type_kept = refl;
      body_kept = λ n. refl;
      needed = λ at far n. refl;
      holds = refl;
      type-is = λ at far n. refl;
      once = λ at far n. refl;
      stands = λ at far n. refl;
    }

listed_stmt_execute : Listed Operation.stmt_execute 6
unfolding rows_of row_for has_required
listed_stmt_execute =
    record {
      few = omega arith;
      some = omega arith;
      small = omega arith;
      type_kept = refl;
      body_kept = λ n. refl;
      needed = λ at far n. refl;
      holds = refl;
      type-is = λ at far n. refl;
      once = λ at far n. refl;
      stands = λ at far n. refl;
    }

-- each of them
pub listed : (t : ℕ) → is_type t ≡ true → Listed t (Operation.field_of t)
listed t h =
    same_or_not t Operation.find (λ e. subst P (sym e) listed_find)
    (λ n0.
    same_or_not t Operation.insert (λ e. subst P (sym e) listed_insert)
    (λ n1.
    same_or_not t Operation.update (λ e. subst P (sym e) listed_update)
    (λ n2.
    same_or_not t Operation.delete (λ e. subst P (sym e) listed_delete)
    (λ n4.
    same_or_not t Operation.stmt_execute (λ e. subst P (sym e) listed_stmt_execute)
    (λ n5. absurd (let f = type_none t n0 n1 n2 n4 n5 in let z : ◌≡◌ {A = ℕ} 0 1 = cc in omega arith))))))
  where
    P : ℕ → Type 0
    P t = Listed t (Operation.field_of t)

kept_prepare : (v : ℕ) →
    (Use.Kept ≡ use_of (rows_of Client.prepare) 1 0 v) × (Use.Kept ≡ use_of (rows_of Client.prepare) 2 2 v)
unfolding rows_of row_for
kept_prepare v = (refl, refl)

prepare_holds : holds_bytes (rows_of Client.prepare) 2 ≡ true
unfolding rows_of row_for
prepare_holds = refl

prepare_needed : (stmt at n : ℕ) → true ≡ has_required (rows_of Client.prepare) (prepare_slots stmt at n).count
unfolding rows_of has_required
prepare_needed stmt at n = refl

-- ---- the body

module _ {s q : List ℕ} {at : ℕ} (body : List ℕ) (k : Stands s at body q) where
  abbrev n : ℕ
  n = length body

  same_good : (rows : List (List ℕ)) → (embedded rows s at n).good ≡ (embedded rows body 0 n).good
  same_good rows =
      ap (λ (p : ℕ). (embedded rows s p n).good) (sym (add-zero at)) ∙ (embedded_alike rows k 0 n (omega arith)).good

  -- the body's arguments by themselves
  alone : arguments_within body 0 n ≡ together (no_arguments 0 n) (arguments_at body 0)
  alone =
      sym (within_there body 0 n (omega arith))
      ∙ ap (λ (l : List ℕ). arguments_in l 0) (take_all (0 + n) body (omega arith))

  list-is : arguments_at (take (at + n) s) at ≡ map (moved at) (arguments_at body 0)
  list-is =
      let t = stands_cut k in
      ap (arguments_from (length (take (at + n) s)) (take (at + n) s)) (sym (add-zero at))
      ∙ args_moved t n (length (take (at + n) s)) 0 (omega arith) (omega (arith, tail_length t))

  abbrev x : Arguments
  x = no_arguments at (length (take (at + n) s))

  within-is : arguments_within s at n ≡ together x (map (moved at) (arguments_at body 0))
  within-is = sym (within_there s at n (omega (arith, stands_length k))) ∙ ap (together x) list-is

  within-good : (arguments_within s at n).good ≡ (arguments_within body 0 n).good
  within-good =
      ap (λ (a : Arguments). a.good) within-is
      ∙ together_moved at x (no_arguments 0 n) (arguments_at body 0) refl
      ∙ sym (ap (λ (a : Arguments). a.good) alone)

  -- judged by itself and where it stands
  pub body_good : (t : ℕ) → (body_in s t at n).good ≡ good_body t body
  unfolding body_in
  body_good t = by-type (eqb t Operation.stmt_execute)
    where
      choice : (a b : Bool) (u v : Arguments) → a ≡ b → u.good ≡ v.good →
          (cond a u bad_arguments).good ≡ (cond b v bad_arguments).good
      choice a true u v e f = ap (λ (c : Bool). (cond c u bad_arguments).good) e ∙ f
      choice a false u v e f = ap (λ (c : Bool). (cond c u bad_arguments).good) e

      by-type : (b : Bool) →
          (cond b (cond (embedded (rows_of stmt_execute) s at n).good (arguments_within s at n) bad_arguments)
          (cond (embedded [] s at n).good (no_arguments 0 0) bad_arguments)
          ).good
          ≡ (cond b (cond (embedded (rows_of stmt_execute) body 0 n).good (arguments_within body 0 n) bad_arguments)
          (cond (embedded [] body 0 n).good (no_arguments 0 0) bad_arguments)
          ).good
      by-type true =
          choice (embedded (rows_of stmt_execute) s at n).good (embedded (rows_of stmt_execute) body 0 n).good
          (arguments_within s at n)
          (arguments_within body 0 n) (same_good (rows_of stmt_execute)) within-good
      by-type false =
          choice (embedded [] s at n).good (embedded [] body 0 n).good (no_arguments 0 0) (no_arguments 0 0)
          (same_good []) refl

  -- the arguments of a StmtExecute, and of another body
  held : good_body Operation.stmt_execute body ≡ true →
      Held s at n (map (moved at) (arguments_at body 0)) (body_in s Operation.stmt_execute at n)
  unfolding body_in
  held h = go (embedded (rows_of stmt_execute) s at n).good (body_good Operation.stmt_execute ∙ h)
    where
      l : List Argument
      l = map (moved at) (arguments_at body 0)

      go : (b : Bool) → (cond b (arguments_within s at n) bad_arguments).good ≡ true →
          Held s at n l (cond b (arguments_within s at n) bad_arguments)
      go true g =
          let fine = sym (ap (λ (a : Arguments). a.good) within-is) ∙ g in
          record {
            good = g;
            start = ap (λ (a : Arguments). a.start) within-is ∙ (together_kept x l fine).0;
            end =
                ap (λ (a : Arguments). a.end) within-is ∙ (together_kept x l fine).1
                ∙ length-take-le (at + n) s (omega (arith, stands_length k));
            list = list-is;
            size = length (take (at + n) s);
            all = within-is;
          }
      go false g = absurd (let z : ◌≡◌ {A = ℕ} 0 1 = cc in omega arith)

  pub body_held : (t : ℕ) → t ≡ Operation.stmt_execute → good_body t body ≡ true →
      Held s at n (map (moved at) (arguments_at body 0)) (body_in s t at n)
  body_held t e =
      subst (λ (t : ℕ). good_body t body ≡ true → Held s at n (map (moved at) (arguments_at body 0)) (body_in s t at n))
      (sym e) held

  pub body_plain : (t : ℕ) → (t ≡ Operation.stmt_execute → ⊥) → good_body t body ≡ true →
      body_in s t at n ≡ no_arguments 0 0
  body_plain t z h = go (embedded [] s at n).good refl
    where
      go : (b : Bool) → (embedded [] s at n).good ≡ b → body_in s t at n ≡ no_arguments 0 0
      go true e = sym (body_list s t at n (embedded [] s at n) z refl e)
      go false e =
          absurd
          (let bad = ap (λ (a : Arguments). a.good) (body_list_bad s t at n (embedded [] s at n) z refl e) in
          let good = body_good t ∙ h in
          let y : ◌≡◌ {A = ℕ} 0 1 = cc in
          omega arith)

-- ---- the message

module _ (stmt t : ℕ) (body : List ℕ) (small : stmt < 2 ^ 32) (is-type : is_type t ≡ true) where
  abbrev stmt-bytes : List ℕ
  stmt-bytes = number_field 1 t ++ bytes_field (Operation.field_of t) body

  abbrev content : List ℕ
  content = number_field 1 stmt ++ bytes_field 2 stmt-bytes

  abbrev prepared : List ℕ
  prepared = frame Client.prepare content

  abbrev stmt-at : ℕ
  stmt-at = part_start 2 (payload + length (number_field 1 stmt)) (length stmt-bytes)

  abbrev pub body_at : ℕ
  body_at = part_start (Operation.field_of t) (stmt-at + length (number_field 1 t)) (length body)

  pub stmt_stands : Stands prepared stmt-at stmt-bytes []
  stmt_stands =
      stands_inside 2 stmt-bytes
      (stands_next (number_field 1 stmt) (bytes_field 2 stmt-bytes) (tail_stands (payload_tail Client.prepare content)))

  pub body_stands : Stands prepared body_at body []
  body_stands =
      stands_inside (Operation.field_of t) body
      (stands_next (number_field 1 t) (bytes_field (Operation.field_of t) body) stmt_stands)

  abbrev preparing : ℕ → Request
  preparing id =
      Request.Prepare
      (record {
        stmt = id;
        operation = t;
        body = record { start = body_at; len = length body };
        args = body_in prepared t body_at (length body);
      })

  pub prepare_listed : length stmt-bytes < 2 ^ 64 →
      fields_at (rows_of Client.prepare) prepared payload
      ≡ prepare_slots stmt (payload + length (number_field 1 stmt)) (length stmt-bytes)
  prepare_listed short =
      whole_good
      (reads_then (reads_number (rows_of Client.prepare) 1 stmt (kept_prepare stmt).0 (omega arith) (omega arith)
      (omega arith))
      (reads_bytes (rows_of Client.prepare) 2 stmt-bytes (kept_prepare (length stmt-bytes)).1 (omega arith)
      (omega arith) short))
      (payload_tail Client.prepare content)
      (sym (prepare_needed stmt (payload + length (number_field 1 stmt)) (length stmt-bytes)))

  pub stmt_once : length stmt-bytes < 2 ^ 64 → stmt_parts prepared ≡ one_part stmt-at (length stmt-bytes)
  stmt_once short =
      parts_whole (rows_of Client.prepare) 2 prepare_holds refl refl prepared payload (prepare_listed short)

  stmt_listed : length body < 2 ^ 64 →
      embedded (rows_of prepare_stmt) prepared stmt-at (length stmt-bytes)
      ≡ stmt_slots t (Operation.field_of t) stmt-at (stmt-at + length (number_field 1 t)) (length body)
  stmt_listed short =
      let k = listed t is-type in
      embedded_good
      (reads_then (reads_number (rows_of prepare_stmt) 1 t k.type_kept (omega arith) (omega arith)
      (omega (arith, k.small)))
      (reads_bytes (rows_of prepare_stmt) (Operation.field_of t) body (k.body_kept (length body)) k.some k.few
      short))
      stmt_stands (sym (k.needed stmt-at (stmt-at + length (number_field 1 t)) (length body)))

  pub prepare_back : good_body t body ≡ true → length stmt-bytes < 2 ^ 64 → length body < 2 ^ 64 →
      prepare_frame prepared ≡ Frame.Good (length prepared) (preparing stmt)
  unfolding prepare_frame
  prepare_back h short short-body =
      let k = listed t is-type in
      let f = Operation.field_of t in
      let far = stmt-at + length (number_field 1 t) in
      let ps = one_part stmt-at (length stmt-bytes) in
      ap (prepare_of prepared) (prepare_listed short)
      ∙ ap (prepare_inside prepared stmt) (stmt_once short)
      ∙ ap (prepare_read prepared stmt ps)
      (one_part_lem (rows_of prepare_stmt) prepared (record { start = stmt-at; len = length stmt-bytes })
      ∙ stmt_listed short-body)
      ∙ ap (prepare_typed prepared stmt ps) (k.type-is stmt-at far (length body))
      ∙ ap (prepare_by prepared stmt t)
      (parts_inner (rows_of prepare_stmt) f k.holds refl (k.once stmt-at far (length body)) prepared stmt-at
      (length stmt-bytes) (stmt_listed short-body)
      ∙ k.stands stmt-at far (length body))
      ∙ sym (payload_good prepared Client.prepare (preparing (low32 stmt)) (body_good body body_stands t ∙ h))
      ∙ ap (λ (v : ℕ). Frame.Good (length prepared) (preparing v)) (mod-eq_of_lt small)
