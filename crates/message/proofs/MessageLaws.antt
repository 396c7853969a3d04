-- Frames, case by case. Assumes nothing.
use Rattle.prelude.proofs.Basics.{ℕ, ◌+◌, ◌≤◌, Bool, true, false, cond, ◌≡◌, ap, ◌∙◌, List, [], length, take, eq-eqb}
use Rattle.prelude.proofs.Basics.{le-leb, ne_eqb, yes, no as without, arith, refl, Option, Some, None}
use Rattle.protocol.specs.Client as Client
use Rattle.message.proofs.Names.{stmt_execute, rows_of, embedded, value_of, low32, Slots, no_arguments, bad_arguments}
use Rattle.message.proofs.Names.{arguments_in, Arguments, if_good, optional_of, truth_of, bad_execute}
use Rattle.message.proofs.Names.{arguments_within, execute_of, body_in, frame_in, Execute, Frame, Request}
use Rattle.message.specs.Operation as Operation
use Rattle.message.specs.Simple.{id_in}

-- a payload that is good or not
module _ (s : List ℕ) (kind : ℕ) (q : Request) {good : Bool} where
  pub payload_bad : good ≡ false → Frame.BadPayload (length s) kind ≡ if_good s kind good q
  payload_bad e = without (Frame.Good (length s) q) (Frame.BadPayload (length s) kind) e

  pub payload_good : good ≡ true → Frame.Good (length s) q ≡ if_good s kind good q
  payload_good e = yes (Frame.Good (length s) q) (Frame.BadPayload (length s) kind) e

-- a message of an id alone, by what its reader finds
module _ (s : List ℕ) (kind : ℕ) (q : ℕ → Request) (x : Slots) where
  abbrev named : Frame
  named = if_good s kind x.good (q (low32 (value_of x 1)))

  pub id_good : {id : ℕ} → Some id ≡ id_in x → Frame.Good (length s) (q id) ≡ named
  id_good {id} e = go x.good e
    where
      go : (b : Bool) → Some id ≡ cond b (Some (low32 (value_of x 1))) None →
          Frame.Good (length s) (q id) ≡ if_good s kind b (q (low32 (value_of x 1)))
      go true f = ap (λ (n : ℕ). Frame.Good (length s) (q n)) (cc)
      go false f = absurd (let z : ◌≡◌ {A = ℕ} 0 1 = cc in omega arith)

  pub id_bad : ◌≡◌ {A = Option ℕ} None (id_in x) → Frame.BadPayload (length s) kind ≡ named
  id_bad e = go x.good e
    where
      go : (b : Bool) → ◌≡◌ {A = Option ℕ} None (cond b (Some (low32 (value_of x 1))) None) →
          Frame.BadPayload (length s) kind ≡ if_good s kind b (q (low32 (value_of x 1)))
      go true f = absurd (let z : ◌≡◌ {A = ℕ} 0 1 = cc in omega arith)
      go false f = refl

module _ (s : List ℕ) (at n : ℕ) where
  pub within_there : at + n ≤ length s → arguments_in (take (at + n) s) at ≡ arguments_within s at n
  unfolding arguments_within
  within_there h = yes (arguments_in (take (at + n) s) at) bad_arguments (le-leb (at + n) (length s) h)

-- an Execute by what was read of it
module _ (x : Slots) (a : Arguments) where
  abbrev running : Execute
  running = record { stmt = low32 (value_of x 1); compact = truth_of (optional_of x 3); args = a }

  pub execute_bad : x.good ≡ false → bad_execute ≡ execute_of x a
  execute_bad e = without (cond a.good running bad_execute) bad_execute e

  pub execute_worse : x.good ≡ true → a.good ≡ false → bad_execute ≡ execute_of x a
  execute_worse e f = without running bad_execute f ∙ yes (cond a.good running bad_execute) bad_execute e

  pub execute_good : x.good ≡ true → a.good ≡ true → running ≡ execute_of x a
  execute_good e f = yes running bad_execute f ∙ yes (cond a.good running bad_execute) bad_execute e

-- a body by what was read of it
module _ (s : List ℕ) (t at n : ℕ) (x : Slots) where
  module _ (h : t ≡ Operation.stmt_execute) (e : x ≡ embedded (rows_of stmt_execute) s at n) where
    told : cond x.good (arguments_within s at n) bad_arguments ≡ body_in s t at n
    unfolding body_in
    told =
        ap (λ (z : Slots). cond z.good (arguments_within s at n) bad_arguments) e
        ∙ yes _ _ (eq-eqb t Operation.stmt_execute h)

    pub body_stmt_bad : x.good ≡ false → bad_arguments ≡ body_in s t at n
    body_stmt_bad g = without (arguments_within s at n) bad_arguments g ∙ told

    pub body_stmt : x.good ≡ true → arguments_within s at n ≡ body_in s t at n
    body_stmt g = yes (arguments_within s at n) bad_arguments g ∙ told

  module _ (h : t ≡ Operation.stmt_execute → ⊥) (e : x ≡ embedded [] s at n) where
    listed : cond x.good (no_arguments 0 0) bad_arguments ≡ body_in s t at n
    unfolding body_in
    listed =
        ap (λ (z : Slots). cond z.good (no_arguments 0 0) bad_arguments) e
        ∙ without _ _ (ne_eqb t Operation.stmt_execute h)

    pub body_list_bad : x.good ≡ false → bad_arguments ≡ body_in s t at n
    body_list_bad g = without (no_arguments 0 0) bad_arguments g ∙ listed

    pub body_list : x.good ≡ true → no_arguments 0 0 ≡ body_in s t at n
    body_list g = yes (no_arguments 0 0) bad_arguments g ∙ listed

-- a type that is none of the eight
pub kind_unknown : (s : List ℕ) (kind : ℕ) → (kind ≡ Client.reset → ⊥) → (kind ≡ Client.session_close → ⊥) →
    (kind ≡ Client.prepare → ⊥) → (kind ≡ Client.execute → ⊥) → (kind ≡ Client.deallocate → ⊥) →
    (kind ≡ Client.open' → ⊥) → (kind ≡ Client.close → ⊥) → (kind ≡ Client.fetch → ⊥) →
    Frame.UnknownType (length s) ≡ frame_in s kind
unfolding frame_in
kind_unknown s kind a b c d e f g h =
    simp (
      ne_eqb kind Client.reset a,
      ne_eqb kind Client.session_close b,
      ne_eqb kind Client.prepare c,
      ne_eqb kind Client.execute d,
      ne_eqb kind Client.deallocate e,
      ne_eqb kind Client.open' f,
      ne_eqb kind Client.close g,
      ne_eqb kind Client.fetch h,
    )
