-- The demands over the frames handed out follow from the demands over any frames. Assumes nothing.
use Rattle.prelude.proofs.Basics.{ℕ, arith, ◌≡◌, refl, sym, ap, subst, ◌∙◌, List, [], ◌∷◌, map, append-nil, length}
use Rattle.prelude.proofs.Basics.{get_or, take, length-take-le, eqb, both, Ok, Err}
use Rattle.protocol.specs.Reason as Reason
use Rattle.protocol.specs.declared.reason.Reason as Declared
use Rattle.message.specs.Head.{HeadResult, framed, length_bytes, head_of}
use Rattle.message.specs.Frame.{frame_of, of_head, refused_head, reason_of, used_of}
use Rattle.message.proofs.UsedLaws.{uses_all}
use Rattle.message.proofs.WithinLaws.{frame_within}
use Rattle.session.specs.Lists.{All}
use Rattle.rules.proofs.WholeLaws.{step_whole}
use Rattle.history.proofs.HistoryLaws.{demand_3}
use Rattle.history.proofs.HandoverLaws.{demand_3_restored}
use Rattle.writer.specs.RoundTrip.{ReadsAs}
use Rattle.writer.proofs.RoundTripLaws.{round_trip}
use Rattle.streams.specs.ReaderRules.{Whole}
use Rattle.history.specs.OverArrivals.{StepsUseAll, Demand3Arrivals, Demand3RestoredArrivals}
use Rattle.history.specs.OverArrivals.{Written, written_bytes, WrittenComeBack}
use Rattle.streams.proofs.FrontLaws.{frame_told}
use Rattle.streams.proofs.ReadingLaws.{frames_arrive}

pub steps_use_all : StepsUseAll
steps_use_all s frame r buffer whole =
    let h = step_whole s frame r buffer whole in
    record { there = h.0; good = h.1; used = h.2 }

pub demand_3_arrivals : Demand3Arrivals
demand_3_arrivals store os is e = demand_3 is

pub demand_3_restored_arrivals : Demand3RestoredArrivals
demand_3_restored_arrivals before m rules store os is e = demand_3_restored before m rules is

-- ---- written messages

-- a head that is refused holds no request
no_request : (reason : Declared.Reason) → reason_of (refused_head reason) ≡ Reason.accepted → ⊥
no_request reason =
    both (λ x. reason_of x ≡ Reason.accepted → ⊥) (eqb (Reason.number_of reason) Reason.bad_length) _ _
    (λ _ g. omega arith) (λ _ g. omega arith)

-- a frame that is accepted and used whole is a frame and nothing else
read_whole : (f : List ℕ) → reason_of (frame_of f) ≡ Reason.accepted → used_of (frame_of f) ≡ length f → Whole f
unfolding frame_of
read_whole f good used = go (head_of f) refl good used
  where
    go : (h : HeadResult) → head_of f ≡ h → reason_of (of_head f h) ≡ Reason.accepted → used_of (of_head f h) ≡ length f → Whole f
    go (Ok head) e g u =
        let end = head.end in
        let kind = head.kind in
        let all = sym (length-take-le end f (frame_within f (sym e))) ∙ sym (uses_all (take end f) kind) ∙ u in
        e ∙ ap (λ (k : ℕ). framed k end) (frame_told f e).type ∙ ap (framed (get_or f length_bytes 0)) all
    go (Err reason) e g u = absurd (no_request reason g)

-- a message is read back from its frame
written_reads : (w : Written) → ReadsAs w.draft w.body w.args (written_bytes w)
written_reads w =
    subst (ReadsAs w.draft w.body w.args) (append-nil (written_bytes w))
    (round_trip w.draft w.body w.args [] w.sized w.good)

all_of : {A : Type 0} (P : A → Type 0) → ((x : A) → P x) → (xs : List A) → All P xs
unfolding All
all_of P h [] = tt
all_of P h (x ∷ xs) = (h x, all_of P h xs)

all_whole : (ws : List Written) → All Whole (map written_bytes ws)
unfolding All
all_whole [] = tt
all_whole (w ∷ ws) =
    let x = written_reads w in
    (read_whole (written_bytes w) (ap reason_of x.good) (ap used_of x.good), all_whole ws)

pub written_come_back : WrittenComeBack
written_come_back ws store os o none =
    let x = frames_arrive (map written_bytes ws) (all_whole ws) store os o none in
    record { frames = x.0; read = all_of _ written_reads ws; rest = x.1 }
