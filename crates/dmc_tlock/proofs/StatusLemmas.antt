-- What is read off a consistent book's tracker and desk is what its list has.
use Rattle.std.proofs.Common.{◌≡◌, ℕ, ◌+◌, ◌<◌, ◌≤◌, List, length, ap, ◌∙◌, arith}
use Rattle.dmc_types.specs.Limits.{max_completions}
use Rattle.dmc_types.specs.Values.{Counts}
use Rattle.dmc_types.specs.declared.ids.ServerId.{ServerId}
use Rattle.dmc_types.specs.declared.config.Counting.{Counting}
use Rattle.dmc_types.specs.declared.config.Counting.TheVariants.{All, Others}
use Rattle.dmc_tracker.specs.declared.event.TrackerEvent.{TrackerEvent}
use Rattle.dmc_tracker.specs.TrackerList.{plus, completions, others, sent, IsTracked}
use Rattle.dmc_tracker.specs.Numbers.{ServerNumbers, numbers_at}
use Rattle.dmc_tracker.proofs.ForCallers.{completions-by_server}
use Rattle.dmc_ledger.specs.Bundles.{StampHoldings}
use Rattle.dmc_ledger.specs.Moves.{AreWithin}
use Rattle.dmc_tlock.specs.BookState.{BookState, desk_at}
use Rattle.dmc_tlock.specs.Consistent.{due, responded, IsConsistent}
use Rattle.dmc_tlock.specs.Status.{pair_of, own_costs, IsStatusOf, IsWithin, AreSums}
use Rattle.dmc_tlock.specs.internal.Status.{IsReadable, IsElsewhere, IsOwn, IsReadOff}
use Rattle.dmc_tlock.specs.declared.status.TrackStatus.{TrackStatus}
use Rattle.dmc_tlock.proofs.CarriedLemmas.{stamp_costs-sent}

same_pair : (p q : ℕ × ℕ) → p.0 ≡ q.0 → p.1 ≡ q.1 → p ≡ q
same_pair p q a b = ap (λ x. (x, p.1)) a ∙ ap (λ y. (q.0, y)) b

-- in `Others` the completions at the other servers are among what is sent, skipped and pending, which is the rest
elsewhere_in : (counting : Counting) (s : ServerId) (events : List TrackerEvent) (completed responded most : ℕ) (server : ServerNumbers)
    → IsTracked counting events → server.sent ≡ sent s events
    → plus (plus server.sent server.skipped) server.pending ≡ due counting s events → completed ≡ (others s events).delta + responded
    → completed ≤ most → (sent s events).delta ≤ most → most ≤ max_completions → IsElsewhere counting completed responded server
elsewhere_in All s events completed responded most server tracked its sum parts few sent_few limit = tt
elsewhere_in Others s events completed responded most server tracked its sum parts few sent_few limit =
    let all = ap (λ (x : Counts). x.delta) sum in
    let own = stamp_costs-sent s events tracked in
    (omega (arith, all, parts), omega (arith, all, parts, few, own, sent_few, limit))

-- what is the rest are the costs of the stamps
own_read : (counting : Counting) (s : ServerId) (events : List TrackerEvent) (sent skipped pending : Counts) (status : TrackStatus)
    → plus (plus sent skipped) pending ≡ due counting s events → status.sent ≡ pair_of sent → status.skipped ≡ pair_of skipped
    → status.pending ≡ pair_of pending → status.others ≡ pair_of (others s events) → IsOwn counting status
    → status.own ≡ own_costs counting s events
own_read All s events sent skipped pending status sum a k b o own = own
own_read Others s events sent skipped pending status sum a k b o own =
    let all = ap (λ (x : Counts). x.delta) sum in
    let rest = rw (a, k, b, o) at own in
    omega (arith, all, rest)

module _ (b : BookState) (s : ServerId) (within : s.0 < length b.desks) (h : IsConsistent b) where
  -- the completions are those of the other servers and what the desk's tills hold
  completed_delta : b.tracker.completions.delta ≡ (others s b.events).delta + responded (desk_at b.desks s)
  completed_delta =
      let held = (h.desks s within).held in
      omega (arith, ap (λ (x : Counts). x.delta) (completions-by_server b.events s), ap (λ (x : Counts). x.delta) h.represents.completed, held.reservation.cost, held.priority.cost)

  completed_rho : b.tracker.completions.rho ≡ (others s b.events).rho + (desk_at b.desks s).held.reservation.cost.amount
  completed_rho =
      omega (arith, ap (λ (x : Counts). x.rho) (completions-by_server b.events s), ap (λ (x : Counts). x.rho) h.represents.completed, (h.desks s within).held.reservation.cost)

  pub readable : IsReadable b.tracker (desk_at b.desks s) s
  readable =
      let inside : s.0 < length b.tracker.servers = omega (arith, h.servers) in
      let its = ap (λ (x : ServerNumbers). x.sent) (h.represents.each s inside) in
      let few : b.tracker.completions.delta ≤ b.tracker.most = rw h.represents.completed h.counted.completions in
      record {
        within = inside;
        all = omega (arith, completed_delta);
        constraint = omega (arith, completed_rho);
        elsewhere = elsewhere_in b.tracker.counting s b.events b.tracker.completions.delta (responded (desk_at b.desks s)) b.tracker.most
            (numbers_at b.tracker s) h.tracked its (h.balanced s within) completed_delta few (h.counted.sent s within) h.counted.limit;
      }

  pub IsStatusOf-read : (status : TrackStatus) → IsReadOff b.tracker (desk_at b.desks s) s status → IsStatusOf b s status
  IsStatusOf-read status t =
      let numbers = numbers_at b.tracker s in
      let elsewhere : status.others ≡ pair_of (others s b.events) =
      same_pair status.others _ (omega (arith, t.others_all, completed_delta)) (omega (arith, t.others_constraint, completed_rho)) in
      record {
        sent = t.sent;
        skipped = t.skipped;
        pending = t.pending;
        completions = t.completions;
        counting = t.counting;
        stamps = t.stamps ∙ (h.desks s within).books.stamps.total;
        own = own_read b.tracker.counting s b.events numbers.sent numbers.skipped numbers.pending status (h.balanced s within) t.sent t.skipped t.pending elsewhere t.own;
        others = elsewhere;
      }

  pub IsWithin-read : (tills : StampHoldings) (status : TrackStatus) → IsReadOff b.tracker (desk_at b.desks s) s status
      → AreWithin tills (desk_at b.desks s).books → IsWithin tills status
  IsWithin-read tills status t few =
      let d = h.desks s within in
      let there = h.represents.each s (omega (arith, h.servers)) in
      let sent = ap (λ (x : ServerNumbers). x.sent) there in
      let delta = ap (λ (p : ℕ × ℕ). p.0) t.sent ∙ ap (λ (x : Counts). x.delta) sent in
      let rho = ap (λ (p : ℕ × ℕ). p.1) t.sent ∙ ap (λ (x : Counts). x.rho) sent in
      record {
        stamps = omega (arith, few.stamps, t.stamps);
        delta = omega (arith, few.delta, d.books.delta.total, delta);
        rho = omega (arith, few.rho, d.books.rho.total, rho);
      }

-- the sums of what is reported
sums_read : (counting : Counting) (s : ServerId) (events : List TrackerEvent) (sent skipped pending : Counts) (status : TrackStatus)
    → status.counting ≡ counting → plus (plus sent skipped) pending ≡ due counting s events → status.sent ≡ pair_of sent
    → status.skipped ≡ pair_of skipped → status.pending ≡ pair_of pending → status.completions ≡ pair_of (completions events) → status.own ≡ own_costs counting s events
    → status.others ≡ pair_of (others s events) → AreSums status
sums_read All s events sent skipped pending status form sum a k b c n o =
    let all = ap (λ (x : Counts). x.delta) sum in
    let constraint = ap (λ (x : Counts). x.rho) sum in
    rw (form, a, k, b, c) (record { all = all; constraint = constraint })
sums_read Others s events sent skipped pending status form sum a k b c n o =
    let all = ap (λ (x : Counts). x.delta) sum in
    let constraint = ap (λ (x : Counts). x.rho) sum in
    rw (form, a, k, b, n, o) (record { all = all; constraint = constraint })

pub AreSums-status : (b : BookState) (s : ServerId) → s.0 < length b.desks → IsConsistent b → (status : TrackStatus) → IsStatusOf b s status
    → AreSums status
AreSums-status b s within h status is =
    sums_read b.tracker.counting s b.events (numbers_at b.tracker s).sent (numbers_at b.tracker s).skipped (numbers_at b.tracker s).pending
    status is.counting (h.balanced s within) is.sent is.skipped is.pending (is.completions ∙ ap pair_of h.represents.completed) is.own is.others
