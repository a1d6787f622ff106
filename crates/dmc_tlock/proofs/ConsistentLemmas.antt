-- A stamp, a skip and a response keep a tracker book consistent.
use Rattle.std.proofs.Common.{◌≡◌, ℕ, ◌+◌, ◌<◌, ◌≤◌, List, [], ◌∷◌, ◌++◌, length, sym, ap, ◌∙◌, subst, arith, inl, inr, ◌^◌}
use Rattle.std.specs.Prelude.{slice_set, sum_by}
use Rattle.std.proofs.lemmas.List.Sums.{sum_by-set}
use Rattle.std.proofs.lemmas.List.{length-append, length-set}
use Rattle.std.proofs.lemmas.Bool.Decides.{eqb_tells}
use Rattle.dmc_types.specs.Values.{Params, Counts}
use Rattle.dmc_types.specs.declared.ids.ServerId.{ServerId}
use Rattle.dmc_types.specs.declared.config.Counting.{Counting}
use Rattle.dmc_types.specs.declared.config.Counting.TheVariants.{All, Others}
use Rattle.dmc_types.specs.declared.config.PhaseType.{PhaseType}
use Rattle.dmc_types.specs.declared.config.PhaseType.TheVariants.{Reservation, Priority}
use Rattle.dmc_tracker.specs.declared.event.TrackerEvent.{TrackerEvent}
use Rattle.dmc_tracker.specs.declared.event.TrackerEvent.TheVariants.{Stamp, Skip, Response}
use Rattle.dmc_tracker.specs.TrackerList.{plus, completions, sent, skipped, pending, IsTracked}
use Rattle.dmc_tracker.specs.Numbers.{ServerNumbers, RepresentsEvents, next_params, numbers_at}
use Rattle.dmc_tracker.proofs.ForCallers.{completions-stamp, completions-skip, completions-response, RepresentsEvents-stamp, RepresentsEvents-skip, RepresentsEvents-response, next_params-represents, IsTracked-stamp, IsTracked-skip, IsTracked-response, sums-all, sums-others, length-servers_grown, sent-stamp_same, sent-stamp_other, sent-skip, sent-response, same_server}
use Rattle.dmc_shared.specs.Segmented.{max_released}
use Rattle.dmc_ledger.specs.Accounts.{total_of}
use Rattle.dmc_ledger.specs.Bundles.{ServerSide, StampAccounts}
use Rattle.dmc_tlock.specs.BookState.{BookState, no_side, desk_at}
use Rattle.dmc_tlock.specs.Consistent.{due, responded, IsBalanced, IsDesk, IsConsistent}
use Rattle.dmc_tlock.specs.Entries.{side_after_stamp, side_after_response, book_after_stamp, book_after_skip, book_after_response}
use Rattle.dmc_tlock.specs.Segments.{after_rotating}
use Rattle.dmc_tlock.proofs.CarriedLemmas.{demanded-rho, sent-rho}
use Rattle.dmc_tlock.proofs.DeskLemmas.{IsDesk-stamp_same, IsDesk-stamp_other, IsDesk-skip, IsDesk-response_same, IsDesk-response_other, at_set}

sum_due : (counting : Counting) (s : ServerId) (events : List TrackerEvent) → IsTracked counting events
    → plus (plus (sent s events) (skipped counting s events)) (pending counting s events) ≡ due counting s events
sum_due All s events h = sums-all s events h
sum_due Others s events h = sums-others s events h

-- the two sums follow from the list
pub balanced : (b : BookState) → RepresentsEvents b.tracker b.events → IsTracked b.tracker.counting b.events
    → length b.desks ≡ length b.tracker.servers → IsBalanced b
balanced b represents tracked servers = λ s within.
    let inside : s.0 < length b.tracker.servers = omega (arith, servers) in
    rw (represents.each s inside) (sum_due b.tracker.counting s b.events tracked)

-- the responses of all desks, after a write at one
responded_set : (desks : List ServerSide) (s : ServerId) (desk : ServerSide) (n : ℕ) → s.0 < length desks
    → responded desk ≡ responded (desk_at desks s) + n → sum_by responded (slice_set desks s.0 desk) ≡ sum_by responded desks + n
responded_set desks s desk n within more =
    let sums = sum_by-set responded desks s.0 desk no_side within in
    omega (arith, sums, more)

one_response : (phase : PhaseType) (cost : ℕ) (desk : ServerSide) → responded (side_after_response phase cost desk) ≡ responded desk + cost
one_response Reservation cost desk = omega arith
one_response Priority cost desk = omega arith

one_completed : (s : ServerId) (phase : PhaseType) (cost : ℕ) (events : List TrackerEvent)
    → (completions (events ++ Response s phase cost ∷ [])).delta ≡ (completions events).delta + cost
one_completed s Reservation cost events = ap (λ (x : Counts). x.delta) (completions-response events s Reservation cost)
one_completed s Priority cost events = ap (λ (x : Counts). x.delta) (completions-response events s Priority cost)

-- what was sent to a server, after a stamp that still fits
sent_stamped : (most : ℕ) (s q : ServerId) (params : Params) (events : List TrackerEvent) → (sent s events).delta + params.delta ≤ most
    → (sent q events).delta ≤ most → (sent q (events ++ Stamp s params ∷ [])).delta ≤ most
sent_stamped most s q params events fits few = elim (eqb_tells s.0 q.0) [
  | inl here ↦
      (let more = ap (λ (x : Counts). x.delta) (sent-stamp_same q events s params here.0) in
      let its = ap (λ (x : ServerId). (sent x events).delta) (same_server s q here.1) in
      omega (arith, fits, more, its))
  | inr there ↦ omega (arith, few, ap (λ (x : Counts). x.delta) (sent-stamp_other q events s params there.0))
]

-- what the next stamp carries fits into the books of its server
pub record HasPlace (params : Params) (books : StampAccounts) : Type 0 where
  pub delta : total_of books.delta + params.delta ≤ 2 ^ 63
  pub rho : total_of books.rho + params.rho ≤ 2 ^ 63

pub has_place : (b : BookState) (s : ServerId) (cost : ℕ) → s.0 < length b.desks
    → (numbers_at b.tracker s).sent.delta + (next_params b.tracker s cost).delta ≤ b.tracker.most → IsConsistent b
    → HasPlace (next_params b.tracker s cost) (desk_at b.desks s).books
has_place b s cost within fits h =
    let inside : s.0 < length b.tracker.servers = omega (arith, h.servers) in
    let its = ap (λ (x : ServerNumbers). x.sent.delta) (h.represents.each s inside) in
    let carried = next_params-represents b.tracker b.events s cost inside h.represents in
    let next : (next_params b.tracker s cost).rho ≤ (next_params b.tracker s cost).delta =
    subst (λ (p : Params). p.rho ≤ p.delta) (sym carried) (demanded-rho b.tracker.counting s cost b.events) in
    let books = (h.desks s within).books in
    record {
      delta = omega (arith, fits, its, h.counted.limit, books.delta.total);
      rho = omega (arith, fits, its, h.counted.limit, books.rho.total, next, sent-rho b.tracker.counting s b.events h.tracked);
    }

pub IsConsistent-stamp : (b : BookState) (s : ServerId) (cost : ℕ) → s.0 < length b.desks → length b.events < b.first + b.max_events
    → (numbers_at b.tracker s).sent.delta + (next_params b.tracker s cost).delta ≤ b.tracker.most → IsConsistent b
    → IsConsistent (book_after_stamp s cost b)
IsConsistent-stamp b s cost within room fits h =
    let params = next_params b.tracker s cost in
    let inside : s.0 < length b.tracker.servers = omega (arith, h.servers) in
    let represents = RepresentsEvents-stamp b.tracker b.events s cost inside h.represents in
    let tracked = IsTracked-stamp b.tracker.counting b.events s cost params (next_params-represents b.tracker b.events s cost inside h.represents) h.tracked in
    let desks = length-set b.desks s.0 (side_after_stamp params (desk_at b.desks s)) in
    let servers = desks ∙ h.servers ∙ sym (length-set b.tracker.servers s.0 _) in
    let its = ap (λ (x : ServerNumbers). x.sent.delta) (h.represents.each s inside) in
    let kept = ap (λ (x : Counts). x.delta) (completions-stamp b.events s params) in
    record {
      balanced = balanced (book_after_stamp s cost b) represents tracked servers;
      tracked = tracked;
      represents = represents;
      counted = record {
        limit = h.counted.limit;
        completions = omega (arith, kept, h.counted.completions);
        sent = λ q q_in. sent_stamped b.tracker.most s q params b.events (omega (arith, fits, its)) (h.counted.sent q (omega (arith, q_in, desks)));
      };
      desks = at_set (IsDesk b.client b.events) (IsDesk b.client (b.events ++ Stamp s params ∷ [])) b.desks s
          (side_after_stamp params (desk_at b.desks s)) within h.desks
          (IsDesk-stamp_same b.client b.events s params (desk_at b.desks s) (h.desks s within))
          (IsDesk-stamp_other b.client b.events s params);
      servers = servers;
      completed =
          let sums = responded_set b.desks s (side_after_stamp params (desk_at b.desks s)) 0 within (omega arith) in
          omega (arith, kept, sums, h.completed);
      released = omega (arith, h.released, length-append b.events (Stamp s params ∷ []));
      few = h.few;
      within = omega (arith, length-append b.events (Stamp s params ∷ []));
      some = h.some;
      limit = h.limit;
    }

pub IsConsistent-skip : (b : BookState) (s : ServerId) → s.0 < length b.desks → length b.events < b.first + b.max_events → IsConsistent b
    → IsConsistent (book_after_skip s b)
IsConsistent-skip b s within room h =
    let inside : s.0 < length b.tracker.servers = omega (arith, h.servers) in
    let represents = RepresentsEvents-skip b.tracker b.events s inside h.represents in
    let tracked = IsTracked-skip b.tracker.counting b.events s h.tracked in
    let servers = h.servers ∙ sym (length-set b.tracker.servers s.0 _) in
    let kept = ap (λ (x : Counts). x.delta) (completions-skip b.events s) in
    record {
      balanced = balanced (book_after_skip s b) represents tracked servers;
      tracked = tracked;
      represents = represents;
      counted = record {
        limit = h.counted.limit;
        completions = omega (arith, kept, h.counted.completions);
        sent = λ q q_in. omega (arith, ap (λ (x : Counts). x.delta) (sent-skip q b.events s), h.counted.sent q q_in);
      };
      desks = λ q q_in. IsDesk-skip b.client b.events q s (desk_at b.desks q) (h.desks q q_in);
      servers = servers;
      completed = kept ∙ h.completed;
      released = omega (arith, h.released, length-append b.events (Skip s ∷ []));
      few = h.few;
      within = omega (arith, length-append b.events (Skip s ∷ []));
      some = h.some;
      limit = h.limit;
    }

pub IsConsistent-response : (b : BookState) (s : ServerId) (phase : PhaseType) (cost : ℕ) → s.0 < length b.desks
    → length b.events < b.first + b.max_events → b.tracker.completions.delta + cost ≤ b.tracker.most → IsConsistent b
    → IsConsistent (book_after_response s phase cost b)
IsConsistent-response b s phase cost within room fits h =
    let represents = RepresentsEvents-response b.tracker b.events s phase cost h.represents in
    let tracked = IsTracked-response b.tracker.counting b.events s phase cost h.tracked in
    let desks = length-set b.desks s.0 (side_after_response phase cost (desk_at b.desks s)) in
    let servers = desks ∙ h.servers ∙ sym (length-servers_grown b.tracker.counting s phase cost b.tracker.servers) in
    let more = one_completed s phase cost b.events in
    record {
      balanced = balanced (book_after_response s phase cost b) represents tracked servers;
      tracked = tracked;
      represents = represents;
      counted = record {
        limit = h.counted.limit;
        completions = omega (arith, more, fits, ap (λ (x : Counts). x.delta) h.represents.completed);
        sent = λ q q_in.
            let its = ap (λ (x : Counts). x.delta) (sent-response q b.events s phase cost) in
            omega (arith, its, h.counted.sent q (omega (arith, q_in, desks)));
      };
      desks = at_set (IsDesk b.client b.events) (IsDesk b.client (b.events ++ Response s phase cost ∷ [])) b.desks s
          (side_after_response phase cost (desk_at b.desks s)) within h.desks
          (IsDesk-response_same b.client b.events s phase cost (desk_at b.desks s) (h.desks s within))
          (IsDesk-response_other b.client b.events s phase cost);
      servers = servers;
      completed =
          let sums = responded_set b.desks s (side_after_response phase cost (desk_at b.desks s)) cost within (one_response phase cost (desk_at b.desks s)) in
          omega (arith, more, sums, h.completed);
      released = omega (arith, h.released, length-append b.events (Response s phase cost ∷ []));
      few = h.few;
      within = omega (arith, length-append b.events (Response s phase cost ∷ []));
      some = h.some;
      limit = h.limit;
    }

-- all entries of a list are released
pub IsConsistent-rotated : (b : BookState) → length b.events ≤ max_released → IsConsistent b → IsConsistent (after_rotating b)
IsConsistent-rotated b few h = record {
  balanced = h.balanced;
  tracked = h.tracked;
  represents = h.represents;
  counted = record { limit = h.counted.limit; completions = h.counted.completions; sent = h.counted.sent };
  desks = h.desks;
  servers = h.servers;
  completed = h.completed;
  released = omega arith;
  few = few;
  within = omega arith;
  some = h.some;
  limit = h.limit;
}
