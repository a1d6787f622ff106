-- Accounts that release their events.
use Rattle.std.proofs.Common.{◌≡◌, ℕ, ◌-◌, ◌≤◌, ◌^◌, List, [], ◌∷◌, length, ap, refl, sym, subst, Option, Some, None, arith}
use Rattle.std.specs.Prelude.{IfNone, IfSome, IsSome}
use Rattle.std.specs.List.{AllByRecursion}
use Rattle.dmc_tag.specs.declared.event.Event.{Event}
use Rattle.dmc_shared.specs.Segmented.{MayRotate, Segmented, after_rotating}
use Rattle.dmc_ledger.specs.Bundles.{ClientSide}
use Rattle.dmc_book.specs.BookState.{WorkerSide, accounts_of}
use Rattle.dmc_book.specs.Consistent.{AreConsistent, AreTokensFit}
use Rattle.dmc_book.specs.Counts.{count, grant_cost}
use Rattle.dmc_book.specs.Moves.{IsOpen}
use Rattle.dmc_book.specs.Rotating.{AreTokensLow}

tokens_rotated : (n : ℕ) (ws : List WorkerSide) → AllByRecursion (λ w. IsOpen w → AreTokensLow w.books) ws → AllByRecursion (λ w. IsOpen w → AreTokensFit n n w.books) ws
tokens_rotated n [] low = tt
tokens_rotated n (w ∷ ws) low = (λ still. record { tokens = omega (arith, (low.0 still).tokens); granted = omega (arith, (low.0 still).granted) }, tokens_rotated n ws low.1)

module _ {T : Type 0} (server : ℕ) (old : Segmented (Event T)) (ws : List WorkerSide) (ds : List ClientSide) (low : AllByRecursion (λ w. IsOpen w → AreTokensLow w.books) ws) (cheap : count grant_cost old.events ≤ 2 ^ 62) (was : AreConsistent (accounts_of server old ws ds)) where
  rotated : MayRotate old → AreConsistent (accounts_of server (after_rotating old (old.most - old.first)) ws ds)
  rotated may = record {
    workers = was.workers;
    desks = was.desks;
    reach = was.reach;
    workers_apart = was.workers_apart;
    clients_apart = was.clients_apart;
    granted = was.granted;
    queued = was.queued;
    seated = was.seated;
    tokens_fit = tokens_rotated (length old.events) ws low;
    cost_fits = omega (arith, cheap);
    within = omega arith;
    few = may.long;
    limit = omega (arith, was.limit);
    few_workers = was.few_workers;
  }

  -- whether they do or not
  pub consistent_either : {X : Type 0} (r : Option X) (new : Segmented (Event T)) → IfSome r (λ x. new ≡ after_rotating old (old.most - old.first)) → IfNone r (new ≡ old) → (IsSome r → MayRotate old) → AreConsistent (accounts_of server new ws ds)
  consistent_either (Some x) new some none may = subst (λ (h : Segmented (Event T)). AreConsistent (accounts_of server h ws ds)) (sym some) (rotated (may refl))
  consistent_either None new some none may = subst (λ (h : Segmented (Event T)). AreConsistent (accounts_of server h ws ds)) (sym none) was

-- all events stay, whether they are released or not
pub events_stay : {T X : Type 0} (old : Segmented (Event T)) (r : Option X) (new : Segmented (Event T)) → IfSome r (λ x. new ≡ after_rotating old (old.most - old.first)) → IfNone r (new ≡ old) → new.events ≡ old.events
events_stay old (Some x) new some none = ap (λ (h : Segmented _). h.events) some
events_stay old None new some none = ap (λ (h : Segmented _). h.events) none
