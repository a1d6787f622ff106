use Rattle.std.proofs.Common.{◌≡◌, ℕ, List, length, map, drop, sym, subst, ap, ◌∙◌, rules}
use Rattle.std.specs.List.{AllByRecursion}
use Rattle.std.proofs.lemmas.List.{length-map}
use Rattle.dmc_ledger.specs.Bundles.{ClientSide, client_side}
use Rattle.dmc_ledger.specs.declared.desk.ClientDesk.{ClientDesk}
use Rattle.dmc_book.specs.BookState.{WorkerSide, pass_state, worker_side}
use Rattle.dmc_book.specs.Consistent.{reaching}
use Rattle.dmc_book.specs.Settling.{closed_worker}
use Rattle.dmc_book.specs.internal.Settling.{ArePassesTakenIn, IsOpenOrShut, having}
use Rattle.dmc_book.specs.declared.seat.Seat.{Seat}
use Rattle.dmc_book.proofs.GrantLemmas.{grants_of_desks}
use Rattle.dmc_lemmas.proofs.Lists.{lent_back}
use Rattle.dmc_book.proofs.SettlingLemmas.{all_open_or_shut, settled_desks, settled_workers}
use Rattle.dmc_book.proofs.accounts.Accounts.settle.Goals as goal

pub take_passes-requires-clause-one_open : goal.take_passes-requires-clause-one_open
take_passes-requires-clause-one_open g c =
    let here = c.self.inside in
    subst (λ (seats : List (Seat g.row.S.Denot)). AllByRecursion IsOpenOrShut (map worker_side seats)) (sym c.deref_mut.ensures.value)
    (all_open_or_shut here.history.events (map worker_side here.workers.items) c.self.invariant.0.workers)

pub returns-clause-few : goal.returns-clause-few
returns-clause-few g c = c.take.ensures.few

pub returns-clause-counts : goal.returns-clause-counts
returns-clause-counts g c =
    let here = c.self.inside in
    let f : Seat g.row.S.Denot → WorkerSide = worker_side in
    let new = c.take_passes.new.workers in
    let same : c.deref_mut.result.now ≡ here.workers.items = c.deref_mut.ensures.value in
    let closed : map f new ≡ map closed_worker (map f here.workers.items) = c.take_passes.ensures.workers ∙ ap (λ (ws : List (Seat g.row.S.Denot)). map closed_worker (map f ws)) same in
    let as_many : length new ≡ length here.workers.items = sym (length-map new f) ∙ ap length closed ∙ length-map (map f here.workers.items) closed_worker ∙ length-map here.workers.items f in
    let back = lent_back new (drop (length new) here.workers.items) here.workers.len (as_many ∙ sym here.workers.ok.0) in
    rw (← c.self.view_is, c.replace.ensures.value, back, closed) (settled_workers here.history.events (map f here.workers.items) c.self.invariant.0.workers)

pub returns-clause-desks : goal.returns-clause-desks
returns-clause-desks g c =
    let here = c.self.inside in
    let f : ClientDesk g.row.S.Denot → ClientSide = client_side in
    let passes = map (pass_state {S = g.row.S.Denot}) c.args.passes.items in
    let workers = map (worker_side {S = g.row.S.Denot}) here.workers.items in
    let tills : (k : ℕ) → having k passes ≡ reaching k workers = λ k. c.take_passes.ensures.tills k ∙ ap (λ (ws : List (Seat g.row.S.Denot)). reaching k (map worker_side ws)) c.deref_mut.ensures.value in
    let new = c.take_passes.new.desks in
    let same : c.deref_mut-2.result.now ≡ here.desks.items = c.deref_mut-2.ensures.value in
    let as_many : length new ≡ length here.desks.items = search rules in
    let back = lent_back new (drop (length new) here.desks.items) here.desks.len (as_many ∙ sym here.desks.ok.0) in
    let taken = subst (λ (ds : List (ClientDesk g.row.S.Denot)). ArePassesTakenIn passes (map f ds) (map f new)) same c.take_passes.ensures.desks in
    rw (← c.self.view_is, c.replace-2.ensures.value, back) (settled_desks here.history.events here.server.0 workers passes (map f here.desks.items) (map f new) tills c.self.invariant.0.desks taken)

pub returns-clause-grants : goal.returns-clause-grants
returns-clause-grants g c =
    let here = c.self.inside in
    let known = c.self.invariant.0 in
    rw (← c.self.view_is) (grants_of_desks (map client_side here.desks.items) known.clients_apart here.history.events known.granted)
