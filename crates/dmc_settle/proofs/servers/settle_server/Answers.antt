use Rattle.std.proofs.Common.{◌≡◌, List, drop, length, map, ap, ◌∙◌, arith}
use Rattle.std.proofs.lemmas.List.{length-map}
use Rattle.dmc_types.specs.declared.config.PhaseType.TheVariants.{Reservation, Priority}
use Rattle.dmc_ledger.specs.Bundles.{ClientSide, client_side}
use Rattle.dmc_ledger.specs.declared.desk.ClientDesk.{ClientDesk}
use Rattle.dmc_book.specs.BookState.{PassState, pass_state}
use Rattle.dmc_settle.specs.internal.Filled.{granted_at}
use Rattle.dmc_settle.specs.declared.servers.Granted.{Granted}
use Rattle.dmc_settle.proofs.Granted.{few_granted, held_granted, reservations_granted, priorities_granted}
use Rattle.dmc_settle.proofs.servers.settle_server.Goals as goal

pub sum_grants-granted-requires-clause-few_grants : goal.sum_grants-granted-requires-clause-few_grants
sum_grants-granted-requires-clause-few_grants g c =
    let f : ClientDesk g.row.S.Denot → ClientSide = client_side in
    let passes : List PassState = map pass_state c.args.passes.items in
    let same : c.deref.result.now ≡ c.settle_own-settled.result.desks.items = c.deref.ensures.value in
    let few = ap length (c.settle_own-settled.ensures.history ∙ ap (λ n. drop n c.args.book.now.history) c.requires.whole) in
    rw same (λ k within. few_granted c.args.book.now.history passes c.args.book.now.desks (map f c.settle_own-settled.result.desks.items) c.settle_own-settled.ensures.desks
    (omega (arith, few, c.settle_own-settled.ensures.few)) k (omega (arith, within, ap length same, length-map c.settle_own-settled.result.desks.items f)))

pub returns-clause-numbers : goal.returns-clause-numbers
returns-clause-numbers g c =
    let f : ClientDesk g.row.S.Denot → ClientSide = client_side in
    let passes : List PassState = map pass_state c.args.passes.items in
    let same : c.deref.result.now ≡ c.settle_own-settled.result.desks.items = c.deref.ensures.value in
    let book = c.args.book.now in
    let new = map f c.settle_own-settled.result.desks.items in
    let granted : c.sum_grants-granted.result ≡ granted_at new = c.sum_grants-granted.ensures ∙ ap (λ (ds : List (ClientDesk g.row.S.Denot)). granted_at (map f ds)) same in
    record {
      events = c.settle_own-settled.ensures.history ∙ ap (λ n. drop n book.history) c.requires.whole;
      replays = c.settle_own-settled.ensures.replays;
      reservation = ap (λ (x : Granted). x.reservation) granted ∙ reservations_granted book.history passes book.desks new c.settle_own-settled.ensures.desks ∙ (c.settle_own-settled.ensures.grants Reservation).0;
      priority = ap (λ (x : Granted). x.priority) granted ∙ priorities_granted book.history passes book.desks new c.settle_own-settled.ensures.desks ∙ (c.settle_own-settled.ensures.grants Priority).0;
      left = c.settle_own-settled.ensures.left;
      held = ap (λ (x : Granted). x.held) granted ∙ held_granted book.history passes book.desks new c.settle_own-settled.ensures.desks book.workers c.requires.own.each;
      of_desks = λ phase. (c.settle_own-settled.ensures.grants phase).0;
    }
