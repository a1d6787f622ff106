use Rattle.std.proofs.Common.{◌≡◌, ◌+◌, ◌*◌, List, length, map, drop, refl, sym, subst, ap, ◌∙◌}
use Rattle.std.specs.List.{AllByRecursion}
use Rattle.dmc_ledger.specs.Bundles.{ClientSide, client_side}
use Rattle.dmc_ledger.specs.declared.desk.ClientDesk.{ClientDesk}
use Rattle.dmc_lemmas.proofs.Lists.{lent_back}
use Rattle.dmc_book.specs.Opening.{IsNewDesk, desk_with_tills, new_workers}
use Rattle.dmc_book.specs.PerCount.{books_per_worker}
use Rattle.dmc_book.proofs.OpeningLemmas.{as_many_desks, consistent_new, names_stay}
use Rattle.dmc_book.proofs.opening.open_accounts.Goals as goal

pub open_workers-requires-clause-new : goal.open_workers-requires-clause-new
open_workers-requires-clause-new g c =
    let items = c.args.desks.items in
    let same : c.deref_mut.result.now ≡ items = c.deref_mut.ensures.value in
    (c.args.server.0, subst (λ (xs : List (ClientDesk g.row.S.Denot)). AllByRecursion (IsNewDesk c.args.server.0) (map client_side xs)) (sym same) c.requires.new)

pub invariant_of-accounts : goal.invariant_of-accounts
invariant_of-accounts g c =
    let items = c.args.desks.items in
    let f : ClientDesk g.row.S.Denot → ClientSide = client_side in
    let start : List ClientSide = map f items in
    let n = length c.args.workers.now in
    let new = c.open_workers.new.desks in
    let same : c.deref_mut.result.now ≡ items = c.deref_mut.ensures.value in
    let opened : map f new ≡ map (desk_with_tills n) start =
    c.open_workers.ensures.desks ∙ ap (λ (xs : List (ClientDesk g.row.S.Denot)). map (desk_with_tills n) (map f xs)) same in
    let as_many : length new ≡ length items = as_many_desks n new items opened in
    let back = lent_back new (drop (length new) items) c.args.desks.len (as_many ∙ sym c.args.desks.ok.0) in
    let seats = c.open_workers.ensures.seats ∙ ap (λ (xs : List (ClientDesk g.row.S.Denot)). new_workers (length (map f xs)) c.args.mint.now.opened c.args.workers.now) same in
    let number : c.in-Ok.number ≡ c.args.mint.now.opened + books_per_worker * n = c.in-Ok.ensures.list.0 ∙ c.open_workers.ensures.opened in
    rw (back, opened, seats, c.new.ensures, number, c.requires.no_room) (
      consistent_new c.args.server.0 c.args.parts.history.most c.args.mint.now.opened c.args.workers.now start c.requires.new c.requires.once c.requires.limit c.requires.few,
      c.requires.clients ∙ sym (names_stay n new items opened),
      refl,
    )
