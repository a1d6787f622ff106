use Rattle.std.proofs.Common.{rules, arith, ◌≡◌, ◌<◌, ◌∙◌, Some, length, map, ap, refl, subst, sym, slice_index_or, slice_set}
use Rattle.std.specs.Prelude.{is_some, true}
use Rattle.dmc_book.specs.Moves.{desk_after, desk_place}
use Rattle.dmc_ledger.specs.Bundles.{client_side}
use Rattle.dmc_ledger.specs.declared.desk.ClientDesk.{ClientDesk}
use Rattle.dmc_tag.specs.declared.reply.Reply.TheVariants.{Tagged}
use Rattle.dmc_types.specs.declared.command.Command.TheVariants.{Add}
use Rattle.dmc_book.specs.BookState.{AccountsState, accounts_of, pass_state, worker_side}
use Rattle.dmc_book.specs.Calls.{event_of}
use Rattle.dmc_book.specs.Counts.{count, grant_cost}
use Rattle.dmc_book.proofs.Counting.{consistent_recorded, cost_more, workers_fit}
use Rattle.dmc_book.proofs.RunLemmas.{other_than_left, seated_pass}
use Rattle.dmc_book.proofs.DeskLemmas.{desk_within, placed, names_stay, written, stamp_idle, stamp_taken}
use Rattle.dmc_book.proofs.accounts.Accounts.record_add.Given.{Over}
use Rattle.dmc_book.proofs.accounts.Accounts.record_add.Goals as goal
use Rattle.dmc_book.proofs.accounts.Accounts.record_add.Goals.{After-take_stamp}

pub count-requires-clause-fits : goal.count-requires-clause-fits
count-requires-clause-fits g c =
    let a : AccountsState g.row.T.Denot = accounts_of c.self.inside.server.0 c.self.inside.history (map worker_side c.self.inside.workers.items) (map client_side c.self.inside.desks.items) in
    let found = rw (← c.self.view_is) at c.requires.found in
    workers_fit a c.self.invariant.0 (subst (λ (x : AccountsState g.row.T.Denot). length x.history < x.most) (sym c.self.view_is) c.requires.fewer) (pass_state c.args.pass.now) found.0

-- the desks after the stamp was moved are those after the event
desks_are : (g : Over) (c : After-take_stamp g)
    → map client_side (slice_set c.self.inside.desks.items c.args.desk (record c.index_mut.result.now { held = c.take_stamp.new.held }))
    ≡ map (desk_after (event_of c.args.pass.now.worker.0 (Add c.client-client.result c.args.token c.params-params.result c.args.at) (Tagged c.args.tags))) (map client_side c.self.inside.desks.items)
desks_are g c =
    let found = rw (← c.self.view_is) at c.requires.found in
    let ds = c.self.inside.desks.items in
    let d = c.index_mut.result.now in
    let client = c.client-client.result in
    let e = event_of c.args.pass.now.worker.0 (Add client c.args.token c.params-params.result c.args.at) (Tagged c.args.tags) in
    let d_is : slice_index_or ds c.args.desk d ≡ d = sym c.index_mut.ensures.value in
    let here : desk_place client.0 (map client_side ds) ≡ Some c.args.desk = rw c.client-client.ensures found.2 in
    let at = placed client.0 (map client_side ds) c.args.desk here in
    written e client (stamp_idle e client c.params-params.result refl refl) ds c.args.desk d _ (desk_within ds c.args.desk at.0) at.1 c.self.invariant.0.clients_apart
    (λ same. rw (d_is, c.take_stamp.ensures.held) (sym (stamp_taken e client c.params-params.result refl refl (client_side d) (ap (λ x. x.client.0) (sym d_is) ∙ same))))

names_are : (g : Over) (c : After-take_stamp g)
    → map (λ (d : ClientDesk g.row.S.Denot). d.client) (slice_set c.self.inside.desks.items c.args.desk (record c.index_mut.result.now { held = c.take_stamp.new.held }))
    ≡ map (λ (d : ClientDesk g.row.S.Denot). d.client) c.self.inside.desks.items
names_are g c =
    let d = c.index_mut.result.now in
    names_stay c.self.inside.desks.items c.args.desk d _ (ap (λ x. x.client) c.index_mut.ensures.value)

pub invariant_of-self : goal.invariant_of-self
invariant_of-self g c =
    let p = (goal.at.invariant_of-self g c).After-take_stamp in
    let a : AccountsState g.row.T.Denot = accounts_of c.self.inside.server.0 c.self.inside.history (map worker_side c.self.inside.workers.items) (map client_side c.self.inside.desks.items) in
    let e = event_of c.args.pass.now.worker.0 (Add c.client-client.result c.args.token c.params-params.result c.args.at) (Tagged c.args.tags) in
    let found = rw (← c.self.view_is) at c.requires.found in
    let queued : is_some (desk_place c.client-client.result.0 (map client_side c.self.inside.desks.items)) ≡ true = rw c.client-client.ensures (ap (λ place. is_some place) found.2) in
    let seated = seated_pass (map worker_side c.self.inside.workers.items) (pass_state c.args.pass.now) found.0 in
    let others = other_than_left (map worker_side c.self.inside.workers.items) (pass_state c.args.pass.now) c.self.invariant.0.workers_apart found.0 in (
      consistent_recorded e a c.push_reserved.new.self (map worker_side c.count.new.workers.items) _
          c.push_reserved.ensures.events c.push_reserved.ensures.first c.push_reserved.ensures.most c.count.ensures.workers (desks_are g p) c.count.ensures.small tt queued seated others c.self.invariant.0,
      c.self.invariant.1 ∙ sym (names_are g p),
      let more = ap (count grant_cost) c.push_reserved.ensures.events ∙ cost_more e a.history in omega (arith, c.self.invariant.2, more),
    )

pub returns-clause-accounts : goal.returns-clause-accounts
returns-clause-accounts g c =
    let desks = desks_are g (goal.at.returns-clause-accounts g c).After-take_stamp in
    search rules
