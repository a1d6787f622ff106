use Rattle.std.proofs.Common.{◌≡◌, ◌<◌, ◌∙◌, ℕ, ◌+◌, [], ◌∷◌, ◌++◌, length, map, ap, subst, sym, arith}
use Rattle.std.specs.Prelude.{option_map}
use Rattle.dmc_types.specs.Values.{Params}
use Rattle.dmc_types.specs.declared.ids.ClientId.{ClientId}
use Rattle.dmc_ledger.specs.Bundles.{client_side}
use Rattle.dmc_book.specs.BookState.{AccountsState, accounts_of, pass_state, worker_side}
use Rattle.dmc_book.specs.Calls.{event_of}
use Rattle.dmc_book.specs.Consistent.{HasDesk}
use Rattle.dmc_book.specs.Counts.{cost_granted, count, grant_cost}
use Rattle.dmc_book.proofs.AskLemmas.{taken_has_desk}
use Rattle.dmc_book.proofs.DeskLemmas.{cost_of, handed_cost}
use Rattle.dmc_book.proofs.RunLemmas.{other_than_left, seated_pass}
use Rattle.dmc_book.proofs.Counting.{consistent_recorded, cost_more, desks_fit, workers_fit}
use Rattle.dmc_book.proofs.accounts.Accounts.record.Goals as goal
use Rattle.dmc_book.proofs.accounts.Accounts.record.Goals.{in-Some, in_default}

pub count-requires-clause-fits : goal.count-requires-clause-fits
count-requires-clause-fits g c =
    let a : AccountsState g.row.T.Denot = accounts_of c.self.inside.server.0 c.self.inside.history (map worker_side c.self.inside.workers.items) (map client_side c.self.inside.desks.items) in
    workers_fit a c.self.invariant.0 (subst (λ (x : AccountsState g.row.T.Denot). length x.history < x.most) (sym c.self.view_is) c.requires.fewer) (pass_state c.args.pass.now) (rw (← c.self.view_is) at c.requires.enrolled)

pub hand_out-unit-requires-clause-fits : goal.hand_out-unit-requires-clause-fits
hand_out-unit-requires-clause-fits g c =
    let a : AccountsState g.row.T.Denot = accounts_of c.self.inside.server.0 c.self.inside.history (map worker_side c.self.inside.workers.items) (map client_side c.self.inside.desks.items) in
    desks_fit a c.self.invariant.0 (subst (λ (x : AccountsState g.row.T.Denot). length x.history < x.most) (sym c.self.view_is) c.requires.fewer)

pub invariant_of-self : goal.invariant_of-self
invariant_of-self g c =
    let a : AccountsState g.row.T.Denot = accounts_of c.self.inside.server.0 c.self.inside.history (map worker_side c.self.inside.workers.items) (map client_side c.self.inside.desks.items) in
    let e = event_of c.args.pass.now.worker.0 c.args.command c.args.reply in
    let unit = rw (← c.self.view_is) at c.requires.unit in
    let queued = subst (λ o. HasDesk a.desks (option_map (λ (s : ClientId × Params). s.0) o)) (sym c.requires.no_stamp) tt in
    let enrolled = rw (← c.self.view_is) at c.requires.enrolled in
    let seated = seated_pass a.workers (pass_state c.args.pass.now) enrolled in
    let others = other_than_left a.workers (pass_state c.args.pass.now) c.self.invariant.0.workers_apart enrolled in
    let granted = taken_has_desk a.desks _ _ c.args.reply unit in
    let handed = handed_cost c.self.inside.server.0 c.args.reply c.hand_out-unit.result c.hand_out-unit.ensures.unit in
    let its : (n : ℕ) × (n ≡ c.self.inside.cost + cost_granted c.args.reply)
    × (c.match-unit.self-inside ≡ record { server = c.self.inside.server; history = c.self.inside.history; workers = c.count.new.workers; clients = c.self.inside.clients; desks = c.hand_out-unit.new.desks; cost = n })
    = elim c.match-unit.branch [
      | in-Some w ↦ (
          let costs : w.in-Some.unit.cost ≡ cost_granted c.args.reply = ap cost_of (sym w.in-Some.is) ∙ handed in
          (c.self.inside.cost + w.from.result, omega (arith, costs, w.from.ensures, w.units.ensures.value, w.cost.ensures), w.self-inside-is))
      | in_default w ↦ (
          let costs : 0 ≡ cost_granted c.args.reply = ap cost_of (sym w.in_default.is) ∙ handed in
          (c.self.inside.cost, omega (arith, costs), w.self-inside-is))
    ] in
    let is = its.2 in
    let events = c.push_reserved.ensures.events ∙ ap (λ i. i.history.events ++ e ∷ []) is in
    let more = ap (count grant_cost) events ∙ cost_more e a.history in
    rw is (
      consistent_recorded e a c.push_reserved.new.self (map worker_side c.count.new.workers.items) (map client_side c.hand_out-unit.new.desks.items)
          events (c.push_reserved.ensures.first ∙ ap (λ i. i.history.first) is) (c.push_reserved.ensures.most ∙ ap (λ i. i.history.most) is) c.count.ensures.workers c.hand_out-unit.ensures.desks
          c.count.ensures.small granted queued seated others c.self.invariant.0,
      c.self.invariant.1 ∙ sym c.hand_out-unit.ensures.names,
      omega (arith, its.1, c.self.invariant.2, more),
    )
