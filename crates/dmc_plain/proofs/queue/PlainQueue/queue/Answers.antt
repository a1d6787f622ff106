use Rattle.std.proofs.Common.{◌≡◌, ◌∙◌, ap, sym}
use Rattle.dmc_types.specs.Limits.{max_clients, max_requests}
use Rattle.dmc_tag.specs.Rules.{progress_added, request_of}
use Rattle.dmc_tag.specs.State.{State, is_nothing_queued}
use Rattle.dmc_plain.specs.internal.Arrivals.{addition_of}
use Rattle.dmc_plain.proofs.Added.{queued_as, queued_kept}
use Rattle.dmc_plain.proofs.queue.PlainQueue.queue.Given.{Over}
use Rattle.dmc_plain.proofs.queue.PlainQueue.queue.Goals.{After-count_arrival}
use Rattle.dmc_plain.proofs.queue.PlainQueue.queue.Goals as goal

-- the arrival is counted as that of a request which found as much queued as there was
counted : (g : Over) (c : After-count_arrival g) → c.count_arrival.new.progress ≡ progress_added g.T.Tag.ops c.self.inside.config.shares (is_nothing_queued c.self.inside.clients.items) c.args.arrival.now.tags.p c.self.inside.progress
counted g c =
    let empty = c.empty-nothing_queued.ensures ∙ ap (λ (s : State g.row.T.Denot). is_nothing_queued s.clients) (sym c.self.view_is) in
    c.count_arrival.ensures
    ∙ ap (λ shares. progress_added g.T.Tag.ops shares c.empty-nothing_queued.result c.args.arrival.now.tags.p c.self.inside.progress) c.shares.ensures
    ∙ ap (λ b. progress_added g.T.Tag.ops c.self.inside.config.shares b c.args.arrival.now.tags.p c.self.inside.progress) empty

pub invariant_of-self-2 : goal.invariant_of-self-2
invariant_of-self-2 g c =
    queued_kept g.T.Tag.ops max_clients max_requests _ c.args.self.now c.self.view_is c.self.invariant c.args.arrival.now c.requires.arrival (request_of c.args.token c.args.cost (addition_of c.args.arrival.now)) c.args.at
    c.index_mut.result.now c.append.new.self c.index_mut.ensures.value c.in_ok-append.ensures.ok _ c.shift_clients.ensures.items
    c.index_mut-2.result.now c.arrive.new.self c.index_mut-2.ensures.value c.arrive.ensures _ (counted g (goal.at.invariant_of-self-2 g c).After-count_arrival) c.requires.room

pub returns-clause-ok : goal.returns-clause-ok
returns-clause-ok g c =
    queued_as g.T.Tag.ops max_clients max_requests _ c.args.self.now c.self.view_is c.self.invariant c.args.arrival.now c.requires.arrival (request_of c.args.token c.args.cost (addition_of c.args.arrival.now)) c.args.at
    c.index_mut.result.now c.append.new.self c.index_mut.ensures.value c.in_ok-append.ensures.ok _ c.shift_clients.ensures.items
    c.index_mut-2.result.now c.arrive.new.self c.index_mut-2.ensures.value c.arrive.ensures _ (counted g (goal.at.returns-clause-ok g c).After-count_arrival)
